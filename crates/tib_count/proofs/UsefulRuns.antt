-- Each state in a right side that trimming keeps has a run.
use Rattle.std.specs.Prelude.{◌≡◌, ℕ, ◌<◌, ◌≤◌, List, [], ◌∷◌, length, map, Bool, Some, refl}
use Rattle.std.proofs.Common.{arith, ap, sym, ◌∙◌, subst, inl, inr, get_or}
use Rattle.tib_cost.specs.Semiring.{ProductLaws, most}
use Rattle.tib_cost.proofs.Least.{at_least_right}
use Rattle.tib_lex.specs.Lists.{Has, Each}
use Rattle.tib_lex.proofs.Alongs.{along_of}
use Rattle.tib_lex.proofs.Lists.{mapped_has}
use Rattle.tib_lex.proofs.Members.{has_at, at_has, each_of}
use Rattle.tib_lex.proofs.Numbers.{same_or_other}
use Rattle.tib_tree.specs.Trees.{Trees, none, tree, only}
use Rattle.tib_grammar.specs.GrammarOf.{GrammarOf, named_rule}
use Rattle.tib_grammar.specs.Range.{AllBelow, AreInRange}
use Rattle.tib_grammar.specs.Run.{rule_at, AreRuns, cost, AreFree}
use Rattle.tib_grammar.specs.Sides.{holes_of}
use Rattle.tib_grammar.specs.declared.Rule.{Rule}
use Rattle.tib_grammar.proofs.Below.{below_has}
use Rattle.tib_grammar.proofs.Sides.{holes-relabel}
use Rattle.tib_inside.specs.Inside.{IsInside}
use Rattle.tib_inside.specs.Settling.{costs_in}
use Rattle.tib_inside.specs.Trimmed.{IsTrimmed}
use Rattle.tib_inside.specs.Useful.{IsLive, IsUseful, below}
use Rattle.tib_inside.proofs.Chosen.{distinct_at, ascending_distinct}
use Rattle.tib_inside.proofs.Keeping.{as_many, named_at}
use Rattle.tib_inside.proofs.Living.{insides_all, live_by_runs, useful_left}
use Rattle.tib_canon.proofs.Inhabited.{insides_are}
use Rattle.tib_count.specs.Counted.{HaveRuns}
use Rattle.tib_count.proofs.Once.{is_member}

module _ (product : ℕ → ℕ → ℕ) (old new : GrammarOf) (trimmed : IsTrimmed product old new) where
  abbrev pub old_state : ℕ → ℕ
  old_state i = get_or trimmed.states i 0

  -- the old rule of a new one
  pub record IsRenamed (j n : ℕ) : Type 0 where
    pub left : old_state (rule_at new.rules j).left ≡ (rule_at old.rules n).left
    pub holes_are : map old_state (holes_of (rule_at new.rules j).right) ≡ holes_of (rule_at old.rules n).right
    pub weight : (rule_at new.rules j).cost ≡ (rule_at old.rules n).cost

  pub renamed : (j n : ℕ) → named_rule old_state (rule_at new.rules j) ≡ rule_at old.rules n → IsRenamed j n
  renamed j n e = record {
    left = ap (λ (r : Rule ℕ). r.left) e;
    holes_are = sym (holes-relabel old_state (only (rule_at new.rules j).right)) ∙ ap (λ (r : Rule ℕ). holes_of r.right) e;
    weight = ap (λ (r : Rule ℕ). r.cost) e;
  }

  pub old_rule : (j : ℕ) → j < length new.rules → IsRenamed j (get_or trimmed.rules j 0)
  old_rule j h = renamed j (get_or trimmed.rules j 0) (named_at product old new trimmed j h)

  pub is_live : (j : ℕ) → j < length new.rules → IsLive product old.rules (get_or trimmed.rules j 0) × IsUseful product old.rules (rule_at old.rules (get_or trimmed.rules j 0)).left
  is_live j h = (trimmed.are_rules (get_or trimmed.rules j 0)).0 (has_at trimmed.rules j 0 (omega (arith, h, as_many product old new trimmed)))

  -- where rules cost nothing, those that are kept cost nothing
  pub trimmed_free : AreFree old.rules → AreFree new.rules
  trimmed_free free j h = (old_rule j h).weight ∙ free (get_or trimmed.rules j 0) (is_live j h).0.below

  -- each state in a right side that is kept is one in the right side of its old rule
  pub has_old : (j q : ℕ) → j < length new.rules → Has (holes_of (rule_at new.rules j).right) q → Has (holes_of (rule_at old.rules (get_or trimmed.rules j 0)).right) (old_state q)
  has_old j q h s =
      subst (λ ps. Has ps (old_state q)) (old_rule j h).holes_are (mapped_has old_state (holes_of (rule_at new.rules j).right) q s)

module _
    {levelled weighted : Bool} {product : ℕ → ℕ → ℕ} (laws : ProductLaws levelled weighted product) (old new : GrammarOf) (trimmed : IsTrimmed product old new) (count : ℕ)
    (range : AreInRange count old.rules) where
  -- a rule of a kept state, with runs below it that cost little enough, is kept
  kept_rule :
      (n : ℕ) (inner : Trees ℕ) → n < length old.rules → AreRuns old.rules (holes_of (rule_at old.rules n).right) inner →
      product (rule_at old.rules n).cost (cost product old.rules inner) ≤ most → Has trimmed.states (rule_at old.rules n).left → Has trimmed.rules n
  kept_rule n inner h a m s = elim (is_member same_or_other trimmed.rules n) [
    | inl k ↦ k
    | inr dropped ↦
        absurd
        (insides_are product old.rules count (λ costs long are.
        let all = insides_all product old.rules costs (subst (λ k. AreInRange k old.rules) (sym long) range) are in
        let live = live_by_runs laws old.rules (costs_in costs) all n inner h a m in
        dropped ((trimmed.are_rules n).1 (live, useful_left laws old.rules (costs_in costs) all n live ((trimmed.are_states (rule_at old.rules n).left).0 s)))))
  ]

  -- runs from kept states that cost little enough are runs of what is kept
  kept_runs :
      (runs : Trees ℕ) (qs ks : List ℕ) → AreRuns old.rules qs runs → Each (Has trimmed.states) qs → AllBelow (length trimmed.states) ks →
      map (old_state product old new trimmed) ks ≡ qs → cost product old.rules runs ≤ most → (others : Trees ℕ) × AreRuns new.rules ks others
  kept_runs none [] [] a s r e m = (none, tt)
  kept_runs none [] (k ∷ ks) a s r e m = absurd (cc)
  kept_runs none (q ∷ qs) ks a s r e m = absurd a
  kept_runs (tree n inner rest) [] ks a s r e m = absurd a
  kept_runs (tree n inner rest) (q ∷ qs) [] a s r e m = absurd (cc)
  kept_runs (tree n inner rest) (q ∷ qs) (k ∷ ks) a s r e m =
      let w : ℕ = (rule_at old.rules n).cost in
      let x : ℕ = cost product old.rules inner in
      let y : ℕ = cost product old.rules rest in
      let le1 : x ≤ product w x = at_least_right laws w x in
      let le2 : product w x ≤ product (product w x) y = laws.at_least (product w x) y in
      let le3 : y ≤ product (product w x) y = at_least_right laws (product w x) y in
      let is_kept : Has trimmed.rules n = kept_rule n inner a.0 a.2 (omega arith) (subst (Has trimmed.states) (sym a.1) s.0) in
      let l = (trimmed.are_rules n).0 is_kept in
      let j = at_has trimmed.rules n 0 is_kept in
      let j_below : j.0 < length new.rules = omega (arith, as_many product old new trimmed, j.1) in
      let same : IsRenamed product old new trimmed j.0 n = renamed product old new trimmed j.0 n (named_at product old new trimmed j.0 j_below ∙ ap (rule_at old.rules) j.2) in
      let state_is : old_state product old new trimmed k ≡ q = cc in
      let others : map (old_state product old new trimmed) ks ≡ qs = cc in
      let left : (rule_at new.rules j.0).left ≡ k =
      distinct_at trimmed.states (rule_at new.rules j.0).left k 0 (ascending_distinct trimmed.states trimmed.states_ascend) (trimmed.in_range j.0 j_below).0 r.0 (same.left ∙ a.1 ∙ sym state_is)
      in
      let states = each_of (Has trimmed.states) (holes_of (rule_at old.rules n).right) (λ p h. (trimmed.are_states p).1 (inr (below n p l.1 l.0 h))) in
      let b = kept_runs inner (holes_of (rule_at old.rules n).right) (holes_of (rule_at new.rules j.0).right) a.2 states (trimmed.in_range j.0 j_below).1 same.holes_are (omega arith) in
      let c = kept_runs rest qs ks a.3 s.1 r.1 others (omega arith) in
      (tree j.0 b.0 c.0, (j_below, left, b.1, c.1))

  -- so each state in a right side that is kept has a run
  pub trimmed_have_runs : HaveRuns new.rules
  trimmed_have_runs j q h s =
      let p : ℕ = old_state product old new trimmed q in
      let l = is_live product old new trimmed j h in
      let has = has_old product old new trimmed j q h s in
      let inside = along_of (λ i c. IsInside product old.rules i (Some c)) _ l.0.insides p l.0.are_insides has in
      let run = inside.1.attained.0 in
      kept_runs run.runs (p ∷ []) (q ∷ []) run.are_runs ((trimmed.are_states p).1 (inr (below _ p l.1 l.0 has)), tt)
      (below_has (length trimmed.states) (holes_of (rule_at new.rules j).right) q (trimmed.in_range j h).1 s, tt) refl (omega (arith, inside.1.attained.1, run.costs))
