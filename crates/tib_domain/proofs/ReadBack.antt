-- Runs of the domain read trees over the alphabet, and without the runs of `any` they are runs of
-- the transducer at the same cost.
use Rattle.std.specs.Prelude.{◌≡◌, ℕ, ◌<◌, nat_eq, true, false, List, [], ◌∷◌, ◌++◌, length, map, Bool, if◌then◌else◌, refl}
use Rattle.std.specs.List.{range_with_len}
use Rattle.std.proofs.Common.{zero, suc, arith, ap, sym, ◌∙◌, subst, inl, inr}
use Rattle.tib_lex.specs.Lists.{Has, Each}
use Rattle.tib_lex.proofs.Lists.{append_nil}
use Rattle.tib_lex.proofs.Members.{at_has, has_at}
use Rattle.tib_lex.proofs.Numbers.{nat_eq_cases}
use Rattle.tib_tree.specs.Trees.{Trees, none, tree, count, only, join, preorder, preorder_of}
use Rattle.tib_grammar.specs.Sides.{Side as SideFor, holes_of}
use Rattle.tib_grammar.specs.Range.{AllBelow}
use Rattle.tib_grammar.proofs.Sides.{holes_of-over}
use Rattle.tib_cost.specs.Semiring.{ProductLaws}
use Rattle.tib_transducer.specs.Rules.{transducer_rule, no_rule, variables_of, states_in, variables_in}
use Rattle.tib_transducer.specs.Range.{AreShaped, IsShaped, AreWithin, IsWithin}
use Rattle.tib_transducer.specs.Run.{AreTransducerRuns, Reads, pick, transducer_cost}
use Rattle.tib_transducer.specs.declared.Variable.{Variable}
use Rattle.tib_transducer.specs.declared.Pair.{Pair}
use Rattle.tib_transducer.specs.declared.TransducerRule.{TransducerRule}
use Rattle.tib_strings.specs.Rules.{string_rule, states_in as states_on, variables_in as variables_on}
use Rattle.tib_strings.specs.Run.{AreStringRuns, StringRunsRead, string_cost}
use Rattle.tib_strings.specs.declared.StringRule.{StringRule}
use Rattle.tib_domain.specs.Alphabet.{alphabet, AreOver, symbols_in}
use Rattle.tib_domain.specs.Reading.{reading_rule, any_rule, plain}
use Rattle.tib_domain.proofs.Symbols.{in_alphabet, over_fill}
use Rattle.tib_domain.proofs.Picking.{over_all, pick_append, count_pick}
use Rattle.tib_domain.proofs.LeftOut.{anys, rest_of, all_there, reading_states, reading_variables, any_states, any_variables, plain_long, range_has}
use Rattle.tib_domain.proofs.Anything.{moves, count_bound, fill_over, IsFrom, rule_from, Opens}

-- the preorder of one side
pub one_side : {P : Type 0} (s : SideFor ℕ P) → preorder (only s) ≡ preorder_of s
one_side s = ap (λ xs. (s.label, count s.kids) ∷ xs) (append_nil (preorder s.kids))

-- as many variables as states
as_many : (xs : List (Pair ℕ)) → length (map (λ (x : Pair ℕ). x.variable) xs) ≡ length (map (λ (x : Pair ℕ). x.state) xs)
as_many [] = refl
as_many (x ∷ xs) = ap suc (as_many xs)

-- trees that are equal have equal parts
one_root : (f g : ℕ) (ts us : Trees ℕ) → tree f ts none ≡ tree g us none → (f ≡ g) × (ts ≡ us)
one_root f g ts us e = (cc e, cc e)

module _ (any : ℕ) where
  -- the states other than `any`, and the trees that are read from these
  abbrev pub kept : List ℕ → List ℕ
  kept [] = []
  kept (q ∷ qs) = if nat_eq q any then kept qs else q ∷ kept qs

  abbrev pub kept_trees : List ℕ → Trees ℕ → Trees ℕ
  kept_trees [] ts = none
  kept_trees (q ∷ qs) none = none
  kept_trees (q ∷ qs) (tree f kids rest) = if nat_eq q any then kept_trees qs rest else tree f kids (kept_trees qs rest)

  not_any : (q : ℕ) → q < any → nat_eq q any ≡ false
  not_any q h = elim (nat_eq_cases q any) [ inl e ↦ absurd (omega (arith, e.0)) | inr e ↦ e.1 ]

  is_any : nat_eq any any ≡ true
  is_any = elim (nat_eq_cases any any) [ inl e ↦ e.1 | inr e ↦ absurd (e.0 refl) ]

  -- of `any` alone nothing is kept
  kept_anys : (n : ℕ) → kept (anys any n) ≡ []
  kept_anys zero = refl
  kept_anys (suc n) = rw is_any (kept_anys n)

  kept_any_trees : (n : ℕ) (ts : Trees ℕ) → kept_trees (anys any n) ts ≡ none
  kept_any_trees zero ts = refl
  kept_any_trees (suc n) none = refl
  kept_any_trees (suc n) (tree f kids rest) = rw is_any (kept_any_trees n rest)

  -- and of states below it and then `any`, those states
  kept_front : (ps : List ℕ) (n : ℕ) → AllBelow any ps → kept (ps ++ anys any n) ≡ ps
  kept_front [] n b = kept_anys n
  kept_front (p ∷ ps) n b = rw (not_any p b.0) (ap (λ (qs : List ℕ). p ∷ qs) (kept_front ps n b.1))

  kept_front_trees : (ps : List ℕ) (n : ℕ) (ts us : Trees ℕ) → AllBelow any ps → count ts ≡ length ps → kept_trees (ps ++ anys any n) (join ts us) ≡ ts
  kept_front_trees [] n none us b c = kept_any_trees n us
  kept_front_trees [] n (tree f kids rest) us b c = absurd (omega (arith, c))
  kept_front_trees (p ∷ ps) n none us b c = absurd (omega (arith, c))
  kept_front_trees (p ∷ ps) n (tree f kids rest) us b c = rw (not_any p b.0) (ap (tree f kids) (kept_front_trees ps n rest us b.1 (omega (arith, c))))

  -- one state below it is kept, and its tree
  pub kept_one : (q : ℕ) → q < any → kept (q ∷ []) ≡ q ∷ []
  kept_one q h = rw (not_any q h) refl

  pub kept_one_tree : (q f : ℕ) (kids : Trees ℕ) → q < any → kept_trees (q ∷ []) (tree f kids none) ≡ tree f kids none
  kept_one_tree q f kids h = rw (not_any q h) refl

  module _
      (rules : List (TransducerRule ℕ)) (within : AreWithin any rules) (shaped : AreShaped rules)
      {levelled weighted : Bool} {product : ℕ → ℕ → ℕ} (laws : ProductLaws levelled weighted product) where
    -- what some runs of the domain are, without those of `any`
    pub record AreKept (qs : List ℕ) (ts : Trees ℕ) (c : ℕ) : Type 0 where
      pub runs : Trees ℕ
      pub are_runs : AreTransducerRuns rules (kept qs) runs
      pub reads : Reads rules runs (kept_trees qs ts)
      pub costs : transducer_cost product rules runs ≡ c
      pub over : AreOver (alphabet rules) ts

    no_cost : (runs : Trees ℕ) → AreTransducerRuns rules [] runs → transducer_cost product rules runs ≡ 0
    no_cost none a = refl
    no_cost (tree n runs rest) a = absurd a

    -- a run of the domain by a rule, with what is known of the runs below it
    record Below (s : StringRule ℕ) (runs : Trees ℕ) (f : ℕ) (kids : Trees ℕ) : Type 0 where
      opens : Opens any rules s runs (tree f kids none)
      kept_below : AreKept (states_on s.right) (pick opens.fits.args (variables_on s.right)) (string_cost product (moves any rules) runs)

    -- what is to be known of it, beside other runs
    abbrev Beside : StringRule ℕ → Trees ℕ → ℕ → Trees ℕ → List ℕ → Trees ℕ → ℕ → Type 0
    Beside s runs f kids qs more c = AreKept (s.state ∷ qs) (tree f kids more) (product (product s.cost (string_cost product (moves any rules) runs)) c)

    -- a rule that reads what a rule of the transducer reads
    by_reading :
        (j : ℕ) → j < length rules → (runs : Trees ℕ) (f : ℕ) (kids : Trees ℕ) → Below (reading_rule any (transducer_rule rules j)) runs f kids → (qs : List ℕ) (more : Trees ℕ) (c : ℕ) → AreKept qs more c →
        Beside (reading_rule any (transducer_rule rules j)) runs f kids qs more c
    by_reading j low runs f kids b qs more c y =
        let r : TransducerRule ℕ = transducer_rule rules j in
        let x = b.kept_below in
        let args : Trees ℕ = b.opens.fits.args in
        let shape : IsShaped r = shaped j low in
        let range : IsWithin any r = within j low in
        let long : count args ≡ length (variables_of r.left) = count_bound (variables_of r.left) args b.opens.fits.bound in
        let known : Each (λ i. i < count args) (variables_in r.right) = subst (λ (m : ℕ). Each (λ i. i < m) (variables_in r.right)) (sym long) shape.known in
        let many : count (pick args (variables_in r.right)) ≡ length (states_in r.right) = count_pick args (variables_in r.right) known ∙ as_many (holes_of r.right) in
        let states : kept (states_on (reading_rule any r).right) ≡ states_in r.right =
        ap kept (reading_states any r) ∙ kept_front (states_in r.right) (length (rest_of r)) range.1
        in
        let trees : pick args (variables_on (reading_rule any r).right) ≡ join (pick args (variables_in r.right)) (pick args (rest_of r)) =
        ap (pick args) (reading_variables any r) ∙ pick_append args (variables_in r.right) (rest_of r)
        in
        let read : kept_trees (states_on (reading_rule any r).right) (pick args (variables_on (reading_rule any r).right)) ≡ pick args (variables_in r.right) =
        ap (λ (ps : List ℕ). kept_trees ps (pick args (variables_on (reading_rule any r).right))) (reading_states any r)
        ∙ ap (kept_trees (states_in r.right ++ anys any (length (rest_of r)))) trees
        ∙ kept_front_trees (states_in r.right) (length (rest_of r)) (pick args (variables_in r.right)) (pick args (rest_of r)) range.1 many
        in
        let below_over : AreOver (alphabet rules) (pick args (variables_in r.right ++ rest_of r)) = subst (λ (is : List ℕ). AreOver (alphabet rules) (pick args is)) (reading_variables any r) x.over in
        let args_over : AreOver (alphabet rules) args =
        over_all (alphabet rules) args (variables_in r.right ++ rest_of r) (λ i h. all_there r shape.numbered i (omega (arith, h, long))) below_over
        in
        let one_over : AreOver (alphabet rules) (tree f kids none) =
        subst (AreOver (alphabet rules)) b.opens.fits.filled
        (over_fill (alphabet rules) (only r.left) args long (λ z h. in_alphabet rules r (has_at rules j no_rule low) z (subst (λ zs. Has (symbols_in zs) z) (one_side r.left) h)) args_over)
        in
        record {
          runs = tree j x.runs y.runs;
          are_runs = rw (not_any r.state range.0) (low, refl, subst (λ ps. AreTransducerRuns rules ps x.runs) states x.are_runs, y.are_runs);
          reads = rw (not_any r.state range.0) (
            record { args = args; bound = b.opens.fits.bound; filled = b.opens.fits.filled; below = subst (Reads rules x.runs) read x.reads },
            y.reads,
          );
          costs = ap (λ (d : ℕ). product (product r.cost d) (transducer_cost product rules y.runs)) x.costs ∙ ap (product (product r.cost (string_cost product (moves any rules) runs))) y.costs;
          over = (one_over.0, one_over.1, y.over);
        }

    -- a rule of `any`
    by_any :
        (x : ℕ × ℕ) → Has {A = ℕ × ℕ} (alphabet rules) x → (runs : Trees ℕ) (f : ℕ) (kids : Trees ℕ) → Below (any_rule any x) runs f kids → (qs : List ℕ) (more : Trees ℕ) (c : ℕ) → AreKept qs more c →
        Beside (any_rule any x) runs f kids qs more c
    by_any x has runs f kids b qs more c y =
        let k = b.kept_below in
        let args : Trees ℕ = b.opens.fits.args in
        let vars : List Variable = map plain (range_with_len 0 x.1) in
        let long : count args ≡ length vars = count_bound (variables_of (any_rule any x).left) args b.opens.fits.bound ∙ ap length (holes_of-over x.0 vars) in
        let many : count args ≡ x.1 = long ∙ plain_long 0 x.1 in
        let root = one_root x.0 f args kids (sym (fill_over x.0 vars args long) ∙ b.opens.fits.filled) in
        let below_over : AreOver (alphabet rules) (pick args (range_with_len 0 x.1)) = subst (λ (is : List ℕ). AreOver (alphabet rules) (pick args is)) (any_variables any x) k.over in
        let args_over : AreOver (alphabet rules) args = over_all (alphabet rules) args (range_with_len 0 x.1) (λ i h. range_has 0 x.1 i (omega arith) (omega (arith, h, many))) below_over in
        let symbol : x ≡ (f, count kids) = ap (λ (g : ℕ). (g, x.1)) root.0 ∙ ap (λ (n : ℕ). (f, n)) (sym many ∙ ap count root.1) in
        let free : string_cost product (moves any rules) runs ≡ 0 =
        sym k.costs ∙ no_cost k.runs (subst (λ ps. AreTransducerRuns rules ps k.runs) (ap kept (any_states any x) ∙ kept_anys (length (range_with_len 0 x.1))) k.are_runs)
        in
        record {
          runs = y.runs;
          are_runs = rw is_any y.are_runs;
          reads = rw is_any y.reads;
          costs = y.costs ∙ sym (laws.neutral c) ∙ ap (λ (d : ℕ). product d c) (sym (laws.neutral (string_cost product (moves any rules) runs) ∙ free));
          over = (subst (Has {A = ℕ × ℕ} (alphabet rules)) symbol has, subst (AreOver (alphabet rules)) root.1 args_over, y.over);
        }

    by_rule : (s : StringRule ℕ) (runs : Trees ℕ) (f : ℕ) (kids : Trees ℕ) → Below s runs f kids → (qs : List ℕ) (more : Trees ℕ) (c : ℕ) → AreKept qs more c → IsFrom any rules s → Beside s runs f kids qs more c
    by_rule s runs f kids b qs more c y (inl r) =
        let at = at_has rules r.0 no_rule r.1 in
        let e : reading_rule any (transducer_rule rules at.0) ≡ s = ap (reading_rule any) at.2 ∙ r.2 in
        subst (λ (z : StringRule ℕ). Beside z runs f kids qs more c) e (by_reading at.0 at.1 runs f kids (subst (λ (z : StringRule ℕ). Below z runs f kids) (sym e) b) qs more c y)
    by_rule s runs f kids b qs more c y (inr x) =
        subst (λ (z : StringRule ℕ). Beside z runs f kids qs more c) x.2 (by_any x.0 x.1 runs f kids (subst (λ (z : StringRule ℕ). Below z runs f kids) (sym x.2) b) qs more c y)

    pub reads_back : (runs : Trees ℕ) (qs : List ℕ) (ts : Trees ℕ) → AreStringRuns (moves any rules) qs runs → StringRunsRead (moves any rules) runs ts → AreKept qs ts (string_cost product (moves any rules) runs)
    reads_back none [] none a d = record { runs = none; are_runs = tt; reads = tt; costs = refl; over = tt }
    reads_back none [] (tree f kids more) a d = absurd d
    reads_back none (q ∷ qs) ts a d = absurd a
    reads_back (tree i runs rest) [] ts a d = absurd a
    reads_back (tree i runs rest) (q ∷ qs) none a d = absurd d
    reads_back (tree i runs rest) (q ∷ qs) (tree f kids more) a d =
        let s : StringRule ℕ = string_rule (moves any rules) i in
        let below : Below s runs f kids = record {
          opens = record { runs_below = a.2; fits = d.0 };
          kept_below = reads_back runs (states_on s.right) (pick d.0.args (variables_on s.right)) a.2 d.0.below;
        }
        in
        let one = by_rule s runs f kids below qs more (string_cost product (moves any rules) rest) (reads_back rest qs more a.3 d.1) (rule_from any rules i a.0) in
        subst (λ (p : ℕ). AreKept (p ∷ qs) (tree f kids more) (product (product s.cost (string_cost product (moves any rules) runs)) (string_cost product (moves any rules) rest))) a.1 one
