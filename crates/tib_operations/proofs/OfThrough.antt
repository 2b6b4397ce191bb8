-- What `through` writes: one text, and that there is none cannot be.
use Rattle.tib_cost.specs.declared.Scale.{Scale}
use Rattle.tib_cost.specs.Scale.{is_weighted}
use Rattle.std.proofs.Common.{◌≡◌, ℕ, ◌<◌, ◌≤◌, Bool, true, false, List, [], ◌∷◌, length, map, get_or, refl, ap, sym, ◌∙◌, subst, arith, Option}
use Rattle.std.specs.Prelude.{Some, None}
use Rattle.std.proofs.lemmas.List.{get_or-map, length-map}
use Rattle.tib_lex.specs.Lists.{Has, Distinct}
use Rattle.tib_lex.proofs.Members.{has_at}
use Rattle.tib_tree.specs.Trees.{Trees, none, tree, only}
use Rattle.tib_cost.specs.Semiring.{ProductLaws, most}
use Rattle.tib_grammar.specs.GrammarOf.{GrammarOf}
use Rattle.tib_grammar.specs.Range.{SidesEndInHoles}
use Rattle.tib_grammar.specs.Run.{rule_at, no_rule, AreRuns, cost}
use Rattle.tib_grammar.specs.Sides.{holes_of, HolesAreLeaves}
use Rattle.tib_grammar.specs.declared.Rule.{Rule}
use Rattle.tib_grammar_file.specs.ByText.{AgreeByText}
use Rattle.tib_grammar_file.specs.GrammarText.{GrammarText}
use Rattle.tib_grammar_file.specs.Printable.{IsPlainIf, IsPlainCost, IsPrintable, ArePrintable}
use Rattle.tib_grammar_file.specs.Printed.{grammar_text}
use Rattle.tib_canon.proofs.TrimmedByText.{grammar_with, KeepsText, grammar_printed}
use Rattle.tib_prune.specs.Outside.{through}
use Rattle.tib_prune.specs.Pruned.{AreCosts}
use Rattle.tib_trim.specs.Complete.{IsThroughCost}
use Rattle.tib_trim.specs.TrimmedFile.{AreInCompleteRuns, AreThroughCosts, HaveCosts, HasThroughCosts}
use Rattle.tib_trim.proofs.Complete.{is_least, has_cost}
use Rattle.tib_operations.specs.Through.{HasThroughText}
use Rattle.tib_operations.proofs.FirstSight.{rules_long, reads_costed}
use Rattle.tib_operations.proofs.KeptByText.{position_below, throughs_with, throughs_leaves, throughs_once, trimmed_labels, costed_labels}
use Rattle.tib_operations.proofs.OfTrim.{given_with, kept_rules, kept_in_range, kept_leaves, trimmed_printable, placed, trimmed_of, is_trimmed, complete_there}
use Rattle.tib_operations.proofs.ReadSound.{IsSound, read_sound}

-- rules whose sides are those of others end in holes where these do
sides_end : (rules new : List (Rule ℕ)) (costs : List ℕ) → HaveCosts rules costs new → SidesEndInHoles new → SidesEndInHoles rules
sides_end rules new costs h leaves n b =
    subst (λ (r : Rule ℕ). HolesAreLeaves (only r.right)) (h.each n b) (leaves n (omega (arith, b, h.as_many)))

pub through_once :
    (scale : Scale) (product : ℕ → ℕ → ℕ) (labels others : List (List ℕ)) (g h : GrammarOf) (text other : List ℕ) → Distinct labels → Distinct others → AgreeByText labels others g h →
    HasThroughText scale product labels g text → HasThroughText scale product others h other → text ≡ other
through_once scale product labels others g h text other apart different agree a b =
    let s = given_with labels others g h apart different agree in
    let f : ℕ → ℕ = s.0 in
    let t : HasThroughCosts product g a.h = a.canonical in
    let u : HasThroughCosts product h b.h = b.canonical in
    let mine : SidesEndInHoles t.trimmed.rules = sides_end t.trimmed.rules a.h.rules t.costs t.have_costs (read_sound scale labels text a.h a.read).leaves in
    let own : SidesEndInHoles u.trimmed.rules = sides_end u.trimmed.rules b.h.rules u.costs u.have_costs (read_sound scale others other b.h b.read).leaves in
    a.are
    ∙ grammar_printed labels others f scale a.h
    (costed_labels (KeepsText labels others f) t.trimmed.rules a.h.rules t.costs t.have_costs (trimmed_labels (KeepsText labels others f) product g t.trimmed t.is_trimmed s.2))
    ∙ ap (grammar_text scale others) (moved_once product (grammar_with f g) h (grammar_with f a.h) b.h s.1 (throughs_with f product g a.h t) u (throughs_leaves f product g a.h t mine) own)
    ∙ sym b.are
  where
    moved_once :
        (product : ℕ → ℕ → ℕ) (g h k i : GrammarOf) → g ≡ h → (a : HasThroughCosts product g k) (b : HasThroughCosts product h i) → SidesEndInHoles a.trimmed.rules → SidesEndInHoles b.trimmed.rules → k ≡ i
    moved_once product g h k i e a b leaves others =
        (subst (λ (x : GrammarOf). (c : HasThroughCosts product x i) → SidesEndInHoles c.trimmed.rules → k ≡ i) e (λ c ends. throughs_once product g k i a c leaves ends)) b others

-- the cost of a run whose rules all have plain costs is plain
no_cost :
    (product : ℕ → ℕ → ℕ) → product 0 0 ≡ 0 → (rules : List (Rule ℕ)) → ((n : ℕ) → n < length rules → (rule_at rules n).cost ≡ 0) → (qs : List ℕ) (runs : Trees ℕ) → AreRuns rules qs runs →
    cost product rules runs ≡ 0
no_cost product zero rules free [] none a = refl
no_cost product zero rules free [] (tree n runs rest) a = absurd a
no_cost product zero rules free (q ∷ qs) none a = absurd a
no_cost product zero rules free (q ∷ qs) (tree n runs rest) a =
    ap (λ (w : ℕ). product (product w (cost product rules runs)) (cost product rules rest)) (free n a.0)
    ∙ ap (λ (c : ℕ). product (product 0 c) (cost product rules rest)) (no_cost product zero rules free (holes_of (rule_at rules n).right) runs a.2)
    ∙ ap (λ (c : ℕ). product c (cost product rules rest)) zero
    ∙ ap (product 0) (no_cost product zero rules free qs rest a.3)
    ∙ zero

plain_run :
    (b : Bool) (product : ℕ → ℕ → ℕ) → product 0 0 ≡ 0 → (rules : List (Rule ℕ)) → ((n : ℕ) → n < length rules → IsPlainIf b (rule_at rules n).cost) → (runs : Trees ℕ) → AreRuns rules (0 ∷ []) runs →
    cost product rules runs ≤ most → IsPlainIf b (cost product rules runs)
plain_run true product zero rules plain runs a within = within
plain_run false product zero rules plain runs a within = no_cost product zero rules plain (0 ∷ []) runs a

-- so each through cost is plain
plain_through :
    (scale : Scale) (labels : List (List ℕ)) (product : ℕ → ℕ → ℕ) → product 0 0 ≡ 0 → (rules : List (Rule ℕ)) → ArePrintable scale labels rules → (n c : ℕ) → IsThroughCost product rules n (Some c) → IsPlainCost scale c
plain_through scale labels product zero rules p n c t =
    let r = t.attained.0 in
    subst (IsPlainCost scale) r.costs
    (plain_run (is_weighted scale) product zero rules (λ m h. (p m h).cost) r.run r.from_start (omega (arith, r.costs, t.attained.1)))

-- rules whose sides are those of rules that can be printed, at plain costs
pub costed_printable :
    (scale : Scale) (labels : List (List ℕ)) (rules new : List (Rule ℕ)) (costs : List ℕ) → HaveCosts rules costs new → ArePrintable scale labels rules → ((n : ℕ) → n < length rules → IsPlainCost scale (get_or costs n 0)) →
    ArePrintable scale labels new
costed_printable scale labels rules new costs h p plain n b =
    let below : n < length rules = omega (arith, b, h.as_many) in
    subst (IsPrintable scale labels) (sym (h.each n below)) (record { right = (p n below).right; cost = plain n below })

-- the trimmed file of a grammar that was read, with through costs
module _
    {levelled weighed : Bool} {product : ℕ → ℕ → ℕ} (laws : ProductLaws levelled weighed product) (scale : Scale) (labels : List (List ℕ)) (g h : GrammarOf) (s : IsSound g)
    (printable : ArePrintable scale labels g.rules) (t : HasThroughCosts product g h) where
  abbrev kept : List (Rule ℕ)
  kept = kept_rules product g t.trimmed s t.is_trimmed

  pub through_printable : ArePrintable scale labels h.rules
  through_printable =
      costed_printable scale labels t.trimmed.rules h.rules t.costs t.have_costs (trimmed_printable product g t.trimmed s t.is_trimmed scale labels printable) (λ n b.
      let below : n < length t.is_trimmed.positions =
      omega (arith, b, rules_long g.names kept t.trimmed t.is_trimmed.has_rules, length-map t.is_trimmed.positions (rule_at g.rules)) in
      plain_through scale labels product (laws.neutral 0) g.rules printable (get_or t.is_trimmed.positions n 0) (get_or t.costs n 0) (t.are_costs.each n below))

  -- its text has these parts
  pub through_text : (text : List ℕ) → text ≡ grammar_text scale labels h → HasThroughText scale product labels g text
  through_text text e = record {
    h = h;
    canonical = t;
    series = tt;
    are = e;
    read = subst (λ (bytes : List ℕ). GrammarText scale labels bytes h) (sym e)
        (reads_costed g.names kept t.trimmed t.is_trimmed.has_rules s.names s.start (kept_in_range product g t.trimmed s t.is_trimmed) t.costs h t.names t.have_costs scale labels
        (kept_leaves product g t.trimmed s t.is_trimmed) through_printable);
  }

-- a cost that is there
abbrev value_of : Option ℕ → ℕ
value_of None = 0
value_of (Some c) = c

value_is : (v : Option ℕ) (c : ℕ) → v ≡ Some c → v ≡ Some (value_of v)
value_is None c e = absurd (cc)
value_is (Some b) c e = refl

module _
    {levelled weighed : Bool} {product : ℕ → ℕ → ℕ} (laws : ProductLaws levelled weighed product) (g : GrammarOf) (s : IsSound g) (positions : List ℕ) (are : AreInCompleteRuns product g.rules positions)
    (insides outsides : ℕ → Option ℕ) (costs : AreCosts product g.rules insides outsides) where
  abbrev value : ℕ → ℕ
  value n = value_of (through product insides outsides (rule_at g.rules n))

  value_through : (n : ℕ) → Has positions n → IsThroughCost product g.rules n (Some (value n))
  value_through n h =
      let t = is_least laws g.rules insides outsides costs n (position_below product g.rules positions are n h) in
      let c = has_cost g.rules n (through product insides outsides (rule_at g.rules n)) t ((are.are n).0 h) in
      subst (IsThroughCost product g.rules n) (value_is (through product insides outsides (rule_at g.rules n)) c.0 c.1) t

  are_throughs : AreThroughCosts product g.rules positions (map value positions)
  are_throughs = record {
    as_many = length-map positions value;
    each = λ i h.
        subst (λ (c : ℕ). IsThroughCost product g.rules (get_or positions i 0) (Some c)) (sym (get_or-map value positions i 0 0 h))
        (value_through (get_or positions i 0) (has_at positions i 0 h));
  }

  abbrev base : GrammarOf
  base = trimmed_of laws g s positions are insides outsides costs

  abbrev side : ℕ → Rule ℕ
  side n = placed laws g s positions are insides outsides costs n

  abbrev priced : ℕ → Rule ℕ
  priced n = record { left = (side n).left; right = (side n).right; cost = value n }

  abbrev costed_of : GrammarOf
  costed_of = record { names = base.names; rules = map priced positions }

  have : HaveCosts base.rules (map value positions) (map priced positions)
  have = record {
    as_many = length-map positions priced ∙ sym (length-map positions side);
    each = λ n h.
        let below : n < length positions = omega (arith, h, length-map positions side) in
        get_or-map priced positions n 0 no_rule below
        ∙ ap (λ (r : Rule ℕ). let x : Rule ℕ = record { left = r.left; right = r.right; cost = value (get_or positions n 0) } in x) (sym (get_or-map side positions n 0 no_rule below))
        ∙ ap (λ (c : ℕ). let x : Rule ℕ = record { left = (rule_at base.rules n).left; right = (rule_at base.rules n).right; cost = c } in x) (sym (get_or-map value positions n 0 0 below));
  }

  has_costs : HasThroughCosts product g costed_of
  has_costs = record {
    trimmed = base;
    is_trimmed = is_trimmed laws g s positions are insides outsides costs;
    costs = map value positions;
    are_costs = are_throughs;
    names = refl;
    have_costs = have;
  }

pub through_there :
    {levelled weighed : Bool} {product : ℕ → ℕ → ℕ} → ProductLaws levelled weighed product → (scale : Scale) (labels : List (List ℕ)) → Distinct labels → (g : GrammarOf) → IsSound g → ArePrintable scale labels g.rules →
    ((text : List ℕ) → HasThroughText scale product labels g text → ⊥) → ⊥
through_there {product = product} laws scale labels apart g s printable never =
    complete_there product g s (λ positions are insides outsides costs.
    let h : GrammarOf = costed_of laws g s positions are insides outsides costs in
    never (grammar_text scale labels h) (through_text laws scale labels g h s printable (has_costs laws g s positions are insides outsides costs) (grammar_text scale labels h) refl))
