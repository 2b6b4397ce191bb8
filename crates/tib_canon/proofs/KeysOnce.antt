-- Rules over the keys of an order have one canonical form, whatever their order.
use Rattle.tib_cost.specs.declared.Scale.{Scale}
use Rattle.std.proofs.Common.{◌≡◌, ℕ, ◌<◌, List, [], ◌∷◌, length, map, get_or, slice_get, refl, ap, sym, ◌∙◌, subst, arith, inl, inr}
use Rattle.std.proofs.lemmas.Option.{slice_get-get_or}
use Rattle.std.specs.Prelude.{Some}
use Rattle.std.specs.Cmp.{IsTotalOrder}
use Rattle.std.specs.Cmp.Lexicographic.{options_total}
use Rattle.std.specs.Option.{option_cmp}
use Rattle.std.specs.declared.cmp.Ordering.{Ordering}
use Rattle.std.specs.declared.cmp.Ordering.TheVariants.{Less}
use Rattle.tib_lex.specs.Lists.{Has, Ascends, Distinct}
use Rattle.tib_tree.specs.Trees.{only}
use Rattle.tib_grammar.specs.Sides.{HolesAreLeaves}
use Rattle.tib_grammar.specs.GrammarOf.{GrammarOf, named_rule}
use Rattle.tib_grammar.specs.Range.{SidesEndInHoles}
use Rattle.tib_grammar.specs.Run.{rule_at, no_rule}
use Rattle.tib_grammar.specs.declared.Rule.{Rule}
use Rattle.tib_inside.proofs.Chosen.{distinct_at}
use Rattle.tib_canon.specs.Canonical.{IsCanonical}
use Rattle.tib_canon.specs.Keys.{StandBefore, AreByKeys, IsOverKeys, IsBegun, IsCanonicalOverKeys, without_rules, behind_fresh, started_rules}
use Rattle.tib_canon.specs.declared.begin.Begin.{Begin}
use Rattle.tib_canon.specs.declared.begin.Begin.TheVariants.{At, Fresh, Empty}
use Rattle.tib_canon.proofs.Alike.{alike_self}
use Rattle.tib_canon.proofs.One.{ascending_same, one_less}
use Rattle.tib_canon.proofs.Started.{started_to, started_leaves}
use Rattle.tib_canon.proofs.TrimmedOnce.{Fit, fit_from, leaves_back, place_in, rule_told, one_canonical_of}
use Rattle.tib_lex.proofs.Members.{has_at, at_has, each_has, each_of}
use Rattle.tib_lex.proofs.Lists.{has_mapped}

-- the positions of an order by their keys, each once

module _ {K : Type 0} (cmp : K → K → Ordering) (total : IsTotalOrder cmp) (order : List K) (start : ℕ) where
  -- of two positions of the order the key at the one is less
  record StandWithin (p q : ℕ) : Type 0 where
    first : p < length order
    second : q < length order
    before : StandBefore cmp order p q

  key_at : (xs : List K) (p : ℕ) → p < length xs → (x : K) × (slice_get xs p ≡ Some x)
  key_at [] p h = absurd (omega arith)
  key_at (x ∷ xs) p h = (get_or (x ∷ xs) p x, slice_get-get_or (x ∷ xs) p x h)

  one_way : (p q : ℕ) → StandWithin p q → StandWithin q p → ⊥
  one_way p q a b =
      let x = key_at order p a.first in
      let y = key_at order q a.second in
      let less : cmp x.0 y.0 ≡ Less = a.before x.0 y.0 x.1 y.1 in
      let more : cmp y.0 x.0 ≡ Less = b.before y.0 x.0 y.1 x.1 in
      one_less (cmp y.0 x.0) more (sym less ∙ total.antisymm x.0 y.0)

  all_within : (qs : List ℕ) → ((q : ℕ) → Has qs q → q < length order) → Ascends (StandBefore cmp order) qs → Ascends StandWithin qs
  all_within [] low up = tt
  all_within (q ∷ qs) low up = (
    each_of (StandWithin q) qs (λ p h. record { first = low q (inl refl); second = low p (inr h); before = each_has (StandBefore cmp order q) qs p up.0 h }),
    all_within qs (λ p h. low p (inr h)) up.1,
  )

  other_low : (states : List ℕ) (by : AreByKeys cmp order start states) (q : ℕ) → Has by.others q → q < length order
  other_low states by q h = (by.all q).0 (subst (λ (xs : List ℕ). Has xs q) (sym by.first) (inr h))

  other_stands : (xs ys : List ℕ) (a : AreByKeys cmp order start xs) (b : AreByKeys cmp order start ys) (q : ℕ) → Has a.others q → Has b.others q
  other_stands xs ys a b q h =
      let there : Has (start ∷ b.others) q = subst (λ (zs : List ℕ). Has zs q) b.first ((b.all q).1 (other_low xs a q h)) in
      let once : Distinct (start ∷ a.others) = subst Distinct a.first a.once in
      elim there [ inl e ↦ absurd (once.0 (subst (Has a.others) (sym e) h)) | inr k ↦ k ]

  -- the order of the states by their keys is one
  pub by_keys_once : (xs ys : List ℕ) → AreByKeys cmp order start xs → AreByKeys cmp order start ys → xs ≡ ys
  by_keys_once xs ys a b =
      let others : a.others ≡ b.others =
      ascending_same StandWithin one_way a.others b.others (all_within a.others (other_low xs a) a.ascend) (all_within b.others (other_low ys b) b.ascend)
      (other_stands xs ys a b) (other_stands ys xs b a) in
      a.first ∙ ap (λ (qs : List ℕ). start ∷ qs) others ∙ sym b.first

-- the grammars over the keys have the same rules

module _ {K : Type 0} (cmp : K → K → Ordering) (order : List K) (start : ℕ) where
  pub rule_over : (xs : List (Rule ℕ)) (g : GrammarOf) (o : IsOverKeys cmp order xs start g) (r : Rule ℕ) → Has g.rules r → Has xs (named_rule (place_in o.states) r)
  rule_over xs g o r h = subst (λ (rs : List (Rule ℕ)). Has rs (named_rule (place_in o.states) r)) o.named (mapped g.rules h)
    where
      mapped : (rules : List (Rule ℕ)) → Has rules r → Has (map (named_rule (place_in o.states)) rules) (named_rule (place_in o.states) r)
      mapped [] k = absurd k
      mapped (s ∷ rules) k = elim k [ inl e ↦ inl (ap (named_rule (place_in o.states)) e) | inr m ↦ inr (mapped rules m) ]

  leaf_over : (xs : List (Rule ℕ)) (g : GrammarOf) (o : IsOverKeys cmp order xs start g) → SidesEndInHoles xs → (r : Rule ℕ) → Has g.rules r → HolesAreLeaves (only r.right)
  leaf_over xs g o leaves r h =
      let at = at_has xs (named_rule (place_in o.states) r) no_rule (rule_over xs g o r h) in
      leaves_back (place_in o.states) (only r.right) (subst (λ (x : Rule ℕ). HolesAreLeaves (only x.right)) at.2 (leaves at.0 at.1))

  -- nothing is below a state
  pub leaves_over : (xs : List (Rule ℕ)) (g : GrammarOf) → IsOverKeys cmp order xs start g → SidesEndInHoles xs → SidesEndInHoles g.rules
  leaves_over xs g o leaves m h = leaf_over xs g o leaves (rule_at g.rules m) (has_at g.rules m no_rule h)

  -- a rule of a grammar over the keys, with its states in range
  record IsOver (n : ℕ) (r : Rule ℕ) : Type 0 where
    left : r.left < n
    right : Fit n (only r.right)

  is_over : (xs : List (Rule ℕ)) (g : GrammarOf) (o : IsOverKeys cmp order xs start g) → SidesEndInHoles xs → (r : Rule ℕ) → Has g.rules r → IsOver (length order) r
  is_over xs g o leaves r h =
      let at = at_has g.rules r no_rule h in
      subst (IsOver (length order)) at.2 (record {
        left = (o.in_range at.0 at.1).0;
        right = fit_from (length order) (only (rule_at g.rules at.0).right) (o.in_range at.0 at.1).1 (leaves_over xs g o leaves at.0 at.1);
      })

  told_over : (states : List ℕ) → AreByKeys cmp order start states → (i j : ℕ) → i < length order → j < length order → place_in states i ≡ place_in states j → i ≡ j
  told_over states by i j h k e = distinct_at states i j 0 by.once (omega (arith, by.many)) (omega (arith, by.many)) e

  pub stands_over :
      (xs ys : List (Rule ℕ)) (g k : GrammarOf) (a : IsOverKeys cmp order xs start g) (b : IsOverKeys cmp order ys start k) → a.states ≡ b.states → SidesEndInHoles xs → SidesEndInHoles ys →
      ((r : Rule ℕ) → Has xs r → Has ys r) → (r : Rule ℕ) → Has g.rules r → Has k.rules r
  stands_over xs ys g k a b same leaves others to r h =
      let there : Has ys (named_rule (place_in a.states) r) = to (named_rule (place_in a.states) r) (rule_over xs g a r h) in
      let s = has_mapped (named_rule (place_in b.states)) k.rules (named_rule (place_in a.states) r) (subst (λ (rs : List (Rule ℕ)). Has rs (named_rule (place_in a.states) r)) (sym b.named) there) in
      let mine = is_over xs g a leaves r h in
      let its = is_over ys k b others s.0 s.1 in
      let renamed : named_rule (place_in b.states) s.0 ≡ named_rule (place_in b.states) r = s.2 ∙ ap (λ (qs : List ℕ). named_rule (place_in qs) r) same in
      subst (Has k.rules) (rule_told (length order) (place_in b.states) (told_over b.states b.by_keys) s.0 r its.left mine.left its.right mine.right renamed) s.1

no_leaves : SidesEndInHoles []
no_leaves m h = absurd (omega arith)

over_once :
    {K : Type 0} (cmp : K → K → Ordering) → IsTotalOrder cmp → (product : ℕ → ℕ → ℕ) (scale : Scale) (labels : List (List ℕ)) (order : List K) (xs ys : List (Rule ℕ)) (start : ℕ) (g k h i : GrammarOf) →
    ((r : Rule ℕ) → Has xs r → Has ys r) → ((r : Rule ℕ) → Has ys r → Has xs r) → SidesEndInHoles xs → SidesEndInHoles ys → IsOverKeys cmp order xs start g → IsOverKeys cmp order ys start k →
    IsCanonical product scale labels g h → IsCanonical product scale labels k i → h ≡ i
over_once cmp total product scale labels order xs ys start g k h i to from leaves others c d a b =
    let same = by_keys_once cmp total order start c.states d.states c.by_keys d.by_keys in
    one_canonical_of product scale labels g k h i (leaves_over cmp order start xs g c leaves) (leaves_over cmp order start ys k d others)
    (record {
      to = stands_over cmp order start xs ys g k c d same leaves others to;
      from = stands_over cmp order start ys xs k g d c (sym same) others leaves from;
    }) a b

pub begun_once :
    {K : Type 0} (cmp : K → K → Ordering) → IsTotalOrder cmp → (product : ℕ → ℕ → ℕ) (scale : Scale) (labels : List (List ℕ)) (order : List K) (xs ys : List (Rule ℕ)) (begin : Begin) (g k h i : GrammarOf) →
    ((r : Rule ℕ) → Has xs r → Has ys r) → ((r : Rule ℕ) → Has ys r → Has xs r) → SidesEndInHoles xs → SidesEndInHoles ys → IsBegun cmp order xs begin g → IsBegun cmp order ys begin k →
    IsCanonical product scale labels g h → IsCanonical product scale labels k i → h ≡ i
begun_once cmp total product scale labels order xs ys (At start) g k h i to from leaves others c d a b =
    over_once cmp total product scale labels order xs ys start g k h i to from leaves others c d a b
begun_once cmp total product scale labels order xs ys (Fresh finals) g k h i to from leaves others c d a b =
    over_once (option_cmp cmp) (options_total total) product scale labels (behind_fresh order) (started_rules finals xs) (started_rules finals ys) 0 g k h i (started_to finals xs ys to) (started_to finals ys xs from)
    (started_leaves finals xs leaves) (started_leaves finals ys others) c d a b
begun_once cmp total product scale labels order xs ys Empty g k h i to from leaves others c d a b =
    one_canonical_of product scale labels without_rules without_rules h i no_leaves no_leaves (alike_self [])
    (subst (λ (z : GrammarOf). IsCanonical product scale labels z h) c a) (subst (λ (z : GrammarOf). IsCanonical product scale labels z i) d b)

pub keys_once :
    {K : Type 0} (cmp : K → K → Ordering) → IsTotalOrder cmp → (product : ℕ → ℕ → ℕ) (scale : Scale) (labels : List (List ℕ)) (order : List K) (xs ys : List (Rule ℕ)) (begin : Begin) (h i : GrammarOf) →
    ((r : Rule ℕ) → Has xs r → Has ys r) → ((r : Rule ℕ) → Has ys r → Has xs r) → SidesEndInHoles xs → SidesEndInHoles ys →
    IsCanonicalOverKeys product scale labels cmp order xs begin h → IsCanonicalOverKeys product scale labels cmp order ys begin i → h ≡ i
keys_once cmp total product scale labels order xs ys begin h i to from leaves others a b =
    begun_once cmp total product scale labels order xs ys begin a.over b.over h i to from leaves others a.begun b.begun a.canonical b.canonical
