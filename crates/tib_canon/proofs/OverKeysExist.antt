-- Rules over the positions of an order have a grammar over its keys, and it is impossible that this
-- has no canonical form.
use Rattle.tib_cost.specs.declared.Scale.{Scale}
use Rattle.std.proofs.Common.{◌≡◌, ℕ, ◌<◌, ◌≤◌, Bool, List, [], ◌∷◌, ◌++◌, length, map, get_or, refl, ap, sym, ◌∙◌, subst, arith, zero, suc, inl, inr, length-append}
use Rattle.std.specs.Cmp.{IsTotalOrder}
use Rattle.std.specs.declared.cmp.Ordering.{Ordering}
use Rattle.std.specs.declared.cmp.Ordering.TheVariants.{Less, Equal}
use Rattle.std.proofs.lemmas.Cmp.{on_total}
use Rattle.std.proofs.lemmas.List.{get_or-map, length-map}
use Rattle.std.proofs.lemmas.Option.{get_or_from_slice_get}
use Rattle.std.specs.Prelude.{None}
use Rattle.std.specs.Cmp.Lexicographic.{options_total}
use Rattle.std.specs.Option.{option_cmp}
use Rattle.tib_lex.specs.Lists.{Has, Each, Distinct, Ascends}
use Rattle.tib_tree.specs.Trees.{only}
use Rattle.tib_grammar.specs.Sides.{holes_of, HolesAreLeaves}
use Rattle.tib_grammar.specs.GrammarOf.{GrammarOf, named_rule}
use Rattle.tib_grammar.specs.Range.{IsInRange, AreInRange, SidesEndInHoles}
use Rattle.tib_grammar.specs.Run.{rule_at, no_rule}
use Rattle.tib_grammar.specs.declared.Rule.{Rule}
use Rattle.tib_grammar_file.specs.Printable.{ArePrintable}
use Rattle.tib_cost.specs.Semiring.{ProductLaws}
use Rattle.tib_canon.specs.Canonical.{names_of}
use Rattle.tib_canon.specs.Keys.{StandBefore, AreByKeys, IsOverKeys, IsCanonicalOverKeys, BeginsWithin, without_rules, behind_fresh, started_rules, begun_rules}
use Rattle.tib_canon.specs.declared.begin.Begin.{Begin}
use Rattle.tib_canon.specs.declared.begin.Begin.TheVariants.{At, Fresh, Empty}
use Rattle.tib_canon.proofs.BehindFresh.{behind_long, behind_once, behind_same}
use Rattle.tib_canon.proofs.CanonicalExists.{canonical_there}
use Rattle.tib_canon.proofs.KeysOnce.{leaves_over}
use Rattle.tib_canon.proofs.One.{one_less}
use Rattle.tib_canon.proofs.OrderExists.{AreSortedOf, sorted_there, ascends_within}
use Rattle.tib_canon.proofs.Permuting.{distinct_at}
use Rattle.tib_canon.proofs.PlacesIn.{place_in, placed_in_range, placed_back, map_itself}
use Rattle.tib_canon.proofs.PrintableRules.{over_printable}
use Rattle.tib_canon.proofs.Started.{started_leaves, started_range}
use Rattle.tib_canon.proofs.StateNames.{length-names_of}
use Rattle.tib_canon.proofs.TrimmedExist.{AreThose, with_last, without_last}
use Rattle.tib_lex.proofs.Members.{has_at, at_has, each_has}
use Rattle.tib_lex.proofs.Numbers.{same_or_other}
use Rattle.tib_grammar.proofs.Below.{below_has}

-- the numbers below n but one
record AreOthers (start n : ℕ) (others : List ℕ) : Type 0 where
  pub those : AreThose (λ q. q ≡ start → ⊥) n others
  pub early : n ≤ start → length others ≡ n
  pub late : start < n → suc (length others) ≡ n

before_it : (start n : ℕ) → (n ≡ start → ⊥) → start < suc n → start < n
before_it start n other h = grind arith

one_other : (start n : ℕ) (others : List ℕ) → AreOthers start n others → (n ≡ start → ⊥) → AreOthers start (suc n) (others ++ n ∷ [])
one_other start n others o other = record {
  those = with_last (λ q. q ≡ start → ⊥) n others o.those other;
  early = λ h. omega (arith, length-append others (n ∷ []), o.early (omega (arith, h)));
  late = λ h. omega (arith, length-append others (n ∷ []), o.late (before_it start n other h));
}

one_same : (start n : ℕ) (others : List ℕ) → AreOthers start n others → n ≡ start → AreOthers start (suc n) others
one_same start n others o e = record {
  those = without_last (λ q. q ≡ start → ⊥) n others o.those (λ f. f e);
  early = λ h. absurd (omega (arith, h, e));
  late = λ h. ap suc (o.early (omega (arith, e)));
}

others_of : (start n : ℕ) → (others : List ℕ) × AreOthers start n others
others_of start zero = (
  [],
  record {
    those = record { ascend = tt; below = λ q h. absurd h; hold = λ q h. absurd h; all = λ q h x. absurd (omega arith) };
    early = λ h. refl;
    late = λ h. absurd (omega arith);
  },
)
others_of start (suc n) =
    let o = others_of start n in
    elim (same_or_other n start) [
      | inl e ↦ (o.0, one_same start n o.0 o.1 e)
      | inr other ↦ (o.0 ++ n ∷ [], one_other start n o.0 o.1 other)
    ]

pub ascends_once : {A : Type 0} (R : A → A → Type 0) → ((x : A) → R x x → ⊥) → (xs : List A) → Ascends R xs → Distinct xs
ascends_once R f [] a = tt
ascends_once R f (x ∷ xs) a = (λ h. f x (each_has (R x) xs x a.0 h), ascends_once R f xs a.1)

pub some_key : {K : Type 0} (order : List K) (start : ℕ) → start < length order → K
some_key [] start h = absurd (omega arith)
some_key (x ∷ order) start h = x

module _
    {K : Type 0} (cmp : K → K → Ordering) (total : IsTotalOrder cmp) (same : (x y : K) → cmp x y ≡ Equal → x ≡ y) (order : List K) (once : Distinct order) (d : K) (start : ℕ)
    (within : start < length order) where
  abbrev at_places : ℕ → ℕ → Ordering
  at_places p q = cmp (get_or order p d) (get_or order q d)

  places_total : IsTotalOrder at_places
  places_total = on_total (λ p. get_or order p d) total

  module _ (others : List ℕ) (o : AreOthers start (length order) others) (sorted : List ℕ) (s : AreSortedOf at_places places_total others sorted) where
    never_less : (p : ℕ) → at_places p p ≡ Less → ⊥
    never_less p e = one_less (at_places p p) e (sym e ∙ places_total.antisymm p p)

    by_places : (p q : ℕ) → at_places p q ≡ Less → StandBefore cmp order p q
    by_places p q e x y f g =
        subst (λ z. cmp z y ≡ Less) (get_or_from_slice_get order p x d f) (subst (λ z. cmp (get_or order p d) z ≡ Less) (get_or_from_slice_get order q y d g) e)

    all_stand : (p : ℕ) → p < length order → Has (start ∷ sorted) p
    all_stand p h = elim (same_or_other p start) [
      | inl e ↦ inl (sym e)
      | inr other ↦ inr (s.from p (o.those.all p h other))
    ]

    stand_below : (p : ℕ) → Has (start ∷ sorted) p → p < length order
    stand_below p (inl e) = omega (arith, e, within)
    stand_below p (inr h) = o.those.below p (s.to p h)

    by_keys : AreByKeys cmp order start (start ∷ sorted)
    by_keys = record {
      others = sorted;
      first = refl;
      ascend = ascends_within (λ p q. at_places p q ≡ Less) (StandBefore cmp order) sorted (λ p q h k e. by_places p q e) s.ascends;
      all = λ p. (stand_below p, all_stand p);
      once = (λ h. o.those.hold start (s.to start h) refl, ascends_once (λ p q. at_places p q ≡ Less) never_less sorted s.ascends);
      many = omega (arith, s.long, o.late within);
    }

  unequal : (others : List ℕ) → AreOthers start (length order) others → Ascends (λ p q. at_places p q ≡ Equal → ⊥) others
  unequal others o =
      ascends_within ◌<◌ (λ p q. at_places p q ≡ Equal → ⊥) others
      (λ p q h k low e. distinct_at order d p q once low (o.those.below q k) (same (get_or order p d) (get_or order q d) e)) o.those.ascend

  states_there : (states : List ℕ) × AreByKeys cmp order start states
  states_there =
      let o = others_of start (length order) in
      let s = sorted_there at_places places_total o.0 (unequal o.0 o.1) in
      (start ∷ s.0, by_keys o.0 o.1 s.0 s.1)

  module _ (rules : List (Rule ℕ)) (range : AreInRange (length order) rules) (leaves : SidesEndInHoles rules) where
    module _ (states : List ℕ) (by_states : AreByKeys cmp order start states) where
      in_range : (r : Rule ℕ) → Has rules r → IsInRange (length order) r
      in_range r h = let at = at_has rules r no_rule h in subst (IsInRange (length order)) at.2 (range at.0 at.1)

      left_stands : (r : Rule ℕ) → Has rules r → Has states r.left
      left_stands r h = (by_states.all r.left).1 (in_range r h).0

      holes_stand : (r : Rule ℕ) → Has rules r → (q : ℕ) → Has (holes_of r.right) q → Has states q
      holes_stand r h q k = (by_states.all q).1 (below_has (length order) (holes_of r.right) q (in_range r h).1 k)

      ends : (r : Rule ℕ) → Has rules r → HolesAreLeaves (only r.right)
      ends r h = let at = at_has rules r no_rule h in subst (λ (x : Rule ℕ). HolesAreLeaves (only x.right)) at.2 (leaves at.0 at.1)

      abbrev placed : Rule ℕ → Rule ℕ
      placed r = named_rule (place_in same_or_other states) r

      all_in_range : AreInRange (length states) (map placed rules)
      all_in_range m h =
          let low : m < length rules = omega (arith, h, length-map rules placed) in
          let stands = has_at rules m no_rule low in
          subst (IsInRange (length states)) (sym (get_or-map placed rules m no_rule no_rule low))
          (placed_in_range same_or_other 0 states (rule_at rules m) (left_stands (rule_at rules m) stands) (holes_stand (rule_at rules m) stands))

      over_of : IsOverKeys cmp order rules start (record { names = names_of (length order); rules = map placed rules })
      over_of = record {
        states = states;
        by_keys = by_states;
        names = refl;
        in_range = subst (λ n. AreInRange n (map placed rules)) by_states.many all_in_range;
        named = map_itself (named_rule (λ i. get_or states i 0)) placed rules (λ r h. placed_back same_or_other 0 states r (left_stands r h) (holes_stand r h) (ends r h));
      }

    pub over_there : (g : GrammarOf) × IsOverKeys cmp order rules start g
    over_there =
        let s = states_there in
        (record { names = names_of (length order); rules = map (placed s.0 s.1) rules }, over_of s.0 s.1)

    pub keys_there :
        {levelled weighed : Bool} {product : ℕ → ℕ → ℕ} → ProductLaws levelled weighed product → (scale : Scale) (labels : List (List ℕ)) → length order ≤ 4294967296 → Distinct labels →
        ArePrintable scale labels rules → ((h : GrammarOf) → IsCanonicalOverKeys product scale labels cmp order rules (At start) h → ⊥) → ⊥
    keys_there laws scale labels few apart printable k =
        let o = over_there in
        let long : length o.0.names ≡ length order = ap length o.1.names ∙ length-names_of (length order) in
        canonical_there laws scale labels o.0 (omega (arith, long, within)) (omega (arith, long, few)) (subst (λ n. AreInRange n o.0.rules) (sym long) o.1.in_range)
        (leaves_over cmp order start rules o.0 o.1 leaves) apart (over_printable scale labels cmp order rules start o.0 o.1 printable)
        (λ h canonical series. k h (record { over = o.0; begun = o.1; canonical = canonical; series = series }))

-- the same after a fresh start
module _
    {K : Type 0} (cmp : K → K → Ordering) (total : IsTotalOrder cmp) (same : (x y : K) → cmp x y ≡ Equal → x ≡ y) (order : List K) (once : Distinct order) (finals : List (ℕ × ℕ))
    (within : Each (λ p. p.0 < length order) finals) (rules : List (Rule ℕ)) (range : AreInRange (length order) rules) (leaves : SidesEndInHoles rules) where
  pub fresh_keys_there :
      {levelled weighed : Bool} {product : ℕ → ℕ → ℕ} → ProductLaws levelled weighed product → (scale : Scale) (labels : List (List ℕ)) → length order < 4294967296 → Distinct labels →
      ArePrintable scale labels (started_rules finals rules) → ((h : GrammarOf) → IsCanonicalOverKeys product scale labels cmp order rules (Fresh finals) h → ⊥) → ⊥
  fresh_keys_there laws scale labels few apart printable k =
      keys_there (option_cmp cmp) (options_total total) (behind_same cmp same) (behind_fresh order) (behind_once order once) None 0 (omega (arith, behind_long order)) (started_rules finals rules)
      (subst (λ n. AreInRange n (started_rules finals rules)) (sym (behind_long order)) (started_range finals (length order) within rules range)) (started_leaves finals rules leaves) laws scale labels
      (omega (arith, few, behind_long order)) apart printable
      (λ h c. k h (record { over = c.over; begun = c.begun; canonical = c.canonical; series = c.series }))

-- whatever the start is
pub begun_keys_there :
    {levelled weighed : Bool} {product : ℕ → ℕ → ℕ} → ProductLaws levelled weighed product → {K : Type 0} (cmp : K → K → Ordering) → IsTotalOrder cmp → ((x y : K) → cmp x y ≡ Equal → x ≡ y) →
    (scale : Scale) (labels : List (List ℕ)) (order : List K) (rules : List (Rule ℕ)) (begin : Begin) → length order < 4294967296 → BeginsWithin (length order) begin → Distinct order →
    AreInRange (length order) rules → SidesEndInHoles rules → Distinct labels → ArePrintable scale labels (begun_rules begin rules) →
    ((h : GrammarOf) → IsCanonicalOverKeys product scale labels cmp order rules begin h → ⊥) → ⊥
begun_keys_there laws cmp total same scale labels order rules (At start) few within once range leaves apart printable k =
    keys_there cmp total same order once (some_key order start within) start within rules range leaves laws scale labels (omega arith) apart printable k
begun_keys_there laws cmp total same scale labels order rules (Fresh finals) few within once range leaves apart printable k =
    fresh_keys_there cmp total same order once finals within rules range leaves laws scale labels few apart printable k
begun_keys_there laws cmp total same scale labels order rules Empty few within once range leaves apart printable k =
    let one : length without_rules.names ≡ 1 = length-names_of 1 in
    canonical_there laws scale labels without_rules (omega arith) (omega arith) (λ m h. absurd (omega arith)) (λ m h. absurd (omega arith)) apart (λ m h. absurd (omega arith))
    (λ h canonical series. k h (record { over = without_rules; begun = refl; canonical = canonical; series = series }))
