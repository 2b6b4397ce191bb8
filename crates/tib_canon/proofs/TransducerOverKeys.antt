-- The transducer over the keys of an order.
use Rattle.tib_cost.specs.declared.Scale.{Scale}
use Rattle.std.proofs.Common.{◌≡◌, ℕ, ◌<◌, List, [], ◌∷◌, length, map, get_or, refl, ap, sym, ◌∙◌, subst, arith, suc, Bool, inl, inr}
use Rattle.std.proofs.lemmas.List.{get_or-map, length-map}
use Rattle.std.specs.declared.cmp.Ordering.{Ordering}
use Rattle.tib_lex.specs.Lists.{Has, Each}
use Rattle.tib_lex.proofs.Members.{has_at, at_has, each_has, each_of}
use Rattle.tib_tree.specs.Trees.{preorder_of}
use Rattle.tib_cost.specs.Semiring.{ProductLaws}
use Rattle.tib_grammar.specs.Range.{AllBelow}
use Rattle.tib_grammar.specs.Renaming.{number_in}
use Rattle.tib_grammar.specs.Sides.{Symbol, label, hole, symbol_map}
use Rattle.tib_grammar.proofs.Below.{below_has}
use Rattle.tib_inside.specs.Renaming.{AreNumbersOf}
use Rattle.tib_transducer.specs.Range.{IsWithin, AreWithin, IsShaped, EndsInHoles, EndInHoles}
use Rattle.tib_transducer.specs.Rules.{transducer_rule, no_rule, states_in}
use Rattle.tib_transducer.specs.Series.{IsTransducerSeriesAt}
use Rattle.tib_transducer.specs.TransducerOf.{TransducerOf}
use Rattle.tib_transducer.specs.declared.Pair.{Pair}
use Rattle.tib_transducer.specs.declared.TransducerRule.{TransducerRule}
use Rattle.tib_transducer_file.specs.Labelled.{AreLabelled}
use Rattle.tib_transducer_file.specs.ByName.{IsPrintable, IsPlainOnRight}
use Rattle.tib_canon.specs.Keys.{AreByKeys}
use Rattle.tib_canon.proofs.StateNames.{length-names_of}
use Rattle.tib_canon.proofs.OverKeys.{number_back}
use Rattle.tib_transducer.specs.NamedPairs.{named_pair}
use Rattle.tib_key_edges.specs.Named.{named_transducer_rule}
use Rattle.tib_key_edges.proofs.Numbered.{numbered_series}
use Rattle.tib_canon.specs.TransducerKeys.{IsTransducerOverKeys, IsCanonicalTransducer, HasSeriesFrom, AreMovesOver}
use Rattle.tib_canon.specs.Ordered.{over_numbers, IsTransducerInOrder}
use Rattle.tib_canon.proofs.TransducerNamed.{states_named, shaped_back, ends_back, move_back, preorder_named, below_mapped}
use Rattle.tib_canon.proofs.TransducerOne.{series_kept, kept_printable}
use Rattle.tib_canon.proofs.Sorted.{all_labelled}

moves_back :
    (f g : ℕ → ℕ) (rules : List (TransducerRule ℕ)) → ((m : ℕ) → m < length rules → named_transducer_rule g (named_transducer_rule f (transducer_rule rules m)) ≡ transducer_rule rules m) →
    map (named_transducer_rule g) (map (named_transducer_rule f) rules) ≡ rules
moves_back f g [] h = refl
moves_back f g (r ∷ rules) h =
    ap (λ x. x ∷ map (named_transducer_rule g) (map (named_transducer_rule f) rules)) (h 0 (omega arith)) ∙ ap (λ rs. r ∷ rs) (moves_back f g rules (λ m k. h (suc m) (omega arith)))

module _ {K : Type 0} (cmp : K → K → Ordering) (order : List K) (start : ℕ) (states : List ℕ) (by : AreByKeys cmp order start states) (numbers : List ℕ) (are : AreNumbersOf states numbers) where
  number_below : (q : ℕ) → q < length order → number_in numbers q < length states
  number_below q h =
      let at = at_has states q 0 ((by.all q).1 h) in
      let e : number_in numbers q ≡ at.0 = ap (number_in numbers) (sym at.2) ∙ are at.0 at.1 in
      omega (arith, at.1, e)

  module _ (rules : List (TransducerRule ℕ)) (range : AreWithin (length order) rules) (leaves : EndInHoles rules) (new : List (TransducerRule ℕ)) (e : new ≡ map (named_transducer_rule (number_in numbers)) rules) where
    new_within : AreWithin (length states) new
    new_within m h =
        let low : m < length rules = omega (arith, h, ap length e, length-map rules (named_transducer_rule (number_in numbers))) in
        let at : transducer_rule new m ≡ named_transducer_rule (number_in numbers) (transducer_rule rules m) = ap (λ (rs : List (TransducerRule ℕ)). transducer_rule rs m) e ∙ get_or-map (named_transducer_rule (number_in numbers)) rules m no_rule no_rule low in
        subst (IsWithin (length states)) (sym at) (
          number_below (transducer_rule rules m).state (range m low).0,
          subst (AllBelow (length states)) (sym (states_named (number_in numbers) (transducer_rule rules m).right))
              (below_mapped (length states) (length order) (number_in numbers) (states_in (transducer_rule rules m).right) number_below (range m low).1),
        )

    pub over_keys : IsTransducerOverKeys cmp order rules start (over_numbers (length order) new)
    over_keys = record {
      states = states;
      by_keys = by;
      names = refl;
      numbered = record {
        once = by.once;
        in_range = new_within;
        named = ap (map (named_transducer_rule (λ i. get_or states i 0))) e ∙ moves_back (number_in numbers) (λ i. get_or states i 0) rules (λ m h.
            move_back (number_in numbers) (λ i. get_or states i 0) (transducer_rule rules m) (number_back cmp order start states by numbers are (transducer_rule rules m).state (range m h).0)
            (λ q k. number_back cmp order start states by numbers are q (below_has (length order) (states_in (transducer_rule rules m).right) q (range m h).1 k)) (leaves m h));
      };
    }

-- labels are plain whatever the states
plain_back : (labels : List (List ℕ)) (f : Pair ℕ → Pair ℕ) (xs : List (Symbol ℕ (Pair ℕ) × ℕ)) → Each (λ (s : Symbol ℕ (Pair ℕ) × ℕ). IsPlainOnRight labels s.0) (map (λ (p : Symbol ℕ (Pair ℕ) × ℕ). (symbol_map f p.0, p.1)) xs) → Each (λ s. IsPlainOnRight labels s.0) xs
plain_back labels f [] h = tt
plain_back labels f ((label g, n) ∷ xs) h = (h.0, plain_back labels f xs h.1)
plain_back labels f ((hole x, n) ∷ xs) h = (tt, plain_back labels f xs h.1)

pub printable_back : (scale : Scale) (labels : List (List ℕ)) (f : ℕ → ℕ) (r : TransducerRule ℕ) → IsPrintable scale labels (named_transducer_rule f r) → IsPrintable scale labels r
printable_back scale labels f r p = record {
  left = p.left;
  right = plain_back labels (named_pair f) (preorder_of r.right) (subst (Each (λ (s : Symbol ℕ (Pair ℕ) × ℕ). IsPlainOnRight labels s.0)) (preorder_named (named_pair f) r.right) p.right);
  few = p.few;
  cost = p.cost;
}

module _ {K : Type 0} (cmp : K → K → Ordering) (order : List K) (start : ℕ) (rules : List (TransducerRule ℕ)) (t : TransducerOf) (o : IsTransducerOverKeys cmp order rules start t) where
  abbrev back : TransducerRule ℕ → TransducerRule ℕ
  back r = named_transducer_rule (λ i. get_or o.states i 0) r

  -- a rule over the keys stands for one over positions
  pub stands_for : (r : TransducerRule ℕ) → Has t.rules r → Has rules (back r)
  stands_for r h = subst (λ (rs : List (TransducerRule ℕ)). Has rs (back r)) o.numbered.named (mapped t.rules h)
    where
      mapped : (xs : List (TransducerRule ℕ)) → Has xs r → Has (map back xs) (back r)
      mapped [] k = absurd k
      mapped (s ∷ xs) k = elim k [ inl e ↦ inl (ap back e) | inr m ↦ inr (mapped xs m) ]

  each_back : (P Q : TransducerRule ℕ → Type 0) → ((r : TransducerRule ℕ) → Q (back r) → P r) → ((m : ℕ) → m < length rules → Q (transducer_rule rules m)) → (m : ℕ) → m < length t.rules → P (transducer_rule t.rules m)
  each_back P Q f all m h =
      let r : TransducerRule ℕ = transducer_rule t.rules m in
      let at = at_has rules (back r) no_rule (stands_for r (has_at t.rules m no_rule h)) in
      f r (subst Q at.2 (all at.0 at.1))

  -- rules over keys can be printed where those over positions can
  pub moves_over : (scale : Scale) (labels : List (List ℕ)) → AreMovesOver scale labels (length order) rules → AreMovesOver scale labels (length order) t.rules
  moves_over scale labels m = record {
    within = subst (λ n. AreWithin n t.rules) o.by_keys.many o.numbered.in_range;
    shaped = each_back IsShaped IsShaped (shaped_back (λ i. get_or o.states i 0)) m.shaped;
    leaves = each_back EndsInHoles EndsInHoles (ends_back (λ i. get_or o.states i 0)) m.leaves;
    printable = each_of (IsPrintable scale labels) t.rules (λ r h. printable_back scale labels (λ i. get_or o.states i 0) r (each_has (IsPrintable scale labels) rules (back r) m.printable (stands_for r h)));
  }

  pub start_within : start < length order
  start_within = (o.by_keys.all start).0 (subst (λ (qs : List ℕ). Has qs start) (sym o.by_keys.first) (inl refl))

  pub many_names : length t.names ≡ length order
  many_names = ap length o.names ∙ length-names_of (length order)

-- the canonical transducer has the series of the rules over positions
pub canonical_series :
    {levelled weighed : Bool} {product : ℕ → ℕ → ℕ} → ProductLaws levelled weighed product → {K : Type 0} (cmp : K → K → Ordering) (scale : Scale) (labels : List (List ℕ)) (order : List K) (rules : List (TransducerRule ℕ)) (start : ℕ) (h : TransducerOf) →
    IsCanonicalTransducer scale labels cmp order rules start h → HasSeriesFrom product rules start h.rules
canonical_series {product = product} laws cmp scale labels order rules start h c t u v =
    let o = c.is_over in
    let within : 0 < length o.states = omega (arith, start_within cmp order start rules c.over o, o.by_keys.many) in
    let first : get_or o.states 0 0 ≡ start = ap (λ (qs : List ℕ). get_or qs 0 0) o.by_keys.first in
    let numbered = numbered_series product o.states c.over.rules rules o.numbered 0 within t u v in
    let ordered = series_kept laws scale labels c.over h c.in_order 0 t u v in (
      λ s. ordered.0 (numbered.1 (subst (λ q. IsTransducerSeriesAt product rules q t u v) (sym first) s)),
      λ s. subst (λ q. IsTransducerSeriesAt product rules q t u v) first (numbered.0 (ordered.1 s)),
    )

module _ {K : Type 0} (cmp : K → K → Ordering) (scale : Scale) (labels : List (List ℕ)) (order : List K) (start : ℕ) (rules new : List (TransducerRule ℕ)) (states : ℕ) (o : IsTransducerOverKeys cmp order rules start (over_numbers (length order) new)) (long : states ≡ length order) where
  pub canonical_of : (h : TransducerOf) → IsTransducerInOrder scale labels (over_numbers states new) h → IsCanonicalTransducer scale labels cmp order rules start h
  canonical_of h i = record { over = over_numbers (length order) new; is_over = o; in_order = subst (λ n. IsTransducerInOrder scale labels (over_numbers n new) h) long i }

  pub many_rules : length new ≡ length rules
  many_rules = sym (length-map new (named_transducer_rule (λ i. get_or o.states i 0))) ∙ ap length o.numbered.named

-- its labels are in the table
pub canonical_labelled :
    {K : Type 0} (cmp : K → K → Ordering) (scale : Scale) (labels : List (List ℕ)) (order : List K) (rules : List (TransducerRule ℕ)) (start : ℕ) (h : TransducerOf) → AreMovesOver scale labels (length order) rules →
    IsCanonicalTransducer scale labels cmp order rules start h → AreLabelled (length labels) h.rules
canonical_labelled cmp scale labels order rules start h m c =
    all_labelled scale labels h.rules (kept_printable scale labels c.over.rules h.rules c.in_order.kept (moves_over cmp order start rules c.over c.is_over scale labels m).printable)
