-- The labels and the variables of a side by its items.
use Rattle.std.proofs.Common.{◌≡◌, ℕ, ◌+◌, ◌-◌, ◌<◌, ◌≤◌, IsTrue, nat_lt, true, false, is_some, List, [], ◌∷◌, length, get_or, ap, sym, ◌∙◌, refl, subst, arith, suc, zero, inl, inr, Option, None, Some}
use Rattle.tib_tree.specs.Trees.{Trees, none, tree, join, join_parts, first_trees, other_trees, parse, parse_of, preorder_of, only}
use Rattle.tib_grammar.specs.Sides.{Symbol, label, hole, Side, labels_in}
use Rattle.tib_grammar.specs.Items.{pairs_of, holes_in}
use Rattle.tib_grammar.specs.declared.Item.{Item}
use Rattle.tib_grammar.specs.declared.Item.TheVariants.{Label, Hole}
use Rattle.tib_grammar.proofs.Holes.{holes_of_items}
use Rattle.std.proofs.lemmas.Bool.Decides.{nat_tests}
use Rattle.tib_transducer.specs.Classes.{IsExtended, IsLabelled}
use Rattle.tib_transducer.specs.declared.TransducerRule.{TransducerRule}
use Rattle.tib_transducer.specs.declared.Variable.{Variable}
use Rattle.tib_transducer.specs.Counting.{HaveLabel}

labels-join : {P : Type 0} (ts us : Trees (Symbol ℕ P)) → labels_in (join ts us) ≡ labels_in ts + labels_in us
labels-join none us = omega arith
labels-join (tree (label f) kids rest) us = omega (arith, labels-join rest us)
labels-join (tree (hole p) kids rest) us = labels-join rest us

labels-parse : {P : Type 0} (items : List (Item P)) → labels_in (parse (pairs_of items)) + length (holes_in items) ≡ length items
labels-parse [] = omega arith
labels-parse (Label f rank ∷ items) =
    let parts : labels_in (first_trees rank (parse (pairs_of items))) + labels_in (other_trees rank (parse (pairs_of items))) ≡ labels_in (parse (pairs_of items)) =
    sym (labels-join (first_trees rank (parse (pairs_of items))) (other_trees rank (parse (pairs_of items))))
    ∙ ap labels_in (join_parts rank (parse (pairs_of items)))
    in
    omega (arith, parts, labels-parse items)
labels-parse (Hole p ∷ items) = omega (arith, labels-parse items)

-- each item of a side is one of its labels or one of its leaves
pub labels_of_items : {P : Type 0} (items : List (Item P)) (s : Side ℕ P) → pairs_of items ≡ preorder_of s → labels_in (only s) + length (holes_in items) ≡ length items
labels_of_items items s e =
    let same : labels_in (parse (pairs_of items)) ≡ labels_in (only s) = ap labels_in (ap parse e ∙ parse_of s) in
    omega (arith, same, labels-parse items)

-- a label among some variables
pub label_first : (x : Variable) (xs : List Variable) (f : ℕ) → x.label ≡ Some f → HaveLabel (x ∷ xs)
label_first x xs f e = record { variable = x; stands = inl refl; root = f; labelled = e }

pub label_later : (x : Variable) (xs : List Variable) → x.label ≡ None → HaveLabel (x ∷ xs) → HaveLabel xs
label_later x xs e h = elim h.stands [
  | inl same ↦ absurd (none_some (sym e ∙ ap (λ y. y.label) same ∙ h.labelled))
  | inr later ↦ record { variable = h.variable; stands = later; root = h.root; labelled = h.labelled }
]
  where
    none_some : {n : ℕ} → ◌≡◌ {A = Option ℕ} None (Some n) → ⊥
    none_some e = absurd (cc)

pub some_of : (o : Option ℕ) → is_some o ≡ true → (f : ℕ) × (o ≡ Some f)
some_of None e = absurd (cc)
some_of (Some f) e = (f, refl)

-- a variable with a label at a place of some items
pub label_at :
    (items : List (Item Variable)) (i : ℕ) (x : Variable) → i < length items → get_or items i (Label 0 0) ≡ Hole x → is_some x.label ≡ true → HaveLabel (holes_in items)
label_at [] i x h e s = absurd (omega arith)
label_at (Label f rank ∷ items) zero x h e s = absurd (cc)
label_at (Label f rank ∷ items) (suc i) x h e s = label_at items i x (omega arith) e s
label_at (Hole y ∷ items) zero x h e s =
    let same : y ≡ x = hole_is e in
    let f = some_of x.label s in
    label_first y (holes_in items) f.0 (ap (λ z. z.label) same ∙ f.1)
  where
    hole_is : {y x : Variable} → ◌≡◌ {A = Item Variable} (Hole y) (Hole x) → y ≡ x
    hole_is e = cc
label_at (Hole y ∷ items) (suc i) x h e s =
    let k = label_at items i x (omega arith) e s in
    record { variable = k.variable; stands = inr k.stands; root = k.root; labelled = k.labelled }

-- a rule by the items of its left side
module _ {P : Type 0} (r : TransducerRule P) (items : List (Item Variable)) (same : pairs_of items ≡ preorder_of r.left) where
  pub labelled_from : HaveLabel (holes_in items) → IsLabelled r
  labelled_from h =
      let k = subst HaveLabel (sym (holes_of_items items r.left same)) h in
      record { variable = k.variable; stands = k.stands; root = k.root; labelled = k.labelled }

  pub labelled_to : IsLabelled r → HaveLabel (holes_in items)
  labelled_to h = subst HaveLabel (holes_of_items items r.left same) (record { variable = h.variable; stands = h.stands; root = h.root; labelled = h.labelled })

  pub extended_from : (n : ℕ) → n ≡ length (holes_in items) → IsTrue (nat_lt 1 (length items - n)) → IsExtended r
  extended_from n e t =
      let labels : labels_in (only r.left) ≡ length items - n = omega (arith, labels_of_items items r.left same, e) in
      let many : 1 < length items - n = below_of 1 (length items - n) t in
      omega (arith, labels, many)
    where
      below_of : (a b : ℕ) → IsTrue (nat_lt a b) → a < b
      below_of a b t = grind (arith, nat_tests)

  pub extended_not : (n : ℕ) → n ≡ length (holes_in items) → nat_lt 1 (length items - n) ≡ false → IsExtended r → ⊥
  extended_not n e f h =
      let labels : labels_in (only r.left) ≡ length items - n = omega (arith, labels_of_items items r.left same, e) in
      let few : length items - n ≤ 1 = not_below 1 (length items - n) f in
      omega (arith, labels, few, h)
    where
      not_below : (a b : ℕ) → nat_lt a b ≡ false → b ≤ a
      not_below a b f = grind (arith, nat_tests)
