-- How many columns wait, and how many holes come before, in the reading of a side from its end.
use Rattle.std.specs.Prelude.{◌≡◌, ℕ, ◌+◌, ◌-◌, ◌<◌, ◌≤◌, List, [], ◌∷◌, ◌++◌, length, take, drop, refl, IsTrue, false}
use Rattle.std.proofs.Common.{◌==◌, length-append, zero, suc, inl, inr, arith, get_or, ap, sym, ◌∙◌, subst}
use Rattle.std.proofs.lemmas.List.{at_drop_more, take-append-drop, drop_all, take_more}
use Rattle.std.proofs.lemmas.Bool.Decides.{eqb_tells}
use Rattle.tib_tree.specs.Trees.{count, parse, preorder_of, HasChildren, IsOneTree-preorder_of, count-other}
use Rattle.tib_grammar.specs.Sides.{Side as SideFor, holes_of}
use Rattle.tib_grammar.specs.Items.{pair_of, pairs_of, holes_in}
use Rattle.tib_grammar.specs.declared.Item.{Item}
use Rattle.tib_grammar.specs.declared.Item.TheVariants.{Hole}
use Rattle.tib_grammar.proofs.Holes.{holes_of_items}
use Rattle.tib_lex.specs.Lists.{Has, Each}
use Rattle.tib_lex.proofs.Members.{each_has, has_right}
use Rattle.tib_match.specs.declared.spans.Span.{Span}
use Rattle.tib_match.proofs.BoxSteps.{item_more}
use Rattle.tib_match.proofs.Budgets.{holes_joined}

nested_from : {P : Type 0} (items : List (Item P)) (i : ℕ) → HasChildren (pairs_of items) → HasChildren (pairs_of (drop i items))
nested_from items zero h = h
nested_from [] (suc i) h = h
nested_from (x ∷ items) (suc i) h = nested_from items i h.0

-- the items of a side
pub side_nested : {P : Type 0} (items : List (Item P)) (side : SideFor ℕ P) → pairs_of items ≡ preorder_of side → HasChildren (pairs_of items)
side_nested items side e = subst HasChildren (sym e) (IsOneTree-preorder_of side).nested

pub as_many : {P : Type 0} (items : List (Item P)) (side : SideFor ℕ P) (n : ℕ) → pairs_of items ≡ preorder_of side → n ≡ length (holes_of side) → n ≡ length (holes_in items)
as_many items side n e long = long ∙ ap length (holes_of_items items side e)

-- the holes among the first items
pub holes_taken : {P : Type 0} (items : List (Item P)) (i : ℕ) (x : Item P) → i < length items → get_or items i x ≡ x →
    length (holes_in (take (i + 1) items)) ≡ length (holes_in (take i items)) + length (holes_in (x ∷ []))
holes_taken items i x low is = ap (λ xs. length (holes_in xs)) (take_more items i x low ∙ ap (λ y. take i items ++ y ∷ []) is) ∙ holes_joined (take i items) (x ∷ [])

pub holes_some : {P : Type 0} (items : List (Item P)) (j : ℕ) → length (holes_in (take j items)) ≤ length (holes_in items)
holes_some items j =
    let both : length (holes_in items) ≡ length (holes_in (take j items)) + length (holes_in (drop j items)) =
    ap (λ xs. length (holes_in xs)) (sym (take-append-drop j items)) ∙ holes_joined (take j items) (drop j items)
    in
    omega (arith, both)

-- before anything is read
pub none_waits : {P : Type 0} (items : List (Item P)) → 0 ≡ count (parse (pairs_of (drop (length items) items)))
none_waits items = sym (ap (λ xs. count (parse (pairs_of xs))) (drop_all (length items) items (omega arith)))

pub all_before : {P : Type 0} (items : List (Item P)) (holes : ℕ) → holes ≡ length (holes_in items) → holes + length (holes_in (drop (length items) items)) ≡ length (holes_in items)
all_before items holes e =
    let none : length (holes_in (drop (length items) items)) ≡ 0 = ap (λ xs. length (holes_in xs)) (drop_all (length items) items (omega arith)) in
    omega (arith, e, none)

module _ {P : Type 0} (items : List (Item P)) (i j : ℕ) (x : Item P) (behind : i + 1 ≡ j) (low : i < length items) (is : get_or items i x ≡ x) where
  after_it : pairs_of (drop i items) ≡ pair_of x ∷ pairs_of (drop j items)
  after_it = item_more items i x low is ∙ ap (λ k. pair_of x ∷ pairs_of (drop k items)) behind

  -- the columns of an item's children wait
  pub item_room : (columns : ℕ) → HasChildren (pairs_of items) → columns ≡ count (parse (pairs_of (drop j items))) → (pair_of x).1 ≤ columns
  item_room columns nested e =
      let here : HasChildren (pair_of x ∷ pairs_of (drop j items)) = subst HasChildren after_it (nested_from items i nested) in
      omega (arith, e, here.1)

  -- and then its own
  pub item_waits : (old new : ℕ) → old ≡ count (parse (pairs_of (drop j items))) → new ≡ old - (pair_of x).1 + 1 → new ≡ count (parse (pairs_of (drop i items)))
  item_waits old new e step =
      let more : count (parse (pairs_of (drop i items))) ≡ suc (count (parse (pairs_of (drop j items))) - (pair_of x).1) =
      ap (λ xs. count (parse xs)) after_it ∙ ap suc (count-other (pair_of x).1 (parse (pairs_of (drop j items))))
      in
      omega (arith, e, step, more)

  holes_here : length (holes_in (drop i items)) ≡ length (holes_in (x ∷ [])) + length (holes_in (drop j items))
  holes_here =
      at_drop_more (λ xs. length (holes_in xs)) items i x low
      ∙ ap (λ y. length (holes_in (y ∷ drop (i + 1) items))) is
      ∙ holes_joined (x ∷ []) (drop (i + 1) items)
      ∙ ap (λ k. length (holes_in (x ∷ [])) + length (holes_in (drop k items))) behind

  -- its hole is among those that come before the others
  pub holes_left : (holes : ℕ) → holes + length (holes_in (drop j items)) ≡ length (holes_in items) → length (holes_in (x ∷ [])) ≤ holes
  holes_left holes e =
      let both : length (holes_in items) ≡ length (holes_in (take i items)) + length (holes_in (drop i items)) =
      ap (λ xs. length (holes_in xs)) (sym (take-append-drop i items)) ∙ holes_joined (take i items) (drop i items)
      in
      omega (arith, e, both, holes_here)

  pub holes_before : (old new : ℕ) → old + length (holes_in (drop j items)) ≡ length (holes_in items) → new + length (holes_in (x ∷ [])) ≡ old →
      new + length (holes_in (drop i items)) ≡ length (holes_in items)
  holes_before old new e step = omega (arith, e, step, holes_here)

-- the last of some boxes is as long as all are
pub last_long : (n : ℕ) (boxes front : List (List Span)) (b : List Span) → boxes ≡ front ++ b ∷ [] → Each (λ x. length x ≡ n) boxes → length b ≡ n
last_long n boxes front b e all = each_has (λ x. length x ≡ n) boxes b all (subst (λ bs. Has bs b) (sym e) (has_right front (b ∷ []) b (inl refl)))

-- as many costs as a side has holes
pub of_side : {P : Type 0} (items : List (Item P)) (side : SideFor ℕ P) (n : ℕ) → pairs_of items ≡ preorder_of side → n ≡ length (holes_in items) → n ≡ length (holes_of side)
of_side items side n e long = long ∙ ap length (sym (holes_of_items items side e))

pub nothing_left : (n : ℕ) → IsTrue (n == 0) → n ≡ 0
nothing_left n e = elim (eqb_tells n 0) [ inl h ↦ h.1 | inr h ↦ cc ]

pub something_left : (n : ℕ) → (n == 0) ≡ false → n ≡ 0 → ⊥
something_left n e z = elim (eqb_tells n 0) [ inl h ↦ cc | inr h ↦ absurd (h.1 z) ]

-- one more column, of a hole
pub hole_longer : {A P : Type 0} (old new : List A) (x : A) (item : Item P) (p : P) → item ≡ Hole p → new ≡ old ++ x ∷ [] → length new ≡ length old - (pair_of item).1 + 1
hole_longer old new x item p is e =
    let rank : (pair_of item).1 ≡ 0 = ap (λ i. (pair_of i).1) is in
    omega (arith, rank, ap length e, length-append old (x ∷ []))
