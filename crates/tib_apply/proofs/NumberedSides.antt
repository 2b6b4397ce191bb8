-- Sides with numbers in place of what they carry, item by item.
use Rattle.std.specs.Prelude.{◌≡◌, ℕ, ◌+◌, ◌-◌, ◌<◌, ◌≤◌, ◌^◌, List, [], ◌∷◌, ◌++◌, length, map, take, drop, slice_set, refl}
use Rattle.std.proofs.Common.{zero, suc, arith, ap, sym, ◌∙◌, subst, inl, inr, get_or, append_assoc, add-one}
use Rattle.std.proofs.lemmas.List.{map-append, map_more, get_or-set_same, get_or-set_other, take_all}
use Rattle.tib_lex.specs.Lists.{Each}
use Rattle.tib_lex.proofs.Lists.{length_map}
use Rattle.tib_lex.proofs.Numbers.{nat_eq_cases}
use Rattle.tib_tree.specs.Trees.{Trees, none, tree, count, preorder, preorder_of, relabel}
use Rattle.tib_grammar.specs.Sides.{label, hole, Side as SideFor, side_map, symbol_map, holes_of}
use Rattle.tib_grammar.specs.Items.{pairs_of, holes_in}
use Rattle.tib_grammar.specs.declared.Item.{Item}
use Rattle.tib_grammar.specs.declared.Item.TheVariants.{Label, Hole}
use Rattle.tib_grammar.proofs.Renamed.{preorder-relabel}
use Rattle.tib_grammar.proofs.Holes.{holes_of_items}
use Rattle.tib_transducer.specs.declared.Pair.{Pair}
use Rattle.tib_apply.specs.Backward.{states_at}
use Rattle.tib_apply.specs.BackwardLists.{item_with}

count-same : {A B : Type 0} (g : A → B) (ts : Trees A) → count (relabel g ts) ≡ count ts
count-same g none = refl
count-same g (tree f kids rest) = ap suc (count-same g rest)

module _ {P : Type 0} where
  pairs-with : (f : P → ℕ) (items : List (Item P)) → pairs_of (map (item_with f) items) ≡ map (λ p. (symbol_map f p.0, p.1)) (pairs_of items)
  pairs-with f [] = refl
  pairs-with f (Label g rank ∷ items) = ap (λ xs. (label g, rank) ∷ xs) (pairs-with f items)
  pairs-with f (Hole p ∷ items) = ap (λ xs. (hole (f p), 0) ∷ xs) (pairs-with f items)

  -- the items with numbers are the preorder of the side with numbers
  pub preorder_with : (f : P → ℕ) (s : SideFor ℕ P) (items : List (Item P)) → pairs_of items ≡ preorder_of s → preorder_of (side_map f s) ≡ pairs_of (map (item_with f) items)
  preorder_with f s items e =
      ap (λ n. (symbol_map f s.label, n) ∷ preorder (relabel (symbol_map f) s.kids)) (count-same (symbol_map f) s.kids)
      ∙ ap (λ xs. (symbol_map f s.label, count s.kids) ∷ xs) (preorder-relabel (symbol_map f) s.kids)
      ∙ ap (map (λ p. (symbol_map f p.0, p.1))) (sym e)
      ∙ sym (pairs-with f items)

  holes_first : (x : Item P) (items : List (Item P)) → holes_in (x ∷ items) ≡ holes_in (x ∷ []) ++ holes_in items
  holes_first (Label f rank) items = refl
  holes_first (Hole p) items = refl

  each_first : (Q : P → Type 0) (x : Item P) (items : List (Item P)) → Each Q (holes_in (x ∷ items)) → Each Q (holes_in (x ∷ []))
  each_first Q (Label f rank) items h = tt
  each_first Q (Hole p) items h = (h.0, tt)

  each_rest : (Q : P → Type 0) (x : Item P) (items : List (Item P)) → Each Q (holes_in (x ∷ items)) → Each Q (holes_in items)
  each_rest Q (Label f rank) items h = h
  each_rest Q (Hole p) items h = h.1

  -- what holds of all that items carry holds of what one of them carries
  pub each_item : (Q : P → Type 0) (items : List (Item P)) (i : ℕ) (d : Item P) → i < length items → Each Q (holes_in items) → Each Q (holes_in (get_or items i d ∷ []))
  each_item Q [] i d b h = absurd (omega arith)
  each_item Q (x ∷ items) zero d b h = each_first Q x items h
  each_item Q (x ∷ items) (suc i) d b h = each_item Q items i d (omega arith) (each_rest Q x items h)

  -- what the items up to a place carry, and the item there
  pub holes_more : (items : List (Item P)) (i : ℕ) (d : Item P) → i < length items → holes_in (take (suc i) items) ≡ holes_in (take i items) ++ holes_in (get_or items i d ∷ [])
  holes_more [] i d b = absurd (omega arith)
  holes_more (x ∷ items) zero d b = refl
  holes_more (Label f rank ∷ items) (suc i) d b = holes_more items i d (omega arith)
  holes_more (Hole p ∷ items) (suc i) d b = ap (λ xs. p ∷ xs) (holes_more items i d (omega arith))

  -- what the items from a place on carry
  pub holes_from : (items : List (Item P)) (i : ℕ) (d : Item P) → i < length items → holes_in (drop i items) ≡ holes_in (get_or items i d ∷ []) ++ holes_in (drop (suc i) items)
  holes_from [] i d b = absurd (omega arith)
  holes_from (x ∷ items) zero d b = holes_first x items
  holes_from (x ∷ items) (suc i) d b = holes_from items i d (omega arith)

-- one more state, put at the variable of its pair
pub state_put :
    (states : List (ℕ × ℕ)) (count : ℕ) (x : Pair ℕ) (s : ℕ) (xs : List (Pair ℕ)) (ss : List ℕ) → length states ≡ count → x.variable < count →
    ((v : ℕ) → v < count → get_or states v (0, 0) ≡ states_at v xs ss) → (v : ℕ) → v < count → get_or (slice_set states x.variable (x.state, s)) v (0, 0) ≡ states_at v (x ∷ xs) (s ∷ ss)
state_put states count x s xs ss long low had v b = elim (nat_eq_cases v x.variable) [
  | inl k ↦ rw (k.1, k.0) (get_or-set_same states x.variable (x.state, s) (0, 0) (omega (arith, long, low)))
  | inr k ↦ rw k.1 (get_or-set_other states x.variable v (x.state, s) (0, 0) k.0 ∙ had v b)
]

-- the states from a place on
states_from : (ss : List ℕ) (n s : ℕ) → n < length ss → s ≡ get_or ss n 0 → drop n ss ≡ s ∷ drop (suc n) ss
states_from [] n s b e = absurd (omega arith)
states_from (x ∷ ss) zero s b e = ap (λ y. y ∷ ss) (sym e)
states_from (x ∷ ss) (suc n) s b e = states_from ss n s (omega arith) e

drop_fits : {P : Type 0} (items : List (Item P)) (n : ℕ) → length (holes_in (drop n items)) ≤ length (holes_in items)
drop_fits [] zero = omega arith
drop_fits [] (suc n) = omega arith
drop_fits (x ∷ items) zero = omega arith
drop_fits (Label f rank ∷ items) (suc n) = drop_fits items n
drop_fits (Hole p ∷ items) (suc n) = omega (arith, drop_fits items n)

-- one item earlier, which is a pair
module _
    (items : List (Item (Pair ℕ))) (states : List ℕ) (count j i place : ℕ) (e : i ≡ suc j) (b : j < length items) (x : Pair ℕ) (is : get_or items j (Label 0 0) ≡ Hole x)
    (as_many : length states ≡ length (holes_in items)) (left : place + length (holes_in (drop i items)) ≡ length states) where
  here : holes_in (drop j items) ≡ x ∷ holes_in (drop i items)
  here =
      holes_from items j (Label 0 0) b ∙ ap (λ (y : Item (Pair ℕ)). holes_in (y ∷ []) ++ holes_in (drop (suc j) items)) is ∙ ap (λ n. x ∷ holes_in (drop n items)) (sym e)

  -- there is a state for it
  pub one_left : 1 ≤ place
  one_left = omega (arith, ap length here, drop_fits items j, as_many, left)

  pub place_fits : place - 1 < length states
  place_fits = omega (arith, one_left, left)

  pub pair_fits : Each (λ y. y.variable < count) (holes_in items) → x.variable < count
  pair_fits known = (subst (λ (y : Item (Pair ℕ)). Each (λ y. y.variable < count) (holes_in (y ∷ []))) is (each_item (λ y. y.variable < count) items j (Label 0 0) b known)).0

  pub left_less : place - 1 + length (holes_in (drop j items)) ≡ length states
  left_less = omega (arith, one_left, ap length here, left)

  pub pair_put :
      (by : List (ℕ × ℕ)) → length by ≡ count → Each (λ y. y.variable < count) (holes_in items) →
      ((v : ℕ) → v < count → get_or by v (0, 0) ≡ states_at v (holes_in (drop i items)) (drop place states)) → (v : ℕ) → v < count →
      get_or (slice_set by x.variable (x.state, get_or states (place - 1) 0)) v (0, 0) ≡ states_at v (holes_in (drop j items)) (drop (place - 1) states)
  pair_put by long known had v low =
      let s : ℕ = get_or states (place - 1) 0 in
      let next : suc (place - 1) ≡ place = omega (arith, one_left) in
      let from : drop (place - 1) states ≡ s ∷ drop place states = states_from states (place - 1) s place_fits refl ∙ ap (λ n. s ∷ drop n states) next in
      state_put by count x s (holes_in (drop i items)) (drop place states) long (pair_fits known) had v low
      ∙ ap (λ ys. states_at v ys (s ∷ drop place states)) (sym here) ∙ ap (states_at v (holes_in (drop j items))) (sym from)

-- the items with numbers, one more
pub with_more : {P : Type 0} (f : P → ℕ) (items : List (Item P)) (i : ℕ) (x : Item ℕ) (now next : List (Item ℕ)) → i < length items → now ≡ map (item_with f) (take i items) →
    x ≡ item_with f (get_or items i (Label 0 0)) → next ≡ now ++ x ∷ [] → next ≡ map (item_with f) (take (i + 1) items)
with_more f items i x now next b was is e =
    e ∙ ap (λ (xs : List (Item ℕ)). xs ++ x ∷ []) was ∙ ap (λ (y : Item ℕ). map (item_with f) (take i items) ++ y ∷ []) is ∙ sym (map_more (item_with f) items i (Label 0 0) b)

-- the keys of one more item
pub keys_more :
    {P K : Type 0} (f : P → K) (items : List (Item P)) (i : ℕ) (before now next : List K) → i < length items → now ≡ before ++ map f (holes_in (take i items)) →
    next ≡ now ++ map f (holes_in (get_or items i (Label 0 0) ∷ [])) → next ≡ before ++ map f (holes_in (take (i + 1) items))
keys_more f items i before now next b was e =
    let x = get_or items i (Label 0 0) in
    e ∙ ap (λ xs. xs ++ map f (holes_in (x ∷ []))) was ∙ append_assoc before (map f (holes_in (take i items))) (map f (holes_in (x ∷ [])))
    ∙ ap (λ xs. before ++ xs) (sym (map-append f (holes_in (take i items)) (holes_in (x ∷ []))) ∙ ap (map f) (sym (holes_more items i (Label 0 0) b)) ∙ ap (λ n. map f (holes_in (take n items))) (sym (add-one i)))

-- the side of all items with numbers
pub side_with :
    {P : Type 0} (f : P → ℕ) (s : SideFor ℕ P) (items : List (Item P)) (i : ℕ) (now : List (Item ℕ)) (side : SideFor ℕ ℕ) → pairs_of items ≡ preorder_of s → length items ≤ i →
    now ≡ map (item_with f) (take i items) → ((t : SideFor ℕ ℕ) → preorder_of t ≡ pairs_of now → side ≡ t) → side ≡ side_map f s
side_with f s items i now side is all e one = one (side_map f s) (preorder_with f s items is ∙ ap (λ (xs : List (Item _)). pairs_of (map (item_with f) xs)) (sym (take_all i items all)) ∙ ap pairs_of (sym e))

-- the items with numbers are few where the items are
pub items_few :
    {P : Type 0} (f : P → ℕ) (items : List (Item P)) (i : ℕ) (now : List (Item ℕ)) → length items ≤ i → now ≡ map (item_with f) (take i items) → length items < 2 ^ 32 → length now < 2 ^ 32
items_few f items i now all e few = omega (arith, ap (λ (xs : List (Item ℕ)). length xs) e, length_map (item_with f) (take i items), ap (λ (xs : List (Item _)). length xs) (take_all i items all), few)

-- the items are those of the side over numbers
pub side_there :
    {P : Type 0} (f : P → ℕ) (s : SideFor ℕ P) (items : List (Item P)) (i : ℕ) (now : List (Item ℕ)) → pairs_of items ≡ preorder_of s → length items ≤ i →
    now ≡ map (item_with f) (take i items) → (t : SideFor ℕ ℕ) × (preorder_of t ≡ pairs_of now)
side_there f s items i now is all e = (side_map f s, preorder_with f s items is ∙ ap (λ (xs : List (Item _)). pairs_of (map (item_with f) xs)) (sym (take_all i items all)) ∙ ap pairs_of (sym e))

-- what holds of all that a side carries holds of what one of its items carries
pub each_of_side :
    {P : Type 0} (Q : P → Type 0) (s : SideFor ℕ P) (items : List (Item P)) (i : ℕ) → pairs_of items ≡ preorder_of s → i < length items → Each Q (holes_of s) →
    Each Q (holes_in (get_or items i (Label 0 0) ∷ []))
each_of_side Q s items i is b h = each_item Q items i (Label 0 0) b (subst (Each Q) (holes_of_items items s is) h)
