-- The items of a right-hand side with what is read at the place of each state.
use Rattle.std.specs.Prelude.{◌≡◌, ℕ, ◌+◌, ◌<◌, ◌≤◌, List, [], ◌∷◌, length, take, refl}
use Rattle.std.proofs.Common.{zero, suc, arith, ap, sym, ◌∙◌, get_or}
use Rattle.tib_grammar.specs.Items.{holes_in}
use Rattle.tib_grammar.specs.declared.Item.{Item}
use Rattle.tib_grammar.specs.declared.Item.TheVariants.{Label, Hole}
use Rattle.tib_transducer.specs.declared.Pair.{Pair}
use Rattle.tib_rulewise.specs.Placed.{placed_items, item_with}
use Rattle.tib_rulewise.specs.Derivations.{read_from}

module _ {P Q : Type 0} (g : ℕ → P → Q) where
  pub length-placed_items : (n : ℕ) (items : List (Item P)) → length (placed_items g n items) ≡ length items
  length-placed_items n [] = refl
  length-placed_items n (Label f rank ∷ items) = ap suc (length-placed_items n items)
  length-placed_items n (Hole p ∷ items) = ap suc (length-placed_items (suc n) items)

  -- the item at a place
  pub placed_at :
      (n : ℕ) (items : List (Item P)) (i : ℕ) (d : Item P) (e : Item Q) → i < length items →
      get_or (placed_items g n items) i e ≡ item_with (g (n + length (holes_in (take i items)))) (get_or items i d)
  placed_at n [] i d e b = absurd (omega arith)
  placed_at n (Label f rank ∷ items) zero d e b = refl
  placed_at n (Hole p ∷ items) zero d e b = let m : n ≡ n + 0 = omega arith in ap (λ k. Hole (g k p)) m
  placed_at n (Label f rank ∷ items) (suc i) d e b = placed_at n items i d e (omega arith)
  placed_at n (Hole p ∷ items) (suc i) d e b =
      let k : ℕ = length (holes_in (take i items)) in
      let m : suc n + k ≡ n + suc k = omega arith in
      placed_at (suc n) items i d e (omega arith) ∙ ap (λ j. item_with (g j) (get_or items i d)) m

-- how many holes there are up to a place and at it
pub holes_on : {P : Type 0} (items : List (Item P)) (i : ℕ) (d : Item P) → i < length items → length (holes_in (take (i + 1) items)) ≡ length (holes_in (take i items)) + length (holes_in (get_or items i d ∷ []))
holes_on [] i d b = absurd (omega arith)
holes_on (Label f rank ∷ items) zero d b = refl
holes_on (Hole p ∷ items) zero d b = refl
holes_on (Label f rank ∷ items) (suc i) d b =
    let e : suc i + 1 ≡ suc (i + 1) = omega arith in
    ap (λ m. length (holes_in (take m (Label f rank ∷ items)))) e ∙ holes_on items i d (omega arith)
holes_on (Hole p ∷ items) (suc i) d b =
    let e : suc i + 1 ≡ suc (i + 1) = omega arith in
    let x : ℕ = length (holes_in (take i items)) in
    let y : ℕ = length (holes_in (get_or items i d ∷ [])) in
    let f : suc (x + y) ≡ suc x + y = omega arith in
    ap (λ m. length (holes_in (take m (Hole p ∷ items)))) e ∙ ap suc (holes_on items i d (omega arith)) ∙ f

-- they are no more than the items
pub holes_few : {P : Type 0} (items : List (Item P)) → length (holes_in items) ≤ length items
holes_few [] = omega arith
holes_few (Label f rank ∷ items) = omega (arith, holes_few items)
holes_few (Hole p ∷ items) = omega (arith, holes_few items)

-- the item at a place, read from the variable with the number of holes before it
pub item_placed :
    (items : List (Item ℕ)) (i variable : ℕ) (item : Item ℕ) (e : Item (Pair ℕ)) → i < length items → variable ≡ length (holes_in (take i items)) → item ≡ get_or items i (Label 0 0) →
    item_with (read_from variable) item ≡ get_or (placed_items read_from 0 items) i e
item_placed items i variable item e b v is =
    let m : 0 + length (holes_in (take i items)) ≡ variable = omega (arith, v) in
    ap (item_with (read_from variable)) is ∙ sym (placed_at read_from 0 items i (Label 0 0) e b ∙ ap (λ j. item_with (read_from j) (get_or items i (Label 0 0))) m)

-- the number of holes before the next place
pub holes_after :
    (items : List (Item ℕ)) (i variable later : ℕ) (item : Item ℕ) → i < length items → variable ≡ length (holes_in (take i items)) → item ≡ get_or items i (Label 0 0) → later ≡ variable + length (holes_in (item ∷ [])) →
    later ≡ length (holes_in (take (i + 1) items))
holes_after items i variable later item b v is e = omega (arith, e, v, ap (λ (x : Item ℕ). length (holes_in (x ∷ []))) is, holes_on items i (Label 0 0) b)
