-- Places of values in a list, and rules over these places.
use Rattle.std.proofs.Common.{◌≡◌, ◌⊎◌, ℕ, ◌<◌, List, [], ◌∷◌, length, map, get_or, refl, ap, sym, ◌∙◌, subst, arith, suc, inl, inr}
use Rattle.tib_lex.specs.Lists.{Has}
use Rattle.tib_tree.specs.Trees.{Trees, none, tree, only, relabel, first_of}
use Rattle.tib_grammar.specs.Sides.{Symbol, label, hole, holes, holes_of, side_map, symbol_map, HolesAreLeaves}
use Rattle.tib_grammar.specs.GrammarOf.{named_rule}
use Rattle.tib_grammar.specs.Range.{AllBelow, IsInRange}
use Rattle.tib_grammar.specs.declared.Rule.{Rule}
use Rattle.tib_grammar.proofs.Sides.{holes-relabel}
use Rattle.tib_lex.proofs.Members.{has_left, has_right}

abbrev pub place_by : {A B : Type 0} → A ⊎ B → ℕ → ℕ
place_by (inl e) n = 0
place_by (inr other) n = suc n

-- the place of a value, if each two can be told apart
abbrev pub place_in : {A : Type 0} → ((x y : A) → (x ≡ y) ⊎ (x ≡ y → ⊥)) → List A → A → ℕ
place_in same [] q = 0
place_in same (p ∷ xs) q = place_by (same p q) (place_in same xs q)

-- q is at this place
pub record StandsAt {A : Type 0} (d : A) (xs : List A) (q : A) (i : ℕ) : Type 0 where
  pub within : i < length xs
  pub is : get_or xs i d ≡ q

stands_first :
    {A : Type 0} (d p q : A) (xs : List A) (either : (p ≡ q) ⊎ (p ≡ q → ⊥)) (i : ℕ) → (Has xs q → StandsAt d xs q i) → Has (p ∷ xs) q → StandsAt d (p ∷ xs) q (place_by either i)
stands_first d p q xs (inl e) i f h = record { within = omega arith; is = e }
stands_first d p q xs (inr other) i f (inl e) = absurd (other e)
stands_first d p q xs (inr other) i f (inr k) = let s = f k in record { within = omega (arith, s.within); is = s.is }

pub stands_at : {A : Type 0} (same : (x y : A) → (x ≡ y) ⊎ (x ≡ y → ⊥)) (d : A) (xs : List A) (q : A) → Has xs q → StandsAt d xs q (place_in same xs q)
stands_at same d [] q h = absurd h
stands_at same d (p ∷ xs) q h = stands_first d p q xs (same p q) (place_in same xs q) (stands_at same d xs q) h

all_mapped : {A : Type 0} (n : ℕ) (f : A → ℕ) (qs : List A) → ((q : A) → Has qs q → f q < n) → AllBelow n (map f qs)
all_mapped n f [] h = tt
all_mapped n f (q ∷ qs) h = (h q (inl refl), all_mapped n f qs (λ p k. h p (inr k)))

pub map_back : {A B C : Type 0} (g : B → C) (f : A → B) (h : A → C) (xs : List A) → ((x : A) → Has xs x → g (f x) ≡ h x) → map g (map f xs) ≡ map h xs
map_back g f h [] e = refl
map_back g f h (x ∷ xs) e = ap (λ y. y ∷ map g (map f xs)) (e x (inl refl)) ∙ ap (λ ys. h x ∷ ys) (map_back g f h xs (λ y k. e y (inr k)))

pub map_itself : {A B : Type 0} (g : B → A) (f : A → B) (xs : List A) → ((x : A) → Has xs x → g (f x) ≡ x) → map g (map f xs) ≡ xs
map_itself g f [] e = refl
map_itself g f (x ∷ xs) e = ap (λ y. y ∷ map g (map f xs)) (e x (inl refl)) ∙ ap (λ ys. x ∷ ys) (map_itself g f xs (λ y k. e y (inr k)))

module _ {P Q : Type 0} (f : P → Q) (g : Q → P) where
  relabel_back : (ts : Trees (Symbol ℕ P)) → ((q : P) → Has (holes ts) q → g (f q) ≡ q) → HolesAreLeaves ts → relabel (symbol_map g) (relabel (symbol_map f) ts) ≡ ts
  relabel_back none h l = refl
  relabel_back (tree (label x) kids rest) h l =
      ap (λ ks. tree (label x) ks (relabel (symbol_map g) (relabel (symbol_map f) rest))) (relabel_back kids (λ q k. h q (has_left (holes kids) (holes rest) q k)) l.0)
      ∙ ap (tree (label x) kids) (relabel_back rest (λ q k. h q (has_right (holes kids) (holes rest) q k)) l.1)
  relabel_back (tree (hole p) none rest) h l =
      ap (λ z. tree (hole z) none (relabel (symbol_map g) (relabel (symbol_map f) rest))) (h p (inl refl)) ∙ ap (tree (hole p) none) (relabel_back rest (λ q k. h q (inr k)) l)
  relabel_back (tree (hole p) (tree s kids more) rest) h l = absurd l

  -- a rule whose states come back is the rule
  rule_back : (d : Symbol ℕ P) (r : Rule P) → g (f r.left) ≡ r.left → ((q : P) → Has (holes_of r.right) q → g (f q) ≡ q) → HolesAreLeaves (only r.right) → named_rule g (named_rule f r) ≡ r
  rule_back d r a h l =
      let side : side_map g (side_map f r.right) ≡ r.right = ap (first_of d) (relabel_back (only r.right) h l) in
      ap (λ z. record { left = z; right = side_map g (side_map f r.right); cost = r.cost }) a ∙ ap (λ s. record { left = r.left; right = s; cost = r.cost }) side

-- a rule over the values of a list, with places instead of them
module _ {A : Type 0} (same : (x y : A) → (x ≡ y) ⊎ (x ≡ y → ⊥)) (d : A) (xs : List A) (r : Rule A) (left : Has xs r.left) (right : (q : A) → Has (holes_of r.right) q → Has xs q) where
  pub placed_in_range : IsInRange (length xs) (named_rule (place_in same xs) r)
  placed_in_range = (
    (stands_at same d xs r.left left).within,
    subst (AllBelow (length xs)) (sym (holes-relabel (place_in same xs) (only r.right)))
        (all_mapped (length xs) (place_in same xs) (holes_of r.right) (λ q k. (stands_at same d xs q (right q k)).within)),
  )

  pub placed_back : HolesAreLeaves (only r.right) → named_rule (λ i. get_or xs i d) (named_rule (place_in same xs) r) ≡ r
  placed_back leaves =
      rule_back (place_in same xs) (λ i. get_or xs i d) (label 0) r (stands_at same d xs r.left left).is (λ q k. (stands_at same d xs q (right q k)).is) leaves
