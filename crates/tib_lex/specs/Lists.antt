-- Members of lists, and relations between lists.
use Rattle.std.specs.Prelude.{◌≡◌, ◌⊎◌, ◌+◌, ℕ, nat_eq, if◌then◌else◌, List, [], ◌∷◌}

-- x is in the list
abbrev pub Has : {A : Type 0} → List A → A → Type 0
Has [] x = ⊥
Has (y ∷ ys) x = (y ≡ x) ⊎ Has ys x

-- P holds of each
abbrev pub Each : {A : Type 0} → (A → Type 0) → List A → Type 0
Each P [] = Unit {0}
Each P (x ∷ xs) = P x × Each P xs

-- no value occurs twice
abbrev pub Distinct : {A : Type 0} → List A → Type 0
Distinct [] = Unit {0}
Distinct (x ∷ xs) = (Has xs x → ⊥) × Distinct xs

-- each comes before those after it
abbrev pub Ascends : {A : Type 0} → (A → A → Type 0) → List A → Type 0
Ascends Before [] = Unit {0}
Ascends Before (x ∷ xs) = Each (Before x) xs × Ascends Before xs

-- R holds of each value and the one at its place in the other list
abbrev pub Along : {A B : Type 0} → (A → B → Type 0) → List A → List B → Type 0
Along R [] [] = Unit {0}
Along R [] (y ∷ ys) = ⊥
Along R (x ∷ xs) [] = ⊥
Along R (x ∷ xs) (y ∷ ys) = R x y × Along R xs ys

-- two lists have the same members in some order, and no member twice
pub record IsReordering {A : Type 0} (xs ys : List A) : Type 0 where
  pub to : (x : A) → Has xs x → Has ys x
  pub from : (x : A) → Has ys x → Has xs x
  pub once_first : Distinct xs
  pub once_second : Distinct ys

-- f of each member, added up (std's `sum_by`, written so that it computes on the first member)
abbrev pub total : {A : Type 0} → (A → ℕ) → List A → ℕ
total f [] = 0
total f (x ∷ xs) = f x + total f xs

-- how often n occurs in the list
abbrev pub occurrences : ℕ → List ℕ → ℕ
occurrences n [] = 0
occurrences n (m ∷ ms) = (if nat_eq n m then 1 else 0) + occurrences n ms
