-- The first k members of a set in an order.
use Rattle.std.specs.Prelude.{◌≡◌, ℕ, ◌≤◌, ◌⊎◌, List, length}
use Rattle.tib_lex.specs.Lists.{Has, Each, Ascends}

-- a strict order
pub record IsStrict {A : Type 0} (Before : A → A → Type 0) : Type 0 where
  pub apart : (x y : A) → Before x y → Before y x → ⊥
  pub carries : (x y z : A) → Before x y → Before y z → Before x z

-- x is y or comes before it
abbrev pub NoLater : {A : Type 0} → (A → A → Type 0) → A → A → Type 0
NoLater Before x y = (x ≡ y) ⊎ Before x y

-- The list is the first k members of a set, or all if there are fewer.
pub record IsFirst {A : Type 0} (Member : A → Type 0) (Before : A → A → Type 0) (k : ℕ)
    (xs : List A) : Type 0 where
  pub members : Each Member xs
  pub ascends : Ascends Before xs
  pub few : length xs ≤ k
  pub others : (y : A) → Member y → (Has xs y → ⊥) → (length xs ≡ k) × Each (λ x. Before x y) xs

-- The list is a front of the set: its members in order, and every other member comes after them.
pub record IsFront {A : Type 0} (Member : A → Type 0) (Before : A → A → Type 0)
    (xs : List A) : Type 0 where
  pub members : Each Member xs
  pub ascends : Ascends Before xs
  pub others : (y : A) → Member y → (Has xs y → ⊥) → Each (λ x. Before x y) xs

-- c is the first member that is not in the list
pub record IsNext {A : Type 0} (Member : A → Type 0) (Before : A → A → Type 0) (xs : List A)
    (c : A) : Type 0 where
  pub member : Member c
  pub new : Has xs c → ⊥
  pub least : (y : A) → Member y → (Has xs y → ⊥) → NoLater Before c y
