-- The positions of an order by the states of their vectors.
use Rattle.std.specs.Prelude.{◌≡◌, ℕ, ◌<◌, ◌≤◌, nat_eq, if◌then◌else◌, Bool, true, false, List, [], ◌∷◌, ◌++◌, length, map}
use Rattle.std.specs.Global.{Vec}
use Rattle.std.proofs.Common.{get_or}
use Rattle.tib_lex.specs.Lists.{Has, Each}
use Rattle.tib_determinize.specs.Alive.{AreAscending}
use Rattle.tib_determinize.specs.Vectors.{VectorOf, vector_at}

-- the list at the place of a state, empty where there is none
abbrev pub held : {A : Type 0} → List (Vec A) → ℕ → List A
held lists q = get_or (map (λ b. b.items) lists) q []

-- what some lists have, others have
abbrev pub HoldMore : {A : Type 0} → List (Vec A) → List (Vec A) → Type 0
HoldMore {A} old new = (q : ℕ) (p : A) → Has (held old q) p → Has (held new q) p

-- each state has the same list
abbrev pub HoldSame : {A : Type 0} → List (Vec A) → List (Vec A) → Type 0
HoldSame old new = (q : ℕ) → held new q ≡ held old q

-- a state has one more position, as its last
abbrev pub HoldsOneMore : ℕ → ℕ → List (Vec ℕ) → List (Vec ℕ) → Type 0
HoldsOneMore s p old new = (q : ℕ) → held new q ≡ (if nat_eq s q then held old q ++ p ∷ [] else held old q)

-- whether a state is marked
abbrev pub is_marked : List Bool → ℕ → Bool
is_marked marks q = get_or marks q false

-- each list ascends, and has no position above p
abbrev pub AscendUpTo : ℕ → List (Vec ℕ) → Type 0
AscendUpTo p lists = (q : ℕ) → AreAscending (held lists q) × Each (λ x. x ≤ p) (held lists q)

-- the position is now at each marked state of the vector
pub record AddsVector (marks : List Bool) (v : VectorOf) (p : ℕ) (old new : List (Vec ℕ)) : Type 0 where
  pub more : HoldMore old new
  pub own : (q r : ℕ) → is_marked marks q ≡ true → Has v (q, r) → Has (held new q) p
  pub ascend : AscendUpTo p old → AscendUpTo p new

-- each marked state has all positions of the order whose vectors have it, ascending
pub record AreHolders (marks : List Bool) (order : List VectorOf) (lists : List (Vec ℕ)) : Type 0 where
  pub whole : (p q r : ℕ) → is_marked marks q ≡ true → Has {A = ℕ × ℕ} (vector_at order p) (q, r) → Has (held lists q) p
  pub ascend : (q : ℕ) → AreAscending (held lists q)
  pub below : (q : ℕ) → Each (λ x. x < length order) (held lists q)
