-- How many members a set has.
use Rattle.std.specs.Prelude.{◌≡◌, ◌↔◌, ℕ, ◌<◌, ◌≤◌, nat_le, if◌then◌else◌, List, length}
use Rattle.tib_lex.specs.Lists.{Has, Distinct}
use Rattle.tib_cost.specs.Semiring.{most}
use Rattle.tib_count.specs.declared.count.Count.{Count}
use Rattle.tib_count.specs.declared.count.Count.TheVariants.{Number, Many, Endless}

-- the list has the members of the set, each once, and no other
pub record AreMembers {A : Type 0} (P : A → Type 0) (xs : List A) : Type 0 where
  pub once : Distinct xs
  pub are : (x : A) → Has xs x ↔ P x

-- a number as a count, which is `Many` above the greatest cost
abbrev pub counted : ℕ → Count
counted n = if nat_le n most then Number n else Many

-- the set has as many members as a list has that has them all
pub record HasMembers {A : Type 0} (P : A → Type 0) (n : ℕ) : Type 0 where
  pub members : List A
  pub are_members : AreMembers P members
  pub many : length members ≡ n

-- no list has the members of the set: whatever members a list has, it leaves one out
abbrev pub IsEndless : {A : Type 0} → (A → Type 0) → Type 0
IsEndless {A} P = (xs : List A) → AreMembers P xs → ⊥

-- the count is that of the members of the set: their number up to the greatest cost, `Many` above
-- it, and `Endless` where no list has them all
abbrev pub IsCountOf : {A : Type 0} → (A → Type 0) → Count → Type 0
IsCountOf P (Number n) = HasMembers P n × (n ≤ most)
IsCountOf P Many = (n : ℕ) × HasMembers P n × (most < n)
IsCountOf P Endless = IsEndless P
