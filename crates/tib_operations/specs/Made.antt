-- What an operation makes, and the limit on its parts.
use Rattle.std.specs.Prelude.{◌≡◌, ◌≤◌, ℕ, ◌⊎◌, length}
pub use Rattle.tib_expand.specs.Reached.{most_parts}
use Rattle.tib_grammar.specs.GrammarOf.{GrammarOf}
use Rattle.tib_normal.specs.Rows.{HasMoreParts, HasFormWithin}
use Rattle.tib_expand.specs.Reached.{IsBeyond}
use Rattle.tib_canon.specs.Constructions.{Construction, HasReachedWithin}
use Rattle.tib_operations.specs.declared.status.Status.{Status}
use Rattle.tib_operations.specs.declared.status.Status.TheVariants as statuses

-- a limit that a command may have
abbrev pub IsLimit : ℕ → Type 0
IsLimit limit = (1 ≤ limit) × (limit ≤ most_parts)

-- What is made: that there is one within the limit, and that each has more parts than the limit.
pub record Made : Type 1 where
  pub within : Type 0
  pub more : Type 0

-- nothing with parts is made
abbrev pub nothing : Made
nothing = record { within = Unit {0}; more = ⊥ }

-- two things are made: both are within the limit, or one of them has more parts
abbrev pub and_then : Made → Made → Made
and_then one two = record { within = one.within × two.within; more = one.more ⊎ two.more }

-- the normal form of a grammar
abbrev pub normal_form : (ℕ → ℕ → ℕ) → ℕ → GrammarOf → Made
normal_form product limit g = record {
  within = HasFormWithin product (length g.names) g.rules limit;
  more = HasMoreParts product (length g.names) g.rules limit;
}

-- values that were made have a reached set within the limit
pub record HasReachedFrom {W K O : Type 0} (limit : ℕ) (IsMade : W → Type 0) (constructing : W → Construction K O) : Type 0 where
  pub from : W
  pub is_made : IsMade from
  pub set : HasReachedWithin (constructing from).problem limit

-- the reached set of a construction from values that were made
abbrev pub reached_set : {W K O : Type 0} → ℕ → (W → Type 0) → (W → Construction K O) → Made
reached_set {W} limit IsMade constructing = record {
  within = HasReachedFrom limit IsMade constructing;
  more = (from : W) → IsMade from → IsBeyond (constructing from).problem limit;
}

-- what is made has more parts than the limit, or memory was refused
abbrev pub IsMadeFault : Type 0 → ℕ → Status → Type 0
IsMadeFault more limit (statuses.TooMany n) = (n ≡ limit) × more
IsMadeFault more limit statuses.OutOfMemory = Unit {0}
IsMadeFault more limit status = ⊥
