-- The states in the right sides of all rules, one after another.
use Rattle.std.specs.Prelude.{◌≡◌, ℕ, ◌<◌, List, [], ◌∷◌, length, nat_eq, if◌then◌else◌}
use Rattle.std.proofs.Common.{get_or}
use Rattle.tib_grammar.specs.Sides.{holes_of}
use Rattle.tib_grammar.specs.Range.{AllBelow, AreInRange}
use Rattle.tib_grammar.specs.Run.{rule_at}
use Rattle.tib_grammar.specs.declared.Rule.{Rule}
use Rattle.tib_inside.specs.declared.holes.Holes.{Holes}
use Rattle.tib_lex.specs.Lists.{occurrences}

-- one where both are the same
abbrev pub one_if_same : ℕ → ℕ → ℕ
one_if_same n m = if nat_eq n m then 1 else 0

-- the owners of the places at which the state q occurs
abbrev pub owners_of : ℕ → List ℕ → List ℕ → List ℕ
owners_of q [] owners = []
owners_of q (p ∷ states) [] = []
owners_of q (p ∷ states) (n ∷ owners) =
    if nat_eq q p then n ∷ owners_of q states owners else owners_of q states owners

-- Each of the first n rules has as many holes as are counted, and owns as many places of a state as
-- its right side has.
pub record AreHolesUpTo (rules : List (Rule ℕ)) (n : ℕ)
    (states owners counts : List ℕ) : Type 0 where
  pub as_many : length owners ≡ length states
  pub counted : length counts ≡ n
  pub counts_are : (m : ℕ) → m < n → get_or counts m 0 ≡ length (holes_of (rule_at rules m).right)
  pub owners_below : AllBelow n owners
  pub states_below : (count : ℕ) → AreInRange count rules → AllBelow count states
  pub each : (q m : ℕ) → m < n → occurrences m (owners_of q states owners)
      ≡ occurrences q (holes_of (rule_at rules m).right)

-- these are the states in the right sides of the rules
abbrev pub AreHolesOf : List (Rule ℕ) → Holes → Type 0
AreHolesOf rules h = AreHolesUpTo rules (length rules) h.states.items h.owners.items h.counts.items
