-- What the next item of a side makes of partial matches, one after another.
use Rattle.std.specs.Prelude.{◌≡◌, ℕ, nat_eq, List, [], ◌∷◌, ◌++◌, map, reverse, Option, None, Some, if◌then◌else◌}
use Rattle.tib_cost.specs.Semiring.{cut}
use Rattle.tib_grammar.specs.Sides.{holes_of}
use Rattle.tib_grammar.specs.Run.{rule_at}
use Rattle.tib_grammar.specs.declared.Rule.{Rule}
use Rattle.tib_match.specs.PartialMatches.{Partial}
use Rattle.tib_match.specs.declared.partial.Partial.{Partial as Stored}

-- the partial match that is stored with what waits in reverse
abbrev pub partial_of : Stored → Partial
partial_of p = record { cost = p.cost; states = p.states.items; waiting = reverse p.waiting.items }

abbrev pub partials_of : List Stored → List Partial
partials_of ps = map partial_of ps

-- the partial match of a cost, where it is one
abbrev pub at_cost : Option ℕ → List ℕ → List ℕ → List Partial
at_cost None states waiting = []
at_cost (Some c) states waiting = record { cost = c; states = states; waiting = waiting } ∷ []

-- the same with a rule in place of the first state that waits, where the rule leads from there
abbrev pub placed_at : (ℕ → ℕ → ℕ) → Rule ℕ → ℕ → List ℕ → List ℕ → List Partial
placed_at product rule c states [] = []
placed_at product rule c states (q ∷ others) =
    if nat_eq q rule.left then at_cost (cut (product c rule.cost)) states (holes_of rule.right ++ others) else []

abbrev pub placed : (ℕ → ℕ → ℕ) → Rule ℕ → Partial → List Partial
placed product rule p = placed_at product rule p.cost p.states p.waiting

-- what the rules at some positions make of a partial match
abbrev pub all_placed : (ℕ → ℕ → ℕ) → List (Rule ℕ) → Partial → List ℕ → List Partial
all_placed product rules p [] = []
all_placed product rules p (n ∷ ns) = placed product (rule_at rules n) p ++ all_placed product rules p ns

-- in each partial match that waits for the state next, the rules at `found` are placed as those at
-- `all` are
abbrev pub PlaceTheSame : List (Rule ℕ) → ℕ → List ℕ → List ℕ → Type 0
PlaceTheSame rules state all found = (product : ℕ → ℕ → ℕ) (p : Partial) (others : List ℕ) →
    p.waiting ≡ state ∷ others → all_placed product rules p found ≡ all_placed product rules p all

-- and of some partial matches
abbrev pub all_led : (ℕ → ℕ → ℕ) → List (Rule ℕ) → List ℕ → List Partial → List Partial
all_led product rules ns [] = []
all_led product rules ns (p ∷ ps) = all_placed product rules p ns ++ all_led product rules ns ps

-- what a hole makes of a partial match: the first state that waits is there
abbrev pub taken_at : ℕ → List ℕ → List ℕ → List Partial
taken_at c states [] = []
taken_at c states (q ∷ others) = record { cost = c; states = states ++ q ∷ []; waiting = others } ∷ []

abbrev pub taken : Partial → List Partial
taken p = taken_at p.cost p.states p.waiting

-- and of some
abbrev pub all_taken : List Partial → List Partial
all_taken [] = []
all_taken (p ∷ ps) = taken p ++ all_taken ps
