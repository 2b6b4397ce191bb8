-- What the composition of two transducers returns.
use Rattle.std.specs.Prelude.{◌≡◌, ℕ, ◌≤◌, List, length, map, true, false}
use Rattle.tib_lex.specs.Lists.{Each}
use Rattle.tib_cost.specs.Semiring.{most}
use Rattle.tib_expand.specs.Reached.{IsReachedSet, parts_of}
use Rattle.tib_expand.specs.declared.found.Found.{Found}
use Rattle.tib_key_edges.specs.Ends.{key_at}
use Rattle.tib_transducer.specs.Range.{AreShaped, AreWithin}
use Rattle.tib_transducer.specs.Rules.{transducer_rule}
use Rattle.tib_transducer.specs.declared.TransducerRule.{TransducerRule}
use Rattle.tib_transducer.specs.Outside.{demands, AllMeet, IsFirstOutside}
use Rattle.tib_key_edges.specs.Composition.{composition}
use Rattle.tib_key_edges.specs.Named.{named_transducer_rule}
use Rattle.tib_compose.specs.declared.error.ComposeError.{ComposeError}
use Rattle.tib_compose.specs.declared.error.ComposeError.TheVariants.{Class, TooMany, OutOfMemory}

-- the edges that the rules stand for over the order
abbrev pub edges_over : Found (ℕ × ℕ) (TransducerRule ℕ) → List (TransducerRule (ℕ × ℕ))
edges_over found = map (named_transducer_rule (key_at found.order.items)) found.rules.items

-- the order and the edges are the reached set of the composition
abbrev pub IsReachedBy : (ℕ → ℕ → ℕ) → List (TransducerRule ℕ) → List (TransducerRule ℕ) → Found (ℕ × ℕ) (TransducerRule ℕ) → Type 0
IsReachedBy product one two found = IsReachedSet (composition product one two) found.order.items (edges_over found)

-- the parts are those of the pairs and of the edges
abbrev pub HasPartsOf : (ℕ → ℕ → ℕ) → List (TransducerRule ℕ) → List (TransducerRule ℕ) → Found (ℕ × ℕ) (TransducerRule ℕ) → Type 0
HasPartsOf product one two found = found.parts ≡ parts_of (composition product one two) found.order.items (edges_over found)

-- the rules are over positions of the order
abbrev pub AreOverOrder : Found (ℕ × ℕ) (TransducerRule ℕ) → Type 0
AreOverOrder found = AreWithin (length found.order.items) found.rules.items

-- Why nothing is returned: the first rule of the second transducer outside the classes that are
-- demanded; where each rule is of them, a limit that each reached set exceeds; or out of memory.
abbrev pub IsComposeFault : List (TransducerRule ℕ) → ℕ → Type 0 → ComposeError → Type 0
IsComposeFault two limit Beyond (Class rule fault) = IsFirstOutside (demands true true true true false) two (rule, fault)
IsComposeFault two limit Beyond (TooMany n) = (n ≡ limit) × AllMeet (demands true true true true false) two × Beyond
IsComposeFault two limit Beyond OutOfMemory = Unit {0}
