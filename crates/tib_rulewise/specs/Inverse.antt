-- The inverse of a transducer: it reads what the transducer outputs, and outputs what that reads.
use Rattle.std.specs.Prelude.{◌↔◌, ℕ, nat_eq, if◌then◌else◌, List, [], ◌∷◌, map, Option}
use Rattle.std.proofs.Common.{suc, get_or}
use Rattle.tib_tree.specs.Trees.{Tree}
use Rattle.tib_grammar.specs.Sides.{holes_of, side_map}
use Rattle.tib_transducer.specs.Series.{IsTransducerSeriesAt}
use Rattle.tib_transducer.specs.TransducerOf.{TransducerOf}
use Rattle.tib_transducer.specs.declared.Variable.{Variable}
use Rattle.tib_transducer.specs.declared.Pair.{Pair}
use Rattle.tib_transducer.specs.declared.TransducerRule.{TransducerRule}
use Rattle.tib_rulewise.specs.Placed.{placed_side, plain_variable}

-- what is read past the last pair
abbrev pub no_pair : Pair ℕ
no_pair = record { state = 0; variable = 0 }

-- the place of a variable among pairs: that of the first pair that has it, counted from 0
abbrev pub place_of : List (Pair ℕ) → ℕ → ℕ
place_of [] number = 0
place_of (x ∷ xs) number = if nat_eq number x.variable then 0 else suc (place_of xs number)

-- a pair becomes the variable with the number of its place
abbrev pub variable_at : ℕ → Pair ℕ → Variable
variable_at place x = plain_variable place

-- a variable becomes the pair of the state that is with it among pairs, and of its place there
abbrev pub pair_for : List (Pair ℕ) → Variable → Pair ℕ
pair_for pairs x = record {
  state = (get_or pairs (place_of pairs x.number) no_pair).state;
  variable = place_of pairs x.number;
}

-- The inverse of a rule: its sides change places. The pairs of the right-hand side become the
-- variables 0, 1 and so on, in preorder, and each variable of the left-hand side becomes the pair
-- of its state on the right and of its new number.
abbrev pub inverse_rule : TransducerRule ℕ → TransducerRule ℕ
inverse_rule r = record {
  state = r.state;
  left = placed_side variable_at r.right;
  right = side_map (pair_for (holes_of r.right)) r.left;
  cost = r.cost;
}

-- the inverse of a transducer has the inverses of its rules, in their order, over the same states
abbrev pub inverse_of : TransducerOf → TransducerOf
inverse_of t = record { names = t.names; rules = map inverse_rule t.rules }

-- the one transducer gives u and t the cost that the other gives t and u; so it does from each
-- state
abbrev pub GivesInversely : (ℕ → ℕ → ℕ) → List (TransducerRule ℕ) → List (TransducerRule ℕ) →
    Type 0
GivesInversely product rules inverse =
    (p : ℕ) (t u : Tree ℕ) (v : Option ℕ) →
    IsTransducerSeriesAt product inverse p u t v ↔ IsTransducerSeriesAt product rules p t u v
