-- The words and pairs of a right side as symbols.
use Rattle.std.proofs.Common.{◌≡◌, ℕ, List, [], ◌∷◌, map, refl, ap}
use Rattle.tib_grammar.specs.Sides.{Symbol}
use Rattle.tib_transducer.specs.declared.Pair.{Pair}
use Rattle.tib_strings.specs.declared.Word.{Word}
use Rattle.tib_strings.specs.RuleValue.{node_of, nodes_of}

-- each by itself
pub nodes_mapped : (ws : List (Word ℕ)) → nodes_of ws ≡ map node_of ws
nodes_mapped [] = refl
nodes_mapped (w ∷ ws) = ap (λ (ss : List (Symbol ℕ (Pair ℕ) × ℕ)). node_of w ∷ ss) (nodes_mapped ws)
