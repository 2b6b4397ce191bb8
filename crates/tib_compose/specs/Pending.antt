-- What is left to be put out, and what it costs at least.
use Rattle.std.specs.Prelude.{◌≡◌, ℕ, ◌-◌, ◌<◌, ◌≤◌, List, [], ◌∷◌, ◌++◌, length, Option, None, Some}
use Rattle.std.proofs.Common.{get_or}
use Rattle.tib_lex.specs.Lists.{Each, Has}
use Rattle.tib_tree.specs.Trees.{Trees}
use Rattle.tib_grammar.specs.Sides.{Symbol}
use Rattle.tib_cost.specs.Semiring.{most}
use Rattle.tib_transducer.specs.declared.Pair.{Pair}
use Rattle.tib_transducer.specs.declared.TransducerRule.{TransducerRule}
use Rattle.tib_key_edges.specs.Translations.{choice_cost}
use Rattle.tib_key_edges.specs.Choices.{choices_of}
use Rattle.tib_key_edges.specs.Completions.{completions}
use Rattle.tib_key_edges.specs.Pieces.{Piece as PieceOf, put, read, sides_of, states_of}
use Rattle.tib_compose.specs.PieceViews.{piece_of}
use Rattle.tib_compose.specs.declared.pending.Piece.{Piece}
use Rattle.tib_compose.specs.declared.pending.Piece.TheVariants.{Put, Read}
use Rattle.tib_compose.specs.declared.pending.PendingPiece.{PendingPiece}
use Rattle.tib_compose.specs.declared.pending.Pending.{Pending}

-- the number is at least the bound, and above the greatest cost where this is none
abbrev pub IsAtLeast : Option ℕ → ℕ → Type 0
IsAtLeast None n = most < n
IsAtLeast (Some m) n = m ≤ n

-- the task at a place
abbrev pub task_at : List PendingPiece → ℕ → PendingPiece
task_at tasks i = get_or tasks i (record { piece = Put 0 0; rest = 0; bound = None })

module _ (product : ℕ → ℕ → ℕ) (two : List (TransducerRule ℕ)) where
  -- a label costs nothing, and each choice for a side at least the bound
  abbrev pub BoundsPiece : PieceOf → Option ℕ → Type 0
  BoundsPiece (put f n) v = v ≡ Some 0
  BoundsPiece (read s p) v = (c : Trees (Option ℕ)) → Has (choices_of two p s) c → IsAtLeast v (choice_cost product two c)

  -- each choice for some pieces costs at least the bound
  abbrev pub BoundsAll : List PieceOf → Option ℕ → Type 0
  BoundsAll ws v = (c : Trees (Option ℕ)) → Has (completions two (sides_of ws) (states_of ws)) c → IsAtLeast v (choice_cost product two c)

  module _ (pairs : List (Symbol ℕ (Pair ℕ) × ℕ)) where
    -- the pieces from the task of a number on, each with a bound of what is left from there
    abbrev pub Stands : List PendingPiece → ℕ → List PieceOf → Type 0
    Stands tasks n [] = n ≡ 0
    Stands tasks n (w ∷ ws) =
        (0 < n)
        × (n ≤ length tasks)
        × (piece_of pairs (task_at tasks (n - 1)).piece ≡ w)
        × ((task_at tasks (n - 1)).rest < n)
        × BoundsAll (w ∷ ws) (task_at tasks (n - 1)).bound
        × Stands tasks (task_at tasks (n - 1)).rest ws

    -- these pieces are left
    abbrev pub Holds : Pending → List PieceOf → Type 0
    Holds pending ws = Stands pending.tasks.items pending.next ws

-- the node of a piece is below n
abbrev pub IsNodeBelow : ℕ → Piece → Type 0
IsNodeBelow n (Put f rank) = Unit {0}
IsNodeBelow n (Read i p) = i < n

-- so is that of each task
abbrev pub AreNodesBelow : ℕ → List PendingPiece → Type 0
AreNodesBelow n tasks = Each (λ (t : PendingPiece). IsNodeBelow n t.piece) tasks

-- the list is the front of another
abbrev pub Extends : {A : Type 0} → List A → List A → Type 0
Extends {A} old new = (more : List A) × (new ≡ old ++ more)

-- the next piece is taken, if one is left
abbrev pub TakesNext : Pending → Pending → Option Piece → Type 0
TakesNext old new None =
    (new.tasks ≡ old.tasks)
    × ((product : ℕ → ℕ → ℕ) (two : List (TransducerRule ℕ)) (pairs : List (Symbol ℕ (Pair ℕ) × ℕ)) (ws : List PieceOf) → Holds product two pairs old ws → ws ≡ [])
TakesNext old new (Some piece) =
    (new.tasks ≡ old.tasks)
    × (new.next < old.next)
    × ((product : ℕ → ℕ → ℕ) (two : List (TransducerRule ℕ)) (pairs : List (Symbol ℕ (Pair ℕ) × ℕ)) (ws : List PieceOf) → Holds product two pairs old ws →
    (rest : List PieceOf) × (ws ≡ piece_of pairs piece ∷ rest) × Holds product two pairs new rest)
    × ((n : ℕ) → AreNodesBelow n old.tasks.items → IsNodeBelow n piece)

-- a piece comes before what was left
abbrev pub IsPushed : (ℕ → ℕ → ℕ) → Piece → Option ℕ → Pending → Pending → Type 0
IsPushed product piece bound old new =
    Extends old.tasks.items new.tasks.items
    × ((two : List (TransducerRule ℕ)) (pairs : List (Symbol ℕ (Pair ℕ) × ℕ)) (ws : List PieceOf) → BoundsPiece product two (piece_of pairs piece) bound →
    Holds product two pairs old ws → Holds product two pairs new (piece_of pairs piece ∷ ws))
    × ((n : ℕ) → AreNodesBelow n old.tasks.items → IsNodeBelow n piece → AreNodesBelow n new.tasks.items)
