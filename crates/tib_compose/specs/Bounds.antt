-- What translations of the trees of a right-hand side cost at least.
use Rattle.std.specs.Prelude.{◌≡◌, ℕ, ◌&&◌, nat_eq, Bool, List, Option, None, Some, if◌then◌else◌}
use Rattle.std.specs.HashMap.{get}
use Rattle.tib_grammar.specs.Sides.{Symbol}
use Rattle.tib_transducer.specs.declared.Pair.{Pair}
use Rattle.tib_transducer.specs.declared.TransducerRule.{TransducerRule}
use Rattle.tib_key_edges.specs.Pieces.{read}
use Rattle.tib_compose.specs.Pending.{BoundsPiece}
use Rattle.tib_compose.specs.PieceViews.{side_there}
use Rattle.tib_compose.specs.declared.bounds.Bounds.{Bounds}

-- whether two pairs of a node and a state are the same
abbrev pub same_pair : ℕ × ℕ → ℕ × ℕ → Bool
same_pair s t = nat_eq s.0 t.0 && nat_eq s.1 t.1

-- what is not there is 0
abbrev pub or_nothing : Option (Option ℕ) → Option ℕ
or_nothing None = Some 0
or_nothing (Some v) = v

-- the bound of a node and a state
abbrev pub bound_of : Bounds → ℕ → ℕ → Option ℕ
bound_of b i p = or_nothing (get same_pair b.table (i, p))

-- each bound is one of what translates the tree of the node by the state
abbrev pub AreBounds : (ℕ → ℕ → ℕ) → List (TransducerRule ℕ) → List (Symbol ℕ (Pair ℕ) × ℕ) → Bounds → Type 0
AreBounds product two pairs b = (i p : ℕ) → BoundsPiece product two (read (side_there pairs i) p) (bound_of b i p)

-- one bound is set, and the others stay
abbrev pub SetsBound : ℕ → ℕ → Option ℕ → Bounds → Bounds → Type 0
SetsBound node state bound old new =
    (i p : ℕ) → bound_of new i p ≡ (if same_pair (node, state) (i, p) then bound else bound_of old i p)
