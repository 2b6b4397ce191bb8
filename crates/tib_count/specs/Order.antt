-- An order of the states in which each comes after those that it leads to, and the search for it.
use Rattle.std.specs.Prelude.{◌≡◌, ℕ, ◌+◌, ◌<◌, ◌≤◌, List, [], ◌∷◌, length, take, Bool, true, false}
use Rattle.std.proofs.Common.{get_or}
use Rattle.tib_lex.specs.Lists.{Has, Distinct}
use Rattle.tib_grammar.specs.Range.{AreBelow}
use Rattle.tib_count.specs.Edges.{IsEdge}
use Rattle.tib_inside.specs.Links.{IsNext}
use Rattle.tib_count.specs.declared.order.Phase.{Phase}
use Rattle.tib_count.specs.declared.order.Phase.TheVariants.{Unseen, Begun, Settled}

-- states below the count with the start among them, each after all that it leads to
pub record IsOrder (Leads : ℕ → ℕ → Type 0) (count : ℕ) (order : List ℕ) : Type 0 where
  pub start : Has order 0
  pub below : AreBelow count order
  pub after : (k p : ℕ) → k < length order → Leads (get_or order k 0) p → Has (take k order) p

-- states with the start among them, each of which leads to one of them
pub record IsCircle (Leads : ℕ → ℕ → Type 0) : Type 0 where
  pub states : List ℕ
  pub start : Has states 0
  pub leads : (q : ℕ) → Has states q → (p : ℕ) × Leads q p × Has states p

-- each state of a list leads to the one after it
abbrev pub IsPath : (ℕ → ℕ → Type 0) → List ℕ → Type 0
IsPath Leads [] = Unit {0}
IsPath Leads (q ∷ []) = Unit {0}
IsPath Leads (q ∷ (p ∷ path)) = Leads q p × IsPath Leads (p ∷ path)

-- the state q is in that phase
abbrev pub IsAt : List Phase → ℕ → Phase → Type 0
IsAt phases q phase = get_or phases q Unseen ≡ phase

-- i is a place of q or the end, and what q leads to at its places before i is settled
pub record IsCursor (froms tos : List ℕ) (phases : List Phase) (q i : ℕ) : Type 0 where
  pub within : i ≤ length froms
  pub own : i < length froms → get_or froms i 0 ≡ q
  pub settled : (n : ℕ) → n < i → get_or froms n 0 ≡ q → IsAt phases (get_or tos n 0) Settled

-- What is kept while the search is at the end of the path: what is settled is in the order, each
-- state after those that it leads to, and what is begun is on the path, which begins at the start.
pub record IsSearching (froms tos : List ℕ) (phases : List Phase)
    (cursors path order : List ℕ) : Type 0 where
  pub long : length cursors ≡ length phases
  pub cursor : (q : ℕ) → q < length phases → IsCursor froms tos phases q (get_or cursors q 0)
  pub settled : (q : ℕ) → IsAt phases q Settled → Has order q
  pub begun : (q : ℕ) → IsAt phases q Begun → Has path q
  pub on_path : (q : ℕ) → Has path q → IsAt phases q Begun
  pub once : Distinct path
  pub path_leads : IsPath (IsEdge froms tos) path
  pub bottom : get_or path 0 0 ≡ 0
  pub done : length path ≡ 0 → IsAt phases 0 Settled
  pub below : AreBelow (length phases) order
  pub after : (k p : ℕ) → k < length order → IsEdge froms tos (get_or order k 0) p →
      Has (take k order) p

-- the search has found an order, or states that lead to one another
abbrev pub Finds : List ℕ → List ℕ → ℕ → List ℕ → Bool → Type 0
Finds froms tos count order true = IsOrder (IsEdge froms tos) count order
Finds froms tos count order false = IsCircle (IsEdge froms tos)

-- at each place the next place of its state
pub record AreNext (states next : List ℕ) : Type 0 where
  pub long : length next ≡ length states
  pub each : (n : ℕ) → n < length states →
      IsNext states (get_or states n 0) (n + 1) (get_or next n 0)

-- the first place from i on of the state at i whose state on the other side is not settled
pub record Skips (froms tos : List ℕ) (phases : List Phase) (i place : ℕ) : Type 0 where
  pub from : i ≤ place
  pub within : place ≤ length froms
  pub own : place < length froms → get_or froms place 0 ≡ get_or froms i 0
  pub settled : (n : ℕ) → i ≤ n → n < place → get_or froms n 0 ≡ get_or froms i 0 →
      IsAt phases (get_or tos n 0) Settled

-- how often a state's phase changes from here on
abbrev pub changes_left : Phase → ℕ
changes_left Unseen = 2
changes_left Begun = 1
changes_left Settled = 0
