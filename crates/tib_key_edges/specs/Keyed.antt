-- Operations whose edges depend only on the key at a position.
use Rattle.std.specs.Prelude.{◌≡◌, ℕ, ◌<◌, Bool, IsTrue, List, ◌∷◌}
use Rattle.std.proofs.Common.{get_or}
use Rattle.std.specs.declared.cmp.Ordering.{Ordering}
use Rattle.std.specs.Cmp.{IsTotalOrder}
use Rattle.tib_lex.specs.Lists.{Has, Distinct}
use Rattle.tib_expand.specs.EdgeLists.{Lists}
use Rattle.tib_expand.specs.Reached.{Exploration, exploration, AfterRounds, AreEdges, IsReachedSet}

-- A keyed operation has one start, no edges of seeds, and at each position the edges of the key
-- that is there.
abbrev pub keyed : {K O E : Type 0} → (K → K → Ordering) → K → (K → O → E → Type 0) → (E → List K) → (K → ℕ) → (E → ℕ) → Exploration K O E
keyed cmp start Edge ends_of key_parts edge_parts =
    exploration cmp (λ k. k ≡ start) (λ o e. ⊥) (λ order n o e. Edge (get_or order n start) o e) ends_of key_parts edge_parts

-- e is an edge of the key at a position below n, by the position and the origin
abbrev pub GivesBelow : {K O E : Type 0} → K → (K → O → E → Type 0) → List K → ℕ → ℕ × O → E → Type 0
GivesBelow start Edge order n from e = (from.0 < n) × Edge (get_or order from.0 start) from.1 e

-- The laws speak of edges that a test selects.
abbrev pub Told : {K O E : Type 0} → (K → O → E → Bool) → K → O → E → Type 0
Told edge k o e = IsTrue (edge k o e)

-- each order begins with the start
abbrev pub OrdersBegin : Type 0 → Type 0 → Type 0 → Type 0
OrdersBegin K O E =
    (cmp : K → K → Ordering) → IsTotalOrder cmp → (start : K) (edge : K → O → E → Bool) (ends_of : E → List K) (key_parts : K → ℕ) (edge_parts : E → ℕ) →
    (rounds expanded : ℕ) (order : List K) → AfterRounds (keyed cmp start (Told edge) ends_of key_parts edge_parts) rounds expanded order →
    (rest : List K) × (order ≡ start ∷ rest)

-- no key is there twice in an order
abbrev pub KeysStandOnce : Type 0 → Type 0 → Type 0 → Type 0
KeysStandOnce K O E =
    (cmp : K → K → Ordering) → IsTotalOrder cmp → (start : K) (edge : K → O → E → Bool) (ends_of : E → List K) (key_parts : K → ℕ) (edge_parts : E → ℕ) →
    (rounds expanded : ℕ) (order : List K) → AfterRounds (keyed cmp start (Told edge) ends_of key_parts edge_parts) rounds expanded order → Distinct order

-- the edges of the first n positions are those of the keys there, each as often as origins give it
abbrev pub EdgesAreKeyed : Type 0 → Type 0 → Type 0 → Type 0
EdgesAreKeyed K O E =
    (cmp : K → K → Ordering) (start : K) (edge : K → O → E → Bool) (ends_of : E → List K) (key_parts : K → ℕ) (edge_parts : E → ℕ) →
    (order : List K) (n : ℕ) (es : List E) → AreEdges (keyed cmp start (Told edge) ends_of key_parts edge_parts) order n es →
    Lists (GivesBelow start (Told edge) order n) es

-- two reached sets have one order, and the same edges if an origin gives a key one edge
abbrev pub OneReachedSet : Type 0 → Type 0 → Type 0 → Type 0
OneReachedSet K O E =
    (cmp : K → K → Ordering) → IsTotalOrder cmp → (start : K) (edge : K → O → E → Bool) (ends_of : E → List K) (key_parts : K → ℕ) (edge_parts : E → ℕ) →
    ((k : K) (o : O) (e f : E) → Told edge k o e → Told edge k o f → e ≡ f) → (order other : List K) (es fs : List E) →
    IsReachedSet (keyed cmp start (Told edge) ends_of key_parts edge_parts) order es →
    IsReachedSet (keyed cmp start (Told edge) ends_of key_parts edge_parts) other fs → (order ≡ other) × ((e : E) → Has es e → Has fs e)
