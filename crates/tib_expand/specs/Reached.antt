-- The order by rounds, and the reached set.
use Rattle.std.specs.Prelude.{◌≡◌, ◌↔◌, ℕ, zero, suc, ◌+◌, ◌<◌, ◌≤◌, List, ◌++◌, length}
use Rattle.std.specs.declared.cmp.Ordering.{Ordering}
use Rattle.std.specs.declared.cmp.Ordering.TheVariants.{Less}
use Rattle.tib_lex.specs.Lists.{Has, Ascends, total}
pub use Rattle.tib_lex.specs.Limits.{most_parts}
use Rattle.tib_expand.specs.EdgeLists.{Lists, IsEnd}
pub use Rattle.tib_expand.specs.declared.error.HuntError.{HuntError}
pub use Rattle.tib_expand.specs.declared.error.HuntError.TheVariants.{TooMany, OutOfMemory}
pub use Rattle.tib_expand.specs.Limits.{IfTooMany}

-- What an operation hunts: the order of keys, the seeds, the edges of the seeds and of each
-- position of an order, each by its origin, the keys at which an edge ends, and the parts of a key
-- and of an edge.
pub record Exploration (K O E : Type 0) : Type 1 where
  pub cmp : K → K → Ordering
  pub seed : K → Type 0
  pub seed_edge : O → E → Type 0
  pub edge : List K → ℕ → O → E → Type 0
  pub ends_of : E → List K
  pub key_parts : K → ℕ
  pub edge_parts : E → ℕ

abbrev pub exploration : {K O E : Type 0} → (K → K → Ordering) → (K → Type 0) → (O → E → Type 0) → (List K → ℕ → O → E → Type 0) → (E → List K)
    → (K → ℕ) → (E → ℕ) → Exploration K O E
exploration cmp seed seed_edge edge ends_of key_parts edge_parts = record {
  cmp = cmp;
  seed = seed;
  seed_edge = seed_edge;
  edge = edge;
  ends_of = ends_of;
  key_parts = key_parts;
  edge_parts = edge_parts;
}

-- As an example, take numbers as keys, the seed 1, and from each number n of at most 3 the edges to
-- 2n and 3n. The order begins with 1. The first round appends 2 and 3. The second expands these
-- two, and appends 4, 6 and 9, each once. The third appends nothing: the reached set is 1, 2, 3, 4,
-- 6, 9 with six edges.
module _ {K O E : Type 0} (p : Exploration K O E) where
  -- the keys of which P holds, each once, ascending
  abbrev pub AreAscending : (K → Type 0) → List K → Type 0
  AreAscending P ks = Ascends (λ a b. p.cmp a b ≡ Less) ks × ((k : K) → Has ks k ↔ P k)

  -- k is an end of a position that is not expanded, and is not in the order
  abbrev pub IsNew : List K → ℕ → K → Type 0
  IsNew order expanded k = ((i : ℕ) × (expanded ≤ i) × (i < length order) × IsEnd (p.edge order i) p.ends_of k) × (Has order k → ⊥)

  -- The order after this number of rounds. The positions below `expanded` are expanded. It begins
  -- with the seeds, ascending, and each round appends its new ends, ascending.
  abbrev pub AfterRounds : ℕ → ℕ → List K → Type 0
  AfterRounds zero expanded order = (expanded ≡ 0) × AreAscending p.seed order
  AfterRounds (suc rounds) expanded order =
      (old : List K) × (first : ℕ) × (new : List K) × AfterRounds rounds first old × AreAscending (IsNew old first) new × (expanded ≡ length old) × (order ≡ old ++ new)

  -- the order at which a round appends nothing
  abbrev pub IsReached : List K → Type 0
  IsReached order = (rounds : ℕ) × (expanded : ℕ) × AfterRounds rounds expanded order × ((k : K) → IsNew order expanded k → ⊥)

  -- the edges of the seeds and then those of the first n positions, each as often as origins give
  -- it
  abbrev pub AreEdges : List K → ℕ → List E → Type 0
  AreEdges order zero es = Lists p.seed_edge es
  AreEdges order (suc n) es = (front : List E) × (last : List E) × (es ≡ front ++ last) × AreEdges order n front × Lists (p.edge order n) last

  -- the reached set: the order, and the edges of the seeds and of every position
  abbrev pub IsReachedSet : List K → List E → Type 0
  IsReachedSet order es = IsReached order × AreEdges order (length order) es

  -- the parts of its keys and of its edges
  abbrev pub parts_of : List K → List E → ℕ
  parts_of order es = total p.key_parts order + total p.edge_parts es

  -- The reached set has more parts than the limit, or is endless.
  abbrev pub IsBeyond : ℕ → Type 0
  IsBeyond limit = (order : List K) (es : List E) → IsReachedSet order es → limit < parts_of order es

-- `order` is the front of each reached order, and all `keys` are in that
pub record Leads {K O E : Type 0} (p : Exploration K O E) (order keys : List K) : Type 0 where
  pub front : (whole : List K) → IsReached p whole → (rest : List K) × (whole ≡ order ++ rest)
  pub stand : (whole : List K) → IsReached p whole → (k : K) → Has keys k → Has whole k
