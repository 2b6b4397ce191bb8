-- Entries that are demanded of states, at most one after each list, and how many entries there are.
use Rattle.std.specs.Prelude.{◌≡◌, ◌⊎◌, ℕ, ◌+◌, ◌-◌, ◌≤◌, ◌<◌, List, [], ◌∷◌, ◌++◌, length, sum_by}
use Rattle.std.proofs.Common.{suc, get_or}
use Rattle.std.proofs.Math.ListN.{set}
use Rattle.tib_lex.specs.Lists.{Has}
use Rattle.tib_tree.specs.Trees.{size}
use Rattle.tib_ranked_trees.specs.Best.{Costed}
use Rattle.tib_ranked_trees.specs.Pass.{Entries, HasTree, entry_at, no_entry}
use Rattle.tib_ranked_trees.specs.ListsOf.{ListsOf}
use Rattle.tib_ranked_trees.specs.Held.{list_of, entries_of, candidate_at, tree_by, ranks_of}
use Rattle.tib_ranked_trees.specs.Levels.{states_at}
use Rattle.tib_ranked_trees.specs.declared.lists.Candidate.{Candidate}
use Rattle.tib_ranked_trees.specs.declared.lists.Entry.{Entry}
use Rattle.tib_lazy_lists.specs.declared.asking.Stage.{Stage}
use Rattle.tib_lazy_lists.specs.declared.asking.Stage.TheVariants.{Closed, Open, Whole}
use Rattle.tib_lazy_lists.specs.declared.demanding.Demand.{Demand}
use Rattle.tib_lazy_lists.specs.AskingOf.{AskingOf, state_at}

-- how many entries the lists of all states have together
abbrev pub entries_held : ListsOf → ℕ
entries_held x = sum_by (λ (es : List Entry). length es) x.lists

-- how many nodes some trees have together
abbrev pub nodes_of : List Costed → ℕ
nodes_of ys = sum_by (λ (y : Costed). size y.0) ys

-- the last of some trees
abbrev pub last_of : List Costed → Costed
last_of ys = get_or ys (length ys - 1) no_entry

-- how many nodes the entry has after which another one is demanded
abbrev pub nodes_at : ListsOf → Demand → ℕ
nodes_at x d = size (entry_at (entries_of x) d.state (d.many - 1)).0

-- the nodes of the entries that some pairs of states and ranks name, added up
abbrev pub named_nodes : Entries → List (ℕ × ℕ) → ℕ
named_nodes entries ps = sum_by (λ (p : ℕ × ℕ). size (entry_at entries p.0 p.1).0) ps

-- the nodes of several demands, added up
abbrev pub nodes_behind : ListsOf → List Demand → ℕ
nodes_behind x ds = sum_by (nodes_at x) ds

-- The candidate that each state took last is that of its last entry, as far as its size shows.
abbrev pub AreLastListed : ListsOf → AskingOf → Type 0
AreLastListed x a =
    (q : ℕ) → q < length a.states → ((state_at a q).stage ≡ Whole → ⊥) →
    (candidate_at x (state_at a q).last).size ≡ size (last_of (entries_of x q)).0

-- a state has more entries than these, or all, or as many as are asked for
abbrev pub IsMet : ListsOf → AskingOf → Demand → Type 0
IsMet x a d =
    (d.many < length (list_of x d.state))
    ⊎ (((state_at a d.state).stage ≡ Whole) ⊎ (a.k ≤ length (list_of x d.state)))

-- a state has just these entries, and is to get one more
pub record IsUnmet (x : ListsOf) (a : AskingOf) (d : Demand) : Type 0 where
  pub state : d.state < length a.states
  pub many : length (list_of x d.state) ≡ d.many
  pub left : (state_at a d.state).stage ≡ Whole → ⊥
  pub free : length (list_of x d.state) < a.k

abbrev pub AreUnmet : ListsOf → AskingOf → List Demand → Type 0
AreUnmet x a ds = (d : Demand) → Has ds d → IsUnmet x a d

-- the demand for the entry after the i-th of a rule's ranks
abbrev pub demand_below : ListsOf → ℕ → List ℕ → ℕ → Demand
demand_below x n js i = record {
  state = get_or (states_at x.rules n) i 0;
  many = get_or js i 0 + 1;
}

-- each demand below the candidate that a demand's state took last has a property
abbrev pub HoldsBelow : (Demand → Type 0) → ListsOf → AskingOf → Demand → Type 0
HoldsBelow P x a d =
    let c = candidate_at x (state_at a d.state).last in
    (i : ℕ) → i < length (states_at x.rules c.rule) → P (demand_below x c.rule (ranks_of x c) i)

-- each demand is before those below it that do not have a property
abbrev pub AreLed : (Demand → Type 0) → ListsOf → AskingOf → List Demand → Type 0
AreLed P x a [] = Unit {0}
AreLed P x a (d ∷ ds) = HoldsBelow (λ e. Has ds e ⊎ P e) x a d × AreLed P x a ds

-- rules are as before, and candidates and ranks were appended
pub record HasMoreRanks (x y : ListsOf) : Type 0 where
  pub rules : y.rules ≡ x.rules
  pub candidates : (more : List Candidate) × (y.candidates ≡ x.candidates ++ more)
  pub ranks : (more : List ℕ) × (y.ranks ≡ x.ranks ++ more)

-- a candidate's tree was appended to the list of a state
pub record IsPlaced (x : ListsOf) (u m : ℕ) (y : ListsOf) : Type 0 where
  pub rules : y.rules ≡ x.rules
  pub ranks : y.ranks ≡ x.ranks
  pub candidates : y.candidates ≡ x.candidates
  pub entry : Entry
  pub lists : y.lists ≡ set x.lists u (list_of x u ++ entry ∷ [])
  pub others : (q : ℕ) → (q ≡ u → ⊥) → entries_of y q ≡ entries_of x q
  pub here :
      entries_of y u
      ≡ entries_of x u ++ (tree_by x (candidate_at x m).rule (ranks_of x (candidate_at x m)), entry.cost) ∷ []

-- or it was on the list before
abbrev pub IsPlacedOnce : ListsOf → ℕ → ℕ → ListsOf → Type 0
IsPlacedOnce x u m y =
    HasTree (entries_of x u) (tree_by x (candidate_at x m).rule (ranks_of x (candidate_at x m)))
    ⊎ IsPlaced x u m y

-- The state of a demand got one more entry, or has all its trees, and nothing else was listed.
pub record IsOneMore (x : ListsOf) (a : AskingOf) (d : Demand) (y : ListsOf) (b : AskingOf) : Type 0 where
  pub others : (q : ℕ) → (q ≡ d.state → ⊥) → entries_of y q ≡ entries_of x q
  pub here :
      (entries_of y d.state ≡ entries_of x d.state)
      ⊎ ((length (list_of x d.state) ≤ d.many)
      × ((e : Costed) × (entries_of y d.state ≡ entries_of x d.state ++ e ∷ [])))
  pub held : entries_held y ≤ entries_held x + 1
  pub whole : (q : ℕ) → (state_at a q).stage ≡ Whole → (state_at b q).stage ≡ Whole
  pub states : (q : ℕ) → (q ≡ d.state → ⊥) → state_at b q ≡ state_at a q
  pub stays :
      entries_of y d.state ≡ entries_of x d.state →
      ((state_at b d.state).stage ≡ Whole) ⊎ (state_at b d.state ≡ state_at a d.state)
  pub more : HasMoreRanks x y
  pub met : IsMet y b d

-- While some demands are met, the last first: each entry that was placed belongs to a demand that
-- was taken off, and `first` is among those left, or is met. A state that got no entry keeps what
-- it kept, and each demand that is left is before those below it that are not met.
pub record IsUnderway (x : ListsOf) (a : AskingOf) (first : Demand) (y : ListsOf) (b : AskingOf)
    (left : List Demand) : Type 0 where
  pub unmet : AreUnmet x a left
  pub grows : (q : ℕ) → length (list_of x q) ≤ length (list_of y q)
  pub held : entries_held y + length left ≤ entries_held x + nodes_at x first
  pub stays :
      (q : ℕ) → length (list_of y q) ≡ length (list_of x q) →
      ((state_at b q).stage ≡ Whole → ⊥) → state_at b q ≡ state_at a q
  pub more : HasMoreRanks x y
  pub led : AreLed (IsMet y b) x a left
  pub here :
      (entries_of y first.state ≡ entries_of x first.state)
      ⊎ ((e : Costed) × (entries_of y first.state ≡ entries_of x first.state ++ e ∷ []))
  pub met : Has left first ⊎ IsMet y b first

-- A demand was met: its state got one more entry, or has all its trees. All states together got at
-- most as many entries as the tree has nodes after which one was demanded.
pub record IsRound (x : ListsOf) (first : Demand) (y : ListsOf) (b : AskingOf) : Type 0 where
  pub held : entries_held y ≤ entries_held x + nodes_at x first
  pub here :
      (entries_of y first.state ≡ entries_of x first.state)
      ⊎ ((e : Costed) × (entries_of y first.state ≡ entries_of x first.state ++ e ∷ []))
  pub met : IsMet y b first

-- There are at most as many entries as states and nodes of the trees that the start lists. While it
-- is to get more, the nodes of its last tree are still to spare.
pub record IsWithin (states : ℕ) (x : ListsOf) (a : AskingOf) : Type 0 where
  pub all : entries_held x ≤ states + nodes_of (entries_of x 0)
  pub spare :
      (d : Demand) → d.state ≡ 0 → IsUnmet x a d →
      entries_held x + nodes_at x d ≤ states + nodes_of (entries_of x 0)

-- how many rounds may still come
abbrev pub rounds_at : Stage → ℕ → ℕ
rounds_at Closed n = suc n
rounds_at Open n = suc n
rounds_at Whole n = 0

abbrev pub rounds_left : ListsOf → AskingOf → ℕ
rounds_left x a = rounds_at (state_at a 0).stage (a.k - length (list_of x 0))
