-- The edges of a key, listed one after another.
use Rattle.std.specs.Prelude.{◌≡◌, ℕ, ◌+◌, ◌<◌, ◌≤◌, ◌⊎◌, List, [], ◌∷◌, ◌++◌, length}
use Rattle.tib_lex.specs.Lists.{Has, Distinct, Along, total}
use Rattle.tib_cost.specs.Semiring.{most}
use Rattle.tib_grammar.specs.Sides.{holes_of}
use Rattle.tib_grammar.specs.declared.Rule.{Rule}
use Rattle.tib_grammar.specs.Positions.{all_ends}
use Rattle.tib_expand.specs.Reached.{most_parts}
use Rattle.tib_apply.specs.Operations.{edge_parts}
use Rattle.tib_apply.specs.KeyRules.{Reads}
use Rattle.tib_apply.specs.declared.edge_list.EdgeList.{EdgeList}

-- the list with an edge of the key appended
pub record AddsEdge (key : ℕ × ℕ × ℕ) (e : Rule (ℕ × ℕ × ℕ)) (old new : EdgeList) : Type 0 where
  pub within : e.cost ≤ most
  pub rule : Rule ℕ
  pub ends : new.ends.items ≡ old.ends.items ++ holes_of e.right
  pub rules : new.rules.items ≡ old.rules.items ++ rule ∷ []
  pub reads : Reads key old.position new.ends.items rule e
  pub parts : new.parts ≡ old.parts + edge_parts e

-- the list as it was, where the edge costs too much
pub record PassesEdge (e : Rule (ℕ × ℕ × ℕ)) (old new : EdgeList) : Type 0 where
  pub above : most < e.cost
  pub ends : new.ends.items ≡ old.ends.items
  pub rules : new.rules.items ≡ old.rules.items
  pub parts : new.parts ≡ old.parts

-- what is done for an edge of the key
abbrev pub IsNext : ℕ × ℕ × ℕ → Rule (ℕ × ℕ × ℕ) → EdgeList → EdgeList → Type 0
IsNext key e old new = AddsEdge key e old new ⊎ PassesEdge e old new

-- the edge has more parts than the budget leaves
pub record IsTooMuch (e : Rule (ℕ × ℕ × ℕ)) (old : EdgeList) : Type 0 where
  pub within : e.cost ≤ most
  pub more : old.budget < old.parts + edge_parts e

-- the list and its size stay within the budget
pub record IsWithinBudget (l : EdgeList) : Type 0 where
  pub few : length l.ends.items ≤ l.parts
  pub within : l.parts ≤ l.budget
  pub budget : l.budget ≤ most_parts

-- both lists are of the same position, within the same budget
pub record IsAlike (old new : EdgeList) : Type 0 where
  pub position : new.position ≡ old.position
  pub budget : new.budget ≡ old.budget

module _ {O : Type 0} (Edge : O → Rule (ℕ × ℕ × ℕ) → Type 0) where
  -- the edges of the origins that were tried are listed for the key, each once
  pub record IsListed (key : ℕ × ℕ × ℕ) (tried : List O) (l : EdgeList) : Type 0 where
    pub origins : List O
    pub edges : List (Rule (ℕ × ℕ × ℕ))
    pub once : Distinct origins
    pub given : Along Edge origins edges
    pub were_tried : (o : O) → Has origins o → Has tried o
    pub whole : (o : O) (e : Rule (ℕ × ℕ × ℕ)) → Has tried o → Edge o e → Has origins o
    pub read : Along (Reads key l.position l.ends.items) l.rules.items edges
    pub ends_are : l.ends.items ≡ all_ends edges
    pub counted : l.parts ≡ total edge_parts edges

  -- some edges have more parts than the budget
  pub record Overruns (budget : ℕ) : Type 0 where
    pub origins : List O
    pub edges : List (Rule (ℕ × ℕ × ℕ))
    pub once : Distinct origins
    pub given : Along Edge origins edges
    pub more : budget < total edge_parts edges

  -- every edge is listed for the key
  pub record AreListedFrom (key : ℕ × ℕ × ℕ) (l : EdgeList) : Type 0 where
    pub tried : List O
    pub listed : IsListed key tried l
    pub all : (o : O) (e : Rule (ℕ × ℕ × ℕ)) → Edge o e → Has tried o

-- the list has the edges of the origins whose first part is among some positions
pub record AreListedFor {O : Type 0} (Edge : ℕ × O → Rule (ℕ × ℕ × ℕ) → Type 0) (key : ℕ × ℕ × ℕ) (positions : List ℕ) (l : EdgeList) : Type 0 where
  pub tried : List (ℕ × O)
  pub listed : IsListed Edge key tried l
  pub from : (o : ℕ × O) → Has tried o → Has positions o.0
  pub all : (o : ℕ × O) (e : Rule (ℕ × ℕ × ℕ)) → Has positions o.0 → Edge o e → Has tried o
