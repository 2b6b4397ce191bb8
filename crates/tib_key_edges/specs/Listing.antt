-- The edges of a key, listed one after another.
use Rattle.std.specs.Prelude.{◌≡◌, ℕ, ◌+◌, ◌<◌, ◌≤◌, List, [], ◌∷◌, ◌++◌, length}
use Rattle.std.proofs.Common.{get_or}
use Rattle.tib_lex.specs.Lists.{Has, Distinct, Along, total}
use Rattle.tib_tree.specs.Trees.{size}
use Rattle.tib_grammar.specs.Sides.{Side as SideFor}
use Rattle.tib_grammar.specs.declared.Rule.{Rule}
use Rattle.tib_grammar.specs.Positions.{all_ends}
use Rattle.tib_expand.specs.Reached.{most_parts}
use Rattle.tib_key_edges.specs.declared.side_rule.SideRule.{SideRule}
use Rattle.tib_key_edges.specs.declared.side_listing.SideListing.{SideListing}
use Rattle.tib_key_edges.specs.SideRules.{Reads}

-- the parts of an edge: one, and the nodes of its right-hand side
abbrev pub edge_parts : {K : Type 0} → Rule K → ℕ
edge_parts e = 1 + size e.right

-- the list and its size stay within the budget
pub record IsWithinBudget {K H : Type 0} (l : SideListing K H) : Type 0 where
  pub few : length l.ends.items ≤ l.parts
  pub within : l.parts ≤ l.budget
  pub budget : l.budget ≤ most_parts

-- both lists are for the same position, within the same budget
pub record IsAlike {K H : Type 0} (old new : SideListing K H) : Type 0 where
  pub position : new.position ≡ old.position
  pub budget : new.budget ≡ old.budget

-- with an edge to a side the list has no more ends than parts
pub record IsReady {K H : Type 0} (side : SideFor ℕ H) (l : SideListing K H) : Type 0 where
  pub few : length l.ends.items ≤ l.parts + (1 + size side)
  pub within : l.parts ≤ l.budget
  pub budget : l.budget ≤ most_parts

-- the list has one more rule after its own, whose ends begin at a number
pub record HasRule {K H : Type 0} (right : SideFor ℕ H) (first cost : ℕ) (old new : SideListing K H) : Type 0 where
  pub rule : SideRule H
  pub rules : new.rules.items ≡ old.rules.items ++ rule ∷ []
  pub position : rule.position ≡ old.position
  pub side : rule.side.now ≡ right
  pub first_end : rule.first_end ≡ first
  pub costs : rule.cost ≡ cost
  pub parts : new.parts ≡ old.parts + (1 + size right)

-- the list with one more rule over new ends
pub record IsAdded {K H : Type 0} (right : SideFor ℕ H) (keys : List K) (cost : ℕ) (old new : SideListing K H) : Type 0 where
  pub ends : new.ends.items ≡ old.ends.items ++ keys
  pub rule : SideRule H
  pub rules : new.rules.items ≡ old.rules.items ++ rule ∷ []
  pub position : rule.position ≡ old.position
  pub side : rule.side.now ≡ right
  pub first_end : rule.first_end ≡ length old.ends.items
  pub costs : rule.cost ≡ cost
  pub parts : new.parts ≡ old.parts + (1 + size right)

-- where Gives says which edge an origin gives a key
module _ {K O : Type 0} (Gives : O → Rule K → Type 0) where
  -- over an order, the edges of the origins that were tried are listed, each once
  pub record IsListed {H : Type 0} (order : List K) (tried : List O) (l : SideListing K H) : Type 0 where
    pub origins : List O
    pub edges : List (Rule K)
    pub once : Distinct origins
    pub given : Along Gives origins edges
    pub were_tried : (o : O) → Has origins o → Has tried o
    pub whole : (o : O) (e : Rule K) → Has tried o → Gives o e → Has origins o
    pub read : Along (Reads order l.ends.items) l.rules.items edges
    pub ends_are : l.ends.items ≡ all_ends edges
    pub counted : l.parts ≡ total edge_parts edges

  -- some edges have more parts than the budget
  pub record Overruns (budget : ℕ) : Type 0 where
    pub origins : List O
    pub edges : List (Rule K)
    pub once : Distinct origins
    pub given : Along Gives origins edges
    pub more : budget < total edge_parts edges

  -- every edge is listed
  pub record AreListedFrom {H : Type 0} (order : List K) (l : SideListing K H) : Type 0 where
    pub tried : List O
    pub listed : IsListed order tried l
    pub all : (o : O) (e : Rule K) → Gives o e → Has tried o

  -- where the key is at the position of the list
  module _ (default key : K) where
    -- the list gets the edge of an origin that was not tried yet, where it gives one
    abbrev pub GetsOrigin : {H : Type 0} → O → SideListing K H → SideListing K H → Type 0
    GetsOrigin o old new =
        (order : List K) → old.position < length order → get_or order old.position default ≡ key → (tried : List O) → (Has tried o → ⊥) → IsListed order tried old →
        IsListed order (tried ++ o ∷ []) new

    -- with this edge there are more parts than the budget
    abbrev pub IsBeyond : {H : Type 0} → O → SideListing K H → Type 0
    IsBeyond o old =
        (order : List K) → old.position < length order → get_or order old.position default ≡ key → (tried : List O) → (Has tried o → ⊥) → IsListed order tried old → Overruns old.budget

    -- the list has every edge of the key, over each order in which the key has this position
    abbrev pub HasEdges : {H : Type 0} → ℕ → SideListing K H → Type 0
    HasEdges position l = (order : List K) → position < length order → get_or order position default ≡ key → AreListedFrom order l

    -- the edges of the key have more parts than the budget
    abbrev pub AreBeyond : ℕ → ℕ → Type 0
    AreBeyond position budget = (order : List K) → position < length order → get_or order position default ≡ key → Overruns budget
