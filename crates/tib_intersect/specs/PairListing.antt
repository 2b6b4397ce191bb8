-- The edges of a pair, listed one after another.
use Rattle.std.specs.Prelude.{◌≡◌, ℕ, ◌+◌, ◌<◌, ◌≤◌, ◌⊎◌, List, [], ◌∷◌, ◌++◌, length, map, zip}
use Rattle.tib_lex.specs.Lists.{Has, Distinct, Along, total}
use Rattle.tib_cost.specs.Semiring.{most}
use Rattle.tib_grammar.specs.Sides.{label, holes}
use Rattle.tib_grammar.specs.Run.{rule_at}
use Rattle.tib_grammar.specs.declared.Rule.{Rule}
use Rattle.tib_expand.specs.Reached.{most_parts}
use Rattle.tib_intersect.specs.declared.listing.PairListing.{PairListing}
use Rattle.tib_key_edges.specs.Ends.{key_at as pair_at}
use Rattle.tib_intersect.specs.PairEdges.{IsPairEdge, ends_of, edge_parts}
use Rattle.tib_intersect.specs.PairRules.{Reads}

-- the states below the root of a rule
abbrev pub states_of : Rule ℕ → List ℕ
states_of r = holes r.right.kids

-- the pairs of the states of two rules
abbrev pub pairs_of : Rule ℕ → Rule ℕ → List (ℕ × ℕ)
pairs_of one two = zip (states_of one) (states_of two)

-- the ends of some edges, one after another
abbrev pub all_ends : List (Rule (ℕ × ℕ)) → List (ℕ × ℕ)
all_ends [] = []
all_ends (e ∷ es) = ends_of e ++ all_ends es

-- two rules have the same label over as many states
pub record Agree (one two : Rule ℕ) : Type 0 where
  pub root : one.right.label ≡ two.right.label
  pub rank : length (states_of one) ≡ length (states_of two)

-- the list with the edge of two rules appended
pub record IsAdded (product : ℕ → ℕ → ℕ) (one two : Rule ℕ) (old new : PairListing) : Type 0 where
  pub within : product one.cost two.cost ≤ most
  pub root : ℕ
  pub is_root : one.right.label ≡ label root
  pub ends : new.ends.items ≡ old.ends.items ++ pairs_of one two
  pub rules :
      new.rules.items
      ≡ old.rules.items
      ++ record { position = old.position; label = root; first_end = length old.ends.items; rank = length (states_of one); cost = product one.cost two.cost }
      ∷ []
  pub parts : new.parts ≡ old.parts + (2 + length (states_of one))

-- the list as it was, where the product of the costs is too great
pub record IsPassed (product : ℕ → ℕ → ℕ) (one two : Rule ℕ) (old new : PairListing) : Type 0 where
  pub above : most < product one.cost two.cost
  pub ends : new.ends.items ≡ old.ends.items
  pub rules : new.rules.items ≡ old.rules.items
  pub parts : new.parts ≡ old.parts

-- what is done for two rules
abbrev pub IsNext : (ℕ → ℕ → ℕ) → Rule ℕ → Rule ℕ → PairListing → PairListing → Type 0
IsNext product one two old new = IsAdded product one two old new ⊎ IsPassed product one two old new

-- the edge of two rules has more parts than the budget leaves
pub record IsTooMuch (product : ℕ → ℕ → ℕ) (one two : Rule ℕ) (old : PairListing) : Type 0 where
  pub within : product one.cost two.cost ≤ most
  pub more : old.budget < old.parts + (2 + length (states_of one))

-- the list and its size stay within the budget
pub record IsWithinBudget (l : PairListing) : Type 0 where
  pub few : length l.ends.items ≤ l.parts
  pub within : l.parts ≤ l.budget
  pub budget : l.budget ≤ most_parts

-- one is the rule i of the first grammar, and the rules of the second at these positions lead from
-- the second state of the pair at a position of the order
pub record Stands (ones twos : List (Rule ℕ)) (order : List (ℕ × ℕ)) (i n : ℕ) (one : Rule ℕ) (positions : List ℕ) : Type 0 where
  pub below : i < length ones
  pub is : one ≡ rule_at ones i
  pub within : n < length order
  pub first : (pair_at order n).0 ≡ one.left
  pub second : (j : ℕ) → Has positions j → (rule_at twos j).left ≡ (pair_at order n).1

module _ (product : ℕ → ℕ → ℕ) (ones twos : List (Rule ℕ)) (order : List (ℕ × ℕ)) (n : ℕ) where
  -- for the pair at the position n the edges of the origins that were tried are listed, each once
  pub record IsListed (tried : List (ℕ × ℕ)) (l : PairListing) : Type 0 where
    pub origins : List (ℕ × ℕ)
    pub edges : List (Rule (ℕ × ℕ))
    pub once : Distinct origins
    pub given : Along (IsPairEdge product ones twos (pair_at order n)) origins edges
    pub were_tried : (o : ℕ × ℕ) → Has origins o → Has tried o
    pub whole : (o : ℕ × ℕ) (e : Rule (ℕ × ℕ)) → Has tried o → IsPairEdge product ones twos (pair_at order n) o e → Has origins o
    pub read : Along (Reads order l.ends.items) l.rules.items edges
    pub ends_are : l.ends.items ≡ all_ends edges
    pub counted : l.parts ≡ total edge_parts edges

  -- some edges of the pair at the position n have more parts than the budget
  pub record Overruns (budget : ℕ) : Type 0 where
    pub origins : List (ℕ × ℕ)
    pub edges : List (Rule (ℕ × ℕ))
    pub once : Distinct origins
    pub given : Along (IsPairEdge product ones twos (pair_at order n)) origins edges
    pub more : budget < total edge_parts edges

  -- every edge of the pair at the position n is listed
  pub record AreListedFrom (l : PairListing) : Type 0 where
    pub tried : List (ℕ × ℕ)
    pub listed : IsListed tried l
    pub all : (o : ℕ × ℕ) (e : Rule (ℕ × ℕ)) → IsPairEdge product ones twos (pair_at order n) o e → Has tried o

-- the list gets the edges of one rule and of the rules of the second grammar at these positions
abbrev pub ListsMatches : (ℕ → ℕ → ℕ) → List (Rule ℕ) → Rule ℕ → List ℕ → PairListing → PairListing → Type 0
ListsMatches product twos one positions old new =
    (ones : List (Rule ℕ)) (order : List (ℕ × ℕ)) (i : ℕ) (tried : List (ℕ × ℕ)) →
    Stands ones twos order i old.position one positions → ((j : ℕ) → Has tried (i, j) → ⊥) →
    IsListed product ones twos order old.position tried old →
    IsListed product ones twos order old.position (tried ++ map (λ j. (i, j)) positions) new

-- with these edges the pair has more parts than the budget
abbrev pub MatchesOverrun : (ℕ → ℕ → ℕ) → List (Rule ℕ) → Rule ℕ → List ℕ → PairListing → Type 0
MatchesOverrun product twos one positions old =
    (ones : List (Rule ℕ)) (order : List (ℕ × ℕ)) (i : ℕ) (tried : List (ℕ × ℕ)) →
    Stands ones twos order i old.position one positions → ((j : ℕ) → Has tried (i, j) → ⊥) →
    IsListed product ones twos order old.position tried old →
    Overruns product ones twos order old.position old.budget

-- the list has every edge of the pair, over each order in which the pair has this position
abbrev pub ListsPair : (ℕ → ℕ → ℕ) → List (Rule ℕ) → List (Rule ℕ) → ℕ × ℕ → ℕ → PairListing → Type 0
ListsPair product ones twos pair position l =
    (order : List (ℕ × ℕ)) → position < length order → pair_at order position ≡ pair →
    AreListedFrom product ones twos order position l

-- the edges of the pair have more parts than the budget
abbrev pub PairOverruns : (ℕ → ℕ → ℕ) → List (Rule ℕ) → List (Rule ℕ) → ℕ × ℕ → ℕ → ℕ → Type 0
PairOverruns product ones twos pair position budget =
    (order : List (ℕ × ℕ)) → position < length order → pair_at order position ≡ pair →
    Overruns product ones twos order position budget
