-- The edges of a pair, listed one after another.
use Rattle.std.specs.Prelude.{◌≡◌, ℕ, ◌+◌, ◌<◌, ◌≤◌, List, [], ◌∷◌, ◌++◌, length, map}
use Rattle.std.proofs.Common.{suc, get_or}
use Rattle.tib_lex.specs.Lists.{Each, total}
use Rattle.tib_tree.specs.Trees.{size, first_of, parse, preorder_of}
use Rattle.tib_grammar.specs.Sides.{Symbol, label, Side as SideFor}
use Rattle.tib_grammar.specs.Items.{pairs_of}
use Rattle.tib_grammar.specs.declared.Item.{Item}
use Rattle.tib_grammar.specs.declared.Item.TheVariants.{Label, Hole}
use Rattle.tib_expand.specs.EdgeLists.{IsWithin, key_at}
use Rattle.tib_expand.specs.Reached.{most_parts}
use Rattle.tib_expand.specs.declared.place.Place.{Place}
use Rattle.tib_expand.specs.declared.place.Place.TheVariants.{End}
use Rattle.tib_transducer.specs.Rules.{states_in}
use Rattle.tib_transducer.specs.declared.Pair.{Pair}
use Rattle.tib_transducer.specs.declared.Variable.{Variable}
use Rattle.tib_transducer.specs.declared.TransducerRule.{TransducerRule}
use Rattle.tib_key_edges.specs.Composition.{ends_of, edge_parts}
use Rattle.tib_key_edges.specs.Named.{named_transducer_rule}
use Rattle.tib_compose.specs.EdgeLaws.{places_of, rule_of}
use Rattle.tib_compose.specs.declared.listing.CompositionListing.{CompositionListing}
use Rattle.tib_compose.specs.declared.placed_rule.PlacedRule.{PlacedRule}

-- the items with the ends n, n + 1 and so on in place of the keys of their pairs
abbrev pub placed : ℕ → List (Item (Pair (ℕ × ℕ))) → List (Item (Pair Place))
placed n [] = []
placed n (Label f rank ∷ items) = Label f rank ∷ placed n items
placed n (Hole x ∷ items) = Hole (record { state = End n; variable = x.variable }) ∷ placed (suc n) items

-- the keys of the pairs among some items
abbrev pub keys_in : List (Item (Pair (ℕ × ℕ))) → List (ℕ × ℕ)
keys_in [] = []
keys_in (Label f rank ∷ items) = keys_in items
keys_in (Hole x ∷ items) = x.state ∷ keys_in items

-- the ends of some edges, one after another
abbrev pub all_ends : List (TransducerRule (ℕ × ℕ)) → List (ℕ × ℕ)
all_ends [] = []
all_ends (e ∷ es) = ends_of e ++ all_ends es

-- the edge of a pair that reads a left-hand side and puts out the side of a preorder at a cost
abbrev pub edge_of : ℕ × ℕ → SideFor ℕ Variable → List (Symbol ℕ (Pair (ℕ × ℕ)) × ℕ) → ℕ → TransducerRule (ℕ × ℕ)
edge_of key left pairs cost = record { state = key; left = left; right = first_of (label 0) (parse pairs); cost = cost }

-- the rule leads from the position, and its pairs lead to new ends
pub record IsPlacedRule (left : SideFor ℕ Variable) (done : List (Item (Pair (ℕ × ℕ)))) (cost : ℕ) (old new : CompositionListing) (r : PlacedRule) : Type 0 where
  pub state : r.position ≡ old.position
  pub same : r.left.now ≡ left
  pub right : preorder_of r.right ≡ pairs_of (placed (length old.ends.items) done)
  pub costs : r.cost ≡ cost
  pub ends : new.ends.items ≡ old.ends.items ++ keys_in done
  pub rules : new.rules ≡ old.rules
  pub parts : new.parts ≡ old.parts
  pub position : new.position ≡ old.position
  pub budget : new.budget ≡ old.budget

-- the list with such a rule appended
pub record IsAdded (left : SideFor ℕ Variable) (done : List (Item (Pair (ℕ × ℕ)))) (cost : ℕ) (old new : CompositionListing) : Type 0 where
  pub rule : PlacedRule
  pub state : rule.position ≡ old.position
  pub same : rule.left.now ≡ left
  pub right : preorder_of rule.right ≡ pairs_of (placed (length old.ends.items) done)
  pub costs : rule.cost ≡ cost
  pub ends : new.ends.items ≡ old.ends.items ++ keys_in done
  pub rules : new.rules.items ≡ old.rules.items ++ rule ∷ []
  pub parts : new.parts ≡ old.parts + (1 + (size left + size rule.right))
  pub position : new.position ≡ old.position
  pub budget : new.budget ≡ old.budget

-- such a rule has more parts than the budget leaves
pub record IsTooMuch (left : SideFor ℕ Variable) (done : List (Item (Pair (ℕ × ℕ)))) (old : CompositionListing) : Type 0 where
  pub side : SideFor ℕ (Pair Place)
  pub right : preorder_of side ≡ pairs_of (placed (length old.ends.items) done)
  pub more : old.budget < old.parts + (1 + (size left + size side))

-- the list and its size stay within the budget
pub record IsWithinBudget (l : CompositionListing) : Type 0 where
  pub few : length l.ends.items ≤ l.parts
  pub within : l.parts ≤ l.budget
  pub budget : l.budget ≤ most_parts

-- over an order, these edges of a key are listed
pub record IsListing (order : List (ℕ × ℕ)) (key : ℕ × ℕ) (es : List (TransducerRule (ℕ × ℕ))) (l : CompositionListing) : Type 0 where
  pub below : l.position < length order
  pub at : get_or order l.position (0, 0) ≡ key
  pub within : Each (λ r. Each (IsWithin (length order) (length l.ends.items)) (places_of (rule_of r))) l.rules.items
  pub read : (d : ℕ × ℕ) → map (λ r. named_transducer_rule (key_at d order l.ends.items) (rule_of r)) l.rules.items ≡ es
  pub ends_are : l.ends.items ≡ all_ends es
  pub counted : l.parts ≡ total edge_parts es
