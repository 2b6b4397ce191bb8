-- Edges that are listed one after another, each by its origin: a rule of the first grammar and the
-- positions of the keys below it.
use Rattle.std.specs.Prelude.{◌≡◌, ℕ, ◌+◌, ◌<◌, ◌≤◌, List, [], ◌∷◌, ◌++◌, length, map}
use Rattle.std.proofs.Common.{suc}
use Rattle.tib_lex.specs.Lists.{Along, total}
use Rattle.tib_grammar.specs.Sides.{label}
use Rattle.tib_grammar.specs.Run.{rule_at}
use Rattle.tib_grammar.specs.declared.Rule.{Rule}
use Rattle.tib_expand.specs.Reached.{most_parts}
use Rattle.tib_determinize.specs.VectorRules.{PlacedRule, placed_rule}
use Rattle.tib_difference.specs.declared.listing.KeyListing.{KeyListing}
use Rattle.tib_difference.specs.Subsets.{IsSubset}
use Rattle.tib_difference.specs.Difference.{KeyOf, keys_at, subsets_of}

-- an edge: its label and positions, its cost, and the key that it leads from
pub record Listed : Type 0 where
  pub label : ℕ
  pub positions : List ℕ
  pub cost : ℕ
  pub key : KeyOf

abbrev pub listed_parts : Listed → ℕ
listed_parts e = 2 + length e.positions

-- the rules of some edges, of which the first has the end i
abbrev pub rules_from : ℕ → List Listed → List PlacedRule
rules_from i [] = []
rules_from i (e ∷ es) = record { end = i; label = e.label; positions = e.positions; cost = e.cost } ∷ rules_from (suc i) es

-- the list has these edges
pub record IsListing (l : KeyListing) (es : List Listed) : Type 0 where
  pub ends : l.ends.items ≡ map (λ e. e.key) es
  pub rules : map placed_rule l.rules.items ≡ rules_from 0 es
  pub parts : l.parts ≡ total listed_parts es

-- the list with one edge appended
pub record IsAdded (label : ℕ) (positions : List ℕ) (cost : ℕ) (key : KeyOf) (old new : KeyListing) : Type 0 where
  pub ends : new.ends.items ≡ old.ends.items ++ key ∷ []
  pub rules : map placed_rule new.rules.items ≡ map placed_rule old.rules.items ++ record { end = length old.ends.items; label = label; positions = positions; cost = cost } ∷ []
  pub parts : new.parts ≡ old.parts + (2 + length positions)

-- the list and its size stay within the budget
pub record IsWithinBudget (l : KeyListing) : Type 0 where
  pub few : length l.ends.items ≤ l.parts
  pub within : l.parts ≤ l.budget
  pub budget : l.budget ≤ most_parts

module _ (one two : List (Rule ℕ)) (order : List KeyOf) where
  -- the edge is that of the rule over the keys at the positions
  pub record IsListedAt (o : ℕ × List ℕ) (e : Listed) : Type 0 where
    pub root : (rule_at one o.0).right.label ≡ label e.label
    pub positions : e.positions ≡ o.1
    pub state : e.key.0 ≡ (rule_at one o.0).left
    pub subset : IsSubset two e.label (subsets_of (keys_at order o.1)) e.key.1
    pub cost : e.cost ≡ (rule_at one o.0).cost

  -- the list with the edges of these origins appended
  abbrev pub Adds : List (ℕ × List ℕ) → KeyListing → KeyListing → Type 0
  Adds os old new = (es : List Listed) → IsListing old es → (done : List Listed) × IsListing new (es ++ done) × Along IsListedAt os done

  -- the first ones of these edges have more parts than the budget leaves
  abbrev pub Overruns : List (ℕ × List ℕ) → KeyListing → Type 0
  Overruns os old =
      (es : List Listed) → IsListing old es →
      (front : List (ℕ × List ℕ)) × (rest : List (ℕ × List ℕ)) × (done : List Listed) × (os ≡ front ++ rest) × Along IsListedAt front done × (old.budget < total listed_parts (es ++ done))

  -- the list has the edges of these origins
  abbrev pub HasAll : List (ℕ × List ℕ) → KeyListing → Type 0
  HasAll os l = (es : List Listed) × IsListing l es × Along IsListedAt os es

  -- the first ones of these edges have more parts than the budget
  abbrev pub Exceed : List (ℕ × List ℕ) → ℕ → Type 0
  Exceed os budget =
      (front : List (ℕ × List ℕ)) × (rest : List (ℕ × List ℕ)) × (done : List Listed) × (os ≡ front ++ rest) × Along IsListedAt front done × (budget < total listed_parts done)
