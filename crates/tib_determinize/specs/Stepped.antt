-- Edges that are listed one after another, for the labels and positions that are tried.
use Rattle.std.specs.Prelude.{◌≡◌, ℕ, ◌+◌, ◌<◌, ◌≤◌, ◌⊎◌, List, [], ◌∷◌, ◌++◌, length, map}
use Rattle.std.proofs.Common.{suc}
use Rattle.tib_lex.specs.Lists.{total}
use Rattle.tib_grammar.specs.declared.Rule.{Rule}
use Rattle.tib_expand.specs.Reached.{most_parts}
use Rattle.tib_cost.specs.Semiring.{most}
use Rattle.tib_determinize.specs.VectorRules.{PlacedRule, placed_rule}
use Rattle.tib_determinize.specs.declared.listing.VectorListing.{VectorListing}
use Rattle.tib_determinize.specs.Vectors.{VectorOf, IsStepCost, IsStep, vectors_at}

-- an edge: its label and positions, its cost, and the vector that it leads from
pub record Stepped : Type 0 where
  pub label : ℕ
  pub positions : List ℕ
  pub cost : ℕ
  pub vector : VectorOf

abbrev pub stepped_parts : Stepped → ℕ
stepped_parts e = 2 + length e.positions

-- the rules of some edges, of which the first has the end i
abbrev pub rules_from : ℕ → List Stepped → List PlacedRule
rules_from i [] = []
rules_from i (e ∷ es) = record { end = i; label = e.label; positions = e.positions; cost = e.cost } ∷ rules_from (suc i) es

-- the list has these edges
pub record IsListing (l : VectorListing) (es : List Stepped) : Type 0 where
  pub ends : l.ends.items ≡ map (λ e. e.vector) es
  pub rules : map placed_rule l.rules.items ≡ rules_from 0 es
  pub parts : l.parts ≡ total stepped_parts es

-- the list with one edge appended
pub record IsAdded (label : ℕ) (positions : List ℕ) (cost : ℕ) (vector : VectorOf) (old new : VectorListing) : Type 0 where
  pub ends : new.ends.items ≡ old.ends.items ++ vector ∷ []
  pub rules : map placed_rule new.rules.items ≡ map placed_rule old.rules.items ++ record { end = length old.ends.items; label = label; positions = positions; cost = cost } ∷ []
  pub parts : new.parts ≡ old.parts + (2 + length positions)

-- the list and its size stay within the budget
pub record IsWithinBudget (l : VectorListing) : Type 0 where
  pub few : length l.ends.items ≤ l.parts
  pub within : l.parts ≤ l.budget
  pub budget : l.budget ≤ most_parts

module _ (product : ℕ → ℕ → ℕ) (rules : List (Rule ℕ)) (order : List VectorOf) where
  -- no state has a cost at the label over the vectors at these positions
  abbrev pub HasNoStep : ℕ × List ℕ → Type 0
  HasNoStep o = (q u : ℕ) → IsStepCost product rules o.0 (vectors_at order o.1) q u → u ≤ most → ⊥

  -- the edge is the step of the label over the vectors at these positions
  pub record IsSteppedAt (o : ℕ × List ℕ) (e : Stepped) : Type 0 where
    pub label : e.label ≡ o.0
    pub positions : e.positions ≡ o.1
    pub step : IsStep product rules o.0 (vectors_at order o.1) e.cost e.vector

  -- the edges are those of these labels and positions, in their order
  abbrev pub AreSteps : List (ℕ × List ℕ) → List Stepped → Type 0
  AreSteps [] es = es ≡ []
  AreSteps (o ∷ os) es = (HasNoStep o × AreSteps os es) ⊎ ((e : Stepped) × (rest : List Stepped) × (es ≡ e ∷ rest) × IsSteppedAt o e × AreSteps os rest)

  -- Of all that are tried some remain: what was listed since, with the edges of those that remain,
  -- are the edges of all.
  abbrev pub IsUnderway : List (ℕ × List ℕ) → List (ℕ × List ℕ) → VectorListing → VectorListing → Type 0
  IsUnderway all remaining old now =
      (es : List Stepped) → IsListing old es → (done : List Stepped) × IsListing now (es ++ done) × ((rest : List Stepped) → AreSteps remaining rest → AreSteps all (done ++ rest))

  -- the list with the edges of all that are tried appended
  abbrev pub AddsSteps : List (ℕ × List ℕ) → VectorListing → VectorListing → Type 0
  AddsSteps all old new = IsUnderway all [] old new

  -- some first ones of these edges have more parts than the budget leaves
  abbrev pub StepsOverrun : List (ℕ × List ℕ) → VectorListing → Type 0
  StepsOverrun all old =
      (es : List Stepped) → IsListing old es →
      (done : List Stepped) × (remaining : List (ℕ × List ℕ)) × (old.budget < total stepped_parts (es ++ done))
      × ((rest : List Stepped) → AreSteps remaining rest → AreSteps all (done ++ rest))

  -- the list has the edges of all that are tried
  abbrev pub HasSteps : List (ℕ × List ℕ) → VectorListing → Type 0
  HasSteps all l = (es : List Stepped) × IsListing l es × AreSteps all es

  -- some first ones of these edges have more parts than the budget
  abbrev pub StepsExceed : List (ℕ × List ℕ) → ℕ → Type 0
  StepsExceed all budget =
      (done : List Stepped) × (remaining : List (ℕ × List ℕ)) × (budget < total stepped_parts done) × ((rest : List Stepped) → AreSteps remaining rest → AreSteps all (done ++ rest))
