-- The cheapest of the rules that agree in their states and sides.
use Rattle.std.specs.Prelude.{◌≡◌, ℕ, ◌<◌, ◌≤◌, ◌⊎◌, List, [], ◌∷◌, ◌++◌, length, Option, None, Some}
use Rattle.std.proofs.Common.{get_or}
use Rattle.tib_lex.specs.Lists.{Has, Distinct}
use Rattle.tib_tree.specs.Trees.{preorder_of}
use Rattle.tib_grammar.specs.Items.{pairs_of}
use Rattle.tib_grammar.specs.declared.Item.{Item}
use Rattle.tib_canon.specs.Choosing.{IsChosenOf, AreChosen}
use Rattle.tib_transducer.specs.Rules.{transducer_rule}
use Rattle.tib_transducer.specs.declared.Variable.{Variable}
use Rattle.tib_transducer.specs.declared.Pair.{Pair}
use Rattle.tib_transducer.specs.declared.TransducerRule.{TransducerRule}
use Rattle.tib_canon.specs.Ordered.{AgreeInSides}

-- what rules are merged by: the state, and the items of both sides
abbrev pub Sides : Type 0
Sides = ℕ × List (Item Variable) × List (Item (Pair ℕ))

abbrev pub no_sides : Sides
no_sides = (0, [], [])

-- these are the state and the sides of the rule
abbrev pub AreSidesOf : Sides → TransducerRule ℕ → Type 0
AreSidesOf k r = (k.0 ≡ r.state) × (pairs_of k.1 ≡ preorder_of r.left) × (pairs_of k.2 ≡ preorder_of r.right)

-- sides were noted after others, unless they were among them
abbrev pub IsNoted : List Sides → Sides → Option ℕ → List Sides → Type 0
IsNoted old k None new = (Has old k → ⊥) × (new ≡ old ++ k ∷ [])
IsNoted old k (Some i) new = (i < length old) × (get_or old i no_sides ≡ k) × (new ≡ old)

-- one of two positions; its rule costs no more than the rule at either
pub record IsCheaper (rules : List (TransducerRule ℕ)) (a b c : ℕ) : Type 0 where
  pub either : (c ≡ a) ⊎ (c ≡ b)
  pub first : (transducer_rule rules c).cost ≤ (transducer_rule rules a).cost
  pub second : (transducer_rule rules c).cost ≤ (transducer_rule rules b).cost

-- a rule with the state and sides of r that costs no more is at one of the positions
pub record HasCheaperAt (rules : List (TransducerRule ℕ)) (positions : List ℕ) (r : TransducerRule ℕ) : Type 0 where
  pub position : ℕ
  pub stands : Has positions position
  pub agrees : AgreeInSides (transducer_rule rules position) r
  pub costs : (transducer_rule rules position).cost ≤ r.cost

-- Of rules that agree, one of the cheapest is at one of the positions, and no other.
pub record AreCheapest (rules : List (TransducerRule ℕ)) (positions : List ℕ) : Type 0 where
  pub below : (p : ℕ) → Has positions p → p < length rules
  pub distinct : Distinct positions
  pub few : length positions ≤ length rules
  pub apart : (p q : ℕ) → Has positions p → Has positions q → AgreeInSides (transducer_rule rules p) (transducer_rule rules q) → p ≡ q
  pub whole : (m : ℕ) → m < length rules → HasCheaperAt rules positions (transducer_rule rules m)

-- sides i are those of rule m, and the rule at position i costs no more
abbrev pub IsChosenFor : List (TransducerRule ℕ) → List Sides → List ℕ → ℕ → ℕ → Type 0
IsChosenFor rules sides best m i = IsChosenOf no_sides (λ k p. AreSidesOf k (transducer_rule rules p)) (λ p. (transducer_rule rules p).cost) sides best m i

-- For each of the distinct sides of the first n rules, the position of the cheapest rule that has
-- them.
abbrev pub IsChoosing : List (TransducerRule ℕ) → ℕ → List Sides → List ℕ → Type 0
IsChoosing rules n sides best = AreChosen no_sides (λ k p. AreSidesOf k (transducer_rule rules p)) (λ p. (transducer_rule rules p).cost) n sides best
