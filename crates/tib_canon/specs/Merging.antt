-- The cheapest of the rules that agree in both sides.
use Rattle.std.specs.Prelude.{◌≡◌, ℕ, ◌<◌, ◌≤◌, ◌⊎◌, List, [], ◌∷◌, ◌++◌, length, Option, None, Some}
use Rattle.std.proofs.Common.{get_or}
use Rattle.tib_lex.specs.Lists.{Has, Distinct}
use Rattle.tib_tree.specs.Trees.{preorder_of}
use Rattle.tib_grammar.specs.Items.{pairs_of}
use Rattle.tib_grammar.specs.Run.{rule_at}
use Rattle.tib_grammar.specs.declared.Item.{Item}
use Rattle.tib_grammar.specs.declared.Rule.{Rule}
use Rattle.tib_canon.specs.Canonical.{AgreeInSides}
use Rattle.tib_canon.specs.Choosing.{IsChosenOf, AreChosen}

-- both sides of a rule: the left state, and the items of the right-hand side
abbrev pub Sides : Type 0
Sides = ℕ × List (Item ℕ)

abbrev pub no_sides : Sides
no_sides = (0, [])

-- these are the sides of the rule
abbrev pub AreSidesOf : Sides → Rule ℕ → Type 0
AreSidesOf k r = (k.0 ≡ r.left) × (pairs_of k.1 ≡ preorder_of r.right)

-- sides were noted after others, unless they were among them
abbrev pub IsNoted : List Sides → Sides → Option ℕ → List Sides → Type 0
IsNoted old k None new = (Has old k → ⊥) × (new ≡ old ++ k ∷ [])
IsNoted old k (Some i) new = (i < length old) × (get_or old i no_sides ≡ k) × (new ≡ old)

-- one of two positions; its rule costs no more than the rule at either
pub record IsCheaper (rules : List (Rule ℕ)) (a b c : ℕ) : Type 0 where
  pub either : (c ≡ a) ⊎ (c ≡ b)
  pub first : (rule_at rules c).cost ≤ (rule_at rules a).cost
  pub second : (rule_at rules c).cost ≤ (rule_at rules b).cost

-- a rule with the sides of r that costs no more is at one of the positions
pub record HasCheaperAt (rules : List (Rule ℕ)) (positions : List ℕ) (r : Rule ℕ) : Type 0 where
  pub position : ℕ
  pub stands : Has positions position
  pub agrees : AgreeInSides (rule_at rules position) r
  pub costs : (rule_at rules position).cost ≤ r.cost

-- Of rules that agree in both sides, one of the cheapest is at one of the positions, and no other.
pub record AreCheapest (rules : List (Rule ℕ)) (positions : List ℕ) : Type 0 where
  pub below : (p : ℕ) → Has positions p → p < length rules
  pub distinct : Distinct positions
  pub few : length positions ≤ length rules
  pub apart : (p q : ℕ) → Has positions p → Has positions q → AgreeInSides (rule_at rules p) (rule_at rules q) → p ≡ q
  pub whole : (m : ℕ) → m < length rules → HasCheaperAt rules positions (rule_at rules m)

-- sides i are those of rule m, and the rule at position i costs no more
abbrev pub IsChosenFor : List (Rule ℕ) → List Sides → List ℕ → ℕ → ℕ → Type 0
IsChosenFor rules sides best m i = IsChosenOf no_sides (λ k p. AreSidesOf k (rule_at rules p)) (λ p. (rule_at rules p).cost) sides best m i

-- For each of the distinct sides of the first n rules, the position of the cheapest rule that has
-- them.
abbrev pub IsChoosing : List (Rule ℕ) → ℕ → List Sides → List ℕ → Type 0
IsChoosing rules n sides best = AreChosen no_sides (λ k p. AreSidesOf k (rule_at rules p)) (λ p. (rule_at rules p).cost) n sides best
