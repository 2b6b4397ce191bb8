-- What was read of a line before its rule is made, whatever its right side is.
use Rattle.tib_cost.specs.declared.Scale.{Scale}
use Rattle.std.specs.Prelude.{◌≡◌, ◌+◌, ◌≤◌, ℕ, List, length, false, Option, Some, None, Result, Ok, Err}
use Rattle.std.specs.List.{All}
use Rattle.tib_lex.specs.declared.fault.LineError.{LineError}
use Rattle.tib_lex.specs.declared.fault.LineError.TheVariants as errors
use Rattle.tib_lex.specs.Grammar.{Word}
use Rattle.tib_lex.specs.Lists.{Along}
use Rattle.tib_tree.specs.Written.{Item}
use Rattle.tib_tree.specs.Shape.{items_back}
use Rattle.tib_tree.specs.Trees.{most_nodes}
use Rattle.tib_tree.specs.declared.shape.Place.{Place}
use Rattle.tib_grammar.specs.Sides.{Symbol}
use Rattle.tib_grammar_file.specs.Found.{text_at}
use Rattle.tib_transducer.specs.declared.Pair.{Pair}
use Rattle.tib_transducer_file.specs.Rule.{Parts, has_unknown, numbers_in, checked, rule_line_by, rule_line_of}
use Rattle.tib_transducer_file.specs.Found.{FoundIn, parts_with}
use Rattle.tib_transducer_file.specs.Built.{AreOneTree}
use Rattle.tib_transducer_file.specs.Value.{IsRightNode}
use Rattle.tib_transducer_file.specs.declared.parts.RootAndWeight.{RootAndWeight}
use Rattle.tib_transducer_file.specs.declared.rules.RuleSource.{RuleSource}

-- the parts of a rule that was found
abbrev pub parts_found : List ℕ → List Place → List Place → RootAndWeight → Parts
parts_found line left right f = parts_with (items_back line left) (items_back line right) (text_at line f.weight)

-- the tokens of a line are a rule, and of the places of its right side this holds
pub record FoundRuleBy (reads : List Word → Option (List Item)) (Holds : List ℕ → List Place → Type 0)
    (line : List ℕ) (left right : List Place) (f : RootAndWeight) : Type 0 where
  pub lies : FoundIn line left right f
  pub read : (scale : Scale) → rule_line_by reads scale line ≡ checked scale (parts_found line left right f)
  pub left_tree : AreOneTree (items_back line left)
  pub holds : Holds line right
  pub few : length left + length right ≤ length line

-- a rule, or no tokens, or a fault
abbrev pub IsFoundBy : (List Word → Option (List Item)) → (List ℕ → List Place → Type 0) →
    List ℕ → List Place → List Place → Result (Option RootAndWeight) LineError → Type 0
IsFoundBy read Holds line left right (Ok None) = (scale : Scale) → rule_line_by read scale line ≡ Ok None
IsFoundBy read Holds line left right (Ok (Some f)) = FoundRuleBy read Holds line left right f
IsFoundBy read Holds line left right (Err (errors.Fault kind)) =
    (scale : Scale) → rule_line_by read scale line ≡ Err kind
IsFoundBy read Holds line left right (Err errors.OutOfMemory) = Unit {0}

-- what holds of a right side: of its items together, and of the place of each
abbrev pub IsRightAt : (List Item → Type 0) → (Place → Type 0) → List ℕ → List Place → Type 0
IsRightAt IsWhole IsNode line right = IsWhole (items_back line right) × All IsNode right

-- symbols stand for the items of one right side, over some tables and some variables
pub record IsWholeSide (IsWhole : List Item → Type 0) (symbols : List (Symbol ℕ (Pair ℕ) × ℕ)) :
    Type 0 where
  pub names : List (List ℕ)
  pub labels : List (List ℕ)
  pub numbers : List ℕ
  pub items : List Item
  pub whole : IsWhole items
  pub are : Along (IsRightNode names labels numbers) symbols items

-- where something was found, this holds of its right side
abbrev pub HoldsFound : (List ℕ → List Place → Type 0) →
    List ℕ → List Place → Option RootAndWeight → Type 0
HoldsFound Holds line right None = Unit {0}
HoldsFound Holds line right (Some f) = Holds line right

-- a rule without a fault, of this cost
pub record GoodRule (scale : Scale) (p : Parts) (numbers : List ℕ) (left right : List Place) (cost : ℕ) : Type 0 where
  pub read : checked scale p ≡ Ok (Some (rule_line_of p cost))
  pub numbers_are : numbers ≡ numbers_in p.below
  pub known : has_unknown p ≡ false
  pub few_left : length left ≤ most_nodes
  pub few_right : length right ≤ most_nodes

abbrev pub IsGood : Scale → Parts → List ℕ → List Place → List Place → Result ℕ LineError → Type 0
IsGood scale p numbers left right (Ok cost) = GoodRule scale p numbers left right cost
IsGood scale p numbers left right (Err (errors.Fault kind)) = checked scale p ≡ Err kind
IsGood scale p numbers left right (Err errors.OutOfMemory) = Unit {0}

-- these of what was read of a line
abbrev pub source_parts : RuleSource → Parts
source_parts s = parts_found s.line.now s.left.now s.right.now s.found

abbrev pub IsSourceBy : (List Word → Option (List Item)) → (List ℕ → List Place → Type 0) →
    RuleSource → Type 0
IsSourceBy reads Holds s = FoundRuleBy reads Holds s.line.now s.left.now s.right.now s.found

abbrev pub IsGoodSource : Scale → RuleSource → List ℕ → ℕ → Type 0
IsGoodSource scale s numbers cost =
    GoodRule scale (source_parts s) numbers s.left.now s.right.now cost
