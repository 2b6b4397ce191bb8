-- A rule line of a grammar file.
use Rattle.tib_cost.specs.declared.Scale.{Scale}
use Rattle.std.specs.Prelude.{◌≡◌, ℕ, ◌-◌, Bool, true, false, nat_lt, nat_eq, List, [], ◌∷◌, ◌++◌, length, take, drop, Option, Some, None, Result, Ok, Err, if◌then◌else◌}
use Rattle.std.specs.List.{list_any}
use Rattle.tib_lex.specs.Grammar.{Word, hash, arrow, name}
use Rattle.tib_lex.specs.Line.{words_of}
use Rattle.tib_tree.specs.Written.{Written, spell, count, items, Item}
use Rattle.tib_tree.specs.Machine.{nodes_of}
use Rattle.tib_grammar_file.specs.Weight.{cost_of}
use Rattle.tib_lex.specs.declared.fault.FaultKind.{FaultKind}
use Rattle.tib_lex.specs.declared.fault.FaultKind.TheVariants as kinds
use Rattle.tib_tree.specs.Trees.{most_nodes}

abbrev pub has_dot : List ℕ → Bool
has_dot text = list_any (nat_eq 46) text

abbrev pub weight_words : Option (List ℕ) → List Word
weight_words None = []
weight_words (Some text) = hash ∷ (name text ∷ [])

-- what is written in a rule line
pub record Parts : Type 0 where
  pub left : List ℕ
  pub nodes : List Item
  pub weight : Option (List ℕ)

abbrev pub parts : List ℕ → List Item → Option (List ℕ) → Parts
parts left nodes weight = record { left = left; nodes = nodes; weight = weight }

-- The meaning: these tokens are a rule that is written so
pub record SpellsRule (words : List Word) (rule : Parts) : Type 0 where
  pub plain : has_dot rule.left ≡ false
  pub tree : Written
  pub one : count tree ≡ 1
  pub nodes : items tree ≡ rule.nodes
  pub spelled : name rule.left ∷ (arrow ∷ (spell tree ++ weight_words rule.weight)) ≡ words

-- The reading: a weight is in the last two tokens.
abbrev pub last_two : List Word → Option (List ℕ)
last_two (hash ∷ (name text ∷ [])) = Some text
last_two words = None

abbrev pub weight_in : List Word → Option (List ℕ)
weight_in words = last_two (drop (length words - 2) words)

abbrev pub weight_size : {X : Type 0} → Option X → ℕ
weight_size None = 0
weight_size (Some x) = 2

abbrev pub front_of : {X Y : Type 0} → Option X → List Y → List Y
front_of weight words = take (length words - weight_size weight) words

abbrev pub with_nodes : List ℕ → Option (List ℕ) → Option (List Item) → Option Parts
with_nodes left weight None = None
with_nodes left weight (Some nodes) = Some (parts left nodes weight)

abbrev pub right_parts : List ℕ → List Word → Option Parts
right_parts left words =
    with_nodes left (weight_in words) (nodes_of (front_of (weight_in words) words))

abbrev pub plain_parts : Bool → List ℕ → List Word → Option Parts
plain_parts true left words = None
plain_parts false left words = right_parts left words

abbrev pub head_of : List Word → Option (List ℕ × List Word)
head_of (name left ∷ (arrow ∷ words)) = Some (left, words)
head_of words = None

abbrev pub parts_with : Option (List ℕ × List Word) → Option Parts
parts_with None = None
parts_with (Some p) = plain_parts (has_dot p.0) p.0 p.1

unfoldable pub parts_of : List Word → Option Parts
parts_of words = parts_with (head_of words)

-- `parts_of` reads just the rules
abbrev pub ReadsRules : Type 0
ReadsRules =
    (words : List Word) (rule : Parts) → (parts_of words ≡ Some rule → SpellsRule words rule)
    × (SpellsRule words rule → parts_of words ≡ Some rule)

-- a rule as its line gives it, with the names unresolved
pub record RuleLine : Type 0 where
  pub left : List ℕ
  pub nodes : List Item
  pub cost : ℕ

abbrev pub rule_line_of : List ℕ → List Item → ℕ → RuleLine
rule_line_of left nodes cost = record { left = left; nodes = nodes; cost = cost }

abbrev pub few_nodes : List ℕ → List Item → ℕ → Result (Option RuleLine) FaultKind
few_nodes left nodes cost =
    if nat_lt most_nodes (length nodes) then Err kinds.TooManyNodes
    else Ok (Some (rule_line_of left nodes cost))

abbrev pub with_cost : List ℕ → List Item → Result ℕ FaultKind → Result (Option RuleLine) FaultKind
with_cost left nodes (Err kind) = Err kind
with_cost left nodes (Ok cost) = few_nodes left nodes cost

abbrev pub good_parts : Scale → Option Parts → Result (Option RuleLine) FaultKind
good_parts scale None = Err kinds.BadRule
good_parts scale (Some p) = with_cost p.left p.nodes (cost_of scale p.weight)

abbrev pub rule_in : Scale → Option (List Word) → Result (Option RuleLine) FaultKind
rule_in scale None = Err kinds.BadToken
rule_in scale (Some []) = Ok None
rule_in scale (Some (word ∷ words)) = good_parts scale (parts_of (word ∷ words))

-- no tokens, or a rule, or the first fault of the line
unfoldable pub rule_line : Scale → List ℕ → Result (Option RuleLine) FaultKind
rule_line scale line = rule_in scale (words_of line)
