-- A grammar as it is printed.
use Rattle.tib_cost.specs.Scale.{is_weighted, weight_in}
use Rattle.tib_cost.specs.declared.Scale.{Scale}
use Rattle.std.specs.Prelude.{ℕ, ◌<◌, Bool, true, false, ◌&&◌, not, List, [], ◌∷◌, ◌++◌, length, decimal, if◌then◌else◌}
use Rattle.std.specs.List.{list_any}
use Rattle.std.specs.Str.{bytes_eq}
use Rattle.std.proofs.Common.{get_or}
use Rattle.tib_lex.specs.Grammar.{is_name, label, spelling}
use Rattle.tib_tree.specs.Trees.{Trees, none, tree, only}
use Rattle.tib_grammar.specs.Sides.{Symbol, Side, label as symbol_label, hole}
use Rattle.tib_grammar.specs.GrammarOf.{GrammarOf}
use Rattle.tib_grammar.specs.Run.{rule_at}
use Rattle.tib_grammar.specs.declared.Rule.{Rule}
use Rattle.tib_grammar_file.specs.TreeText.{symbol_text as written_symbol, trees_text as written_trees, IsSymbolWithin as HasSymbolText, IsSideWithin as HasSideText}
use Rattle.tib_grammar_file.specs.FileText.{lines_text}
pub use Rattle.tib_grammar_file.specs.TreeText.{space, opening, closing}

-- whether a text is one of the names
abbrev pub is_held : List (List ℕ) → List ℕ → Bool
is_held names text = list_any (bytes_eq text) names

-- a label's text, in quotes where it reads as no name or as a state's
abbrev pub label_text : List (List ℕ) → List ℕ → List ℕ
label_text names text =
    if is_name text && not (is_held names text) then text else spelling (label text)

-- a state's name
abbrev pub state_text : List (List ℕ) → List (List ℕ) → ℕ → List ℕ
state_text names labels q = get_or names q []

abbrev pub symbol_text : List (List ℕ) → List (List ℕ) → Symbol ℕ ℕ → List ℕ
symbol_text names labels = written_symbol (label_text names) (state_text names labels) labels

-- a state has a name
abbrev pub IsStateWithin : List (List ℕ) → List (List ℕ) → ℕ → Type 0
IsStateWithin names labels q = q < length names

-- a label or a state has a text
abbrev pub IsSymbolWithin : List (List ℕ) → List (List ℕ) → Symbol ℕ ℕ → Type 0
IsSymbolWithin names labels = HasSymbolText (IsStateWithin names labels) (length labels)

-- the labels and states of a side have texts
abbrev pub IsSideWithin : List (List ℕ) → List (List ℕ) → Side ℕ ℕ → Type 0
IsSideWithin names labels = HasSideText (IsStateWithin names labels) (length labels)

-- those of a rule have
pub record IsRuleWithin (names labels : List (List ℕ)) (r : Rule ℕ) : Type 0 where
  pub left : r.left < length names
  pub right : IsSideWithin names labels r.right

-- the labels of trees are below n
abbrev pub LabelsBelow : ℕ → Trees (Symbol ℕ ℕ) → Type 0
LabelsBelow n none = Unit {0}
LabelsBelow n (tree (symbol_label f) kids rest) = (f < n) × LabelsBelow n kids × LabelsBelow n rest
LabelsBelow n (tree (hole q) kids rest) = LabelsBelow n rest

-- the labels of rules have texts in a table of n
abbrev pub AreLabelled : ℕ → List (Rule ℕ) → Type 0
AreLabelled n rules = (m : ℕ) → m < length rules → LabelsBelow n (only (rule_at rules m).right)

-- trees after k others
abbrev pub trees_text : List (List ℕ) → List (List ℕ) → Trees (Symbol ℕ ℕ) → ℕ → List ℕ
trees_text names labels = written_trees (symbol_text names labels)

-- the weight that stands for the cost of a rule, where weights are printed
abbrev pub weight_text : Bool → ℕ → List ℕ
weight_text false weight = []
weight_text true weight = 32 ∷ (35 ∷ (32 ∷ decimal weight))

abbrev pub cost_text : Scale → ℕ → List ℕ
cost_text scale cost = weight_text (is_weighted scale) (weight_in scale cost)

-- the line of a rule
abbrev pub rule_text : Scale → List (List ℕ) → List (List ℕ) → Rule ℕ → List ℕ
rule_text scale names labels r =
    get_or names r.left [] ++ (32 ∷ (45 ∷ (62 ∷ (32 ∷ []))) ++ (trees_text names labels (only r.right) 0 ++ (cost_text scale r.cost ++ 10 ∷ [])))

abbrev pub rules_text : Scale → List (List ℕ) → List (List ℕ) → List (Rule ℕ) → List ℕ
rules_text scale names labels = lines_text (rule_text scale names labels)

-- the start's line, and then a line for each rule
abbrev pub grammar_text : Scale → List (List ℕ) → GrammarOf → List ℕ
grammar_text scale labels g =
    (get_or g.names 0 [] ++ 10 ∷ []) ++ rules_text scale g.names labels g.rules
