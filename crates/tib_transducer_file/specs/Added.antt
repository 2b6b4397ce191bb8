-- What a transducer that is read adds to the table of labels, whatever its right sides are.
use Rattle.std.specs.Prelude.{ℕ, List, [], ◌∷◌, ◌++◌, Option, Some, None}
use Rattle.std.specs.List.{flat_map}
use Rattle.std.proofs.Common.{get_or}
use Rattle.tib_tree.specs.Grows.{AddsAll}
use Rattle.tib_tree.specs.Trees.{preorder_of}
use Rattle.tib_tree.specs.Written.{Item}
use Rattle.tib_grammar.specs.Sides.{Symbol, label, hole}
use Rattle.tib_transducer.specs.declared.Variable.{Variable}
use Rattle.tib_transducer.specs.declared.Pair.{Pair}
use Rattle.tib_transducer_file.specs.Forms.{variable_in, pair_in}
use Rattle.tib_transducer_file.specs.Rule.{Parts, RuleLine, label_of}
use Rattle.tib_transducer_file.specs.Value.{RuleView, right_text}

-- the text of the label that a variable asks for, if it asks for one
abbrev pub asked_text : List (List ℕ) → Option ℕ → List (List ℕ)
asked_text labels None = []
asked_text labels (Some f) = get_or labels f [] ∷ []

-- the text of a label, or of the one that a variable asks for; a pair has none
abbrev pub left_symbol_text : List (List ℕ) → Symbol ℕ Variable → List (List ℕ)
left_symbol_text labels (label f) = get_or labels f [] ∷ []
left_symbol_text labels (hole x) = asked_text labels x.label

abbrev pub right_symbol_text : List (List ℕ) → Symbol ℕ (Pair ℕ) → List (List ℕ)
right_symbol_text labels (label f) = get_or labels f [] ∷ []
right_symbol_text labels (hole x) = []

-- those of a rule: of the left side in preorder, and then of the right side
abbrev pub left_texts : List (List ℕ) → List (Symbol ℕ Variable × ℕ) → List (List ℕ)
left_texts labels symbols = flat_map (λ s. left_symbol_text labels s.0) symbols

abbrev pub right_texts : List (List ℕ) → List (Symbol ℕ (Pair ℕ) × ℕ) → List (List ℕ)
right_texts labels symbols = flat_map (λ s. right_symbol_text labels s.0) symbols

abbrev pub view_texts : List (List ℕ) → RuleView → List (List ℕ)
view_texts labels v = left_texts labels (preorder_of v.left) ++ right_texts labels v.right

-- those of rules of whatever kind, in the order of the rules
abbrev pub rule_texts : {R : Type 0} → (R → RuleView) → List (List ℕ) → List R → List (List ℕ)
rule_texts view labels rules = flat_map (λ r. view_texts labels (view r)) rules

-- the same as it is written: the labels in a line, from left to right
abbrev pub asked_as : Option (List ℕ) → List (List ℕ)
asked_as None = []
asked_as (Some text) = text ∷ []

abbrev pub left_text : Option (ℕ × Option (List ℕ)) → List ℕ → List (List ℕ)
left_text None text = text ∷ []
left_text (Some v) text = asked_as v.1

abbrev pub on_left : Item → List (List ℕ)
on_left i = left_text (variable_in i) i.text

abbrev pub on_right : Item → List (List ℕ)
on_right i = right_text (pair_in i) i.text

abbrev pub left_labels : Parts → List (List ℕ)
left_labels p = label_of p ∷ flat_map on_left p.below

abbrev pub labels_of : Parts → List (List ℕ)
labels_of p = left_labels p ++ flat_map on_right p.right

abbrev pub labels_in : List RuleLine → List (List ℕ)
labels_in lines = flat_map (λ line. labels_of line.parts) lines

-- the labels of a rule go into the table
abbrev pub AddsLabels : List (List ℕ) → Parts → List (List ℕ) → Type 0
AddsLabels before p labels = AddsAll before (labels_of p) labels
