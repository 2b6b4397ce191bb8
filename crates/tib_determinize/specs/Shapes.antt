-- The labels and ranks of rules.
use Rattle.std.specs.Prelude.{ℕ, List, [], map}
use Rattle.indexmap.specs.IndexSet.{insert_all}
use Rattle.tib_tree.specs.Trees.{count}
use Rattle.tib_grammar.specs.Sides.{Symbol, label, hole}
use Rattle.tib_grammar.specs.declared.Rule.{Rule}
use Rattle.tib_determinize.specs.Keys.{same_entry}

-- the label at a root
abbrev pub root_label : Symbol ℕ ℕ → ℕ
root_label (label f) = f
root_label (hole p) = 0

-- the label and the rank of a rule
abbrev pub root_of : Rule ℕ → ℕ × ℕ
root_of r = (root_label r.right.label, count r.right.kids)

-- the labels and ranks of some rules, each once, by first sight
abbrev pub shapes_in : List (Rule ℕ) → List (ℕ × ℕ)
shapes_in rules = insert_all same_entry [] (map root_of rules)
