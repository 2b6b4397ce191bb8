-- Transducers whose labels and costs can be written.
use Rattle.tib_cost.specs.declared.Scale.{Scale}
use Rattle.std.specs.Prelude.{◌<◌, ℕ, List, [], length}
use Rattle.std.proofs.Common.{get_or}
use Rattle.tib_lex.specs.Lines.{HasNoFeed}
use Rattle.tib_tree.specs.Trees.{Trees, none, tree, only}
use Rattle.tib_grammar.specs.Sides.{Symbol, label, hole}
use Rattle.tib_grammar_file.specs.Printable.{IsPlainCost}
use Rattle.tib_transducer.specs.Rules.{transducer_rule}
use Rattle.tib_transducer.specs.declared.TransducerRule.{TransducerRule}

-- all labels of trees are in the table, and none of them has a line feed
abbrev pub AreLabelsPlain : {P : Type 0} → List (List ℕ) → Trees (Symbol ℕ P) → Type 0
AreLabelsPlain labels none = Unit {0}
AreLabelsPlain labels (tree (label f) kids rest) =
    (f < length labels) × HasNoFeed (get_or labels f []) × AreLabelsPlain labels kids × AreLabelsPlain labels rest
AreLabelsPlain labels (tree (hole x) kids rest) = AreLabelsPlain labels kids × AreLabelsPlain labels rest

-- a rule whose labels and whose cost can be written over a table of labels
pub record IsPlainMove (scale : Scale) (labels : List (List ℕ)) (r : TransducerRule ℕ) : Type 0 where
  pub left : AreLabelsPlain labels (only r.left)
  pub right : AreLabelsPlain labels (only r.right)
  pub cost : IsPlainCost scale r.cost

-- each of the rules is one
abbrev pub ArePlainMoves : Scale → List (List ℕ) → List (TransducerRule ℕ) → Type 0
ArePlainMoves scale labels rules = (m : ℕ) → m < length rules → IsPlainMove scale labels (transducer_rule rules m)
