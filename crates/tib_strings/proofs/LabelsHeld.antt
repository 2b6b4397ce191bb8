-- The labels of a transducer that was read are in the table.
use Rattle.tib_cost.specs.declared.Scale.{Scale}
use Rattle.std.proofs.Common.{ℕ, List, length}
use Rattle.tib_tree.specs.Trees.{preorder_of}
use Rattle.tib_grammar.specs.Sides.{Symbol}
use Rattle.tib_strings.specs.StringTransducerOf.{StringTransducerOf}
use Rattle.tib_strings.specs.declared.StringRule.{StringRule}
use Rattle.tib_transducer.specs.declared.Pair.{Pair}
use Rattle.tib_transducer_file.specs.Forms.{pair_in}
use Rattle.tib_transducer_file.specs.Rule.{RuleLine, numbers_in}
use Rattle.tib_transducer_file.proofs.LabelsHeld.{each_along, side_below, right_below}
use Rattle.tib_strings.specs.Labelled.{IsBelowOnRight, HasLabelsBelow, AreLabelled}
use Rattle.tib_strings.specs.TransducerText.{ReadsAs}
use Rattle.tib_strings.specs.RuleValue.{IsRightNode, nodes_of, IsRule}

module _ (names labels : List (List ℕ)) where
  rule_below : (r : StringRule ℕ) (line : RuleLine) → IsRule names labels r line → HasLabelsBelow (length labels) r
  rule_below r line h = record {
    left = side_below names labels (preorder_of r.left) line.parts h.left;
    right = each_along (IsRightNode names labels (numbers_in line.parts.below)) (λ (q : Symbol ℕ (Pair ℕ) × ℕ). IsBelowOnRight (length labels) q.0)
        (λ q i k. right_below names labels (numbers_in line.parts.below) q.0 (pair_in i) i.text k.0) (nodes_of r.right) line.parts.right h.right;
  }

-- all of a transducer that was read
pub text_labelled : (scale : Scale) (labels : List (List ℕ)) (bytes : List ℕ) (t : StringTransducerOf) → ReadsAs scale labels bytes t → AreLabelled (length labels) t.rules
text_labelled scale labels bytes t r = each_along (IsRule t.names labels) (HasLabelsBelow (length labels)) (rule_below t.names labels) t.rules r.text.lines r.text.rules
