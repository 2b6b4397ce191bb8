-- A rule that stands for a line does so in larger tables.
use Rattle.std.proofs.Common.{ℕ, List}
use Rattle.tib_tree.specs.Grows.{Grows}
use Rattle.tib_tree.specs.Trees.{preorder_of}
use Rattle.tib_grammar_file.proofs.Alongs.{along_changes}
use Rattle.tib_transducer.specs.declared.TransducerRule.{TransducerRule}
use Rattle.tib_transducer_file.specs.Rule.{RuleLine, numbers_in, state_of}
use Rattle.tib_transducer_file.specs.Value.{IsRule, IsRuleBy, IsViewed, IsRightNode, RuleView, tree_view}
use Rattle.tib_transducer_file.proofs.SidesRead.{right_grows}
use Rattle.tib_transducer_file.proofs.LinesRead.{left_side_grows}

view_grows : (n m a b : List (List ℕ)) → Grows n m → Grows a b → (v : RuleView) (line : RuleLine) → IsViewed n a v line → IsViewed m b v line
view_grows n m a b f g v line h = record {
  state = f.kept v.state (state_of line.parts) h.state;
  left = left_side_grows a b g (preorder_of v.left) line.parts h.left;
  numbered = h.numbered;
  right = along_changes (IsRightNode n a (numbers_in line.parts.below)) (IsRightNode m b (numbers_in line.parts.below)) v.right line.parts.right (right_grows n m a b (numbers_in line.parts.below) f g) h.right;
  cost = h.cost;
}

-- the same with larger tables of states and of labels, whatever kind of rule it is
pub rule_grows_by : {R : Type 0} (view : R → RuleView) (n m a b : List (List ℕ)) → Grows n m → Grows a b → (rule : R) (line : RuleLine) → IsRuleBy view n a rule line → IsRuleBy view m b rule line
rule_grows_by view n m a b f g rule line h = view_grows n m a b f g (view rule) line h

-- with a tree on the right
pub rule_grows : (n m a b : List (List ℕ)) → Grows n m → Grows a b → (rule : TransducerRule ℕ) (line : RuleLine) → IsRule n a rule line → IsRule m b rule line
rule_grows n m a b f g rule line h = view_grows n m a b f g (tree_view rule) line h
