use Rattle.std.proofs.Common.{refl, subst}
use Rattle.tib_tree.specs.Trees.{IsOneTree, IsOneTree-preorder_of}
use Rattle.tib_tree.proofs.preorder.Tree.from_preorder.Goals as goal

pub returns-then-not-is_one_tree-clause-not_a_tree : goal.returns-then-not-is_one_tree-clause-not_a_tree
returns-then-not-is_one_tree-clause-not_a_tree c =
    λ _ t e. c.if-not-is_one_tree.ensures.no refl (subst IsOneTree e (IsOneTree-preorder_of t))
