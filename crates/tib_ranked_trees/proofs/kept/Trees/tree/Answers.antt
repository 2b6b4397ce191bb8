use Rattle.std.proofs.Common.{arith, subst, sym, ◌∙◌, ap, length, Err}
use Rattle.tib_ranked_trees.specs.Numbers.{IsNamed}
use Rattle.tib_ranked_trees.proofs.Remaining.{one_preorder, length-preorder_of}
use Rattle.tib_ranked_trees.proofs.kept.Trees.tree.Goals as goal

pub from_preorder-requires : goal.from_preorder-requires
from_preorder-requires c =
    let t = c.size.ensures.named in
    let nodes = c.in_ok-nodes.ensures t.0 t.1 in
    let small = c.requires.small t.0 t.1 in
    omega (arith, ap length nodes, length-preorder_of t.0, small, ap length c.deref.ensures.value)

pub unreachable-requires : goal.unreachable-requires
unreachable-requires c =
    let t = c.size.ensures.named in
    let nodes = c.in_ok-nodes.ensures t.0 t.1 in
    c.in-Err-NotATree.ensures.not_a_tree (ap Err c.in-Err-NotATree.field-0-is) t.0 (sym (c.deref.ensures.value ∙ nodes))

pub returns-in-Ok : goal.returns-in-Ok
returns-in-Ok c =
    let t = c.size.ensures.named in
    let nodes = c.in_ok-nodes.ensures t.0 t.1 in
    subst (λ s. IsNamed c.args.self.now c.args.tree s) (sym (one_preorder c.in-Ok.tree t.0 (c.in-Ok.ensures.tree ∙ c.deref.ensures.value ∙ nodes))) t.1
