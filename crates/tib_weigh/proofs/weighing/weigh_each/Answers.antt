use Rattle.std.proofs.Common.{ℕ, take, subst, get_or}
use Rattle.std.proofs.lemmas.List.{take_more}
use Rattle.tib_tree.specs.Trees.{Tree}
use Rattle.tib_grammar.specs.Series.{IsSeries}
use Rattle.tib_weigh.proofs.Zipped.{zip_more}
use Rattle.tib_weigh.proofs.weighing.weigh_each.Goals as goal

pub loop-tree-preserved : goal.loop-tree-preserved
loop-tree-preserved g c =
    let i = c.loop-tree.tree-index in
    let tree : IsSeries g.S.Semiring.product c.args.normal.now.rules (get_or c.args.trees.now i c.tree-item.result) c.in_ok-weigh_by.field-0 =
    subst (λ (t : Tree ℕ). IsSeries g.S.Semiring.product c.args.normal.now.rules t c.in_ok-weigh_by.field-0) c.tree-item.is c.in_ok-weigh_by.ensures.cost
    in
    record {
      blank = c.in_ok-weigh_by.ensures.blank;
      long = c.in_ok-weigh_by.ensures.long;
      zipped = rw (take_more c.args.trees.now i c.tree-item.result c.loop-tree-test.true, c.in_ok-push.ensures.items)
          (zip_more (λ t v. IsSeries g.S.Semiring.product c.args.normal.now.rules t v) (take i c.args.trees.now) c.loop-tree.costs.items (get_or c.args.trees.now i c.tree-item.result) c.in_ok-weigh_by.field-0 c.loop-tree.invariant.zipped tree);
    }
