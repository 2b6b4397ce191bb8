use Rattle.std.proofs.Common.{ℕ, List, ◌++◌, ap, sym, ◌∙◌}
use Rattle.tib_operations.specs.Text.{weighed_line}
use Rattle.tib_tree.specs.Growth.{HasLabels}
use Rattle.tib_texts.proofs.Lines.{lines_more, each_at}
use Rattle.tib_texts.proofs.text.lines_of_each.Goals as goal

pub loop-i-preserved : goal.loop-i-preserved
loop-i-preserved g c =
    c.in_ok-add_line.ensures
    ∙ ap (λ (xs : List ℕ). xs ++ weighed_line g.S.Semiring.SCALE c.args.labels.now c.index-trees-i.result c.index-costs-i.result) c.loop-i.invariant
    ∙ sym (lines_more (weighed_line g.S.Semiring.SCALE c.args.labels.now) c.args.trees.now c.args.costs.now c.loop-i.i c.index-trees-i.result c.index-costs-i.result c.loop-i-test.true c.requires.many c.index-trees-i.is c.index-costs-i.is)

pub add_line-requires : goal.add_line-requires
add_line-requires g c = each_at (HasLabels c.args.labels.now) c.args.trees.now c.loop-i.i c.index-trees-i.result c.requires.labels c.loop-i-test.true c.index-trees-i.is
