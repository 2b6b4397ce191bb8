use Rattle.std.proofs.Common.{arith, sym, ◌∙◌, ◌∷◌, ◌≡◌, ℕ, List}
use Rattle.std.specs.Prelude.{Some}
use Rattle.std.proofs.lemmas.Option.{slice_get_within}
use Rattle.tib_ranked_trees.specs.Numbers.{children_at}
use Rattle.tib_ranked_trees.proofs.Callers.{one_more_root}
use Rattle.tib_list_tests.proofs.shared_trees.labels_are_below.Goals as goal

pub loop-i-preserved : goal.loop-i-preserved
loop-i-preserved c = (
  omega (arith, c.loop-i-test.true, c.len.ensures.value),
  one_more_root c.args.trees.now c.args.count c.loop-i.i c.label.result (children_at c.args.trees.now c.loop-i.i) c.loop-i.invariant.1 c.label.ensures.shape c.if-label-count.false,
)

pub returns : goal.returns
returns c = λ _ m f ms e.
    let within = slice_get_within c.args.trees.now m (f ∷ ms) e in
    c.loop-i.invariant.1 m f ms (omega (arith, within, c.loop-i-test.false, c.len.ensures.value)) e
