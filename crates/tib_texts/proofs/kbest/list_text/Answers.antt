use Rattle.std.proofs.Common.{ℕ, List, ◌++◌, ap, sym, ◌∙◌, arith, get_or}
use Rattle.tib_ranked_trees.specs.Pass.{no_entry}
use Rattle.tib_operations.specs.KBest.{costed_line}
use Rattle.tib_texts.proofs.BestOf.{costed_more}
use Rattle.tib_texts.proofs.kbest.list_text.Goals as goal

pub loop-place-preserved : goal.loop-place-preserved
loop-place-preserved g c =
    c.in_ok-add_tree.ensures
    ∙ ap (λ (xs : List ℕ). xs ++ costed_line g.S.Semiring.SCALE c.args.labels.now (get_or c.args.list.now c.loop-place.place no_entry)) c.loop-place.invariant
    ∙ sym (costed_more g.S.Semiring.SCALE c.args.labels.now c.args.list.now c.loop-place.place (omega (arith, c.loop-place-test.true, c.len-place-end.ensures)))
