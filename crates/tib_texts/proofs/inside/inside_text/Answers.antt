use Rattle.std.proofs.Common.{ℕ, List, ◌++◌, ap, sym, ◌∙◌, arith}
use Rattle.tib_operations.specs.Text.{inside_line}
use Rattle.tib_texts.proofs.Lines.{lines_more, got}
use Rattle.tib_texts.proofs.inside.inside_text.Goals as goal

pub loop-state-preserved : goal.loop-state-preserved
loop-state-preserved g c =
    c.in_ok-add_state.ensures
    ∙ ap (λ (xs : List ℕ). xs ++ inside_line g.S.Semiring.SCALE c.text.result.now c.index-costs-state.result) c.loop-state.invariant
    ∙ sym (lines_more (inside_line g.S.Semiring.SCALE) c.args.names.now c.args.costs.now c.loop-state.state c.text.result.now c.index-costs-state.result (omega (arith, c.loop-state-test.true, c.len-state-end.ensures)) c.requires
    (got c.args.names.now c.loop-state.state c.text.result.now c.text.ensures) c.index-costs-state.is)
