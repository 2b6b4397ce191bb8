use Rattle.std.proofs.Common.{[], ◌∷◌, ◌++◌}
use Rattle.tib_canon.proofs.LinesText.{lines_more}
use Rattle.tib_canon.proofs.texts.text_of.Goals as goal

pub loop-line-preserved : goal.loop-line-preserved
loop-line-preserved c =
    lines_more c.args.lines.now c.loop-line.line-index _ (c.args.start.now ++ 10 ∷ []) c.loop-line.sink.bytes c.add_text-in-loop-line.new.sink.bytes c.loop-line-test.true c.loop-line.invariant (c.in_ok-add_text-2.ensures {u = tt})
