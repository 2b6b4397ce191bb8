use Rattle.std.proofs.Common.{◌≡◌, ◌++◌, [], ◌∷◌, take}
use Rattle.tib_canon.specs.Lines.{lines_text}
use Rattle.tib_canon.proofs.texts.text_of.Given as goal

abbrev pub invariant-loop-line : goal.invariant-loop-line
invariant-loop-line l = l.sink.bytes ≡ (l.start ++ 10 ∷ []) ++ lines_text (take l.line-index l.lines)
