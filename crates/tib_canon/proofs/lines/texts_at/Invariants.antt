use Rattle.std.proofs.Common.{take, map}
use Rattle.tib_grammar.specs.Run.{rule_at}
use Rattle.tib_canon.specs.Lines.{AreTexts}
use Rattle.tib_canon.proofs.lines.texts_at.Given as goal

abbrev pub invariant-loop-position : goal.invariant-loop-position
invariant-loop-position g l = AreTexts g.S.Semiring.SCALE l.names l.labels (map (rule_at l.rules) (take l.position-index l.positions)) l.sink.bytes l.ends.items
