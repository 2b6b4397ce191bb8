use Rattle.std.proofs.Common.{take}
use Rattle.std.specs.Prelude.{Result, Ok}
use Rattle.tib_lex.specs.Grammar.{escape}
use Rattle.tib_io.specs.declared.files.Failed.{Failed}
use Rattle.tib_io.specs.Wrote.{Wrote}
use Rattle.tib_grammar_file.proofs.pieces.put_escaped.Given as goal

abbrev pub invariant-loop-byte : goal.invariant-loop-byte
invariant-loop-byte g l = let done : Result (Unit {0}) Failed = Ok tt in Wrote (g.W.Sink.seen l.fn.out) (g.W.Sink.seen l.out) (escape (take l.byte-index l.text)) done
