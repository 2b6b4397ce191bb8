use Rattle.std.proofs.Common.{refl}
use Rattle.tib_io.specs.declared.files.Failed.{Failed}
use Rattle.tib_grammar_file.proofs.Printing.{seq, cut, prints_nothing, escape_step, escape_parts, prints_done}
use Rattle.std.proofs.Common.{take, drop, ◌+◌}
use Rattle.tib_lex.specs.Grammar.{escape}
use Rattle.tib_grammar_file.proofs.pieces.put_escaped.Goals as goal

pub loop-byte-init : goal.loop-byte-init
loop-byte-init g c = prints_nothing (Unit {0}) Failed (g.W.Sink.seen c.args.out.now) tt

pub returns-in-Err : goal.returns-in-Err
returns-in-Err g c =
    let text = c.args.text.now in
    let k = c.loop-byte.byte-index in
    cut (Unit {0}) (Unit {0}) Failed g.W.Sink.seen c.args.out.now c.put_byte.new.out (escape (take (k + 1) text)) (escape (drop (k + 1) text)) (escape text) _ (escape_parts text (k + 1))
    (seq (Unit {0}) (Unit {0}) Failed g.W.Sink.seen c.args.out.now c.loop-byte.out c.put_byte.new.out (escape (take k text)) _ (escape (take (k + 1) text)) tt _ (escape_step text k _ c.loop-byte-test.true refl) c.loop-byte.invariant c.in-Err.ensures)

pub loop-byte-preserved : goal.loop-byte-preserved
loop-byte-preserved g c =
    let text = c.args.text.now in
    let k = c.loop-byte.byte-index in
    seq (Unit {0}) (Unit {0}) Failed g.W.Sink.seen c.args.out.now c.loop-byte.out c.put_byte.new.out (escape (take k text)) _ (escape (take (k + 1) text)) tt _ (escape_step text k _ c.loop-byte-test.true refl) c.loop-byte.invariant c.in-Ok.ensures

pub returns : goal.returns
returns g c = prints_done c.args.text.now c.loop-byte.byte-index (Unit {0}) Failed (g.W.Sink.seen c.args.out.now) (g.W.Sink.seen c.loop-byte.out) _ c.loop-byte-test.false c.loop-byte.invariant
