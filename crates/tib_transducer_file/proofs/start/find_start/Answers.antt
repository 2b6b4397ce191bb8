use Rattle.std.proofs.Common.{arith, refl, ap, length}
use Rattle.tib_transducer_file.proofs.Starts.{waits_on, begins, start_failed}
use Rattle.tib_grammar_file.proofs.RawRead.{text_no_feed}
use Rattle.tib_transducer_file.proofs.start.find_start.Goals as goal

pub loop-line-init : goal.loop-line-init
loop-line-init c = record {
  within = omega arith;
  number = omega arith;
  waits = record { read = λ rule. refl; same = refl };
}

pub returns-in-Err : goal.returns-in-Err
returns-in-Err c =
    start_failed c.args.names.now c.loop-line.names c.read_start.new.names c.args.bytes.now c.loop-line.at c.loop-line.number c.in-Some.line c.line_bytes.result.now c.in-Err.error _
    c.in-Some.ensures.line c.line_bytes.ensures c.file_error.ensures c.in-Err.ensures c.loop-line.invariant.waits

pub returns-then-found : goal.returns-then-found
returns-then-found c =
    let i = c.loop-line.invariant in
    begins c.args.names.now c.loop-line.names c.read_start.new.names c.args.bytes.now c.loop-line.at c.loop-line.number c.in-Some.line c.line_bytes.result.now _
    c.in-Some.ensures.line c.line_bytes.ensures c.if-found.true i.number c.in-Ok.ensures i.waits

pub loop-line-preserved : goal.loop-line-preserved
loop-line-preserved c =
    let i = c.loop-line.invariant in
    let next = c.in-Some.ensures.line in
    record {
      within = next.ahead;
      number = omega (arith, i.number, next.goes_on);
      waits = waits_on c.args.names.now c.loop-line.names c.read_start.new.names c.args.bytes.now c.loop-line.at c.loop-line.number c.in-Some.line c.line_bytes.result.now _
          next c.line_bytes.ensures c.if-found.false c.in-Ok.ensures i.waits;
    }

pub read_start-requires-clause-plain : goal.read_start-requires-clause-plain
read_start-requires-clause-plain c = text_no_feed c.args.bytes.now c.loop-line.number c.loop-line.at c.in-Some.line c.line_bytes.result.now c.in-Some.ensures.line c.line_bytes.ensures

pub read_start-requires-clause-room : goal.read_start-requires-clause-room
read_start-requires-clause-room c = omega (arith, c.requires.room, ap length c.loop-line.invariant.waits.same)
