use Rattle.std.proofs.Common.{arith}
use Rattle.indexmap.specs.IndexSet.{keys}
use Rattle.tib_transducer_file.specs.Found.{variable_at}
use Rattle.tib_transducer_file.proofs.VariablesUsed.{reading_skips, reading_goes, reading_fails}
use Rattle.tib_transducer_file.proofs.parts.read_variables.Goals as goal

pub returns-then-not-branch : goal.returns-then-not-branch
returns-then-not-branch c =
    reading_fails c.args.line.now c.args.below.now (keys c.loop-i.variables) (keys c.insert.new.self) c.loop-i.i _ (variable_at c.args.line.now c.in-Some.variable) c.in_ok-insert.field-0
    (omega (arith, c.loop-i-test.true)) c.in-Some.ensures.variable c.in_ok-insert.ensures.added c.if-not-branch.true c.loop-i.invariant

pub loop-i-preserved-else-not-branch : goal.loop-i-preserved-else-not-branch
loop-i-preserved-else-not-branch c =
    reading_goes c.args.line.now c.args.below.now (keys c.loop-i.variables) (keys c.insert.new.self) c.loop-i.i _ (variable_at c.args.line.now c.in-Some.variable) c.in_ok-insert.field-0
    (omega (arith, c.loop-i-test.true)) c.in-Some.ensures.variable c.in_ok-insert.ensures.added c.if-not-branch.false c.in_ok-insert.ensures.keys c.loop-i.invariant

pub loop-i-preserved : goal.loop-i-preserved
loop-i-preserved c =
    reading_skips c.args.line.now c.args.below.now (keys c.loop-i.variables) c.loop-i.i _ (omega (arith, c.loop-i-test.true)) c.in_default.ensures.variable c.loop-i.invariant
