use Rattle.std.specs.Prelude.{length}
use Rattle.tib_lazy_lists.specs.AskingOf.{asking_of}
use Rattle.tib_lazy_lists.proofs.Stacked.{popped}
use Rattle.tib_lazy_lists.proofs.asking.Asking.next_open.Goals as goal

pub is_open-requires-clause-state : goal.is_open-requires-clause-state
is_open-requires-clause-state g c = (popped (length (asking_of c.args.self.now).states) c.loop-question.stack.items c.pop.new.self.items c.in-Some.question c.in-Some.ensures.items c.loop-question.invariant).0

pub returns-then-is_open-clause-stack : goal.returns-then-is_open-clause-stack
returns-then-is_open-clause-stack g c = (popped (length (asking_of c.args.self.now).states) c.loop-question.stack.items c.pop.new.self.items c.in-Some.question c.in-Some.ensures.items c.loop-question.invariant).1

pub loop-question-preserved : goal.loop-question-preserved
loop-question-preserved g c = (popped (length (asking_of c.args.self.now).states) c.loop-question.stack.items c.pop.new.self.items c.in-Some.question c.in-Some.ensures.items c.loop-question.invariant).1
