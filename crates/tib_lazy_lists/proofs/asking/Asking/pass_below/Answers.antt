use Rattle.std.specs.Prelude.{length}
use Rattle.tib_lazy_lists.specs.AskingOf.{asking_of}
use Rattle.tib_lazy_lists.proofs.Stacked.{pushed, next_passed, next_falls}
use Rattle.tib_lazy_lists.proofs.asking.Asking.pass_below.Goals as goal

pub returns-in_default-clause-next : goal.returns-in_default-clause-next
returns-in_default-clause-next g c =
    next_passed g.S.Semiring.product c.args.lists.now (asking_of c.args.self.now) c.args.above c.args.i c.args.next c.candidate.result.now c.candidate-2.result.now c.candidate.ensures c.candidate-2.ensures
    (rw c.in_default.is at c.below.ensures.none) c.requires.next

pub returns-in_ok-push-in-None-clause-stack : goal.returns-in_ok-push-in-None-clause-stack
returns-in_ok-push-in-None-clause-stack g c = pushed (length (asking_of c.args.self.now).states) c.args.stack.now.items c.push.new.self.items c.args.above c.in_ok-push-in-None.ensures.items c.requires.stack c.requires.above.state

pub returns-in_ok-push-in-Some-next-clause-stack : goal.returns-in_ok-push-in-Some-next-clause-stack
returns-in_ok-push-in-Some-next-clause-stack g c =
    let n = rw c.in-Some-next.is at c.requires.next in
    pushed (length (asking_of c.args.self.now).states) c.args.stack.now.items c.push-in-Some-next.new.self.items c.in-Some-next.earlier c.in_ok-push-in-Some-next.ensures.items c.requires.stack n.0.state

pub returns-in_ok-push-in-None-clause-next : goal.returns-in_ok-push-in-None-clause-next
returns-in_ok-push-in-None-clause-next g c = (
  rw c.in-Some.is at c.below.ensures.some,
  next_falls g.S.Semiring.product c.args.lists.now (asking_of c.args.self.now) c.requires.kept c.args.above c.in-Some.question c.requires.above c.args.i c.requires.below c.candidate.result.now c.candidate-2.result.now
      c.candidate.ensures c.candidate-2.ensures (rw c.in-Some.is at c.below.ensures.at) (rw c.in-Some.is at c.below.ensures.end),
)

pub returns-in_ok-push-in-Some-next-clause-next : goal.returns-in_ok-push-in-Some-next-clause-next
returns-in_ok-push-in-Some-next-clause-next g c = (
  rw c.in-Some.is at c.below.ensures.some,
  next_falls g.S.Semiring.product c.args.lists.now (asking_of c.args.self.now) c.requires.kept c.args.above c.in-Some.question c.requires.above c.args.i c.requires.below c.candidate.result.now c.candidate-2.result.now
      c.candidate.ensures c.candidate-2.ensures (rw c.in-Some.is at c.below.ensures.at) (rw c.in-Some.is at c.below.ensures.end),
)
