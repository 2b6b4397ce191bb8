use Rattle.std.proofs.Common.{ap, ◌∙◌}
use Rattle.tib_k_best.specs.QueueOf.{empty_queue}
use Rattle.tib_k_best.proofs.Starting.{no_list, queue_begins}
use Rattle.tib_k_best.proofs.first.first_trees.Goals as goal

pub start-requires-clause-queue : goal.start-requires-clause-queue
start-requires-clause-queue g c =
    queue_begins g.S.Semiring.product c.args.lists.now c.requires.sound c.requires.empty c.in-Ok.queue (c.in-Ok.ensures ∙ ap empty_queue c.states.ensures)

pub start-requires-clause-none : goal.start-requires-clause-none
start-requires-clause-none g c = no_list c.args.lists.now c.requires.empty
