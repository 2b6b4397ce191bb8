use Rattle.tib_lazy_lists.specs.Offers.{AreOpened}
use Rattle.tib_lazy_lists.proofs.followers.add_firsts.Given as goal

abbrev pub invariant-loop-rule : goal.invariant-loop-rule
invariant-loop-rule g l = AreOpened g.S.Semiring.product l.initial.lists l.rules l.but l.rule-index l.initial.heap.items l.lists l.heap.items
