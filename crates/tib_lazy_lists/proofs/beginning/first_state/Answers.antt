use Rattle.std.proofs.Common.{arith, ap}
use Rattle.tib_ranked_trees.specs.declared.lists.Entry.{Entry}
use Rattle.tib_lazy_lists.proofs.Begun.{whole_first, closed_first}
use Rattle.tib_lazy_lists.proofs.beginning.first_state.Goals as goal

pub returns-then-len-eq0 : goal.returns-then-len-eq0
returns-then-len-eq0 g c = λ k. whole_first g.S.Semiring.product c.args.lists.now c.requires.firsts c.args.state (omega (arith, c.if-len-eq0.true, c.len.ensures))

pub returns : goal.returns
returns g c = λ k. closed_first g.S.Semiring.product c.args.lists.now c.requires.firsts c.args.state (omega (arith, c.if-len-eq0.false, c.len.ensures)) _ (ap (λ (e : Entry). e.candidate) c.entry.ensures) c.new-2.ensures.items
