use Rattle.std.specs.HashSet.{keys}
use Rattle.std.proofs.Common.{arith, subst}
use Rattle.tib_ranked_trees.specs.declared.lists.Entry.{Entry}
use Rattle.tib_lazy_lists.specs.Asks.{IsNoted}
use Rattle.tib_lazy_lists.proofs.Begun.{listed_skip, listed_next}
use Rattle.tib_lazy_lists.proofs.beginning.note_first.Goals as goal

pub returns-then-len-eq0 : goal.returns-then-len-eq0
returns-then-len-eq0 g c = listed_skip c.args.lists.now c.args.state (keys c.args.listed.now) (omega (arith, c.if-len-eq0.true, c.len.ensures)) c.requires.listed

pub returns : goal.returns
returns g c =
    listed_next g.S.Semiring.product c.args.lists.now c.requires.firsts c.args.state (keys c.args.listed.now) (keys c.note.new.listed) (omega (arith, c.if-len-eq0.false, c.len.ensures))
    (subst (λ (e : Entry). IsNoted (keys c.args.listed.now) (c.args.state, e.tree) (keys c.note.new.listed)) c.entry.ensures c.in_ok-note.ensures.noted) c.requires.listed
