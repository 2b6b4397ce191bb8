use Rattle.std.specs.Prelude.{◌+◌, sum_by}
use Rattle.std.specs.HashSet.{keys}
use Rattle.std.proofs.Common.{arith, ap}
use Rattle.tib_ranked_trees.specs.declared.lists.Candidate.{Candidate}
use Rattle.tib_lazy_lists.specs.AskingOf.{asking_of}
use Rattle.tib_lazy_lists.proofs.Listed.{large, is_asking, placed, size_is}
use Rattle.tib_lazy_lists.specs.Asks.{turns_of}
use Rattle.tib_lazy_lists.proofs.Placed.{same_turns}
use Rattle.tib_lazy_lists.proofs.asking.Asking.list.Goals as goal

pub returns-then-candidate-gt-MOST_NODES-clause-cause : goal.returns-then-candidate-gt-MOST_NODES-clause-cause
returns-then-candidate-gt-MOST_NODES-clause-cause g c =
    large g.met.S.Semiring.laws c.args.lists.now c.requires.orderly (asking_of c.args.self.now) c.args.state c.args.candidate c.requires.taking
    (omega (arith, size_is g.met.S.Semiring.laws c.args.lists.now c.requires.orderly (asking_of c.args.self.now) c.args.state c.args.candidate c.requires.taking, ap (λ (d : Candidate). d.size) c.candidate.ensures, c.if-candidate-gt-MOST_NODES.true))

pub returns-in-Ok-clause-kept : goal.returns-in-Ok-clause-kept
returns-in-Ok-clause-kept g c =
    is_asking g.met.S.Semiring.laws c.args.lists.now c.requires.orderly (asking_of c.args.self.now) c.args.state c.args.candidate c.requires.taking
    (omega (arith, size_is g.met.S.Semiring.laws c.args.lists.now c.requires.orderly (asking_of c.args.self.now) c.args.state c.args.candidate c.requires.taking, ap (λ (d : Candidate). d.size) c.candidate.ensures, c.if-candidate-gt-MOST_NODES.false))
    (keys c.list.new.listed) c.list.new.lists c.in-Ok.ensures

pub returns-in-Ok-clause-turns : goal.returns-in-Ok-clause-turns
returns-in-Ok-clause-turns g c =
    ap (λ n. n + sum_by turns_of (asking_of c.args.self.now).states) (same_turns c.args.lists.now c.args.state c.args.candidate (keys c.args.self.now.listed) c.list.new.lists (keys c.list.new.listed) c.in-Ok.ensures)

pub returns-in-Ok-clause-placed : goal.returns-in-Ok-clause-placed
returns-in-Ok-clause-placed g c =
    placed g.met.S.Semiring.laws c.args.lists.now c.requires.orderly (asking_of c.args.self.now) c.args.state c.args.candidate c.requires.taking
    (omega (arith, size_is g.met.S.Semiring.laws c.args.lists.now c.requires.orderly (asking_of c.args.self.now) c.args.state c.args.candidate c.requires.taking, ap (λ (d : Candidate). d.size) c.candidate.ensures, c.if-candidate-gt-MOST_NODES.false))
    (keys c.list.new.listed) c.list.new.lists c.in-Ok.ensures
