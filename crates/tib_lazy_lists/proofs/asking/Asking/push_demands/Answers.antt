use Rattle.std.proofs.Common.{arith}
use Rattle.tib_ranked_trees.specs.Levels.{states_at}
use Rattle.tib_ranked_trees.specs.Held.{entries_of, ranks_from}
use Rattle.tib_lazy_lists.specs.AskingOf.{asking_of}
use Rattle.tib_lazy_lists.proofs.Demanded.{named_next, named_fewer}
use Rattle.tib_lazy_lists.proofs.Led.{there_more}
use Rattle.tib_lazy_lists.proofs.asking.Asking.push_demands.Goals as goal

pub loop-i-init : goal.loop-i-init
loop-i-init g c = record { stack = c.requires.stack; kept = λ d h. h; there = λ j h. absurd (omega (arith, h)); nodes = omega arith }

pub loop-i-preserved : goal.loop-i-preserved
loop-i-preserved g c =
    let x = c.args.lists.now in
    record {
      stack = c.in_ok-push_demand.ensures.stack;
      kept = λ d h. c.in_ok-push_demand.ensures.kept d (c.loop-i.invariant.kept d h);
      there = there_more x (asking_of c.args.self.now) c.args.rule (ranks_from x c.args.rule c.args.start) c.loop-i.i c.loop-i.stack.items c.push_demand.new.stack.items c.in_ok-push_demand.ensures.kept c.loop-i.invariant.there
          c.in_ok-push_demand.ensures.there;
      nodes = omega (arith, c.in_ok-push_demand.ensures.nodes, c.loop-i.invariant.nodes, named_next (entries_of x) (states_at x.rules c.args.rule) (ranks_from x c.args.rule c.args.start) c.loop-i.i c.requires.tuple.ranks (omega (arith, c.loop-i-test.true, c.count-count.ensures.many)));
    }

pub returns-clause-there : goal.returns-clause-there
returns-clause-there g c = λ j h. c.loop-i.invariant.there j (omega (arith, h, c.loop-i-test.false, c.count-count.ensures.many))

pub returns-clause-nodes : goal.returns-clause-nodes
returns-clause-nodes g c =
    let x = c.args.lists.now in
    omega (arith, c.loop-i.invariant.nodes, named_fewer x c.args.rule (ranks_from x c.args.rule c.args.start) c.loop-i.i c.requires.tuple.ranks)
