use Rattle.std.specs.Prelude.{ℕ, ◌+◌}
use Rattle.std.proofs.Common.{ap}
use Rattle.tib_ranked_trees.specs.Held.{ranks_from}
use Rattle.tib_lazy_lists.specs.AskingOf.{asking_of}
use Rattle.tib_lazy_lists.proofs.Demanded.{demand_unmet, unmet_more}
use Rattle.tib_lazy_lists.proofs.Led.{kept_more, there_met, there_put}
use Rattle.tib_lazy_lists.proofs.asking.Asking.push_demand.Goals as goal

pub returns-in_ok-push-in-Some-clause-stack : goal.returns-in_ok-push-in-Some-clause-stack
returns-in_ok-push-in-Some-clause-stack g c =
    let x = c.args.lists.now in
    let a = asking_of c.args.self.now in
    unmet_more x a c.args.stack.now.items c.push.new.self.items _ c.in_ok-push-in-Some.ensures.items c.requires.stack
    (demand_unmet g.S.Semiring.product x a c.requires.kept c.args.rule (ranks_from x c.args.rule c.args.start) c.requires.tuple c.args.i c.requires.below _ c.state.ensures.same (ap (λ (n : ℕ). n + 1) c.rank.ensures) c.state.ensures.there
    c.in-Some.ensures.left c.in-Some.ensures.few c.in-Some.ensures.free)

pub returns-in_ok-push-in-Some-clause-kept : goal.returns-in_ok-push-in-Some-clause-kept
returns-in_ok-push-in-Some-clause-kept g c = kept_more c.args.stack.now.items c.push.new.self.items _ c.in_ok-push-in-Some.ensures.items

pub returns-in_ok-push-in-Some-clause-there : goal.returns-in_ok-push-in-Some-clause-there
returns-in_ok-push-in-Some-clause-there g c =
    let x = c.args.lists.now in
    there_put x (asking_of c.args.self.now) c.args.rule (ranks_from x c.args.rule c.args.start) c.args.i c.args.stack.now.items c.push.new.self.items _ c.in_ok-push-in-Some.ensures.items c.state.ensures.same
    (ap (λ (n : ℕ). n + 1) c.rank.ensures)

pub returns-in-None-clause-there : goal.returns-in-None-clause-there
returns-in-None-clause-there g c =
    let x = c.args.lists.now in
    there_met x (asking_of c.args.self.now) c.args.rule (ranks_from x c.args.rule c.args.start) c.args.i c.args.stack.now.items _ c.in-None.ensures.none c.state.ensures.same (ap (λ (n : ℕ). n + 1) c.rank.ensures)
