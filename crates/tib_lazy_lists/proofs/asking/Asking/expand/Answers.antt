use Rattle.std.specs.Prelude.{◌+◌, ◌≤◌, ℕ, OnOk}
use Rattle.std.proofs.Common.{subst}
use Rattle.tib_lazy_lists.specs.AskingOf.{asking_of}
use Rattle.tib_lazy_lists.specs.Demands.{nodes_behind}
use Rattle.tib_lazy_lists.proofs.Led.{there_below}
use Rattle.tib_lazy_lists.proofs.Rounded.{last_nodes}
use Rattle.tib_lazy_lists.proofs.asking.Asking.expand.Goals as goal

pub returns-clause-nodes : goal.returns-clause-nodes
returns-clause-nodes g c =
    let x = c.args.lists.now in
    subst (λ (n : ℕ). OnOk c.push_demands.result (nodes_behind x c.push_demands.new.stack.items + 1 ≤ nodes_behind x c.args.stack.now.items + n))
    (last_nodes g.S.Semiring.product x (asking_of c.args.self.now) c.requires.kept c.requires.listed c.args.demand c.requires.demand c.in-Some.last c.in-Some.ensures.some c.candidate.result.now c.candidate-2.result.now
    c.candidate.ensures c.candidate-2.ensures)
    c.push_demands.ensures.nodes

pub returns-clause-there : goal.returns-clause-there
returns-clause-there g c =
    there_below c.push_demands.result c.args.lists.now (asking_of c.args.self.now) c.args.demand c.in-Some.last c.in-Some.ensures.some c.candidate.result.now c.candidate-2.result.now c.candidate.ensures c.candidate-2.ensures
    c.push_demands.new.stack.items c.push_demands.ensures.there

pub returns-in_default-clause-there : goal.returns-in_default-clause-there
returns-in_default-clause-there g c = absurd (c.requires.demand.left c.in_default.ensures.none)
