use Rattle.std.proofs.Common.{refl, sym, true≢false, arith, ◌∙◌, ◌+◌}
use Rattle.tib_workers.proofs.Slotting.{begin_putting, its_place, room_there, put_one}
use Rattle.tib_workers.proofs.gather.put_rows.Goals as goal

pub loop-row-init : goal.loop-row-init
loop-row-init g c = begin_putting g.P.Task.gives g.P.Task.count_of (g.P.Problem.about c.args.task) c.args.rows.items c.args.count c.in_ok-slots.slots.items c.in_ok-slots.ensures c.requires.bound

pub put_row-requires : goal.put_row-requires
put_row-requires g c = its_place g.P.Task.gives g.P.Task.count_of (g.P.Problem.about c.args.task) c.args.rows.items c.loop-row.rows.items c.args.count c.loop-row.slots.items c.loop-row.used c.loop-row.invariant c.pop.new.self.items c.in-Some.row c.in-Some.ensures.items

pub overflow_add-used : goal.overflow_add-used
overflow_add-used g c =
    let r = room_there g.P.Task.gives g.P.Task.count_of (g.P.Problem.about c.args.task) c.args.rows.items c.loop-row.rows.items c.args.count c.loop-row.slots.items c.loop-row.used c.loop-row.invariant c.pop.new.self.items c.in-Some.row c.in-Some.ensures.items in
    let f = c.requires.few in
    record { fits = omega arith }

pub loop-row-preserved-then-put_row : goal.loop-row-preserved-then-put_row
loop-row-preserved-then-put_row g c = put_one g.P.Task.gives g.P.Task.count_of (g.P.Problem.about c.args.task) c.args.rows.items c.loop-row.rows.items c.args.count c.loop-row.slots.items c.loop-row.used c.loop-row.invariant c.pop.new.self.items c.in-Some.row c.in-Some.ensures.items
    c.put_row.new.slots.items c.put_row.result c.put_row.ensures (c.loop-row.used + c.in-Some.row.parts) (λ _. refl) (λ f. absurd (true≢false (sym c.if-put_row.true ∙ f)))

pub loop-row-preserved : goal.loop-row-preserved
loop-row-preserved g c = put_one g.P.Task.gives g.P.Task.count_of (g.P.Problem.about c.args.task) c.args.rows.items c.loop-row.rows.items c.args.count c.loop-row.slots.items c.loop-row.used c.loop-row.invariant c.pop.new.self.items c.in-Some.row c.in-Some.ensures.items
    c.put_row.new.slots.items c.put_row.result c.put_row.ensures c.loop-row.used (λ t. absurd (true≢false (sym t ∙ c.if-put_row.false))) (λ _. refl)

pub returns-clause-slots : goal.returns-clause-slots
returns-clause-slots g c = λ known a. (c.loop-row.invariant.there known a).1

pub returns-clause-len : goal.returns-clause-len
returns-clause-len g c = c.loop-row.invariant.long

pub returns-clause-parts : goal.returns-clause-parts
returns-clause-parts g c = c.loop-row.invariant.parts

pub returns-clause-within : goal.returns-clause-within
returns-clause-within g c = let e = c.loop-row.invariant.enough in omega arith
