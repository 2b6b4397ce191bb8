use Rattle.std.specs.Prelude.{refl}
use Rattle.std.proofs.Common.{arith, inl, ◌∙◌}
use Rattle.tib_lazy_lists.specs.AskingOf.{asking_of}
use Rattle.tib_lazy_lists.proofs.Demanded.{nothing_left}
use Rattle.tib_lazy_lists.proofs.Rounded.{underway_first, underway_last, underway_next, this_answered, this_state, this_many}
use Rattle.tib_lazy_lists.proofs.asking.Asking.round.Goals as goal

pub loop-demand-init : goal.loop-demand-init
loop-demand-init g c = record {
  kept = c.requires.kept;
  listed = c.requires.listed;
  underway = underway_first c.args.lists.now (asking_of c.args.self.now) c.args.first c.in-Ok.order.items c.in-Ok.ensures.unmet c.in-Ok.ensures.few c.in-Ok.ensures.led c.in-Ok.ensures.first;
  grammar = record { rules = refl; labels = refl; label_ranks = refl; states = refl };
  same = record { k = refl; states = refl };
}

pub meet-requires-clause-state : goal.meet-requires-clause-state
meet-requires-clause-state g c =
    let w = c.loop-demand.invariant in
    omega (
      arith,
      w.same.states,
      this_state c.args.lists.now (asking_of c.args.self.now) c.args.first c.loop-demand.lists (asking_of c.loop-demand.self) c.loop-demand.order.items c.pop.new.self.items c.in-Some.demand c.in-Some.ensures.items w.underway,
    )

pub meet-requires-clause-many : goal.meet-requires-clause-many
meet-requires-clause-many g c =
    this_many c.args.lists.now (asking_of c.args.self.now) c.args.first c.loop-demand.lists (asking_of c.loop-demand.self) c.loop-demand.order.items c.pop.new.self.items c.in-Some.demand c.in-Some.ensures.items c.loop-demand.invariant.underway

pub meet-requires-clause-answered : goal.meet-requires-clause-answered
meet-requires-clause-answered g c =
    this_answered c.args.lists.now (asking_of c.args.self.now) c.args.first c.loop-demand.lists (asking_of c.loop-demand.self) c.loop-demand.order.items c.pop.new.self.items c.in-Some.demand c.in-Some.ensures.items
    c.loop-demand.invariant.underway g.S.Semiring.product c.requires.kept c.loop-demand.invariant.kept

pub loop-demand-preserved : goal.loop-demand-preserved
loop-demand-preserved g c =
    let w = c.loop-demand.invariant in
    let r = c.in-Ok-meet.ensures in
    record {
      kept = r.kept;
      listed = r.listed;
      underway = underway_next c.args.lists.now (asking_of c.args.self.now) c.args.first c.loop-demand.lists (asking_of c.loop-demand.self) c.loop-demand.order.items c.pop.new.self.items c.in-Some.demand c.in-Some.ensures.items w.underway c.meet.new.lists (asking_of c.meet.new.self) r.same.k r.more;
      grammar = record { rules = r.grammar.rules ∙ w.grammar.rules; labels = r.grammar.labels ∙ w.grammar.labels; label_ranks = r.grammar.label_ranks ∙ w.grammar.label_ranks; states = r.grammar.states ∙ w.grammar.states };
      same = record { k = r.same.k ∙ w.same.k; states = r.same.states ∙ w.same.states };
    }

pub returns-clause-round : goal.returns-clause-round
returns-clause-round g c = underway_last c.args.lists.now (asking_of c.args.self.now) c.args.first c.loop-demand.lists (asking_of c.loop-demand.self) c.loop-demand.order.items (nothing_left c.loop-demand.order.items _ c.in_default-pop.ensures.variant.1 (inl c.loop-demand.order.ok.0)) c.loop-demand.invariant.underway
