use Rattle.std.proofs.Common.{arith, sym, ◌∙◌}
use Rattle.tib_lazy_lists.specs.AskingOf.{asking_of}
use Rattle.tib_lazy_lists.proofs.Rounded.{fronts_over, start_best, within_next}
use Rattle.tib_lazy_lists.proofs.asking.Asking.list_start.Goals as goal

pub loop-first-preserved : goal.loop-first-preserved
loop-first-preserved g c =
    let w = c.loop-first.invariant in
    let r = c.in-Ok.ensures in
    record {
      kept = r.kept;
      listed = r.listed;
      within = within_next _ c.loop-first.lists c.round.new.lists (asking_of c.loop-first.self) (asking_of c.round.new.self) c.in-Some.first c.in-Some.ensures.start w.within c.in-Some.ensures.some r.round r.same.k;
      grammar = record { rules = r.grammar.rules ∙ w.grammar.rules; labels = r.grammar.labels ∙ w.grammar.labels; label_ranks = r.grammar.label_ranks ∙ w.grammar.label_ranks; states = r.grammar.states ∙ w.grammar.states };
      same = record { k = r.same.k ∙ w.same.k; states = r.same.states ∙ w.same.states };
    }

pub returns-clause-best : goal.returns-clause-best
returns-clause-best g c =
    let w = c.loop-first.invariant in
    start_best g.S.Semiring.product c.args.lists.now c.loop-first.lists (asking_of c.loop-first.self) w.kept w.grammar c.args.self.now.k (sym w.same.k) (omega (arith, c.requires.start, w.same.states)) c.in_default.ensures.none

pub returns-clause-fronts : goal.returns-clause-fronts
returns-clause-fronts g c = fronts_over g.S.Semiring.product c.args.lists.now c.loop-first.lists (asking_of c.loop-first.self) c.loop-first.invariant.kept c.loop-first.invariant.grammar
