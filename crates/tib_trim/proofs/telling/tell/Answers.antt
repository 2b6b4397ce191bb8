use Rattle.std.proofs.Common.{arith, sym, subst, get_or, ◌≡◌, ◌+◌}
use Rattle.std.proofs.lemmas.List.{get_or_read}
use Rattle.tib_inside.specs.Settling.{costs_in}
use Rattle.tib_trim.specs.Links.{IsNext}
use Rattle.tib_trim.proofs.ToldItems.{told_skip, told_rule, told_end}
use Rattle.tib_trim.proofs.telling.tell.Goals as goal

pub loop-n-init : goal.loop-n-init
loop-n-init g c =
    let first_at : c.index-n.result.now ≡ get_or c.args.links.now.first.items c.args.entry.1 0 =
    get_or_read c.args.links.now.first.items c.args.entry.1 c.index-n.result.now (omega (arith, c.requires.links.states_long, c.requires.state)) c.index-n.ensures 0 in
    let next : IsNext c.args.rules.now c.args.entry.1 0 c.index-n.result.now =
    subst (IsNext c.args.rules.now c.args.entry.1 0) (sym first_at) (c.requires.links.first c.args.entry.1 c.requires.state) in
    record {
      within = next.within;
      own = next.own;
      tells = λ final h. told_skip g.S.Semiring.product (costs_in c.args.insides.now) (costs_in c.args.outsides.now) c.args.rules.now c.args.entry.1 c.args.entry.0 0 c.index-n.result.now c.args.agenda.now final next h;
    }

pub loop-n-preserved : goal.loop-n-preserved
loop-n-preserved g c =
    let own = c.loop-n.invariant.own c.loop-n-test.true in
    let next_at : c.index-n-in-loop-n.result.now ≡ get_or c.args.links.now.next.items c.loop-n.n 0 =
    get_or_read c.args.links.now.next.items c.loop-n.n c.index-n-in-loop-n.result.now (omega (arith, c.requires.links.rules_long, c.loop-n-test.true)) c.index-n-in-loop-n.ensures 0 in
    let next : IsNext c.args.rules.now c.args.entry.1 (c.loop-n.n + 1) c.index-n-in-loop-n.result.now =
    subst (IsNext c.args.rules.now c.args.entry.1 (c.loop-n.n + 1)) (sym next_at)
    (subst (λ q. IsNext c.args.rules.now q (c.loop-n.n + 1) (get_or c.args.links.now.next.items c.loop-n.n 0)) own (c.requires.links.next c.loop-n.n c.loop-n-test.true))
    in
    record {
      within = next.within;
      own = next.own;
      tells = λ final h. c.loop-n.invariant.tells final
          (told_rule g.S.Semiring.product (costs_in c.args.insides.now) (costs_in c.args.outsides.now) c.args.rules.now c.args.entry.1 c.args.entry.0 c.loop-n.n c.index-n-in-loop-n.result.now c.index-rules-n.result _ c.loop-n.agenda c.tell_rule.new.agenda final
          c.loop-n-test.true c.index-rules-n.is own next c.in_ok-tell_rule.ensures h);
    }

pub returns : goal.returns
returns g c =
    c.loop-n.invariant.tells c.loop-n.agenda
    (told_end g.S.Semiring.product (costs_in c.args.insides.now) (costs_in c.args.outsides.now) c.args.rules.now c.args.entry.1 c.args.entry.0 c.loop-n.n c.loop-n.agenda c.loop-n-test.false)
