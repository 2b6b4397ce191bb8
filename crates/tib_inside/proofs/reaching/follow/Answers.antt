use Rattle.std.proofs.Common.{arith, refl, sym, ◌∙◌, subst, get_or, ◌≡◌, ◌+◌}
use Rattle.std.proofs.lemmas.List.{get_or_read}
use Rattle.tib_grammar.specs.Run.{no_rule}
use Rattle.tib_inside.specs.Links.{IsNext}
use Rattle.tib_inside.specs.Reaching.{lefts, Follows}
use Rattle.tib_inside.proofs.Following.{marks_none, follows_none, follows_step, lefts_at, lefts_long}
use Rattle.tib_inside.proofs.reaching.follow.Goals as goal

pub loop-n-init : goal.loop-n-init
loop-n-init c =
    let first_at : c.index-n.result.now ≡ get_or c.args.links.now.first.items c.args.state 0 =
    get_or_read c.args.links.now.first.items c.args.state c.index-n.result.now (omega (arith, c.requires.links.states_long)) c.index-n.ensures 0 in
    let next : IsNext (lefts c.args.rules.now) c.args.state 0 c.index-n.result.now =
    subst (λ p. IsNext (lefts c.args.rules.now) c.args.state 0 p) (sym first_at) (c.requires.links.first c.args.state c.requires.state) in
    let long = lefts_long c.args.rules.now in
    record {
      within = omega (arith, next.within);
      own = λ h. sym (lefts_at c.args.rules.now c.index-n.result.now h) ∙ next.own (omega arith);
      long = refl;
      marks = marks_none (Follows c.args.rules.now c.args.live.now c.args.state c.index-n.result.now) c.args.kept.now.items c.args.stack.now.items (follows_none c.args.rules.now c.args.live.now c.args.state c.index-n.result.now next);
    }

pub loop-n-preserved : goal.loop-n-preserved
loop-n-preserved c =
    let long = lefts_long c.args.rules.now in
    let at = get_or_read c.args.rules.now c.loop-n.n c.index-rules-n.result c.loop-n-test.true c.index-rules-n.is no_rule in
    let own = lefts_at c.args.rules.now c.loop-n.n c.loop-n-test.true ∙ c.loop-n.invariant.own c.loop-n-test.true in
    let next_at : c.index-n-in-loop-n.result.now ≡ get_or c.args.links.now.next.items c.loop-n.n 0 =
    get_or_read c.args.links.now.next.items c.loop-n.n c.index-n-in-loop-n.result.now (omega (arith, c.requires.links.places_long)) c.index-n-in-loop-n.ensures 0 in
    let next : IsNext (lefts c.args.rules.now) c.args.state (c.loop-n.n + 1) c.index-n-in-loop-n.result.now =
    subst (λ p. IsNext (lefts c.args.rules.now) c.args.state (c.loop-n.n + 1) p) (sym next_at)
    (subst (λ q. IsNext (lefts c.args.rules.now) q (c.loop-n.n + 1) (get_or c.args.links.now.next.items c.loop-n.n 0)) own (c.requires.links.next c.loop-n.n (omega arith)))
    in
    record {
      within = omega (arith, next.within);
      own = λ h. sym (lefts_at c.args.rules.now c.index-n-in-loop-n.result.now h) ∙ next.own (omega arith);
      long = c.in_ok-mark_rule.ensures.long ∙ c.loop-n.invariant.long;
      marks = follows_step c.args.rules.now c.args.live.now c.args.state c.loop-n.n c.index-n-in-loop-n.result.now c.args.kept.now.items c.loop-n.kept.items c.mark_rule.new.kept.items c.args.stack.now.items c.loop-n.stack.items c.mark_rule.new.stack.items
          c.index-rules-n.result _ c.loop-n-test.true c.requires.live at (c.loop-n.invariant.own c.loop-n-test.true) next c.loop-n.invariant.marks c.in_ok-mark_rule.ensures.marks;
    }
