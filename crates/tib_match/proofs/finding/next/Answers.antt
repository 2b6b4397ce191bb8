use Rattle.std.specs.Prelude.{IfSome}
use Rattle.std.proofs.Common.{◌≡◌, List, subst, sym}
use Rattle.tib_normal.specs.Rules.{positions_with}
use Rattle.tib_match.specs.declared.partial.Partial.{Partial}
use Rattle.tib_grammar.specs.Items.{pair_of}
use Rattle.tib_match.specs.PartialMatches.{AreNext}
use Rattle.tib_match.specs.Leading.{partials_of, all_led}
use Rattle.tib_match.proofs.Stepping.{label_next, hole_next}
use Rattle.tib_match.proofs.finding.next.Goals as goal

pub returns-in_ok-kept-in-Label : goal.returns-in_ok-kept-in-Label
returns-in_ok-kept-in-Label g c =
    let product = g.S.Semiring.product in
    let led = subst (λ v. IfSome v (λ f. partials_of f.items ≡ all_led product c.args.normal.now.rules (positions_with c.in-Label.label c.in-Label.rank c.args.normal.now.rules) (partials_of c.deref.result.now))) c.in-Some.is c.in_ok-led-in-Label.ensures.led in
    let made = subst (λ (ps : List Partial). partials_of c.in-Some.led.items ≡ all_led product c.args.normal.now.rules (positions_with c.in-Label.label c.in-Label.rank c.args.normal.now.rules) (partials_of ps)) c.deref.ensures.value led in
    subst (λ i. AreNext product c.args.normal.now.rules (pair_of i) (partials_of c.args.old.items) (partials_of c.in_ok-kept-in-Label.kept.items)) (sym c.in-Label.is)
    (label_next product c.args.normal.now.rules c.lead_all.ensures.normal c.in-Label.label c.in-Label.rank (partials_of c.args.old.items) c.in-Some.led.items c.in_ok-kept-in-Label.kept.items made c.in_ok-kept-in-Label.ensures)

pub returns-in_ok-taken-in-Hole : goal.returns-in_ok-taken-in-Hole
returns-in_ok-taken-in-Hole g c =
    subst (λ i. AreNext g.S.Semiring.product c.args.normal.now.rules (pair_of i) (partials_of c.args.old.items) (partials_of c.in_ok-taken-in-Hole.taken.items)) (sym c.in-Hole.is)
    (hole_next g.S.Semiring.product c.args.normal.now.rules c.in-Hole.field-0 0 (partials_of c.args.old.items) c.in_ok-taken-in-Hole.taken.items c.in_ok-taken-in-Hole.ensures)
