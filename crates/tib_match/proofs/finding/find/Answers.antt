use Rattle.std.specs.Prelude.{IfSome}
use Rattle.std.proofs.Common.{rules, ◌≡◌, ◌≤◌, length, get_or, subst}
use Rattle.tib_grammar.specs.Items.{pair_of}
use Rattle.tib_match.specs.PartialMatches.{AreNext}
use Rattle.tib_match.specs.Leading.{partials_of}
use Rattle.tib_match.proofs.Stepping.{found_on, found_whole}
use Rattle.tib_match.proofs.finding.find.Goals as goal

pub loop-item-preserved : goal.loop-item-preserved
loop-item-preserved g c =
    let here : c.item-item.result ≡ get_or c.args.items.now c.loop-item.item-index c.item-item.result = search rules in
    let next = subst (λ v. IfSome v (λ f. AreNext g.S.Semiring.product c.args.normal.now.rules (pair_of c.item-item.result) (partials_of c.loop-item.found.items) (partials_of f.items))) c.in-Some.is c.in_ok-new.ensures in
    λ found more.
    c.loop-item.invariant found
    (found_on g.S.Semiring.product c.args.normal.now.rules c.args.items.now c.loop-item.item-index c.item-item.result c.loop-item-test.true here (partials_of c.loop-item.found.items)
    (partials_of c.in-Some.new.items) next found more)

pub returns : goal.returns
returns g c =
    let all : length c.args.items.now ≤ c.loop-item.item-index = search rules in
    c.loop-item.invariant (partials_of c.loop-item.found.items)
    (found_whole g.S.Semiring.product c.args.normal.now.rules c.args.items.now c.loop-item.item-index (partials_of c.loop-item.found.items) all)
