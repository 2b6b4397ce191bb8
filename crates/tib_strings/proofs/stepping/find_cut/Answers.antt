use Rattle.std.proofs.Common.{◌∙◌, false, true}
use Rattle.tib_strings.proofs.Searching.{tries_with, further_with}
use Rattle.tib_strings.proofs.stepping.find_cut.Goals as goal

pub returns-then-not-branch : goal.returns-then-not-branch
returns-then-not-branch c =
    let t = tries_with c.args.string.now c.args.tokens.now c.args.from c.args.to c.loop.places.items c.try_cut.new.places.items c.in_ok-try_cut.field-0 false c.if-branch.false c.in_ok-try_cut.ensures in
    let f = further_with c.args.string.now c.args.tokens.now c.args.from c.args.to c.try_cut.new.places.items c.go_further.new.places.items c.in_ok-go_further.field-0 false c.if-not-branch.true
    (c.in_ok-go_further.ensures c.args.string.now c.args.from c.args.to c.requires.bounded)
    in
    c.loop.invariant.same ∙ t.1 ∙ f

pub loop-preserved : goal.loop-preserved
loop-preserved c =
    let t = tries_with c.args.string.now c.args.tokens.now c.args.from c.args.to c.loop.places.items c.try_cut.new.places.items c.in_ok-try_cut.field-0 false c.if-branch.false c.in_ok-try_cut.ensures in
    let f = further_with c.args.string.now c.args.tokens.now c.args.from c.args.to c.try_cut.new.places.items c.go_further.new.places.items c.in_ok-go_further.field-0 true c.if-not-branch.false
    (c.in_ok-go_further.ensures c.args.string.now c.args.from c.args.to c.requires.bounded)
    in
    record { begun = f.0; same = c.loop.invariant.same ∙ t.1 ∙ f.1 }
