use Rattle.std.proofs.Common.{ap, ◌∙◌, ℕ, List, false, true}
use Rattle.tib_strings.specs.Stacks.{back, top}
use Rattle.tib_strings.proofs.Searching.{descends_with, tried}
use Rattle.tib_strings.proofs.stepping.try_cut.Goals as goal

pub returns-then-not-branch : goal.returns-then-not-branch
returns-then-not-branch c =
    descends_with c.args.string.now c.args.tokens.now c.args.from c.args.to c.args.places.now.items c.descend.new.places.items c.in_ok-descend.field-0 false c.if-not-branch.true (c.in_ok-descend.ensures c.args.to c.requires.bounded)

pub returns : goal.returns
returns c =
    tried c.args.string.now c.args.tokens.now c.args.from c.args.to c.args.places.now.items c.descend.new.places.items c.last_place.result
    (c.last_place.ensures ∙ ap (λ (xs : List ℕ). top c.args.from (back xs)) c.deref.ensures.value)
    (descends_with c.args.string.now c.args.tokens.now c.args.from c.args.to c.args.places.now.items c.descend.new.places.items c.in_ok-descend.field-0 true c.if-not-branch.false (c.in_ok-descend.ensures c.args.to c.requires.bounded))
