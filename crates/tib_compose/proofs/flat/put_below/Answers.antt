use Rattle.std.proofs.Common.{◌++◌, ◌∷◌, ◌+◌, ◌<◌, [], ap, arith, refl, sym, ◌∙◌, subst}
use Rattle.tib_grammar.specs.declared.Item.TheVariants.{Label, Hole}
use Rattle.tib_compose.specs.FlatSides.{PutsBelow}
use Rattle.tib_compose.specs.PieceViews.{IsKnown}
use Rattle.tib_compose.proofs.Left.{beyond}
use Rattle.tib_compose.proofs.FlatEdges.{label_below, no_label_below, pair_below}
use Rattle.tib_compose.proofs.flat.put_below.Goals as goal

pub returns-in_ok-push-in-Label : goal.returns-in_ok-push-in-Label
returns-in_ok-push-in-Label c =
    subst (λ x. PutsBelow c.args.items.now x c.args.done.now.items c.push.new.self.items) (sym c.in-Label.is)
    (label_below c.args.items.now c.in-Label.label c.in-Label.rank c.args.done.now.items c.push.new.self.items c.in_ok-push-in-Label.ensures.items)

pub returns-in_ok-push-in-Some-Hole : goal.returns-in_ok-push-in-Some-Hole
returns-in_ok-push-in-Some-Hole c =
    let look = c.in-Some-Hole.ensures.lookup in
    subst (λ x. PutsBelow c.args.items.now x c.args.done.now.items c.push-in-Some-Hole.new.self.items) (sym c.in-Hole.is)
    (pair_below c.args.items.now c.in-Hole.pair c.in-Some-Hole.below (Label 0 0) c.args.done.now.items c.push-in-Some-Hole.new.self.items look.3.0
    (sym c.in-Some-Hole.field-0-is ∙ look.3.1 (Label 0 0))
    (c.in_ok-push-in-Some-Hole.ensures.items ∙ ap (λ z. c.args.done.now.items ++ Hole (record { state = z; variable = c.in-Some-Hole.below.variable }) ∷ []) c.new-state.ensures))

pub unreachable-requires : goal.unreachable-requires
unreachable-requires c =
    let look = c.in-Some-Label.ensures.lookup in
    no_label_below c.args.items.now c.in-Hole.pair.variable _ _ (Label 0 0) c.requires.pairs look.3.0 (sym (sym c.in-Some-Label.field-0-is ∙ look.3.1 (Label 0 0)))

pub unreachable-requires-in-None : goal.unreachable-requires-in-None
unreachable-requires-in-None c =
    let known = c.requires.known in
    let low : c.in-Hole.pair.variable < known.0 = subst (IsKnown known.0) c.in-Hole.is known.2 in
    absurd (omega (arith, low, known.1, beyond c.args.items.now c.args.items.now (c.in-Hole.pair.variable + 1) refl c.in-None.ensures.lookup.0))
