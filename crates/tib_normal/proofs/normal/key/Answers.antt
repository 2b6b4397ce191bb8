use Rattle.std.proofs.Common.{ap, ◌∙◌, ◌∷◌, map, ℕ, List}
use Rattle.std.proofs.lemmas.List.{take_all}
use Rattle.tib_grammar.specs.Sides.{Symbol}
use Rattle.tib_grammar.specs.declared.Item.{Item}
use Rattle.tib_normal.specs.Keys.{number_in, number_of}
use Rattle.tib_normal.proofs.Keys.{numbers}
use Rattle.tib_normal.proofs.normal.key.Goals as goal

pub returns-clause-key : goal.returns-clause-key
returns-clause-key c =
    c.loop-item.invariant
    ∙ ap (λ (ns : List ℕ). c.args.rule.now.left ∷ ns)
    (ap (λ (xs : List (Item ℕ)). map number_in xs) (take_all c.loop-item.item-index c.items-items.result.now c.loop-item-test.false)
    ∙ numbers c.items-items.result.now
    ∙ ap (λ (ps : List (Symbol ℕ ℕ × ℕ)). map (λ p. number_of p.0) ps) c.items-items.ensures.items)
