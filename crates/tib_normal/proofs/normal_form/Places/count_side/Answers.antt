use Rattle.std.proofs.Common.{ℕ, List, ap, ◌∙◌, ◌+◌, drop, take, length, ◌-◌}
use Rattle.std.specs.Prelude.{sum_by}
use Rattle.std.proofs.lemmas.List.{take_all, take_rest}
use Rattle.tib_grammar.specs.declared.Item.{Item}
use Rattle.tib_normal.specs.Places.{own_states}
use Rattle.tib_normal.proofs.Placing.{own-below}
use Rattle.tib_normal.proofs.normal_form.Places.count_side.Goals as goal

pub returns-clause-counted : goal.returns-clause-counted
returns-clause-counted c =
    c.loop-item.invariant.counted
    ∙ ap (λ (z : List (Item ℕ)). c.args.self.states + sum_by own_states z)
    (take_all c.loop-item.item-index (take (length c.args.items.now - 1) (drop 1 c.args.items.now)) c.loop-item-test.false ∙ take_rest c.args.items.now 1)
    ∙ ap (λ z. c.args.self.states + z) (own-below c.args.items.now)
