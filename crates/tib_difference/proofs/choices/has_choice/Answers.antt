use Rattle.std.proofs.Common.{rules, ◌≡◌, ◌∙◌, ap, sym, length, map, ℕ, List}
use Rattle.tib_grammar.specs.Items.{state_in}
use Rattle.tib_difference.specs.Tries.{below_at, itself_at}
use Rattle.tib_difference.proofs.Choosing.{none_at_all, only_itself, some_below}
use Rattle.tib_difference.proofs.choices.has_choice.Goals as goal

pub returns-then-is_empty-clause-yes : goal.returns-then-is_empty-clause-yes
returns-then-is_empty-clause-yes c = λ h.
    let w = c.args.walk.now in
    let states = map state_in c.args.states.now in
    let short : length c.below-positions.result.now ≡ 0 = search rules in
    only_itself (below_at states w.order.now w.position w.place c.args.place) (itself_at states w.position w.place c.args.place) c.is_allowed.result w.position
    (ap (λ (xs : List ℕ). length xs) (sym c.below-positions.ensures) ∙ short) c.is_allowed.ensures h

pub returns-then-is_empty-clause-no : goal.returns-then-is_empty-clause-no
returns-then-is_empty-clause-no c = λ h.
    let w = c.args.walk.now in
    let states = map state_in c.args.states.now in
    let short : length c.below-positions.result.now ≡ 0 = search rules in
    none_at_all (below_at states w.order.now w.position w.place c.args.place) (itself_at states w.position w.place c.args.place) c.is_allowed.result w.position
    (ap (λ (xs : List ℕ). length xs) (sym c.below-positions.ensures) ∙ short) c.is_allowed.ensures h

pub returns-clause-yes : goal.returns-clause-yes
returns-clause-yes c = λ h.
    let w = c.args.walk.now in
    let states = map state_in c.args.states.now in
    let some : length c.below-positions.result.now ≡ 0 → ⊥ = search rules in
    some_below (below_at states w.order.now w.position w.place c.args.place) (itself_at states w.position w.place c.args.place) (λ e. some (ap (λ (xs : List ℕ). length xs) c.below-positions.ensures ∙ e))
