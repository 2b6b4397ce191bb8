use Rattle.std.proofs.Common.{◌≡◌, ℕ, arith, ap, ◌∙◌, ◌∷◌, map}
use Rattle.std.proofs.lemmas.Result.{IfOk-weaker}
use Rattle.tib_grammar.specs.Sides.{over}
use Rattle.tib_grammar.specs.declared.Item.TheVariants.{Label, Hole}
use Rattle.tib_rulewise.specs.Placed.{variables_from}
use Rattle.tib_rulewise.proofs.OverItems.{items-over, over_more}
use Rattle.tib_rulewise.proofs.PlacedItems.{side_same, one_tree}
use Rattle.tib_rulewise.proofs.sides.over_variables.Goals as goal

pub loop-number-preserved : goal.loop-number-preserved
loop-number-preserved c = over_more c.args.label c.args.count c.loop-number.number c.loop-number.items.items c.push-in-loop-number.new.self.items c.loop-number.invariant c.in_ok-push-2.ensures.ok

pub side_of-requires : goal.side_of-requires
side_of-requires c =
    let end : c.loop-number.number ≡ c.args.count = omega arith in (
      omega arith,
      (
        omega arith,
        one_tree c.loop-number.items.items (over c.args.label (variables_from 0 c.args.count))
            (items-over c.args.label c.args.count c.loop-number.items.items (c.loop-number.invariant ∙ ap (λ (n : ℕ). Label c.args.label c.args.count ∷ map Hole (variables_from 0 n)) end)),
      ),
    )

pub returns : goal.returns
returns c =
    let end : c.loop-number.number ≡ c.args.count = omega arith in
    IfOk-weaker c.side_of.result _ _
    (λ s e. side_same s (over c.args.label (variables_from 0 c.args.count))
    (e ∙ items-over c.args.label c.args.count c.loop-number.items.items (c.loop-number.invariant ∙ ap (λ (n : ℕ). Label c.args.label c.args.count ∷ map Hole (variables_from 0 n)) end)))
    c.side_of.ensures
