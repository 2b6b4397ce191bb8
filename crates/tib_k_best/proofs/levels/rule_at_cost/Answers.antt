use Rattle.std.specs.Prelude.{◌≡◌, ℕ, List, length}
use Rattle.std.proofs.Common.{arith, ap, sym, ◌∙◌}
use Rattle.tib_grammar.specs.Sides.{Side, holes, over}
use Rattle.tib_grammar.specs.declared.Rule.{Rule}
use Rattle.tib_grammar.proofs.Sides.{over-from}
use Rattle.tib_k_best.proofs.levels.rule_at_cost.Goals as goal

abbrev made : ℕ → ℕ → Side ℕ ℕ → Rule ℕ
made left cost right = record { left = left; right = right; cost = cost }

pub over-requires : goal.over-requires
over-requires c =
    let l : length c.deref.result.now ≡ length (holes c.args.rule.now.right.kids) = ap (λ (qs : List ℕ). length qs) (c.deref.ensures.value ∙ c.in_ok-read_states.ensures) in
    omega (arith, l, c.count_of.ensures.many, c.count_of.ensures.few)

pub returns : goal.returns
returns c =
    let f : ℕ = c.root-label.result.0 in
    let states : c.deref.result.now ≡ holes c.args.rule.now.right.kids = c.deref.ensures.value ∙ c.in_ok-read_states.ensures in
    let right : c.in_ok-right.right ≡ c.args.rule.now.right =
    c.in_ok-right.ensures ∙ ap (λ (qs : List ℕ). over f qs) states ∙ sym (over-from c.args.rule.now.right f c.root-label.ensures.label c.requires.are_holes c.items.ensures.leaves)
    in
    ap (λ (s : Side ℕ ℕ). made c.args.rule.now.left c.args.cost s) right
