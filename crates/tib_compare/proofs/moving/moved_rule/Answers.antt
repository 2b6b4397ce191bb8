use Rattle.std.specs.Prelude.{◌≡◌, ◌+◌, ℕ, List, length, map}
use Rattle.std.proofs.Common.{arith, ap, sym, ◌∙◌}
use Rattle.tib_lex.proofs.Lists.{length_map}
use Rattle.tib_grammar.specs.Sides.{Side, Symbol, label, holes, over}
use Rattle.tib_grammar.specs.declared.Rule.{Rule}
use Rattle.tib_ranked_trees.specs.Levels.{root_of, states_of}
use Rattle.tib_compare.specs.Beside.{moved}
use Rattle.tib_compare.proofs.moving.moved_rule.Goals as goal

pub over-requires : goal.over-requires
over-requires c =
    let qs : List ℕ = holes c.args.rule.now.right.kids in
    let l : length c.deref.result.now ≡ length (map (λ q. c.args.by + q) qs) = ap (λ (ps : List ℕ). length ps) (c.deref.ensures.value ∙ c.in_ok-read_states.ensures) in
    omega (arith, l, length_map (λ q. c.args.by + q) qs, c.count_of.ensures.many, c.count_of.ensures.few)

pub returns : goal.returns
returns c =
    let f : ℕ = c.root-label.result.0 in
    let qs : List ℕ = map (λ q. c.args.by + q) (holes c.args.rule.now.right.kids) in
    let root : f ≡ root_of c.args.rule.now.right.label = sym (ap (λ (s : Symbol ℕ ℕ). root_of s) c.root-label.ensures.label) in
    let states : c.deref.result.now ≡ qs = c.deref.ensures.value ∙ c.in_ok-read_states.ensures in
    let right : c.in_ok-right.right ≡ over (root_of c.args.rule.now.right.label) qs =
    c.in_ok-right.ensures ∙ ap (λ (ps : List ℕ). over f ps) states ∙ ap (λ (g : ℕ). over g qs) root
    in
    ap (λ (s : Side ℕ ℕ). record { left = c.args.left; right = s; cost = c.args.cost }) right
