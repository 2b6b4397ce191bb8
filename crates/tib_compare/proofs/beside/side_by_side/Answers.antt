use Rattle.std.specs.Prelude.{◌≡◌, ◌<◌, ◌^◌, ℕ, List, length}
use Rattle.std.proofs.Common.{arith, ap, sym, ◌∙◌, subst}
use Rattle.tib_grammar.specs.GrammarOf.{GrammarOf}
use Rattle.tib_grammar.specs.Range.{AreInRange, SidesEndInHoles}
use Rattle.tib_grammar.specs.declared.Rule.{Rule}
use Rattle.tib_compare.specs.Beside.{CanRaiseAll}
use Rattle.tib_compare.proofs.Together.{can_raise, both_range, both_normal}
use Rattle.tib_compare.proofs.beside.side_by_side.Goals as goal

pub rules_beside-requires-clause-left_raised : goal.rules_beside-requires-clause-left_raised
rules_beside-requires-clause-left_raised c =
    let left : GrammarOf = c.args.left.now in
    let same : c.grammar-one.result.now ≡ left = c.grammar-one.ensures.same in
    let rules : c.rule_list.result.now ≡ left.rules = c.rule_list.ensures ∙ ap (λ (g : GrammarOf). g.rules) same in
    let range : AreInRange (length left.names) left.rules = subst (λ (g : GrammarOf). AreInRange (length g.names) g.rules) same c.is_sound.ensures.range in
    let few : length left.names < 2 ^ 32 = subst (λ (g : GrammarOf). length g.names < 2 ^ 32) same c.is_sound.ensures.few_names in
    subst (λ (rs : List (Rule ℕ)). CanRaiseAll 0 rs) (sym rules) (can_raise 0 (length left.names) left.rules c.grammar-one.ensures.normal.normal range (omega (arith, few)))

pub rules_beside-requires-clause-right_raised : goal.rules_beside-requires-clause-right_raised
rules_beside-requires-clause-right_raised c =
    let right : GrammarOf = c.args.right.now in
    let same : c.grammar-two.result.now ≡ right = c.grammar-two.ensures.same in
    let rules : c.rule_list-2.result.now ≡ right.rules = c.rule_list-2.ensures ∙ ap (λ (g : GrammarOf). g.rules) same in
    let many : c.states.result ≡ length right.names = c.states.ensures ∙ ap (λ (g : GrammarOf). length g.names) same in
    let range : AreInRange (length right.names) right.rules = subst (λ (g : GrammarOf). AreInRange (length g.names) g.rules) same c.is_sound-2.ensures.range in
    subst (λ (rs : List (Rule ℕ)). CanRaiseAll c.states-first.result rs) (sym rules)
    (can_raise c.states-first.result (length right.names) right.rules c.grammar-two.ensures.normal.normal range (omega (arith, many, c.in_ok-states.ensures.sum, c.in_ok-states.ensures.few)))

pub normal_over-requires-clause-start : goal.normal_over-requires-clause-start
normal_over-requires-clause-start c = omega (arith, c.is_sound.ensures.start, c.states-first.ensures, c.in_ok-states.ensures.sum)

pub normal_over-requires-clause-range : goal.normal_over-requires-clause-range
normal_over-requires-clause-range c =
    let left : GrammarOf = c.args.left.now in
    let right : GrammarOf = c.args.right.now in
    let same : c.grammar-one.result.now ≡ left = c.grammar-one.ensures.same in
    let same_too : c.grammar-two.result.now ≡ right = c.grammar-two.ensures.same in
    let first : c.states-first.result ≡ length left.names = c.states-first.ensures ∙ ap (λ (g : GrammarOf). length g.names) same in
    let second : c.states.result ≡ length right.names = c.states.ensures ∙ ap (λ (g : GrammarOf). length g.names) same_too in
    let range : AreInRange (length left.names) left.rules = subst (λ (g : GrammarOf). AreInRange (length g.names) g.rules) same c.is_sound.ensures.range in
    let range_too : AreInRange (length right.names) right.rules = subst (λ (g : GrammarOf). AreInRange (length g.names) g.rules) same_too c.is_sound-2.ensures.range in
    both_range c.states-first.result c.states.result c.in_ok-states.states left.rules right.rules c.rule_list.result.now c.rule_list-2.result.now c.in_ok-rules.rules.items
    (c.rule_list.ensures ∙ ap (λ (g : GrammarOf). g.rules) same) (c.rule_list-2.ensures ∙ ap (λ (g : GrammarOf). g.rules) same_too) c.in_ok-rules.ensures c.in_ok-states.ensures.sum
    c.grammar-one.ensures.normal.normal c.grammar-two.ensures.normal.normal (subst (λ (n : ℕ). AreInRange n left.rules) (sym first) range) (subst (λ (n : ℕ). AreInRange n right.rules) (sym second) range_too)

pub normal_over-requires-clause-normal : goal.normal_over-requires-clause-normal
normal_over-requires-clause-normal c =
    let left : GrammarOf = c.args.left.now in
    let right : GrammarOf = c.args.right.now in
    let same : c.grammar-one.result.now ≡ left = c.grammar-one.ensures.same in
    let same_too : c.grammar-two.result.now ≡ right = c.grammar-two.ensures.same in
    let first : c.states-first.result ≡ length left.names = c.states-first.ensures ∙ ap (λ (g : GrammarOf). length g.names) same in
    let range : AreInRange (length left.names) left.rules = subst (λ (g : GrammarOf). AreInRange (length g.names) g.rules) same c.is_sound.ensures.range in
    both_normal c.states-first.result left.rules right.rules c.rule_list.result.now c.rule_list-2.result.now c.in_ok-rules.rules.items
    (c.rule_list.ensures ∙ ap (λ (g : GrammarOf). g.rules) same) (c.rule_list-2.ensures ∙ ap (λ (g : GrammarOf). g.rules) same_too) c.in_ok-rules.ensures
    c.grammar-one.ensures.normal c.grammar-two.ensures.normal (subst (λ (n : ℕ). AreInRange n left.rules) (sym first) range)
    (subst (λ (g : GrammarOf). SidesEndInHoles g.rules) same c.is_sound.ensures.leaves) (subst (λ (g : GrammarOf). SidesEndInHoles g.rules) same_too c.is_sound-2.ensures.leaves)
