use Rattle.std.proofs.Common.{◌≡◌, ℕ, List, arith, sym, ◌∙◌, subst, true≢false, inl, inr}
use Rattle.std.proofs.lemmas.List.{get_or_read}
use Rattle.tib_lex.specs.Lists.{Has}
use Rattle.tib_lex.proofs.Members.{has_left, has_right}
use Rattle.tib_grammar.specs.Run.{rule_at, no_rule}
use Rattle.tib_grammar.specs.Sides.{holes_of}
use Rattle.tib_k_best.proofs.NotedSides.{any_false, last}
use Rattle.tib_k_best.proofs.form.is_start_used.Goals as goal

pub loop-rule-preserved : goal.loop-rule-preserved
loop-rule-preserved c = λ k q h s.
    let here : c.rule-item.result ≡ rule_at c.args.rules.now c.loop-rule.rule-index = get_or_read c.args.rules.now c.loop-rule.rule-index c.rule-item.result (omega arith) c.rule-item.is no_rule in
    subst (λ (qs : List ℕ). Has qs q) (sym c.in_ok-add_side.ensures) (elim (last k c.loop-rule.rule-index h) [
      | inl l ↦ has_left c.loop-rule.states.items (holes_of c.rule-item.result.right) q (c.loop-rule.invariant k q l s)
      | inr e ↦
          has_right c.loop-rule.states.items (holes_of c.rule-item.result.right) q
          (subst (λ r. Has (holes_of r.right) q) (sym here) (subst (λ i. Has (holes_of (rule_at c.args.rules.now i).right) q) e s))
    ])

pub returns : goal.returns
returns c = λ f s.
    let has : Has c.loop-rule.states.items 0 = c.loop-rule.invariant s.rule 0 (omega (arith, s.below, c.loop-rule-test.false)) s.stands in
    true≢false (any_false _ c.deref.result.now (sym c.contains.ensures.value ∙ f) 0 (subst (λ (xs : List ℕ). Has xs 0) (sym c.deref.ensures.value) has))
