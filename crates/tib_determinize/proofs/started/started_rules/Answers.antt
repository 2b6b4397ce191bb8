use Rattle.std.proofs.Common.{◌≡◌, ℕ, ◌+◌, ◌<◌, ◌++◌, List, length, map, suc, arith, ap, sym, ◌∙◌, subst, get_or}
use Rattle.tib_lex.specs.Lists.{Each}
use Rattle.tib_grammar.specs.GrammarOf.{named_rule}
use Rattle.tib_grammar.specs.Range.{AreInRange}
use Rattle.tib_grammar.specs.declared.Rule.{Rule}
use Rattle.tib_determinize.specs.Started.{chain_to, finals}
use Rattle.tib_determinize.proofs.StartedRules.{finals_below}
use Rattle.tib_determinize.proofs.started.started_rules.Goals as goal

pub chain_rules-requires : goal.chain_rules-requires
chain_rules-requires c =
    subst (Each (λ (final : ℕ × ℕ). final.0 < 4294967295)) (sym (c.deref.ensures.value ∙ c.in_ok-finals.ensures)) (finals_below 4294967295 c.args.order.now c.requires.few)

pub shifted-behind-requires-clause-next : goal.shifted-behind-requires-clause-next
shifted-behind-requires-clause-next c =
    subst (λ (xs : List ℕ). (q : ℕ) → q < length xs → get_or xs q 0 ≡ q + 1) (sym c.deref-2.ensures.value)
    (λ q low. c.in_ok-numbers.ensures.next q (omega (arith, low, c.in_ok-numbers.ensures.long)))

pub shifted-behind-requires-clause-range : goal.shifted-behind-requires-clause-range
shifted-behind-requires-clause-range c =
    subst (λ (n : ℕ). AreInRange n c.args.rules.items) (sym (ap length c.deref-2.ensures.value ∙ c.in_ok-numbers.ensures.long)) c.requires.range

pub returns : goal.returns
returns c =
    let chains : c.in_ok-all.all.items ≡ map chain_to (finals 0 c.args.order.now) = c.in_ok-all.ensures ∙ ap (map chain_to) (c.deref.ensures.value ∙ c.in_ok-finals.ensures) in
    c.in_ok-append.ensures.items
    ∙ ap (λ (rs : List (Rule ℕ)). c.in_ok-all.all.items ++ rs) c.shifted-behind.ensures
    ∙ ap (λ (rs : List (Rule ℕ)). rs ++ map (named_rule suc) c.args.rules.items) chains
