use Rattle.tib_lex.specs.Lists.{Ascends}
use Rattle.std.proofs.Common.{List, zero, suc, refl, subst, ◌-◌, arith, ap, ◌≤◌, ℕ, ◌≡◌, ◌<◌, length}
use Rattle.std.proofs.lemmas.List.{get_or_read}
use Rattle.tib_grammar.specs.Run.{rule_at, no_rule}
use Rattle.tib_grammar.specs.declared.Rule.{Rule}
use Rattle.tib_normal.proofs.Pairwise.{Ascends-at}
use Rattle.tib_normal.proofs.normal.are_ascending.Goals as goal
use Rattle.tib_lex.proofs.Lists.{Ascends-from}

down :
    (rules : List (Rule ℕ)) → Ascends (λ (r s : Rule ℕ). r.left ≤ s.left) rules → (i least left : ℕ) → i < length rules → left ≡ (rule_at rules i).left →
    (0 < i → (rule_at rules (i - 1)).left ≡ least) → (i ≡ 0 → least ≡ 0) → left < least → ⊥
down rules a zero least left h at last first b = omega (arith, first refl)
down rules a (suc i) least left h at last first b =
    let before : (rule_at rules (suc i - 1)).left ≡ least = last (omega arith) in
    let one : suc i - 1 ≡ i = omega arith in
    let before_at : (rule_at rules i).left ≡ least = subst (λ j. (rule_at rules j).left ≡ least) one before in
    let up : (rule_at rules i).left ≤ (rule_at rules (suc i)).left = Ascends-at (λ (r s : Rule ℕ). r.left ≤ s.left) rules no_rule a i (suc i) (omega arith) h in
    omega arith

pub returns-then-rule-least-clause-no : goal.returns-then-rule-least-clause-no
returns-then-rule-least-clause-no c = λ _ a.
    let at = get_or_read c.args.rules.now c.loop-rule.rule-index c.rule-item.result c.loop-rule-test.true c.rule-item.is no_rule in
    absurd (down c.args.rules.now a c.loop-rule.rule-index c.loop-rule.least c.rule-item.result.left c.loop-rule-test.true (ap (λ (r : Rule ℕ). r.left) at) c.loop-rule.invariant.last c.loop-rule.invariant.first c.if-rule-least.true)

pub returns-clause-yes : goal.returns-clause-yes
returns-clause-yes c = λ _. Ascends-from (λ (r s : Rule ℕ). r.left ≤ s.left) c.args.rules.now no_rule (λ m n h k. c.loop-rule.invariant.pairs m n h (omega arith))
