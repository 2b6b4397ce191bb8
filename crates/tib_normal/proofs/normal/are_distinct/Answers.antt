use Rattle.std.proofs.Common.{◌≡◌, ap, sym, ◌∙◌, subst}
use Rattle.std.specs.HashSet.{contains}
use Rattle.std.specs.Prelude.{nat_eq}
use Rattle.std.specs.Cmp.Lexicographic.{pointwise}
use Rattle.std.proofs.lemmas.List.{get_or_read}
use Rattle.tib_grammar.specs.Run.{rule_at, no_rule}
use Rattle.tib_normal.specs.Keys.{key_of, IsWritten}
use Rattle.tib_normal.proofs.Keys.{seen-more, held-more, apart-more, written-more, not-distinct, distinct}
use Rattle.tib_normal.proofs.normal.are_distinct.Goals as goal

pub returns-then-not-branch-clause-no : goal.returns-then-not-branch-clause-no
returns-then-not-branch-clause-no c = λ _ a.
    let at = get_or_read c.args.rules.now c.loop-rule.rule-index c.rule-item.result c.loop-rule-test.true c.rule-item.is no_rule in
    not-distinct c.args.rules.now (contains (λ a b. pointwise nat_eq a.items b.items) c.loop-rule.keys) c.loop-rule.rule-index c.in_ok-key.field-0 c.requires.normal c.loop-rule-test.true
    (c.in_ok-key.ensures.key ∙ ap key_of at) c.loop-rule.invariant.seen c.loop-rule.invariant.written
    (subst (λ r. IsWritten r.right) at c.in_ok-key.ensures.written)
    (sym c.if-not-branch.true ∙ c.in_ok-insert.ensures.added) a

pub loop-rule-preserved : goal.loop-rule-preserved
loop-rule-preserved c =
    let at = get_or_read c.args.rules.now c.loop-rule.rule-index c.rule-item.result c.loop-rule-test.true c.rule-item.is no_rule in
    let has = contains (λ a b. pointwise nat_eq a.items b.items) c.loop-rule.keys in
    let more = contains (λ a b. pointwise nat_eq a.items b.items) c.insert.new.self in
    let is : c.in_ok-key.field-0.items ≡ key_of (rule_at c.args.rules.now c.loop-rule.rule-index) = c.in_ok-key.ensures.key ∙ ap key_of at in
    record {
      seen = seen-more c.args.rules.now has more c.loop-rule.rule-index c.in_ok-key.field-0 c.in_ok-insert.ensures.updates.0 is c.loop-rule.invariant.seen;
      holds = held-more c.args.rules.now has more c.loop-rule.rule-index c.in_ok-key.field-0 c.in_ok-insert.ensures.updates.0 is c.loop-rule.invariant.holds;
      written = written-more c.args.rules.now c.loop-rule.rule-index c.loop-rule.invariant.written (subst (λ r. IsWritten r.right) at c.in_ok-key.ensures.written);
      apart = apart-more c.args.rules.now has c.loop-rule.rule-index c.in_ok-key.field-0 is c.loop-rule.invariant.holds (sym c.if-not-branch.false ∙ c.in_ok-insert.ensures.added) c.loop-rule.invariant.apart;
    }

pub returns-clause-yes : goal.returns-clause-yes
returns-clause-yes c = λ _. distinct c.args.rules.now c.loop-rule.rule-index c.loop-rule-test.false c.loop-rule.invariant.apart
