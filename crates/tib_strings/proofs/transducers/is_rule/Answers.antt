use Rattle.std.proofs.Common.{ℕ, List, sym, ◌∙◌, refl, subst}
use Rattle.tib_transducer.specs.Pairs.{ArePairsWithin}
use Rattle.tib_strings.specs.Rules.{pairs_of}
use Rattle.tib_strings.specs.declared.Word.{Word}
use Rattle.tib_strings.proofs.Shapes.{shape_from, within_from, no_numbers, no_pairs}
use Rattle.tib_strings.proofs.transducers.is_rule.Goals as goal

pub returns-in-None-clause-no : goal.returns-in-None-clause-no
returns-in-None-clause-no c = λ _ shaped _. no_numbers c.items-left.result.now c.args.rule.now c.items-left.ensures.items (c.in-None.ensures.none refl) shaped

pub returns-clause-shaped : goal.returns-clause-shaped
returns-clause-shaped c = λ t.
    shape_from c.items-left.result.now c.args.rule.now c.args.n c.in-Some.count c.items-left.ensures.items
    (sym c.begins_with_label.ensures ∙ c.if-not-begins_with_label.false) c.in-Some.ensures.count c.in-Some.ensures.some
    (subst (λ (ws : List (Word ℕ)). ArePairsWithin c.args.n c.in-Some.count (pairs_of ws)) c.tokens-right.ensures (c.are_pairs_within.ensures.yes t))

pub returns-clause-within : goal.returns-clause-within
returns-clause-within c = λ t. (
  c.if-rule-n.false,
  within_from c.items-left.result.now c.args.rule.now c.args.n c.in-Some.count c.items-left.ensures.items
      (subst (λ (ws : List (Word ℕ)). ArePairsWithin c.args.n c.in-Some.count (pairs_of ws)) c.tokens-right.ensures (c.are_pairs_within.ensures.yes t)),
)

pub returns-clause-no : goal.returns-clause-no
returns-clause-no c = λ f shaped within.
    no_pairs c.items-left.result.now c.args.rule.now c.args.n c.in-Some.count c.items-left.ensures.items c.in-Some.ensures.count
    (λ p. c.are_pairs_within.ensures.no f (subst (λ (ws : List (Word ℕ)). ArePairsWithin c.args.n c.in-Some.count (pairs_of ws)) (sym c.tokens-right.ensures) p)) shaped within
