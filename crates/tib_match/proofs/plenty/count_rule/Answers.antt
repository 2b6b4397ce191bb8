use Rattle.std.proofs.Common.{◌≡◌, ◌<◌, ℕ, length, ap, sym, ◌∙◌, subst, get_or, None}
use Rattle.std.proofs.lemmas.List.{get_or_read}
use Rattle.tib_grammar.specs.Run.{rule_at, no_rule}
use Rattle.tib_grammar.specs.declared.Rule.{Rule}
use Rattle.tib_match.specs.Counting.{IsPart, plenties_of}
use Rattle.tib_match.proofs.PlentySteps.{chained_set, merged_chained}
use Rattle.tib_match.proofs.plenty.count_rule.Goals as goal

pub merged-next-requires-clause-first : goal.merged-next-requires-clause-first
merged-next-requires-clause-first g c =
    let rules = c.args.rules.now in
    let items = c.args.column.now.items in
    let left : ℕ = (get_or rules c.args.position c.index-rules-position.result).left in
    let at : get_or rules c.args.position c.index-rules-position.result ≡ rule_at rules c.args.position =
    sym c.index-rules-position.is ∙ get_or_read rules c.args.position c.index-rules-position.result c.requires.within c.index-rules-position.is no_rule
    in
    let low : left < length items = subst (λ (r : Rule ℕ). r.left < length items) (sym at) c.requires.left in
    c.requires.lasts left c.in-Some-index.old (sym (get_or_read items left c.index.result.now low c.index.ensures None) ∙ c.in-Some-index.is)

pub returns-clause-chained : goal.returns-clause-chained
returns-clause-chained g c = λ positions has are.
    let product = g.S.Semiring.product in
    let rules = c.args.rules.now in
    let items = c.args.column.now.items in
    let below = plenties_of c.args.below.now in
    let front = c.args.front in
    let left : ℕ = (get_or rules c.args.position c.index-rules-position.result).left in
    let at : get_or rules c.args.position c.index-rules-position.result ≡ rule_at rules c.args.position =
    sym c.index-rules-position.is ∙ get_or_read rules c.args.position c.index-rules-position.result c.requires.within c.index-rules-position.is no_rule
    in
    let low : left < length items = subst (λ (r : Rule ℕ). r.left < length items) (sym at) c.requires.left in
    let own = c.in-Some.own in
    let o = c.in-Some.ensures.along in
    let part : IsPart product rules positions below front left own.last own.count own.worst =
    subst (λ n. IsPart product rules positions below front left n own.count own.worst) (sym c.in-Some.ensures.last)
    (record { listed = has; left = ap (λ (r : Rule ℕ). r.left) (sym at); inner = o.0; along = o.1; low = o.2 })
    in
    let here = are left c.in-Some-index.old (sym (get_or_read items left c.index.result.now low c.index.ensures None) ∙ c.in-Some-index.is) in
    chained_set product rules positions below front items left c.merged-next.result low
    (merged_chained product rules positions below front left c.in-Some-index.old own c.merged-next.result c.merged-next.ensures here part) are
