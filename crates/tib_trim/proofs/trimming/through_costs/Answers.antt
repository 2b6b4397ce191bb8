use Rattle.std.proofs.Common.{List, ℕ, ap, sym, subst, ◌∙◌, length}
use Rattle.tib_trim.specs.TrimmedFile.{HaveCosts}
use Rattle.tib_trim.proofs.Assembled.{costs_long, with_costs}
use Rattle.tib_trim.proofs.trimming.through_costs.Goals as goal

pub with_costs-requires : goal.with_costs-requires
with_costs-requires g c =
    ap length c.deref.ensures.value
    ∙ costs_long g.S.Semiring.product c.args.grammar c.in_ok-trimmed.trimmed c.in_ok-trimmed.costs.items c.in_ok-trimmed.ensures.trimmed
    ∙ sym (ap length c.into_parts-names.ensures.rules)

pub returns : goal.returns
returns g c =
    with_costs g.S.Semiring.product c.args.grammar c.in_ok-trimmed.trimmed c.grammar_from.result c.into_parts-names.result.0 c.into_parts-names.result.1.items c.with_costs.result.items c.in_ok-trimmed.costs.items
    c.in_ok-trimmed.ensures.trimmed c.into_parts-names.ensures.names c.into_parts-names.ensures.rules
    (subst (λ (cs : List ℕ). HaveCosts c.into_parts-names.result.1.items cs c.with_costs.result.items) c.deref.ensures.value c.with_costs.ensures) c.grammar_from.ensures.names c.grammar_from.ensures.rules
