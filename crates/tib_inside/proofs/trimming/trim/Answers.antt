use Rattle.std.proofs.Common.{ap, refl, ◌≡◌, ◌∙◌, map, get_or, []}
use Rattle.tib_inside.specs.Trimmed.{IsTrimmed, HasSeriesOfEach}
use Rattle.tib_inside.proofs.Assembling.{carried}
use Rattle.tib_inside.proofs.trimming.trim.Given.{Over}
use Rattle.tib_inside.proofs.trimming.trim.Goals as goal

names_are : (g : Over) (c : goal.After-drop-names-inside-5 g) → c.in-Some.grammar.names ≡ map (λ q. get_or c.args.grammar.names q []) c.in_ok-trimmed.trimmed.states.items
names_are g c =
    c.in-Some.ensures.names ∙ c.in_ok-kept.ensures ∙ ap (λ names. map (λ q. get_or names q []) c.deref.result.now) c.into_parts-names.ensures.names ∙ ap (map (λ q. get_or c.args.grammar.names q [])) c.deref.ensures.value

pub returns-clause-trimmed : goal.returns-clause-trimmed
returns-clause-trimmed g c =
    carried (IsTrimmed g.S.Semiring.product) c.args.grammar c.in-Some.grammar c.args.grammar.names _ _ c.in_ok-trimmed.trimmed.rules.items (c.in_ok-trimmed.ensures.trimmed c.args.grammar.names) refl c.into_parts-names.ensures.rules (names_are g c)
    c.in-Some.ensures.rules

pub returns-clause-each : goal.returns-clause-each
returns-clause-each g c =
    carried (HasSeriesOfEach g.S.Semiring.product) c.args.grammar c.in-Some.grammar c.args.grammar.names _ _ c.in_ok-trimmed.trimmed.rules.items (c.in_ok-trimmed.ensures.each c.args.grammar.names) refl c.into_parts-names.ensures.rules (names_are g c)
    c.in-Some.ensures.rules
