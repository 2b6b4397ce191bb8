use Rattle.std.proofs.Common.{arith, sym, ◌∙◌, subst, length, List, ℕ, ◌+◌, ◌≤◌}
use Rattle.std.specs.Prelude.{None}
use Rattle.std.proofs.lemmas.List.{get_or_default}
use Rattle.tib_grammar.specs.declared.Rule.{Rule}
use Rattle.tib_inside.specs.Settling.{costs_in}
use Rattle.tib_prune.specs.Outside.{through}
use Rattle.tib_prune.specs.Pruned.{is_at_most}
use Rattle.tib_prune.proofs.Kept.{filtered_by, nothing, filter_few, cheap, stand}
use Rattle.std.proofs.lemmas.Result.{IfOk-weaker}
use Rattle.tib_prune.proofs.pruning.prune_rules.Goals as goal

pub returns-clause-pruned : goal.returns-clause-pruned
returns-clause-pruned g c =
    IfOk-weaker c.keep_rules.result _ _
    (λ kept e. filtered_by g.met.S.Semiring.laws c.args.rules.items c.args.insides.now c.args.outsides.now c.requires.insides c.requires.outsides c.args.beam c.in-Some.best (c.get.result + c.get-2.result) _ kept.items c.requires.some
    c.in-Some.is (omega (arith, c.get.ensures.same, c.get-2.ensures.same)) e)
    c.keep_rules.ensures

pub returns-clause-few : goal.returns-clause-few
returns-clause-few g c =
    IfOk-weaker c.keep_rules.result _ _
    (λ kept e. subst (λ (xs : List (Rule ℕ)). length xs ≤ length c.args.rules.items) (sym e)
    (filter_few (λ (r : Rule ℕ). is_at_most (through g.S.Semiring.product (costs_in c.args.insides.now) (costs_in c.args.outsides.now) r) (c.get.result + c.get-2.result)) c.args.rules.items))
    c.keep_rules.ensures

pub returns-in_default-clause-pruned : goal.returns-in_default-clause-pruned
returns-in_default-clause-pruned g c =
    nothing g.met.S.Semiring.laws c.args.rules.items c.args.insides.now c.args.outsides.now c.requires.insides c.requires.outsides c.args.beam c.new.result.items
    (get_or_default c.args.insides.now 0 None _ c.requires.some ∙ c.in_default.is) c.new.ensures.items

pub returns-clause-cheap : goal.returns-clause-cheap
returns-clause-cheap g c =
    IfOk-weaker c.keep_rules.result _ _
    (λ kept p. cheap g.met.S.Semiring.laws c.args.rules.items c.args.insides.now c.args.outsides.now c.requires.insides c.requires.outsides c.args.beam kept.items p)
    (returns-clause-pruned g c)

pub returns-clause-runs : goal.returns-clause-runs
returns-clause-runs g c =
    IfOk-weaker c.keep_rules.result _ _
    (λ kept p. stand g.met.S.Semiring.laws c.args.rules.items c.args.insides.now c.args.outsides.now c.requires.insides c.requires.outsides c.args.beam kept.items p)
    (returns-clause-pruned g c)

pub returns-in_default-clause-cheap : goal.returns-in_default-clause-cheap
returns-in_default-clause-cheap g c =
    cheap g.met.S.Semiring.laws c.args.rules.items c.args.insides.now c.args.outsides.now c.requires.insides c.requires.outsides c.args.beam c.new.result.items (returns-in_default-clause-pruned g c)

pub returns-in_default-clause-runs : goal.returns-in_default-clause-runs
returns-in_default-clause-runs g c =
    stand g.met.S.Semiring.laws c.args.rules.items c.args.insides.now c.args.outsides.now c.requires.insides c.requires.outsides c.args.beam c.new.result.items (returns-in_default-clause-pruned g c)
