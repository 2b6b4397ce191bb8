use Rattle.std.proofs.Common.{ap, sym, ◌∙◌, ◌<◌, subst, length, List, ℕ}
use Rattle.tib_grammar.specs.GrammarOf.{GrammarOf}
use Rattle.tib_grammar.specs.Range.{AreInRange}
use Rattle.tib_grammar.specs.declared.Rule.{Rule}
use Rattle.tib_prune.specs.Pruned.{ArePruned, HadNoGreaterCosts, KeepsCheapTrees, StandInCheapRuns}
use Rattle.tib_prune.proofs.Kept.{of_same, there_is, still_in_range, had}
use Rattle.tib_prune.proofs.pruning.prune_by_costs.Goals as goal

pub unreachable-requires : goal.unreachable-requires
unreachable-requires g c =
    let rules = c.into_parts-names.ensures.rules ∙ ap (λ (n : GrammarOf). n.rules) c.into_grammar.ensures.same in
    let names = c.into_parts-names.ensures.names ∙ ap (λ (n : GrammarOf). n.names) c.into_grammar.ensures.same in
    let range = subst (λ (n : GrammarOf). AreInRange (length n.names) n.rules) c.grammar.ensures.same c.is_sound.ensures.range in
    let some = subst (λ (n : GrammarOf). 0 < length n.names) c.grammar.ensures.same c.is_sound.ensures.start in
    there_is c.new.result c.args.normal.names c.into_parts-names.result.0 c.args.normal.rules c.in_ok-kept.kept.items c.new.ensures.none c.in-None.is names some
    (still_in_range g.met.S.Semiring.laws c.args.normal.rules c.args.beam c.in_ok-kept.kept.items
    (subst (λ (rs : List (Rule ℕ)). ArePruned g.S.Semiring.product rs c.args.beam c.in_ok-kept.kept.items) rules c.in_ok-kept.ensures.pruned) (length c.args.normal.names) range)

pub returns-clause-pruned : goal.returns-clause-pruned
returns-clause-pruned g c =
    let rules = c.into_parts-names.ensures.rules ∙ ap (λ (n : GrammarOf). n.rules) c.into_grammar.ensures.same in
    let names = c.into_parts-names.ensures.names ∙ ap (λ (n : GrammarOf). n.names) c.into_grammar.ensures.same in
    record {
      names = c.in-Some.ensures.names ∙ names;
      rules = of_same (λ (old new : List (Rule ℕ)). ArePruned g.S.Semiring.product old c.args.beam new) c.into_parts-names.result.1.items c.args.normal.rules c.in_ok-kept.kept.items c.in-Some.grammar.rules (sym rules) c.in-Some.ensures.rules
          c.in_ok-kept.ensures.pruned;
    }

pub returns-clause-cheap : goal.returns-clause-cheap
returns-clause-cheap g c =
    let rules = c.into_parts-names.ensures.rules ∙ ap (λ (n : GrammarOf). n.rules) c.into_grammar.ensures.same in
    of_same (λ (old new : List (Rule ℕ)). KeepsCheapTrees g.S.Semiring.product old c.args.beam new) c.into_parts-names.result.1.items c.args.normal.rules c.in_ok-kept.kept.items c.in-Some.grammar.rules (sym rules) c.in-Some.ensures.rules
    c.in_ok-kept.ensures.cheap

pub returns-clause-runs : goal.returns-clause-runs
returns-clause-runs g c =
    let rules = c.into_parts-names.ensures.rules ∙ ap (λ (n : GrammarOf). n.rules) c.into_grammar.ensures.same in
    of_same (λ (old new : List (Rule ℕ)). StandInCheapRuns g.S.Semiring.product old c.args.beam new) c.into_parts-names.result.1.items c.args.normal.rules c.in_ok-kept.kept.items c.in-Some.grammar.rules (sym rules) c.in-Some.ensures.rules
    c.in_ok-kept.ensures.runs

pub returns-clause-costs : goal.returns-clause-costs
returns-clause-costs g c =
    had g.met.S.Semiring.laws c.args.normal.rules c.args.beam c.in-Some.grammar.rules (returns-clause-pruned g c).rules c.grammar.ensures.normal
