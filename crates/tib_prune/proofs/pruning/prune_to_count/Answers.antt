use Rattle.std.proofs.Common.{ap, sym, ◌∙◌, List, ℕ}
use Rattle.std.specs.Prelude.{Option}
use Rattle.tib_grammar.specs.GrammarOf.{GrammarOf}
use Rattle.tib_grammar.specs.declared.Rule.{Rule}
use Rattle.tib_inside.specs.Settling.{costs_in}
use Rattle.tib_prune.specs.Counted.{IsBeamFor}
use Rattle.tib_prune.specs.Outside.{through}
use Rattle.tib_prune.proofs.Counted.{keeps_count, no_lesser}
use Rattle.tib_prune.proofs.Kept.{of_same}
use Rattle.tib_prune.proofs.pruning.prune_to_count.Goals as goal

pub returns-clause-many : goal.returns-clause-many
returns-clause-many g c =
    let rules = c.rule_list-rules.ensures ∙ ap (λ (n : GrammarOf). n.rules) c.grammar-2.ensures.same in
    keeps_count g.met.S.Semiring.laws c.args.normal.rules c.args.insides.now c.in_ok-outsides.outsides.items c.requires.insides c.in_ok-outsides.ensures.outsides c.args.count c.in_ok-beam.beam
    (of_same (λ (rs : List (Rule ℕ)) (os : List (Option ℕ)). IsBeamFor (through g.S.Semiring.product (costs_in c.args.insides.now) (costs_in os)) rs c.args.count (costs_in c.args.insides.now 0) c.in_ok-beam.beam)
    c.rule_list-rules.result.now c.args.normal.rules c.deref.result.now c.in_ok-outsides.outsides.items (sym rules) (sym c.deref.ensures.value) c.in_ok-beam.ensures)
    c.in_ok-kept.kept.rules c.in_ok-kept.ensures.pruned.rules

pub returns-clause-least : goal.returns-clause-least
returns-clause-least g c =
    let rules = c.rule_list-rules.ensures ∙ ap (λ (n : GrammarOf). n.rules) c.grammar-2.ensures.same in
    no_lesser g.met.S.Semiring.laws c.args.normal.rules c.args.insides.now c.in_ok-outsides.outsides.items c.requires.insides c.in_ok-outsides.ensures.outsides c.args.count c.in_ok-beam.beam
    (of_same (λ (rs : List (Rule ℕ)) (os : List (Option ℕ)). IsBeamFor (through g.S.Semiring.product (costs_in c.args.insides.now) (costs_in os)) rs c.args.count (costs_in c.args.insides.now 0) c.in_ok-beam.beam)
    c.rule_list-rules.result.now c.args.normal.rules c.deref.result.now c.in_ok-outsides.outsides.items (sym rules) (sym c.deref.ensures.value) c.in_ok-beam.ensures)
    c.in_ok-kept.kept.rules c.in_ok-kept.ensures.pruned.rules
