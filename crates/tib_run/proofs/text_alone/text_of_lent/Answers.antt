use Rattle.std.proofs.Common.{ap, refl, sym}
use Rattle.std.specs.Prelude.{Some}
use Rattle.tib_command.specs.declared.job.Operation.TheVariants as operations
use Rattle.tib_job.proofs.Outcomes.{outcome_of, class_outcome, made_outcome, printed_outcome, demo_outcome, compare_outcome, parse_outcome}
use Rattle.tib_job.proofs.ReadValues.{asked_for, not_lent}
use Rattle.tib_run.proofs.text_alone.text_of_lent.Goals as goal

pub returns-in-GrammarAndTrees : goal.returns-in-GrammarAndTrees
returns-in-GrammarAndTrees g c =
    outcome_of (asked_for c.args.job.now.operation c.in-GrammarAndTrees.is c.requires.held) c.in-GrammarAndTrees.is
    (made_outcome operations.Weigh (ap (λ trees. Some (c.in-GrammarAndTrees.grammar, (trees, tt))) (sym c.deref.ensures.value)) c.weighed_trees.result tt c.weighed_trees.ensures.within c.weighed_trees.ensures.text
    c.weighed_trees.ensures.err)

pub returns-in-Supports : goal.returns-in-Supports
returns-in-Supports g c =
    outcome_of (asked_for c.args.job.now.operation c.in-Supports.is c.requires.held) c.in-Supports.is
    (compare_outcome _ _ c.comparison_of.result refl c.comparison_of.ensures.within c.comparison_of.ensures.text c.comparison_of.ensures.err)

pub returns-in-GrammarAndSupport : goal.returns-in-GrammarAndSupport
returns-in-GrammarAndSupport g c =
    outcome_of (asked_for c.args.job.now.operation c.in-GrammarAndSupport.is c.requires.held) c.in-GrammarAndSupport.is
    (printed_outcome operations.Difference refl (λ printed. printed.text) c.difference_of.result _ c.grammar_text.ensures tt c.difference_of.ensures.within c.difference_of.ensures.text c.difference_of.ensures.err)

pub returns-in-Support : goal.returns-in-Support
returns-in-Support g c =
    outcome_of (asked_for c.args.job.now.operation c.in-Support.is c.requires.held) c.in-Support.is
    (made_outcome operations.Count refl c.count_of.result tt c.count_of.ensures.within c.count_of.ensures.text c.count_of.ensures.err)

pub returns-in-Ok : goal.returns-in-Ok
returns-in-Ok g c =
    outcome_of (asked_for c.args.job.now.operation c.in-GrammarAndTransducer.is c.requires.held) c.in-GrammarAndTransducer.is
    (printed_outcome operations.Forward refl (λ printed. printed.text) c.forward_image_of.result _ c.grammar_text-in-Ok.ensures c.in-Ok.ensures.met c.forward_image_of.ensures.within c.forward_image_of.ensures.text c.forward_image_of.ensures.err)

pub returns-in-Err : goal.returns-in-Err
returns-in-Err g c =
    outcome_of (asked_for c.args.job.now.operation c.in-GrammarAndTransducer.is c.requires.held) c.in-GrammarAndTransducer.is
    (class_outcome operations.Forward refl c.in-Err.status c.in-Err.ensures.broken)

pub returns-in-Ok-demand : goal.returns-in-Ok-demand
returns-in-Ok-demand g c =
    outcome_of (asked_for c.args.job.now.operation c.in-TransducerAndGrammar.is c.requires.held) c.in-TransducerAndGrammar.is
    (printed_outcome operations.Backward refl (λ printed. printed.text) c.inverse_image_of.result _ c.grammar_text-in-Ok-demand.ensures c.in-Ok-demand.ensures.met c.inverse_image_of.ensures.within c.inverse_image_of.ensures.text c.inverse_image_of.ensures.err)

pub returns-in-Err-demand : goal.returns-in-Err-demand
returns-in-Err-demand g c =
    outcome_of (asked_for c.args.job.now.operation c.in-TransducerAndGrammar.is c.requires.held) c.in-TransducerAndGrammar.is
    (class_outcome operations.Backward refl c.in-Err-demand.status c.in-Err-demand.ensures.broken)

pub returns-in-Ok-demand_plain : goal.returns-in-Ok-demand_plain
returns-in-Ok-demand_plain g c =
    outcome_of (asked_for c.args.job.now.operation c.in-Transducers.is c.requires.held) c.in-Transducers.is
    (printed_outcome operations.Compose refl (λ printed. printed.text) c.composition_of.result _ c.transducer_text.ensures c.in-Ok-demand_plain.ensures.met c.composition_of.ensures.within c.composition_of.ensures.text c.composition_of.ensures.err)

pub returns-in-Err-demand_plain : goal.returns-in-Err-demand_plain
returns-in-Err-demand_plain g c =
    outcome_of (asked_for c.args.job.now.operation c.in-Transducers.is c.requires.held) c.in-Transducers.is
    (class_outcome operations.Compose refl c.in-Err-demand_plain.status c.in-Err-demand_plain.ensures.broken)

pub returns-in-TreeAndTransducer : goal.returns-in-TreeAndTransducer
returns-in-TreeAndTransducer g c =
    outcome_of (asked_for c.args.job.now.operation c.in-TreeAndTransducer.is c.requires.held) c.in-TreeAndTransducer.is
    (printed_outcome operations.Image refl (λ printed. printed.text) c.outputs_of.result _ c.grammar_text-in-TreeAndTransducer.ensures tt c.outputs_of.ensures.within c.outputs_of.ensures.text c.outputs_of.ensures.err)

pub returns-in-StringTransducerAndString : goal.returns-in-StringTransducerAndString
returns-in-StringTransducerAndString g c =
    outcome_of (asked_for c.args.job.now.operation c.in-StringTransducerAndString.is c.requires.held) c.in-StringTransducerAndString.is
    (parse_outcome (λ printed. printed.text) c.in-StringTransducerAndString.transducer _ c.parse_of.result _ c.grammar_text-in-StringTransducerAndString.ensures (ap (λ string. Some (c.in-StringTransducerAndString.transducer, (string, tt))) (sym c.deref-in-StringTransducerAndString.ensures.value))
    c.parse_of.ensures.met c.parse_of.ensures.within c.parse_of.ensures.text c.parse_of.ensures.err)

pub returns-in-Nothing : goal.returns-in-Nothing
returns-in-Nothing g c =
    outcome_of (asked_for c.args.job.now.operation c.in-Nothing.is c.requires.held) c.in-Nothing.is
    (demo_outcome c.demo_of.result refl c.demo_of.ensures.within c.demo_of.ensures.text c.demo_of.ensures.err)

pub demo_of-requires-clause-least : goal.demo_of-requires-clause-least
demo_of-requires-clause-least g c = c.requires.job.least (asked_for c.args.job.now.operation c.in-Nothing.is c.requires.held)

pub unreachable-requires : goal.unreachable-requires
unreachable-requires g c = not_lent c.args.values.now c.requires.lent c.in-Grammar.is
