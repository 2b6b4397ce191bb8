use Rattle.std.proofs.Common.{ap, refl, sym}
use Rattle.std.specs.Prelude.{Some}
use Rattle.tib_command.specs.declared.job.Operation.TheVariants as operations
use Rattle.tib_job.proofs.Outcomes.{outcome_of, class_outcome, made_outcome, printed_outcome, demo_outcome, compare_outcome, parse_outcome}
use Rattle.tib_job.proofs.ReadValues.{asked_for}
use Rattle.tib_run.proofs.text_together.text_of_lent_together.Goals as goal

pub returns-in-Supports : goal.returns-in-Supports
returns-in-Supports g c =
    outcome_of (asked_for c.args.job.now.operation c.in-Supports.is c.requires.held) c.in-Supports.is
    (compare_outcome _ _ c.comparison_of_together.result refl c.comparison_of_together.ensures.within c.comparison_of_together.ensures.text c.comparison_of_together.ensures.err)

pub returns-in-GrammarAndSupport : goal.returns-in-GrammarAndSupport
returns-in-GrammarAndSupport g c =
    outcome_of (asked_for c.args.job.now.operation c.in-GrammarAndSupport.is c.requires.held) c.in-GrammarAndSupport.is
    (printed_outcome operations.Difference refl (λ printed. printed.text) c.difference_of_together.result _ c.grammar_text.ensures tt c.difference_of_together.ensures.within c.difference_of_together.ensures.text c.difference_of_together.ensures.err)

pub returns-in-Support : goal.returns-in-Support
returns-in-Support g c =
    outcome_of (asked_for c.args.job.now.operation c.in-Support.is c.requires.held) c.in-Support.is
    (made_outcome operations.Count refl c.count_of_together.result tt c.count_of_together.ensures.within c.count_of_together.ensures.text c.count_of_together.ensures.err)

pub returns-in-Ok : goal.returns-in-Ok
returns-in-Ok g c =
    outcome_of (asked_for c.args.job.now.operation c.in-GrammarAndTransducer.is c.requires.held) c.in-GrammarAndTransducer.is
    (printed_outcome operations.Forward refl (λ printed. printed.text) c.forward_image_of_together.result _ c.grammar_text-in-Ok.ensures c.in-Ok.ensures.met c.forward_image_of_together.ensures.within c.forward_image_of_together.ensures.text c.forward_image_of_together.ensures.err)

pub returns-in-Err : goal.returns-in-Err
returns-in-Err g c =
    outcome_of (asked_for c.args.job.now.operation c.in-GrammarAndTransducer.is c.requires.held) c.in-GrammarAndTransducer.is
    (class_outcome operations.Forward refl c.in-Err.status c.in-Err.ensures.broken)

pub returns-in-Ok-demand : goal.returns-in-Ok-demand
returns-in-Ok-demand g c =
    outcome_of (asked_for c.args.job.now.operation c.in-TransducerAndGrammar.is c.requires.held) c.in-TransducerAndGrammar.is
    (printed_outcome operations.Backward refl (λ printed. printed.text) c.inverse_image_of_together.result _ c.grammar_text-in-Ok-demand.ensures c.in-Ok-demand.ensures.met c.inverse_image_of_together.ensures.within c.inverse_image_of_together.ensures.text c.inverse_image_of_together.ensures.err)

pub returns-in-Err-demand : goal.returns-in-Err-demand
returns-in-Err-demand g c =
    outcome_of (asked_for c.args.job.now.operation c.in-TransducerAndGrammar.is c.requires.held) c.in-TransducerAndGrammar.is
    (class_outcome operations.Backward refl c.in-Err-demand.status c.in-Err-demand.ensures.broken)

pub returns-in-Ok-demand_plain : goal.returns-in-Ok-demand_plain
returns-in-Ok-demand_plain g c =
    outcome_of (asked_for c.args.job.now.operation c.in-Transducers.is c.requires.held) c.in-Transducers.is
    (printed_outcome operations.Compose refl (λ printed. printed.text) c.composition_of_together.result _ c.transducer_text.ensures c.in-Ok-demand_plain.ensures.met c.composition_of_together.ensures.within c.composition_of_together.ensures.text c.composition_of_together.ensures.err)

pub returns-in-Err-demand_plain : goal.returns-in-Err-demand_plain
returns-in-Err-demand_plain g c =
    outcome_of (asked_for c.args.job.now.operation c.in-Transducers.is c.requires.held) c.in-Transducers.is
    (class_outcome operations.Compose refl c.in-Err-demand_plain.status c.in-Err-demand_plain.ensures.broken)

pub returns-in-TreeAndTransducer : goal.returns-in-TreeAndTransducer
returns-in-TreeAndTransducer g c =
    outcome_of (asked_for c.args.job.now.operation c.in-TreeAndTransducer.is c.requires.held) c.in-TreeAndTransducer.is
    (printed_outcome operations.Image refl (λ printed. printed.text) c.outputs_of_together.result _ c.grammar_text-in-TreeAndTransducer.ensures tt c.outputs_of_together.ensures.within c.outputs_of_together.ensures.text c.outputs_of_together.ensures.err)

pub returns-in-StringTransducerAndString : goal.returns-in-StringTransducerAndString
returns-in-StringTransducerAndString g c =
    outcome_of (asked_for c.args.job.now.operation c.in-StringTransducerAndString.is c.requires.held) c.in-StringTransducerAndString.is
    (parse_outcome (λ printed. printed.text) c.in-StringTransducerAndString.transducer _ c.parse_of_together.result _ c.grammar_text-in-StringTransducerAndString.ensures (ap (λ string. Some (c.in-StringTransducerAndString.transducer, (string, tt))) (sym c.deref.ensures.value))
    c.parse_of_together.ensures.met c.parse_of_together.ensures.within c.parse_of_together.ensures.text c.parse_of_together.ensures.err)

pub returns-in-Nothing : goal.returns-in-Nothing
returns-in-Nothing g c =
    outcome_of (asked_for c.args.job.now.operation c.in-Nothing.is c.requires.held) c.in-Nothing.is
    (demo_outcome c.demo_of_together.result refl c.demo_of_together.ensures.within c.demo_of_together.ensures.text c.demo_of_together.ensures.err)

pub demo_of_together-requires-clause-least : goal.demo_of_together-requires-clause-least
demo_of_together-requires-clause-least g c κs lives = c.requires.job.least (asked_for c.args.job.now.operation c.in-Nothing.is c.requires.held)
