use Rattle.std.proofs.lemmas.Result.{IfOk-at_ok, IfErr-at_err}
use Rattle.tib_operations.specs.Determinize.{IsDeterminizedText}
use Rattle.tib_operations.proofs.OfDemo.{fault_of_best, fault_of_made, lines_are}
use Rattle.tib_hunted_texts.proofs.demo.summary_of_determinized.Goals as goal

pub returns-in-Ok-summary_text-clause-text : goal.returns-in-Ok-summary_text-clause-text
returns-in-Ok-summary_text-clause-text g c =
    let d : IsDeterminizedText g.S.Semiring.SCALE g.S.Semiring.product c.args.limit c.args.labels.now c.args.grammar.now c.in-Ok.canonical.text.bytes c.in-Ok.canonical.grammar =
    IfOk-at_ok _ c.in-Ok.is c.requires.grammar in
    record {
      printed = c.in-Ok.canonical.text.bytes;
      determinized = d.0;
      line = c.in-Ok-kbest_text.best.bytes;
      best = c.in-Ok-kbest_text.ensures.text;
      are =
          lines_are c.in-Ok-summary_text.text.bytes c.in-Ok-kbest_text.best.bytes c.bytes.result.now c.len-states.result c.rules-rules.result c.names.result.now d.0.h c.in-Ok.canonical.grammar
          c.in-Ok-summary_text.ensures c.len-states.ensures c.names.ensures c.rules-rules.ensures c.bytes.ensures d.1;
    }

pub returns-in-Ok-summary_text-clause-within : goal.returns-in-Ok-summary_text-clause-within
returns-in-Ok-summary_text-clause-within g c = IfOk-at_ok _ c.in-Ok.is c.requires.within

pub returns-in-Err-clause-err : goal.returns-in-Err-clause-err
returns-in-Err-clause-err g c =
    fault_of_made g.S.Semiring.LEVELLED g.S.Semiring.product c.args.limit c.args.labels.now c.args.grammar.now c.in-Err.status (IfErr-at_err _ c.in-Err.is c.requires.err)

pub returns-in-Err-kbest_text-clause-err : goal.returns-in-Err-kbest_text-clause-err
returns-in-Err-kbest_text-clause-err g c =
    fault_of_best g.S.Semiring.LEVELLED g.S.Semiring.product c.args.limit c.args.labels.now c.args.grammar.now (IfOk-at_ok _ c.in-Ok.is c.requires.within) c.in-Err-kbest_text.status c.in-Err-kbest_text.ensures.err
