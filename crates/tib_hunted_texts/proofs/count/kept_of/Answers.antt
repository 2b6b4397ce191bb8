use Rattle.std.proofs.Common.{max, subst}
use Rattle.tib_grammar.specs.GrammarOf.{GrammarOf}
use Rattle.tib_trim.specs.TrimmedFile.{IsTrimmedFile}
use Rattle.tib_operations.proofs.OfForms.{are_free}
use Rattle.tib_hunted_texts.proofs.count.kept_of.Goals as goal

pub runs_of-requires : goal.runs_of-requires
runs_of-requires c = c.trimmed_file_has_runs.ensures c.in_ok-file.file.rules c.in_ok-file.ensures.runs

pub returns : goal.returns
returns c =
    let file : IsTrimmedFile max c.args.grammar.now c.in_ok-file.file = subst (λ (g : GrammarOf). IsTrimmedFile max g c.in_ok-file.file) c.in_ok-copy.ensures c.in_ok-file.ensures.trimmed in (
      c.in_ok-file.file,
      file,
      c.states.ensures,
      c.rules.ensures,
      c.trimmed_keeps_runs.ensures c.args.grammar.now c.in_ok-file.file (are_free c.args.labels.now c.args.grammar.now.rules c.requires) file c.in_ok-runs.runs c.in_ok-runs.ensures,
    )
