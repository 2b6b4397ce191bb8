use Rattle.std.proofs.Common.{ap, ◌∙◌, map, length}
use Rattle.std.proofs.lemmas.List.{length-map}
use Rattle.tib_grammar.specs.GrammarOf.{named_rule}
use Rattle.tib_grammar.specs.Renaming.{number_in}
use Rattle.tib_trim.proofs.seen.renamed.Goals as goal
use Rattle.tib_lex.proofs.Lists.{refilled}

pub returns : goal.returns
returns c =
    let is = c.rename_rules.ensures ∙ ap (map (named_rule (number_in c.args.numbers.now))) c.deref_mut.ensures.value in
    refilled c.args.rules.items c.rename_rules.new.rules c.args.rules.len c.args.rules.ok.0 (ap length is ∙ length-map c.args.rules.items (named_rule (number_in c.args.numbers.now))) ∙ is
