use Rattle.std.proofs.Common.{◌≡◌, ap, ◌∙◌, suc, map, length}
use Rattle.std.proofs.lemmas.List.{length-map}
use Rattle.tib_grammar.specs.GrammarOf.{named_rule}
use Rattle.tib_grammar.specs.Renaming.{number_in}
use Rattle.tib_determinize.proofs.StartedRules.{named_next}
use Rattle.tib_determinize.proofs.started.shifted.Goals as goal
use Rattle.tib_lex.proofs.Lists.{refilled}

pub returns : goal.returns
returns c =
    let numbers = c.args.numbers.now in
    let is : c.rename_rules.new.rules ≡ map (named_rule suc) c.args.rules.items =
    c.rename_rules.ensures ∙ ap (map (named_rule (number_in numbers))) c.deref_mut.ensures.value ∙ named_next (length numbers) numbers c.requires.next c.args.rules.items c.requires.range c.requires.leaves
    in
    refilled c.args.rules.items c.rename_rules.new.rules c.args.rules.len c.args.rules.ok.0 (ap length is ∙ length-map c.args.rules.items (named_rule suc)) ∙ is
