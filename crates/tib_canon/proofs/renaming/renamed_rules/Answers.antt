use Rattle.std.proofs.Common.{arith, ap, ◌∙◌, length, set}
use Rattle.std.proofs.lemmas.List.Edits.{map_over_more}
use Rattle.tib_grammar.specs.Renaming.{number_in}
use Rattle.tib_key_edges.specs.Named.{named_transducer_rule}
use Rattle.tib_canon.proofs.Renamed.{next_within, all_renamed}
use Rattle.tib_canon.proofs.renaming.renamed_rules.Goals as goal

pub rename_rule-requires : goal.rename_rule-requires
rename_rule-requires c =
    next_within (length c.args.numbers.now) (named_transducer_rule (number_in c.args.numbers.now)) c.args.rules.items c.loop-n.rules.items c.loop-n.n c.index_mut.result.now
    (omega (arith, c.loop-n-test.true, c.len-n-end.ensures, c.args.rules.ok.0)) c.loop-n.invariant c.index_mut.ensures.value c.requires

pub loop-n-preserved : goal.loop-n-preserved
loop-n-preserved c =
    ap (set c.loop-n.rules.items c.loop-n.n) c.in_ok-rename_rule.ensures
    ∙ map_over_more (named_transducer_rule (number_in c.args.numbers.now)) c.args.rules.items c.loop-n.rules.items c.loop-n.n c.index_mut.result.now
    (omega (arith, c.loop-n-test.true, c.len-n-end.ensures, c.args.rules.ok.0)) c.loop-n.invariant c.index_mut.ensures.value

pub returns : goal.returns
returns c =
    all_renamed (named_transducer_rule (number_in c.args.numbers.now)) c.args.rules.items c.loop-n.rules.items c.loop-n.n (omega (arith, c.loop-n-test.false, c.len-n-end.ensures, c.args.rules.ok.0)) c.loop-n.invariant
