use Rattle.std.proofs.Common.{◌≤◌, ◌+◌, List, length}
use Rattle.tib_tree.specs.Grows.{Grows}
use Rattle.tib_grammar_file.specs.Added.{AddsRules}
use Rattle.tib_grammar_file.specs.Rule.{RuleLine}
use Rattle.tib_grammar_file.specs.Resolve.{IsRawGrammarOf}
use Rattle.tib_grammar_file.proofs.Resolved.{Resolving}
use Rattle.tib_grammar_file.proofs.resolve.resolve_each.Given as goal

abbrev pub invariant-loop-rule : goal.invariant-loop-rule
invariant-loop-rule l = record {
  within : l.at ≤ length l.raw.nodes.items;
  resolving : (lines : List RuleLine) → IsRawGrammarOf l.tables.names.now l.tables.texts.now l.raw lines → Resolving l.tables.names.now l.tables.texts.now l.labels l.raw.nodes.items lines l.rule-index l.at l.rules.items;
  added : AddsRules l.fn.labels l.rules.items l.labels;
  few : length l.labels ≤ length l.fn.labels + l.at;
  grows : Grows l.fn.labels l.labels;
}
