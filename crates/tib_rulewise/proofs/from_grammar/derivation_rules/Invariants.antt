use Rattle.std.proofs.Common.{◌≡◌, take}
use Rattle.tib_tree.specs.Grows.{Grows, AddsAll}
use Rattle.tib_rulewise.specs.Derivations.{rule_texts, AreDerivationRules}
use Rattle.tib_rulewise.proofs.from_grammar.derivation_rules.Given as goal

abbrev pub invariant-loop-rule : goal.invariant-loop-rule
invariant-loop-rule l = record {
  numbered : l.number ≡ l.rule-index;
  derived : AreDerivationRules l.labels (take l.rule-index l.rules) l.derived.items;
  grows : Grows l.fn.labels l.labels;
  adds : AddsAll l.fn.labels (rule_texts 1 l.rule-index) l.labels;
}
