use Rattle.std.proofs.Common.{◌≡◌, ℕ, ◌<◌, map}
use Rattle.tib_grammar.specs.Forms.{IsShaped, IsNew}
use Rattle.tib_grammar.specs.Checked.{AreFirstSides}
use Rattle.tib_grammar.specs.Run.{rule_at}
use Rattle.tib_grammar.proofs.determinism.check_rules.Given as goal

abbrev pub invariant-loop-rule : goal.invariant-loop-rule
invariant-loop-rule l = record {
  numbered : l.number ≡ l.rule-index;
  shaped : (k : ℕ) → k < l.rule-index → IsShaped l.rules (rule_at l.rules k);
  new : (k : ℕ) → k < l.rule-index → IsNew l.rules k;
  noted : AreFirstSides (map (λ s. s.now) l.sides.keys) l.rules l.rule-index;
}
