-- A rule that stands for a line does so in larger tables.
use Rattle.std.proofs.Common.{ℕ, List}
use Rattle.tib_tree.specs.Grows.{Grows}
use Rattle.tib_strings.specs.declared.StringRule.{StringRule}
use Rattle.tib_transducer_file.specs.Rule.{RuleLine}
use Rattle.tib_transducer_file.proofs.FileRead.{rule_grows_by}
use Rattle.tib_strings.specs.RuleValue.{IsRule, string_view}

-- the same with larger tables of states and of labels
pub rule_grows : (n m a b : List (List ℕ)) → Grows n m → Grows a b → (rule : StringRule ℕ) (line : RuleLine) → IsRule n a rule line → IsRule m b rule line
rule_grows n m a b f g rule line h = rule_grows_by string_view n m a b f g rule line h
