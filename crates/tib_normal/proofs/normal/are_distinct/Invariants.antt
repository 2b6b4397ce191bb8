use Rattle.std.proofs.Common.{◌≡◌, ℕ, ◌<◌, true}
use Rattle.std.specs.Global.{Vec}
use Rattle.std.specs.HashSet.{contains}
use Rattle.std.specs.Prelude.{nat_eq}
use Rattle.std.specs.Cmp.Lexicographic.{pointwise}
use Rattle.tib_grammar.specs.Run.{rule_at}
use Rattle.tib_normal.specs.Keys.{key_of, IsWritten}
use Rattle.tib_normal.proofs.normal.are_distinct.Given as goal

abbrev pub invariant-loop-rule : goal.invariant-loop-rule
invariant-loop-rule l = record {
  seen : (k : Vec ℕ) → contains (λ a b. pointwise nat_eq a.items b.items) l.keys k ≡ true → (n : ℕ) × (n < l.rule-index) × (key_of (rule_at l.rules n) ≡ k.items);
  holds : (n : ℕ) (k : Vec ℕ) → n < l.rule-index → key_of (rule_at l.rules n) ≡ k.items → contains (λ a b. pointwise nat_eq a.items b.items) l.keys k ≡ true;
  written : (n : ℕ) → n < l.rule-index → IsWritten (rule_at l.rules n).right;
  apart : (m n : ℕ) → m < n → n < l.rule-index → key_of (rule_at l.rules m) ≡ key_of (rule_at l.rules n) → ⊥;
}
