use Rattle.std.proofs.Common.{ℕ, ◌<◌, ◌≤◌}
use Rattle.tib_transducer.specs.Counting.{numbers_in}
use Rattle.tib_transducer.proofs.rules.is_nondeleting.Given as goal
use Rattle.tib_lex.specs.Lists.{occurrences}

abbrev pub decreases-loop-rest : goal.decreases-loop-rest
decreases-loop-rest l = l.rest

abbrev pub invariant-loop-rest : goal.invariant-loop-rest
invariant-loop-rest l = record {
  within : l.rest ≤ l.variables;
  used : (n : ℕ) → l.rest ≤ n → n < l.variables → 1 ≤ occurrences n (numbers_in l.right);
}
