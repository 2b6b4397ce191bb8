use Rattle.std.proofs.Common.{ℕ, ◌≡◌, ◌<◌, length, get_or}
use Rattle.std.specs.Prelude.{false}
use Rattle.tib_inside.specs.Reaching.{both_marked}
use Rattle.tib_inside.proofs.reaching.kept_rules.Given as goal

abbrev pub invariant-loop-n : goal.invariant-loop-n
invariant-loop-n l = record {
  long : length l.both.items ≡ l.n;
  both : (m : ℕ) → m < l.n → get_or l.both.items m false ≡ both_marked l.rules l.live l.kept m;
}
