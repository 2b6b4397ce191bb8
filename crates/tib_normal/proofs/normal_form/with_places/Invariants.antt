use Rattle.std.proofs.Common.{vec_len, ◌≡◌, ◌++◌}
use Rattle.std.specs.Prelude.{reverse}
use Rattle.tib_normal.proofs.normal_form.with_places.Given as goal

abbrev pub invariant-loop-rule : goal.invariant-loop-rule
invariant-loop-rule l = l.all.items ++ reverse l.inner.items ≡ l.initial.all.items ++ reverse l.initial.inner.items

abbrev pub decreases-loop-rule : goal.decreases-loop-rule
decreases-loop-rule l = vec_len l.inner
