use Rattle.std.proofs.Common.{◌≡◌, ℕ}
use Rattle.tib_difference.specs.Held.{held}
use Rattle.tib_difference.specs.Tries.{users_of}
use Rattle.tib_difference.proofs.lists.users_by_state.Given as goal

abbrev pub invariant-loop-number : goal.invariant-loop-number
invariant-loop-number l = (q : ℕ) → held l.lists.items q ≡ users_of l.rules q l.number
