use Rattle.std.proofs.Common.{◌≡◌, ◌≤◌, ◌-◌, ℕ, [], get_or, vec_len}
use Rattle.tib_weigh.specs.Buckets.{lists_of}
use Rattle.tib_weigh.proofs.slots.blank.Given as goal

abbrev pub invariant-loop-alloc : goal.invariant-loop-alloc
invariant-loop-alloc l = record {
  within : vec_len l.made ≤ l.slots;
  empty : (s : ℕ) → get_or (lists_of l.made.items) s [] ≡ [];
}

abbrev pub decreases-loop-alloc : goal.decreases-loop-alloc
decreases-loop-alloc l = l.slots - vec_len l.made
