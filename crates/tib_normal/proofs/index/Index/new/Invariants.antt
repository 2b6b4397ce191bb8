use Rattle.std.proofs.Common.{ℕ, ◌≤◌, ◌≡◌, length, take}
use Rattle.tib_normal.specs.Rules.{positions_with}
use Rattle.tib_normal.specs.Index.{AreNumbered, held}
use Rattle.tib_normal.proofs.index.Index.new.Given as goal

abbrev pub invariant-loop-n : goal.invariant-loop-n
invariant-loop-n l = record {
  numbered : AreNumbered l.shapes l.buckets.items;
  few : length l.buckets.items ≤ l.n;
  positions : (f n : ℕ) → held l.shapes l.buckets.items (f, n) ≡ positions_with f n (take l.n l.rules);
}
