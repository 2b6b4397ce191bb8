use Rattle.std.proofs.Common.{ℕ, ◌≤◌, ◌≡◌, take}
use Rattle.tib_key_edges.specs.Places.{positions_with}
use Rattle.tib_key_edges.specs.Positions.{positions_of, shape_count}
use Rattle.tib_key_edges.proofs.indexing.index_rules.Given as goal

abbrev pub invariant-loop-n : goal.invariant-loop-n
invariant-loop-n g l = record {
  few : shape_count l.index ≤ l.n;
  positions : (s : ℕ × ℕ × ℕ) → positions_of l.index s ≡ positions_with g.H.Shaping.has_shape s (take l.n l.rules);
}
