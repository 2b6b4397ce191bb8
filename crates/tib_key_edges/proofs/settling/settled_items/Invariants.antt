use Rattle.std.proofs.Common.{◌≡◌, ◌++◌, ◌+◌, ◌<◌, ◌≤◌, length, drop}
use Rattle.tib_grammar.specs.Items.{pairs_of, holes_in}
use Rattle.tib_key_edges.specs.Settling.{settled_pairs}
use Rattle.tib_key_edges.proofs.settling.settled_items.Given as goal

abbrev pub invariant-loop-item : goal.invariant-loop-item
invariant-loop-item g l = record {
  room : 0 < length (holes_in (drop l.item-index l.items)) → l.next + length (holes_in (drop l.item-index l.items)) ≤ length l.ends;
  done : pairs_of l.settled.items ++ settled_pairs l.ends l.next (pairs_of (drop l.item-index l.items)) ≡ settled_pairs l.ends l.first (pairs_of l.items);
}
