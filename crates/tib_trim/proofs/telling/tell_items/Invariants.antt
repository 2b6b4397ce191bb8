use Rattle.std.specs.Prelude.{ℕ, List}
use Rattle.std.proofs.Common.{◌≡◌, length, drop}
use Rattle.tib_grammar.specs.Items.{holes_in}
use Rattle.tib_inside.specs.Settling.{costs_in}
use Rattle.tib_prune.specs.Telling.{rests_of, IsToldFrom, Adds}
use Rattle.tib_trim.proofs.telling.tell_items.Given as goal

abbrev pub invariant-loop-item : goal.invariant-loop-item
invariant-loop-item g l = record {
  rests : l.rests.items ≡ rests_of g.S.Semiring.product (costs_in l.insides) (holes_in (drop l.item-index l.items));
  tells :
      (final : List (ℕ × ℕ)) → Adds (costs_in l.outsides) (IsToldFrom g.S.Semiring.product (costs_in l.insides) l.front (holes_in (drop l.item-index l.items))) (length (holes_in (drop l.item-index l.items))) l.agenda final →
      Adds (costs_in l.outsides) (IsToldFrom g.S.Semiring.product (costs_in l.insides) l.fn.start (holes_in l.items)) (length (holes_in l.items)) l.initial.agenda final;
}
