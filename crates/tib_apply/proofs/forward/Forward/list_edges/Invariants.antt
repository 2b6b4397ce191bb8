use Rattle.std.proofs.Common.{◌≡◌, ◌<◌, ℕ, List, length, take}
use Rattle.tib_apply.specs.KeyGrammars.{key_at}
use Rattle.tib_key_edges.specs.Listing.{IsWithinBudget}
use Rattle.tib_apply.specs.TableEdges.{IsTableEdge}
use Rattle.tib_apply.proofs.ForwardEdges.{AreListedFor}
use Rattle.tib_apply.proofs.forward.Forward.list_edges.Given as goal

abbrev pub invariant-loop-move_position : goal.invariant-loop-move_position
invariant-loop-move_position g l = record {
  within : IsWithinBudget l.listing;
  position : l.listing.position ≡ l.position;
  budget : l.listing.budget ≡ l.budget;
  listed : (order : List (ℕ × ℕ × ℕ)) → l.position < length order → key_at order l.position ≡ l.key →
      AreListedFor (IsTableEdge g.S.Semiring.product l.self.grammar.now.rules l.self.transducer.now.rules l.self.runs l.key) l.key order
      (take l.move_position-index l.move_position-items) l.listing;
}
