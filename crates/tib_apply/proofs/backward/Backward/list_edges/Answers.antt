use Rattle.std.proofs.Common.{◌≡◌, ◌∙◌, ap, subst, take, ℕ, List, length, get_or, arith, Err}
use Rattle.std.proofs.lemmas.List.{take_all}
use Rattle.std.specs.declared.result.Result.{Result}
use Rattle.tib_expand.specs.declared.place.ExpandError.{ExpandError}
use Rattle.tib_transducer.specs.Moves.{moves_of}
use Rattle.tib_apply.specs.declared.edge_list.EdgeList.{EdgeList}
use Rattle.tib_apply.specs.Backward.{IsBackwardEdge}
use Rattle.tib_apply.specs.Listing.{AreListedFor, Overruns}
use Rattle.tib_apply.proofs.BackwardEdges.{place_is, place_low, place_apart, moves_more, no_moves, all_moves}
use Rattle.tib_apply.proofs.backward.Backward.list_edges.Goals as goal

same_fault : (f : ExpandError) → ◌≡◌ {A = Result EdgeList ExpandError} (Err f) (Err ExpandError.More) → ◌≡◌ {A = Result (Unit {0}) ExpandError} (Err f) (Err ExpandError.More)
same_fault f e = let same : f ≡ ExpandError.More = cc e in ap Err same

pub loop-place-init : goal.loop-place-init
loop-place-init g c = record {
  within = record {
    few = omega (arith, c.new-list.ensures.ends);
    within = omega (arith, c.new-list.ensures.parts);
    budget = omega (arith, c.requires.budget, c.new-list.ensures.budget);
  };
  position = c.new-list.ensures.position;
  budget = c.new-list.ensures.budget;
  listed = no_moves g.S.Semiring.product c.args.self.now.transducer.now.rules c.args.self.now.grammar.now.rules c.args.key c.new-list.result c.new-list.ensures.ends c.new-list.ensures.rules c.new-list.ensures.parts;
}

pub add_move-requires-clause-below : goal.add_move-requires-clause-below
add_move-requires-clause-below g c =
    let moves = c.args.self.now.transducer.now.rules in
    let are = c.of-place-items.ensures moves c.args.self.now.indexed ∙ ap (λ q. moves_of q moves) c.first.ensures in
    (place_is moves c.args.key.0 c.of-place-items.result.now are c.loop-place.place-index c.loop-place-test.true).0

pub add_move-requires-clause-state : goal.add_move-requires-clause-state
add_move-requires-clause-state g c =
    let moves = c.args.self.now.transducer.now.rules in
    let are = c.of-place-items.ensures moves c.args.self.now.indexed ∙ ap (λ q. moves_of q moves) c.first.ensures in
    (place_is moves c.args.key.0 c.of-place-items.result.now are c.loop-place.place-index c.loop-place-test.true).1

pub returns-in-Err-clause-more : goal.returns-in-Err-clause-more
returns-in-Err-clause-more g c e =
    let moves = c.args.self.now.transducer.now.rules in
    let k = c.loop-place.place-index in
    let are = c.of-place-items.ensures moves c.args.self.now.indexed ∙ ap (λ q. moves_of q moves) c.first.ensures in
    subst (Overruns (IsBackwardEdge g.S.Semiring.product moves c.args.self.now.grammar.now.rules c.args.key)) c.loop-place.invariant.budget
    (c.add_move.ensures.more (c.in-Err.is ∙ same_fault c.in-Err.fault e) (take k (moves_of c.args.key.0 moves)) (place_apart moves c.args.key.0 c.of-place-items.result.now are k c.loop-place-test.true) c.loop-place.invariant.listed)

pub loop-place-preserved : goal.loop-place-preserved
loop-place-preserved g c =
    let moves = c.args.self.now.transducer.now.rules in
    let k = c.loop-place.place-index in
    let are = c.of-place-items.ensures moves c.args.self.now.indexed ∙ ap (λ q. moves_of q moves) c.first.ensures in
    record {
      within = c.in-Ok.ensures.within;
      position = c.add_move.ensures.alike.position ∙ c.loop-place.invariant.position;
      budget = c.add_move.ensures.alike.budget ∙ c.loop-place.invariant.budget;
      listed = moves_more g.S.Semiring.product moves c.args.self.now.grammar.now.rules c.args.key (moves_of c.args.key.0 moves) k (get_or c.of-place-items.result.now k 0) c.add_move.new.list
          (place_low moves c.args.key.0 c.of-place-items.result.now are k c.loop-place-test.true) (ap (λ (xs : List ℕ). get_or xs k 0) are)
          (c.in-Ok.ensures.listed (take k (moves_of c.args.key.0 moves)) (place_apart moves c.args.key.0 c.of-place-items.result.now are k c.loop-place-test.true) c.loop-place.invariant.listed);
    }

pub returns-clause-listed : goal.returns-clause-listed
returns-clause-listed g c =
    let moves = c.args.self.now.transducer.now.rules in
    let grammar = c.args.self.now.grammar.now.rules in
    let are = c.of-place-items.ensures moves c.args.self.now.indexed ∙ ap (λ q. moves_of q moves) c.first.ensures in
    all_moves g.S.Semiring.product moves grammar c.args.key c.loop-place.list
    (subst (λ (ps : List ℕ). AreListedFor (IsBackwardEdge g.S.Semiring.product moves grammar c.args.key) c.args.key ps c.loop-place.list)
    (take_all c.loop-place.place-index (moves_of c.args.key.0 moves) (omega (arith, c.loop-place-test.false, ap length are))) c.loop-place.invariant.listed)
