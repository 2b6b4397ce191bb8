use Rattle.std.proofs.Common.{◌∙◌, ◌++◌, ap, sym, subst, take, get_or, arith, refl}
use Rattle.tib_lex.specs.Lists.{total}
use Rattle.tib_lex.proofs.Lists.{total_append}
use Rattle.tib_lex.proofs.Places.{take_whole}
use Rattle.tib_apply.proofs.MoreParts.{same_fault}
use Rattle.tib_image.specs.ParseOperation.{edge_parts}
use Rattle.tib_image.specs.ParseListing.{IsListed, edges_at, edges_at_all}
use Rattle.tib_image.proofs.ParseListed.{listed_first}
use Rattle.tib_image.proofs.Ruling.{all_next, all_split, all_edges, move_here, moves_are}
use Rattle.tib_image.proofs.parse.operation.Parse.list_edges.Goals as goal

pub loop-place-init : goal.loop-place-init
loop-place-init g c = record {
  within = record {
    few = omega (arith, c.new-listing.ensures.ends, c.new-listing.ensures.parts);
    within = omega (arith, c.new-listing.ensures.parts);
    budget = omega (arith, c.new-listing.ensures.budget, c.requires.budget);
  };
  position = c.new-listing.ensures.position;
  budget = c.new-listing.ensures.budget;
  listed = listed_first c.args.key c.new-listing.result c.new-listing.ensures.ends c.new-listing.ensures.rules c.new-listing.ensures.parts;
}

pub add_rule-requires-clause-below : goal.add_rule-requires-clause-below
add_rule-requires-clause-below g c =
    let moves = c.args.self.now.transducer.now.rules in
    let ps = c.of-place-items.result.now in
    let are = moves_are moves c.args.key ps c.state.result c.state.ensures (c.of-place-items.ensures moves c.args.self.now.indexed) in
    (move_here moves c.args.self.now.string.now c.args.key ps c.loop-place.place-index (get_or ps c.loop-place.place-index 0) are c.loop-place-test.true refl).0

pub add_rule-requires-clause-state : goal.add_rule-requires-clause-state
add_rule-requires-clause-state g c =
    let moves = c.args.self.now.transducer.now.rules in
    let ps = c.of-place-items.result.now in
    let are = moves_are moves c.args.key ps c.state.result c.state.ensures (c.of-place-items.ensures moves c.args.self.now.indexed) in
    (move_here moves c.args.self.now.string.now c.args.key ps c.loop-place.place-index (get_or ps c.loop-place.place-index 0) are c.loop-place-test.true refl).1

pub returns-in-Err-clause-more : goal.returns-in-Err-clause-more
returns-in-Err-clause-more g c e =
    let moves = c.args.self.now.transducer.now.rules in
    let string = c.args.self.now.string.now in
    let key = c.args.key in
    let ps = c.of-place-items.result.now in
    let i = c.loop-place.place-index in
    let are = moves_are moves key ps c.state.result c.state.ensures (c.of-place-items.ensures moves c.args.self.now.indexed) in
    let split = all_split moves string key ps i (get_or ps i 0) c.loop-place-test.true refl in
    let front = edges_at_all moves string key (take i ps) in
    let here = edges_at moves string key (get_or ps i 0) in
    let all = sym (all_edges moves string key) ∙ ap (edges_at_all moves string key) (sym are) ∙ split.1 in
    omega (
      arith,
      c.add_rule.ensures.more (c.in-Err.is ∙ same_fault c.in-Err.fault _ e),
      c.loop-place.invariant.budget,
      c.loop-place.invariant.listed.counted,
      ap (total edge_parts) all,
      total_append edge_parts (front ++ here) split.0,
      total_append edge_parts front here,
    )

pub loop-place-preserved : goal.loop-place-preserved
loop-place-preserved g c =
    let moves = c.args.self.now.transducer.now.rules in
    let string = c.args.self.now.string.now in
    let key = c.args.key in
    let ps = c.of-place-items.result.now in
    let i = c.loop-place.place-index in
    let adds = c.in-Ok.ensures.added in
    record {
      within = c.in-Ok.ensures.within;
      position = adds.alike.position ∙ c.loop-place.invariant.position;
      budget = adds.alike.budget ∙ c.loop-place.invariant.budget;
      listed = subst (λ es. IsListed key es c.add_rule.new.listing) (sym (all_next moves string key ps i (get_or ps i 0) c.loop-place-test.true refl)) (adds.listed (edges_at_all moves string key (take i ps)) c.loop-place.invariant.listed);
    }

pub returns-clause-listed : goal.returns-clause-listed
returns-clause-listed g c =
    let moves = c.args.self.now.transducer.now.rules in
    let string = c.args.self.now.string.now in
    let key = c.args.key in
    let ps = c.of-place-items.result.now in
    let are = moves_are moves key ps c.state.result c.state.ensures (c.of-place-items.ensures moves c.args.self.now.indexed) in
    subst (λ es. IsListed key es c.loop-place.listing)
    (ap (edges_at_all moves string key) (take_whole ps c.loop-place.place-index c.loop-place-test.false ∙ are) ∙ all_edges moves string key)
    c.loop-place.invariant.listed
