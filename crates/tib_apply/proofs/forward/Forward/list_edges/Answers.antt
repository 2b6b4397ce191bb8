use Rattle.std.proofs.Common.{◌<◌, length, get_or, arith, ap, sym, ◌∙◌, subst}
use Rattle.tib_transducer.specs.Moves.{moves_of}
use Rattle.tib_apply.specs.KeyGrammars.{key_at}
use Rattle.tib_key_edges.specs.Listing.{Overruns}
use Rattle.tib_apply.specs.TableEdges.{IsTableEdge}
use Rattle.tib_apply.proofs.ForwardEdges.{none_listed, key_next, key_overruns, key_whole, move_here, moves_apart, itself_at, same_fault}
use Rattle.tib_apply.proofs.forward.Forward.list_edges.Goals as goal

pub loop-move_position-init : goal.loop-move_position-init
loop-move_position-init g c =
    let Gives = IsTableEdge g.S.Semiring.product c.args.self.now.grammar.now.rules c.args.self.now.transducer.now.rules c.args.self.now.runs c.args.key in
    record {
      within = record {
        few = omega (arith, c.new-listing.ensures.ends, c.new-listing.ensures.parts);
        within = omega (arith, c.new-listing.ensures.parts);
        budget = omega (arith, c.new-listing.ensures.budget, c.requires.budget);
      };
      position = c.new-listing.ensures.position;
      budget = c.new-listing.ensures.budget;
      listed = λ order within at. none_listed Gives c.args.key order c.new-listing.result c.new-listing.ensures.ends c.new-listing.ensures.rules c.new-listing.ensures.parts;
    }

pub list_rule-requires-clause-below : goal.list_rule-requires-clause-below
list_rule-requires-clause-below g c =
    let moves = c.args.self.now.transducer.now.rules in
    let ps = c.of-move_position-items.result.now in
    let are = c.of-move_position-items.ensures moves c.args.self.now.indexed ∙ ap (λ q. moves_of q moves) c.second.ensures in
    let i = c.loop-move_position.move_position-index in
    (move_here moves c.args.key.1 ps i (get_or ps i 0) are c.loop-move_position-test.true (itself_at ps i c.loop-move_position-test.true)).0

pub list_rule-requires-clause-state : goal.list_rule-requires-clause-state
list_rule-requires-clause-state g c =
    let moves = c.args.self.now.transducer.now.rules in
    let ps = c.of-move_position-items.result.now in
    let are = c.of-move_position-items.ensures moves c.args.self.now.indexed ∙ ap (λ q. moves_of q moves) c.second.ensures in
    let i = c.loop-move_position.move_position-index in
    (move_here moves c.args.key.1 ps i (get_or ps i 0) are c.loop-move_position-test.true (itself_at ps i c.loop-move_position-test.true)).1

pub returns-in-Err-clause-more : goal.returns-in-Err-clause-more
returns-in-Err-clause-more g c = λ e order within at.
    let moves = c.args.self.now.transducer.now.rules in
    let Gives = IsTableEdge g.S.Semiring.product c.args.self.now.grammar.now.rules moves c.args.self.now.runs c.args.key in
    let ps = c.of-move_position-items.result.now in
    let are = c.of-move_position-items.ensures moves c.args.self.now.indexed ∙ ap (λ q. moves_of q moves) c.second.ensures in
    let i = c.loop-move_position.move_position-index in
    let place = c.loop-move_position.invariant.position in
    subst (Overruns Gives) c.loop-move_position.invariant.budget
    (key_overruns Gives c.args.key order ps i (get_or ps i 0) c.loop-move_position-test.true (itself_at ps i c.loop-move_position-test.true) (moves_apart moves c.args.key.1 ps are) c.loop-move_position.listing
    (c.loop-move_position.invariant.listed order within at) (subst (λ n. n < length order) (sym place) within) (ap (key_at order) place ∙ at) (c.list_rule.ensures.more (c.in-Err.is ∙ same_fault c.in-Err.fault _ e)))

pub loop-move_position-preserved : goal.loop-move_position-preserved
loop-move_position-preserved g c =
    let moves = c.args.self.now.transducer.now.rules in
    let Gives = IsTableEdge g.S.Semiring.product c.args.self.now.grammar.now.rules moves c.args.self.now.runs c.args.key in
    let ps = c.of-move_position-items.result.now in
    let are = c.of-move_position-items.ensures moves c.args.self.now.indexed ∙ ap (λ q. moves_of q moves) c.second.ensures in
    let i = c.loop-move_position.move_position-index in
    let place = c.loop-move_position.invariant.position in
    record {
      within = c.in-Ok.ensures.within;
      position = c.list_rule.ensures.position ∙ place;
      budget = c.list_rule.ensures.budget ∙ c.loop-move_position.invariant.budget;
      listed = λ order within at.
          key_next Gives c.args.key order ps i (get_or ps i 0) c.loop-move_position-test.true (itself_at ps i c.loop-move_position-test.true) (moves_apart moves c.args.key.1 ps are) c.loop-move_position.listing
          (c.loop-move_position.invariant.listed order within at) c.list_rule.new.listing (subst (λ n. n < length order) (sym place) within) (ap (key_at order) place ∙ at) c.in-Ok.ensures.listed;
    }

pub returns-clause-listed : goal.returns-clause-listed
returns-clause-listed g c = λ order within at.
    let moves = c.args.self.now.transducer.now.rules in
    let ps = c.of-move_position-items.result.now in
    let are = c.of-move_position-items.ensures moves c.args.self.now.indexed ∙ ap (λ q. moves_of q moves) c.second.ensures in
    key_whole g.S.Semiring.product c.args.self.now.grammar.now.rules moves c.args.self.now.runs c.args.key order ps c.loop-move_position.move_position-index c.loop-move_position.listing are c.loop-move_position-test.false
    (c.loop-move_position.invariant.listed order within at)
