use Rattle.std.proofs.Common.{◌<◌, refl, length, get_or, arith, ap, sym, ◌∙◌, subst}
use Rattle.tib_apply.proofs.ForwardEdges.{same_fault}
use Rattle.tib_tree.specs.Trees.{count}
use Rattle.tib_key_edges.specs.Ends.{key_at}
use Rattle.tib_image.specs.Nodes.{subtree}
use Rattle.tib_image.specs.Image.{IsImageEdge}
use Rattle.tib_key_edges.specs.Listing.{Overruns}
use Rattle.tib_key_edges.proofs.Listed.{listed_first}
use Rattle.tib_image.proofs.Listed.{key_next, key_overruns, key_whole}
use Rattle.tib_image.proofs.Edging.{all_stand, apart, rule_here}
use Rattle.tib_image.proofs.operation.Image.list_edges.Goals as goal

pub root_at-label-requires : goal.root_at-label-requires
root_at-label-requires g c = omega (arith, c.node.ensures, c.requires.node)

pub loop-rule_position-init : goal.loop-rule_position-init
loop-rule_position-init g c =
    let Gives = IsImageEdge c.args.self.now.transducer.now.rules c.args.self.now.tree.now c.args.key in
    record {
      within = record {
        few = omega (arith, c.new-listing.ensures.ends, c.new-listing.ensures.parts);
        within = omega (arith, c.new-listing.ensures.parts);
        budget = omega (arith, c.new-listing.ensures.budget, c.requires.budget);
      };
      position = c.new-listing.ensures.position;
      budget = c.new-listing.ensures.budget;
      listed = λ order within at. listed_first Gives order c.new-listing.result c.new-listing.ensures.ends c.new-listing.ensures.rules c.new-listing.ensures.parts;
    }

pub list_rule-requires-clause-below : goal.list_rule-requires-clause-below
list_rule-requires-clause-below g c =
    let moves = c.args.self.now.transducer.now.rules in
    let t = c.args.self.now.tree.now in
    let key = c.args.key in
    let label_is = c.root_at-label.ensures.label ∙ ap (λ n. (subtree t n).label) c.node.ensures in
    let rank_is = c.root_at-label.ensures.rank ∙ ap (λ n. count (subtree t n).kids) c.node.ensures in
    let ps = c.find-rule_position-items.result.now in
    let are = c.find-rule_position-items.ensures ∙ c.args.self.now.indexed (c.state.result, c.root_at-label.result.0, c.root_at-label.result.1) in
    let i = c.loop-rule_position.rule_position-index in
    (rule_here moves t key c.state.result c.root_at-label.result.0 c.root_at-label.result.1 c.state.ensures label_is rank_is ps are i (get_or ps i 0) c.loop-rule_position-test.true refl).0

pub list_rule-requires-clause-state : goal.list_rule-requires-clause-state
list_rule-requires-clause-state g c =
    let moves = c.args.self.now.transducer.now.rules in
    let t = c.args.self.now.tree.now in
    let key = c.args.key in
    let label_is = c.root_at-label.ensures.label ∙ ap (λ n. (subtree t n).label) c.node.ensures in
    let rank_is = c.root_at-label.ensures.rank ∙ ap (λ n. count (subtree t n).kids) c.node.ensures in
    let ps = c.find-rule_position-items.result.now in
    let are = c.find-rule_position-items.ensures ∙ c.args.self.now.indexed (c.state.result, c.root_at-label.result.0, c.root_at-label.result.1) in
    let i = c.loop-rule_position.rule_position-index in
    (rule_here moves t key c.state.result c.root_at-label.result.0 c.root_at-label.result.1 c.state.ensures label_is rank_is ps are i (get_or ps i 0) c.loop-rule_position-test.true refl).1

pub returns-in-Err-clause-more : goal.returns-in-Err-clause-more
returns-in-Err-clause-more g c = λ e order within here.
    let moves = c.args.self.now.transducer.now.rules in
    let t = c.args.self.now.tree.now in
    let key = c.args.key in
    let label_is = c.root_at-label.ensures.label ∙ ap (λ n. (subtree t n).label) c.node.ensures in
    let rank_is = c.root_at-label.ensures.rank ∙ ap (λ n. count (subtree t n).kids) c.node.ensures in
    let ps = c.find-rule_position-items.result.now in
    let are = c.find-rule_position-items.ensures ∙ c.args.self.now.indexed (c.state.result, c.root_at-label.result.0, c.root_at-label.result.1) in
    let i = c.loop-rule_position.rule_position-index in
    let Gives = IsImageEdge moves t key in
    let place = c.loop-rule_position.invariant.position in
    subst (Overruns Gives) c.loop-rule_position.invariant.budget
    (key_overruns Gives key order ps i (get_or ps i 0) c.loop-rule_position-test.true refl (apart moves t key c.state.result c.root_at-label.result.0 c.root_at-label.result.1 c.state.ensures label_is rank_is ps are) c.loop-rule_position.listing
    (subst (λ n. n < length order) (sym place) within) (ap (key_at order) place ∙ here) (c.list_rule.ensures.more (c.in-Err.is ∙ same_fault c.in-Err.fault _ e)) (c.loop-rule_position.invariant.listed order within here))

pub loop-rule_position-preserved : goal.loop-rule_position-preserved
loop-rule_position-preserved g c =
    let moves = c.args.self.now.transducer.now.rules in
    let t = c.args.self.now.tree.now in
    let key = c.args.key in
    let label_is = c.root_at-label.ensures.label ∙ ap (λ n. (subtree t n).label) c.node.ensures in
    let rank_is = c.root_at-label.ensures.rank ∙ ap (λ n. count (subtree t n).kids) c.node.ensures in
    let ps = c.find-rule_position-items.result.now in
    let are = c.find-rule_position-items.ensures ∙ c.args.self.now.indexed (c.state.result, c.root_at-label.result.0, c.root_at-label.result.1) in
    let i = c.loop-rule_position.rule_position-index in
    let place = c.loop-rule_position.invariant.position in
    record {
      within = c.in-Ok.ensures.within;
      position = c.list_rule.ensures.position ∙ place;
      budget = c.list_rule.ensures.budget ∙ c.loop-rule_position.invariant.budget;
      listed = λ order within here.
          key_next (IsImageEdge moves t key) key order ps i (get_or ps i 0) c.loop-rule_position-test.true refl (apart moves t key c.state.result c.root_at-label.result.0 c.root_at-label.result.1 c.state.ensures label_is rank_is ps are) c.loop-rule_position.listing c.list_rule.new.listing
          (subst (λ n. n < length order) (sym place) within) (ap (key_at order) place ∙ here) c.in-Ok.ensures.listed (c.loop-rule_position.invariant.listed order within here);
    }

pub returns-clause-listed : goal.returns-clause-listed
returns-clause-listed g c = λ order within here.
    let moves = c.args.self.now.transducer.now.rules in
    let t = c.args.self.now.tree.now in
    let key = c.args.key in
    let label_is = c.root_at-label.ensures.label ∙ ap (λ n. (subtree t n).label) c.node.ensures in
    let rank_is = c.root_at-label.ensures.rank ∙ ap (λ n. count (subtree t n).kids) c.node.ensures in
    let ps = c.find-rule_position-items.result.now in
    let are = c.find-rule_position-items.ensures ∙ c.args.self.now.indexed (c.state.result, c.root_at-label.result.0, c.root_at-label.result.1) in
    let i = c.loop-rule_position.rule_position-index in
    key_whole (IsImageEdge moves t key) order ps i c.loop-rule_position.listing (all_stand moves t key c.state.result c.root_at-label.result.0 c.root_at-label.result.1 c.state.ensures label_is rank_is ps are c.is_sound.ensures.shaped) c.loop-rule_position-test.false
    (c.loop-rule_position.invariant.listed order within here)
