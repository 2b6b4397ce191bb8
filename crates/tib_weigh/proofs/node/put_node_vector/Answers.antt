use Rattle.std.proofs.Common.{arith, ◌≤◌, ℕ, List, length, get_or, take, sym, subst, le_refl, ◌∙◌}
use Rattle.std.proofs.lemmas.List.{take_more, take_all}
use Rattle.tib_tree.specs.Trees.{count, first_trees, count-first}
use Rattle.tib_cost.specs.Least.{IsLeast}
use Rattle.tib_grammar.specs.Run.{rule_at}
use Rattle.tib_grammar.specs.Forms.{IsNormalSide}
use Rattle.tib_grammar.specs.declared.Rule.{Rule}
use Rattle.tib_normal.proofs.RulePlaces.{rule_place}
use Rattle.tib_weigh.specs.Entries.{cost_in, EndsBy}
use Rattle.tib_weigh.specs.Vectors.{vectors}
use Rattle.tib_weigh.proofs.EntryLemmas.{EndsBy-more}
use Rattle.tib_weigh.proofs.Stacks.{length-vectors}
use Rattle.tib_weigh.proofs.Places.{rule_here, later_left}
use Rattle.tib_weigh.proofs.Among.{BeginsAmong, among_step, among_all, count-Weighed}
use Rattle.tib_weigh.proofs.node.put_node_vector.Goals as goal

pub bounds-rules-position : goal.bounds-rules-position
bounds-rules-position g c = (rule_place c.args.rules.now c.args.positions.now c.args.label c.args.rank c.loop-position.position-index c.requires.positions c.loop-position-test.true).below

pub add_rule-requires-clause-normal : goal.add_rule-requires-clause-normal
add_rule-requires-clause-normal g c =
    let place = rule_place c.args.rules.now c.args.positions.now c.args.label c.args.rank c.loop-position.position-index c.requires.positions c.loop-position-test.true in
    let same = rule_here c.args.rules.now _ c.index-rules-position.result place.below c.index-rules-position.is in
    subst (λ (r : Rule ℕ). IsNormalSide r.right) (sym same) (c.requires.normal (get_or c.args.positions.now c.loop-position.position-index 0) place.below)

pub add_rule-requires-clause-enough : goal.add_rule-requires-clause-enough
add_rule-requires-clause-enough g c =
    let place = rule_place c.args.rules.now c.args.positions.now c.args.label c.args.rank c.loop-position.position-index c.requires.positions c.loop-position-test.true in
    let same = rule_here c.args.rules.now _ c.index-rules-position.result place.below c.index-rules-position.is in
    subst (λ (r : Rule ℕ). count r.right.kids ≤ length c.args.stack.now) (sym same) (rw place.many c.requires.enough)

pub add_rule-requires-clause-last : goal.add_rule-requires-clause-last
add_rule-requires-clause-last g c =
    let place = rule_place c.args.rules.now c.args.positions.now c.args.label c.args.rank c.loop-position.position-index c.requires.positions c.loop-position-test.true in
    let same = rule_here c.args.rules.now _ c.index-rules-position.result place.below c.index-rules-position.is in
    subst (λ (r : Rule ℕ). EndsBy r.left c.loop-position.vector.items) (sym same) (c.loop-position.invariant.ends c.loop-position.position-index (le_refl _) c.loop-position-test.true)

pub loop-position-preserved : goal.loop-position-preserved
loop-position-preserved g c =
    let ps = c.args.positions.now in
    let i = c.loop-position.position-index in
    let place = rule_place c.args.rules.now ps c.args.label c.args.rank i c.requires.positions c.loop-position-test.true in
    let same = rule_here c.args.rules.now _ c.index-rules-position.result place.below c.index-rules-position.is in
    let done = c.in_ok-add_rule.ensures in
    record {
      ascends = done.ascends;
      ends = λ j b l. EndsBy-more c.add_rule.new.vector.items (rule_at c.args.rules.now (get_or ps i 0)).left (rule_at c.args.rules.now (get_or ps j 0)).left
          (subst (λ (r : Rule ℕ). EndsBy r.left c.add_rule.new.vector.items) same done.last)
          (later_left c.args.rules.now ps c.args.label c.args.rank i j c.requires.positions c.requires.ascending (omega arith) l);
      least = λ ts w q.
          let enough : c.args.rank ≤ count ts = omega (arith, c.requires.enough, count-Weighed g.S.Semiring.product c.args.rules.now ts (vectors c.args.stack.now) w, length-vectors c.args.stack.now) in
          let more = among_step g.met.S.Semiring.laws c.args.rules.now c.requires.normal ts (vectors c.args.stack.now) c.args.label c.args.rank (take i ps) (get_or ps i 0) q (cost_in c.loop-position.vector.items q) (cost_in c.add_rule.new.vector.items q)
          place enough w (c.loop-position.invariant.least ts w q) (rw (← same) (done.costs q)) in
          subst (λ (xs : List ℕ). IsLeast (BeginsAmong g.S.Semiring.product c.args.rules.now q c.args.label (first_trees c.args.rank ts) xs) (cost_in c.add_rule.new.vector.items q)) (sym (take_more ps i 0 c.loop-position-test.true)) more;
    }

pub returns : goal.returns
returns g c ts w =
    let ps = c.args.positions.now in
    let i = c.loop-position.position-index in
    let enough : c.args.rank ≤ count ts = omega (arith, c.requires.enough, count-Weighed g.S.Semiring.product c.args.rules.now ts (vectors c.args.stack.now) w, length-vectors c.args.stack.now) in
    let whole = take_all i ps c.loop-position-test.false ∙ c.requires.positions in
    record {
      ascends = c.loop-position.invariant.ascends;
      least = λ q. among_all g.met.S.Semiring.laws c.args.rules.now c.requires.normal q c.args.label c.args.rank (first_trees c.args.rank ts) (count-first c.args.rank ts enough)
          (subst (λ (xs : List ℕ). IsLeast (BeginsAmong g.S.Semiring.product c.args.rules.now q c.args.label (first_trees c.args.rank ts) xs) (cost_in c.loop-position.vector.items q)) whole (c.loop-position.invariant.least ts w q));
    }
