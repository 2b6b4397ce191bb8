use Rattle.std.proofs.Common.{rules, ◌≡◌, [], ◌∷◌, ◌++◌, None, Some, sym, ◌∙◌}
use Rattle.tib_inside.specs.Settling.{costs_in}
use Rattle.tib_prune.specs.Outside.{through}
use Rattle.tib_prune.proofs.Counted.{costs_more, costs_skip, listed}
use Rattle.tib_prune.proofs.pruning.through_costs.Goals.{in-Some+in_ok-push, in_default}
use Rattle.tib_prune.proofs.pruning.through_costs.Goals as goal

pub loop-rule-preserved : goal.loop-rule-preserved
loop-rule-preserved g c = elim c.match-through.branch [
  | in-Some+in_ok-push w ↦
      let some : c.through.result ≡ Some w.in-Some.cost = search rules in
      let items : c.match-through.costs.items ≡ c.loop-rule.costs.items ++ w.in-Some.cost ∷ [] = search rules in
      costs_more (through g.S.Semiring.product (costs_in c.args.insides.now) (costs_in c.args.outsides.now)) c.args.rules.now c.loop-rule.rule-index c.rule-item.result w.in-Some.cost c.loop-rule.costs.items c.match-through.costs.items
      c.loop-rule-test.true c.rule-item.is (sym c.through.ensures ∙ some) c.loop-rule.invariant items
  | in_default w ↦
      let none : c.through.result ≡ None = search rules in
      let items : c.match-through.costs.items ≡ c.loop-rule.costs.items = search rules in
      items
      ∙ costs_skip (through g.S.Semiring.product (costs_in c.args.insides.now) (costs_in c.args.outsides.now)) c.args.rules.now c.loop-rule.rule-index c.rule-item.result c.loop-rule.costs.items c.loop-rule-test.true c.rule-item.is
      (sym c.through.ensures ∙ none) c.loop-rule.invariant
]

pub returns : goal.returns
returns g c =
    listed (through g.S.Semiring.product (costs_in c.args.insides.now) (costs_in c.args.outsides.now)) c.args.rules.now c.loop-rule.rule-index c.loop-rule.costs.items c.sort.new.self.items c.loop-rule-test.false
    c.loop-rule.invariant c.in_ok-sort.ensures.permutation c.in_ok-sort.ensures.sorted
