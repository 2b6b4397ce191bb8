use Rattle.std.proofs.Common.{◌≡◌, ◌+◌, ◌-◌, arith, sym, ◌∙◌, ap}
use Rattle.std.specs.Prelude.{ℕ}
use Rattle.tib_tree.specs.Trees.{Tree}
use Rattle.tib_cost.proofs.Times.{cut-some}
use Rattle.tib_grammar.specs.Run.{rule_at}
use Rattle.tib_ranked_trees.specs.Levels.{states_of}
use Rattle.tib_ranked_trees.specs.Held.{entries_of, ranks_from}
use Rattle.tib_ranked_trees.proofs.Offering.{total_from, total_begins, total_step, too_dear}
use Rattle.tib_ranked_trees.proofs.lists.Lists.cost_of.Goals as goal

pub loop-i-init : goal.loop-i-init
loop-i-init g c = (
  omega (arith, c.count-i.ensures.many),
  c.one-total.ensures ∙ sym (total_begins g.met.S.Semiring.laws (entries_of c.args.self.now) (states_of (rule_at c.args.self.now.rules c.args.rule)) (ranks_from c.args.self.now c.args.rule c.args.start) c.requires.tuple.ranks
      c.count-i.result c.count-i.ensures.many),
)

pub returns-in_default : goal.returns-in_default
returns-in_default g c =
    let s : (c.loop-i.i - 1) + 1 ≡ c.loop-i.i = omega arith in
    too_dear g.met.S.Semiring.laws (entries_of c.args.self.now) (states_of (rule_at c.args.self.now.rules c.args.rule)) (ranks_from c.args.self.now c.args.rule c.args.start) c.requires.tuple.ranks
    (rule_at c.args.self.now.rules c.args.rule).cost (c.loop-i.i - 1) c.child-entry.result.now.cost c.loop-i.total (omega arith) (sym (ap (λ (z : Tree ℕ × ℕ). z.1) c.child-entry.ensures.same))
    (c.loop-i.invariant.1 ∙ ap (total_from g.S.Semiring.product (entries_of c.args.self.now) (states_of (rule_at c.args.self.now.rules c.args.rule)) (ranks_from c.args.self.now c.args.rule c.args.start)) (sym s))
    c.in_default.ensures

pub loop-i-preserved : goal.loop-i-preserved
loop-i-preserved g c =
    let s : (c.loop-i.i - 1) + 1 ≡ c.loop-i.i = omega arith in
    let e = total_step g.met.S.Semiring.laws (entries_of c.args.self.now) (states_of (rule_at c.args.self.now.rules c.args.rule)) (ranks_from c.args.self.now c.args.rule c.args.start) c.requires.tuple.ranks
    (c.loop-i.i - 1) c.child-entry.result.now.cost c.loop-i.total (omega arith) (sym (ap (λ (z : Tree ℕ × ℕ). z.1) c.child-entry.ensures.same))
    (c.loop-i.invariant.1 ∙ ap (total_from g.S.Semiring.product (entries_of c.args.self.now) (states_of (rule_at c.args.self.now.rules c.args.rule)) (ranks_from c.args.self.now c.args.rule c.args.start)) (sym s))
    in
    (omega arith, sym (cut-some (g.S.Semiring.product c.child-entry.result.now.cost c.loop-i.total) c.in-Some.more (sym c.in-Some.ensures)).0 ∙ e)
