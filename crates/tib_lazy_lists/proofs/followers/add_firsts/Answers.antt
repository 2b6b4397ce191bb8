use Rattle.std.specs.Prelude.{ℕ, length, ◌+◌, ◌<◌, refl}
use Rattle.std.specs.Global.{Vec}
use Rattle.std.proofs.Common.{get_or, subst, sym}
use Rattle.tib_ranked_trees.specs.ListsOf.{ListsOf}
use Rattle.tib_lazy_lists.specs.Offers.{AreOpened}
use Rattle.tib_lazy_lists.proofs.Kept.{more_keeps}
use Rattle.tib_lazy_lists.proofs.Followed.{started_more, opened_next, opened_skip}
use Rattle.tib_lazy_lists.proofs.followers.add_firsts.Goals as goal
use Rattle.tib_lazy_lists.proofs.followers.add_firsts.Goals.{then-rule-but+in_ok-add_first, else-rule-but}

pub add_first-requires-clause-ranks : goal.add_first-requires-clause-ranks
add_first-requires-clause-ranks g c =
    let r : ℕ = get_or c.args.rules.now c.loop-rule.rule-index 0 in
    started_more c.args.lists.now c.loop-rule.lists c.loop-rule.invariant.more c.requires.started r
    (more_keeps c.args.lists.now c.loop-rule.lists c.loop-rule.invariant.more (λ z. r < length z.rules) (c.requires.rules c.loop-rule.rule-index c.loop-rule-test.true))

pub loop-rule-preserved : goal.loop-rule-preserved
loop-rule-preserved g c =
    let x : ListsOf = c.args.lists.now in
    let i : ℕ = c.loop-rule.rule-index in
    let r : ℕ = get_or c.args.rules.now i 0 in
    elim c.if-rule-but.branch [
      | then-rule-but+in_ok-add_first w ↦
          subst (λ (u : ListsOf). AreOpened g.S.Semiring.product x c.args.rules.now c.args.but (i + 1) c.args.heap.now.items u c.if-rule-but.heap.items) (sym w.lists-is)
          (subst (λ (v : Vec ℕ). AreOpened g.S.Semiring.product x c.args.rules.now c.args.but (i + 1) c.args.heap.now.items w.add_first.new.lists v.items) (sym w.heap-is)
          (opened_next g.S.Semiring.product x c.args.rules.now c.args.but i c.args.heap.now.items c.loop-rule.lists c.loop-rule.heap.items c.loop-rule.invariant r refl w.if-rule-but.true c.loop-rule-test.true w.add_first.new.lists w.add_first.new.heap.items w.in_ok-add_first.ensures))
      | else-rule-but w ↦
          subst (λ (u : ListsOf). AreOpened g.S.Semiring.product x c.args.rules.now c.args.but (i + 1) c.args.heap.now.items u c.if-rule-but.heap.items) (sym w.lists-is)
          (subst (λ (v : Vec ℕ). AreOpened g.S.Semiring.product x c.args.rules.now c.args.but (i + 1) c.args.heap.now.items c.loop-rule.lists v.items) (sym w.heap-is)
          (opened_skip g.S.Semiring.product x c.args.rules.now c.args.but i c.args.heap.now.items c.loop-rule.lists c.loop-rule.heap.items c.loop-rule.invariant r refl w.if-rule-but.false))
    ]
