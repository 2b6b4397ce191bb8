use Rattle.std.proofs.Common.{arith, ◌∙◌, sym}
use Rattle.std.specs.Vec.Iter.{into_iter_items}
use Rattle.tib_grammar.specs.declared.Rule.{Rule}
use Rattle.std.proofs.Common.{ℕ}
use Rattle.tib_inside.specs.Settling.{costs_in}
use Rattle.tib_prune.specs.Outside.{through}
use Rattle.tib_prune.specs.Pruned.{is_at_most}
use Rattle.tib_prune.proofs.Kept.{whole_on, left_out, all_taken}
use Rattle.tib_prune.proofs.Told.{nil_of}
use Rattle.tib_prune.proofs.pruning.keep_rules.Goals as goal

pub loop-rule-preserved : goal.loop-rule-preserved
loop-rule-preserved g c = record {
  whole = whole_on c.args.rules.items c.loop-rule.yielded (into_iter_items c.loop-rule.rule-iterator) (into_iter_items c.next.new.self) c.in-Some.rule c.loop-rule.invariant.whole c.in-Some.ensures.steps.0;
  kept = left_out (λ (r : Rule ℕ). is_at_most (through g.S.Semiring.product (costs_in c.args.insides.now) (costs_in c.args.outsides.now) r) c.args.bound) c.loop-rule.yielded c.in-Some.rule c.loop-rule.kept.items
      c.loop-rule.invariant.kept (sym c.is_kept.ensures ∙ c.if-is_kept.false);
}

pub returns : goal.returns
returns g c =
    all_taken (λ (r : Rule ℕ). is_at_most (through g.S.Semiring.product (costs_in c.args.insides.now) (costs_in c.args.outsides.now) r) c.args.bound) c.args.rules.items c.loop-rule.yielded
    (into_iter_items c.loop-rule.rule-iterator) c.loop-rule.kept.items c.loop-rule.invariant.whole (nil_of (into_iter_items c.loop-rule.rule-iterator) (omega (arith, c.in-None.ensures.steps.0, c.loop-rule.rule-iterator.rest.ok.0))) c.loop-rule.invariant.kept
