use Rattle.std.proofs.Common.{ap, sym, ◌∙◌, subst, ℕ, List, [], ◌∷◌, ◌++◌, ◌+◌}
use Rattle.std.specs.Vec.Iter.{into_iter_items}
use Rattle.tib_grammar.specs.declared.Rule.{Rule}
use Rattle.tib_inside.proofs.MarkedRules.{IsMoving, moved_on, left_out}
use Rattle.tib_inside.proofs.renaming.marked_rules.Goals.{then-marks-place+in_ok-push, else-marks-place}
use Rattle.tib_inside.proofs.renaming.marked_rules.Goals as goal

pub loop-rule-preserved : goal.loop-rule-preserved
loop-rule-preserved c = elim c.if-marks-place.branch [
  | then-marks-place+in_ok-push w ↦
      subst (λ (xs : List (Rule ℕ)). IsMoving c.args.rules.items c.args.marks.now c.args.numbers.now (c.loop-rule.yielded ++ c.in-Some.rule ∷ []) (into_iter_items c.next.new.self) (c.loop-rule.place + 1) xs)
      (sym (ap (λ v. v.items) w.moved-is ∙ w.in_ok-push.ensures.items ∙ ap (λ (r : Rule ℕ). c.loop-rule.moved.items ++ r ∷ []) w.moved_rule.ensures.rule))
      (moved_on c.args.rules.items c.args.marks.now c.args.numbers.now c.loop-rule.yielded (into_iter_items c.loop-rule.rule-iterator) c.loop-rule.place c.loop-rule.moved.items c.loop-rule.invariant c.in-Some.rule (into_iter_items c.next.new.self) c.in-Some.ensures.steps.0
      w.if-marks-place.true w.moved_rule.ensures.leaves)
  | else-marks-place w ↦
      subst (λ (xs : List (Rule ℕ)). IsMoving c.args.rules.items c.args.marks.now c.args.numbers.now (c.loop-rule.yielded ++ c.in-Some.rule ∷ []) (into_iter_items c.next.new.self) (c.loop-rule.place + 1) xs)
      (sym (ap (λ v. v.items) w.moved-is))
      (left_out c.args.rules.items c.args.marks.now c.args.numbers.now c.loop-rule.yielded (into_iter_items c.loop-rule.rule-iterator) c.loop-rule.place c.loop-rule.moved.items c.loop-rule.invariant c.in-Some.rule (into_iter_items c.next.new.self) c.in-Some.ensures.steps.0
      w.if-marks-place.false)
]
