use Rattle.std.proofs.Common.{rules, subst, sym, ◌∙◌, ap, ℕ, List, ◌≡◌, ◌∷◌, [], ◌++◌}
use Rattle.std.specs.Prelude.{Bool, slice_set, true, false, replicate}
use Rattle.tib_inside.specs.Reaching.{IsReaching}
use Rattle.tib_inside.proofs.Following.{lefts_below, reach_begin}
use Rattle.tib_inside.proofs.reaching.reached_states.Goals as goal
use Rattle.tib_grammar.specs.Range.{AreBelow}

pub new-requires : goal.new-requires
new-requires c = record { below = subst (λ (xs : List ℕ). AreBelow c.args.count xs) (sym (c.deref.ensures.value ∙ c.in_ok-lefts.ensures)) (lefts_below c.args.rules.now c.args.count c.requires.range) }

pub reach-requires-clause-reaching : goal.reach-requires-clause-reaching
reach-requires-clause-reaching c =
    let stack_is : c.push.new.self.items ≡ 0 ∷ [] = c.in_ok-push.ensures.items ∙ ap (λ (xs : List ℕ). xs ++ 0 ∷ []) c.new-stack.ensures.items in
    let kept_is : c.in_ok-kept.kept.items ≡ replicate c.args.count false = search rules in
    subst (λ (xs : List Bool). IsReaching c.args.rules.now c.args.live.now (slice_set xs 0 true) c.push.new.self.items) (sym kept_is)
    (subst (λ (ys : List ℕ). IsReaching c.args.rules.now c.args.live.now (slice_set (replicate c.args.count false) 0 true) ys) (sym stack_is) (reach_begin c.args.rules.now c.args.live.now c.args.count c.requires.start))
