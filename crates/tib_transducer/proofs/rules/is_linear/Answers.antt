use Rattle.std.proofs.Common.{ℕ, ◌≤◌, ◌-◌, ◌+◌, arith, sym, subst, true≢false}
use Rattle.tib_transducer.specs.Counting.{numbers_in}
use Rattle.tib_transducer.proofs.Counting.{window_more, window_from, window_to}
use Rattle.tib_transducer.proofs.Standing.{linear_from, linear_to}
use Rattle.tib_transducer.proofs.rules.is_linear.Goals as goal

abbrev IsOnce : ℕ → Type 0
IsOnce n = n ≤ 1

pub returns-then-not-are_at_most_one-clause-no : goal.returns-then-not-are_at_most_one-clause-no
returns-then-not-are_at_most_one-clause-no c = λ _ linear.
    let once = linear_to c.args.rule.now c.items.result.now c.items-right.result.now c.items.ensures.items c.items-right.ensures.items
    c.count_variables-variables.result c.count_variables-variables.ensures c.requires linear
    in
    true≢false (sym (c.if-not-are_at_most_one.ensures.1 (window_to IsOnce c.count_uses-uses.result c.min-many.result
    (λ k below. subst IsOnce (sym (c.count_uses-uses.ensures.counted k (omega (arith, below, c.min-many.ensures))))
    (once ((c.loop-rest.rest - c.min-many.result) + k))))))

pub loop-rest-preserved : goal.loop-rest-preserved
loop-rest-preserved c = record {
  within = omega (arith, c.loop-rest.invariant.within);
  once = window_more IsOnce (numbers_in c.items-right.result.now) c.count_uses-uses.result c.count_variables-variables.result c.loop-rest.rest c.min-many.result
      (omega (arith, c.min-many.ensures)) (omega (arith, c.min-many.ensures)) c.count_uses-uses.ensures.counted
      (window_from IsOnce c.count_uses-uses.result c.min-many.result c.count_uses-uses.ensures.long (omega (arith, c.min-many.ensures)) (c.are_at_most_one.ensures.0 c.if-not-are_at_most_one.false))
      c.loop-rest.invariant.once;
}

pub returns-clause-yes : goal.returns-clause-yes
returns-clause-yes c = λ _.
    linear_from c.args.rule.now c.items.result.now c.items-right.result.now c.items.ensures.items c.items-right.ensures.items
    c.count_variables-variables.result c.count_variables-variables.ensures c.requires
    (λ n low. c.loop-rest.invariant.once n (omega (arith, c.loop-rest-test.false)) low)
