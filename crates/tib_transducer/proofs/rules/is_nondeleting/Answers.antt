use Rattle.std.proofs.Common.{ℕ, ◌≤◌, ◌-◌, ◌+◌, arith, sym, subst, true≢false}
use Rattle.tib_transducer.specs.Counting.{numbers_in}
use Rattle.tib_transducer.proofs.Counting.{window_more, window_from, window_to}
use Rattle.tib_transducer.proofs.Standing.{nondeleting_from, nondeleting_to}
use Rattle.tib_transducer.proofs.rules.is_nondeleting.Goals as goal

abbrev IsUsed : ℕ → Type 0
IsUsed n = 1 ≤ n

pub returns-then-not-are_above_zero-clause-no : goal.returns-then-not-are_above_zero-clause-no
returns-then-not-are_above_zero-clause-no c = λ _ nondeleting.
    let used = nondeleting_to c.args.rule.now c.items.result.now c.items-right.result.now c.items.ensures.items c.items-right.ensures.items
    c.count_variables-variables.result c.count_variables-variables.ensures c.requires nondeleting
    in
    true≢false (sym (c.if-not-are_above_zero.ensures.1 (window_to IsUsed c.count_uses-uses.result c.min-many.result
    (λ k below. subst IsUsed (sym (c.count_uses-uses.ensures.counted k (omega (arith, below, c.min-many.ensures))))
    (used ((c.loop-rest.rest - c.min-many.result) + k) (omega (arith, below, c.min-many.ensures, c.loop-rest.invariant.within)))))))

pub loop-rest-preserved : goal.loop-rest-preserved
loop-rest-preserved c = record {
  within = omega (arith, c.loop-rest.invariant.within);
  used = window_more IsUsed (numbers_in c.items-right.result.now) c.count_uses-uses.result c.count_variables-variables.result c.loop-rest.rest c.min-many.result
      (omega (arith, c.min-many.ensures)) (omega (arith, c.min-many.ensures)) c.count_uses-uses.ensures.counted
      (window_from IsUsed c.count_uses-uses.result c.min-many.result c.count_uses-uses.ensures.long (omega (arith, c.min-many.ensures)) (c.are_above_zero.ensures.0 c.if-not-are_above_zero.false))
      c.loop-rest.invariant.used;
}

pub returns-clause-yes : goal.returns-clause-yes
returns-clause-yes c = λ _.
    nondeleting_from c.args.rule.now c.items.result.now c.items-right.result.now c.items.ensures.items c.items-right.ensures.items
    c.count_variables-variables.result c.count_variables-variables.ensures c.requires
    (λ n low. c.loop-rest.invariant.used n (omega (arith, c.loop-rest-test.false)) low)
