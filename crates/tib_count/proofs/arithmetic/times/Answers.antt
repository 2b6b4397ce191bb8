use Rattle.std.proofs.Common.{sym, ◌∙◌}
use Rattle.tib_count.proofs.CountedNumbers.{number_is, no_number, number_times, many_times_many}
use Rattle.tib_count.proofs.arithmetic.times.Goals as goal

pub returns-in_default-Number : goal.returns-in_default-Number
returns-in_default-Number c = λ m n a b.
    number_times c.many_times-in_default-Number.result c.in_default-Number.n m n (number_is c.in_default-Number.n n (sym c.in_default-Number.is-1 ∙ b)) c.many_times-in_default-Number.ensures
    (no_number m (λ k e. c.in_default-Number.not-Number-0 k (a ∙ e)))

pub returns-in_default : goal.returns-in_default
returns-in_default c = λ m n a b. many_times_many m n (no_number m (λ k e. c.in_default.not-Number-0 k (a ∙ e))) (no_number n (λ k e. c.in_default.not-Number-1 k (b ∙ e)))
