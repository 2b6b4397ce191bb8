-- The order of pairs of numbers is total.
use Rattle.std.specs.Prelude.{ℕ}
use Rattle.std.specs.Cmp.{IsTotalOrder}
use Rattle.std.proofs.lemmas.Cmp.{then_total, on_total, nat_cmp_total}
use Rattle.tib_lex.specs.PairOrder.{pair_cmp}
use Rattle.std.proofs.Common.{◌≡◌, refl, true}
use Rattle.std.specs.Ordering.{ordering_then, is_lt}
use Rattle.std.specs.declared.cmp.Ordering.{Ordering}
use Rattle.std.specs.declared.cmp.Ordering.TheVariants.{Less, Equal, Greater}

-- each two pairs come in one order
pub pair_total : IsTotalOrder pair_cmp
pair_total = then_total (on_total (λ (p : ℕ × ℕ). p.0) nat_cmp_total) (on_total (λ (p : ℕ × ℕ). p.1) nat_cmp_total)

pub both_equal : (a b : Ordering) → ordering_then a b ≡ Equal → (a ≡ Equal) × (b ≡ Equal)
both_equal Less b e = absurd (cc)
both_equal Equal b e = (refl, e)
both_equal Greater b e = absurd (cc)

pub less_goes_on : (a b c : Ordering) → ordering_then a b ≡ Less → is_lt (ordering_then a (ordering_then b c)) ≡ true
less_goes_on Less b c e = refl
less_goes_on Equal Less c e = refl
less_goes_on Equal Equal c e = absurd (cc)
less_goes_on Equal Greater c e = absurd (cc)
less_goes_on Greater b c e = absurd (cc)
