-- Products put in another order.
use Rattle.std.specs.Prelude.{◌≡◌, ℕ, Bool}
use Rattle.std.proofs.Common.{ap, sym, ◌∙◌}
use Rattle.tib_cost.specs.Semiring.{ProductLaws}

module _ {levelled weighted : Bool} {product : ℕ → ℕ → ℕ} (laws : ProductLaws levelled weighted product) where
  pub swap_first : (a b c : ℕ) → product a (product b c) ≡ product b (product a c)
  swap_first a b c = sym (laws.regroups a b c) ∙ ap (λ x. product x c) (laws.commutes a b) ∙ laws.regroups b a c
