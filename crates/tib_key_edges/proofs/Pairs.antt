-- Pairs of states that two machines have.
use Rattle.std.specs.Prelude.{◌≡◌, ℕ, ◌<◌}
use Rattle.std.proofs.Common.{arith, ap}

-- the pair of the starts has its states in range
pub seed_within : (m n : ℕ) (k : ℕ × ℕ) → 0 < m → 0 < n → k ≡ (0, 0) → (k.0 < m) × (k.1 < n)
seed_within m n k x y e = (omega (arith, x, ap (λ (z : ℕ × ℕ). z.0) e), omega (arith, y, ap (λ (z : ℕ × ℕ). z.1) e))
