-- How keys are stored.
use Rattle.std.specs.Prelude.{ℕ, refl}
use Rattle.std.specs.Coded.{Coded, code_by, coded×, coded_ℕ}

abbrev pub key_code : Coded (ℕ × ℕ × ℕ × ℕ)
key_code =
    code_by (ℕ × (ℕ × (ℕ × ℕ))) (coded× coded_ℕ (coded× coded_ℕ (coded× coded_ℕ coded_ℕ))) (λ k. (k.0, (k.1, (k.2, k.3)))) (λ t. (t.0, t.1.0, t.1.1.0, t.1.1.1))
    (λ _. refl)
