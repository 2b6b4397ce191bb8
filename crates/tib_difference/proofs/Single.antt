-- A rule with one place is tried over the position alone.
use Rattle.std.specs.Prelude.{◌≡◌, ℕ, ◌<◌, if◌then◌else◌, List, [], ◌∷◌, length}
use Rattle.std.proofs.Common.{arith, ap, ◌∙◌, get_or}
use Rattle.tib_lex.proofs.Numbers.{nat_eq-itself}
use Rattle.tib_grammar.specs.declared.Rule.{Rule}
use Rattle.tib_difference.specs.Difference.{KeyOf}
use Rattle.tib_difference.specs.Tries.{choices_at, completions, behind_rule, states_in, tries_at}

-- at the first place, where the position is last, no other one may be
first_choices : (states : List ℕ) (order : List KeyOf) (n : ℕ) → choices_at states order n 0 0 ≡ n ∷ []
first_choices states order n = ap (λ b. if b then n ∷ [] else []) (nat_eq-itself (get_or states 0 0))

pub tries_single :
    (one : List (Rule ℕ)) (order : List KeyOf) (n r j : ℕ) → length (states_in one r) ≡ 1 → j < length (states_in one r) → tries_at one order n r j ≡ (r, n ∷ []) ∷ []
tries_single one order n r j single low =
    let states = states_in one r in
    let first : j ≡ 0 = omega (arith, single, low) in
    ap (λ (m : ℕ). behind_rule r (completions (choices_at states order n j) m [])) single
    ∙ ap (λ (i : ℕ). behind_rule r (completions (choices_at states order n i) 1 [])) first
    ∙ ap (λ (ps : List ℕ). behind_rule r (completions (λ i. ps) 1 [])) (first_choices states order n)
