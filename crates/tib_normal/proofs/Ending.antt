-- The ends of chain rules, rule by rule.
use Rattle.std.specs.Prelude.{◌≡◌, ℕ, ◌+◌, ◌<◌, ◌⊎◌, List, [], ◌∷◌, ◌++◌, length}
use Rattle.std.proofs.Common.{get_or, arith, ap, sym, ◌∙◌, subst, inl, inr}
use Rattle.std.proofs.lemmas.List.{get_or_append_left}
use Rattle.std.proofs.Math.Seq.{get_or-append_seam}
use Rattle.tib_grammar.specs.Run.{rule_at}
use Rattle.tib_grammar.specs.declared.Rule.{Rule}
use Rattle.tib_normal.specs.Links.{no_key}
use Rattle.tib_normal.specs.Ways.{IsEnd}

-- the end of one more rule
pub ends-more :
    (rules : List (Rule ℕ)) (ends now : List ℕ) (m end : ℕ) (r : Rule ℕ) → r ≡ rule_at rules m → length ends ≡ m → now ≡ ends ++ end ∷ [] →
    ((n : ℕ) → n < m → IsEnd (rule_at rules n) (get_or ends n no_key)) → IsEnd r end → (n : ℕ) → n < m + 1 → IsEnd (rule_at rules n) (get_or now n no_key)
ends-more rules ends now m end r at long is each last n h = subst (λ xs. IsEnd (rule_at rules n) (get_or xs n no_key)) (sym is) (place (last_or_before n m h))
  where
    last_or_before : (n m : ℕ) → n < m + 1 → (n < m) ⊎ (n ≡ m)
    last_or_before n m h = grind arith

    place : (n < m) ⊎ (n ≡ m) → IsEnd (rule_at rules n) (get_or (ends ++ end ∷ []) n no_key)
    place (inl k) = subst (IsEnd (rule_at rules n)) (sym (get_or_append_left ends (end ∷ []) no_key n (omega (arith, k, long)))) (each n k)
    place (inr k) =
        subst (λ i. IsEnd (rule_at rules i) (get_or (ends ++ end ∷ []) i no_key)) (sym (k ∙ sym long))
        (subst (IsEnd (rule_at rules (length ends))) (sym (get_or-append_seam ends end [] no_key)) (subst (λ (x : Rule ℕ). IsEnd x end) (at ∙ ap (rule_at rules) (sym long)) last))
