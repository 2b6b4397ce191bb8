-- As many states as sets.
use Rattle.std.specs.Prelude.{◌≡◌, ℕ, true, false, List, [], ◌∷◌, length, map, refl}
use Rattle.std.proofs.Common.{suc, ap, sym, ◌∙◌, inl, inr}
use Rattle.tib_lex.proofs.Booleans.{bool_cases, and-true}
use Rattle.tib_lex.proofs.Lists.{length_map}
use Rattle.tib_grammar.specs.Items.{state_in}
use Rattle.tib_grammar.specs.declared.Item.{Item}
use Rattle.tib_difference.specs.Subsets.{SubsetOf}
use Rattle.tib_difference.specs.Difference.{KeyOf, key_at, keys_at, subsets_of}
use Rattle.tib_difference.specs.Lefts.{holds, are_in}

many_in : (qs : List ℕ) (vs : List SubsetOf) → are_in qs vs ≡ true → length qs ≡ length vs
many_in [] [] e = refl
many_in [] (v ∷ vs) e = cc
many_in (q ∷ qs) [] e = cc
many_in (q ∷ qs) (v ∷ vs) e = ap suc (many_in qs vs (and-true (holds v q) (are_in qs vs) e).1)

-- as many sets as positions
pub many_subsets : (order : List KeyOf) (ps : List ℕ) → length (subsets_of (keys_at order ps)) ≡ length ps
many_subsets order ps = length_map (λ (k : KeyOf). k.1) (keys_at order ps) ∙ length_map (key_at order) ps

pub not_as_many :
    (items : List (Item ℕ)) (order : List KeyOf) (ps : List ℕ) → (length items ≡ length ps → ⊥) → false ≡ are_in (map state_in items) (subsets_of (keys_at order ps))
not_as_many items order ps n = elim (bool_cases (are_in (map state_in items) (subsets_of (keys_at order ps)))) [
  | inl y ↦ absurd (n (sym (length_map state_in items) ∙ many_in (map state_in items) (subsets_of (keys_at order ps)) y ∙ many_subsets order ps))
  | inr f ↦ sym f
]
