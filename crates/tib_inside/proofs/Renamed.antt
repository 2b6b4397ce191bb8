-- Names of the states that are kept.
use Rattle.std.specs.Prelude.{◌≡◌, ℕ, ◌+◌, ◌<◌, List, [], ◌∷◌, ◌++◌, length, map, take, Some, slice_get}
use Rattle.std.proofs.Common.{zero, suc, ap, sym, ◌∙◌, get_or}
use Rattle.std.proofs.lemmas.List.{map-append, map_more}

pub got : (xs : List (List ℕ)) (i : ℕ) (x : List ℕ) → slice_get xs i ≡ Some x → get_or xs i [] ≡ x
got [] i x e = absurd (cc)
got (y ∷ ys) zero x e = cc
got (y ∷ ys) (suc i) x e = got ys i x e

-- one more name
pub names_more :
    {A : Type 0} (g : A → List ℕ) (texts : List A) (t : A) (names : List (List ℕ)) (states : List ℕ) (i : ℕ) (text : List ℕ) → i < length states →
    map g texts ≡ map (λ q. get_or names q []) (take i states) → g t ≡ text → slice_get names (get_or states i 0) ≡ Some text →
    map g (texts ++ t ∷ []) ≡ map (λ q. get_or names q []) (take (i + 1) states)
names_more g texts t names states i text h e k n =
    map-append g texts (t ∷ [])
    ∙ ap (λ xs. xs ++ g t ∷ []) e
    ∙ ap (λ x. map (λ q. get_or names q []) (take i states) ++ x ∷ []) (k ∙ sym (got names (get_or states i 0) text n))
    ∙ sym (map_more (λ q. get_or names q []) states i 0 h)
