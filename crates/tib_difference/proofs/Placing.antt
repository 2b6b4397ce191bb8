-- The places of a rule, by their states.
use Rattle.std.specs.Prelude.{◌≡◌, ℕ, ◌+◌, ◌<◌, ◌≤◌, nat_eq, if◌then◌else◌, Bool, true, false, List, [], ◌∷◌, ◌++◌, length, map, take, refl}
use Rattle.std.proofs.Common.{ap, sym, ◌∙◌, get_or, append_assoc}
use Rattle.std.proofs.lemmas.List.{get_or-map, take_all}
use Rattle.tib_grammar.specs.Items.{state_in}
use Rattle.tib_grammar.specs.declared.Item.{Item}
use Rattle.tib_key_edges.proofs.Places.{places-one}
use Rattle.tib_difference.specs.Tries.{places_with}
use Rattle.tib_key_edges.specs.SideRuleLaws.{map_append}

-- the state that an item of a rule carries
pub state_there : (items : List (Item ℕ)) (x : Item ℕ) (i : ℕ) (states : List ℕ) → map state_in items ≡ states → i < length items → x ≡ get_or items i x → state_in x ≡ get_or states i 0
state_there items x i states e low at = ap state_in at ∙ sym (get_or-map state_in items i x 0 low) ∙ ap (λ (xs : List ℕ). get_or xs i 0) e

one_place : (b : Bool) (old now : List (ℕ × ℕ)) (before : List ℕ) (r i : ℕ) → now ≡ old ++ map (λ j. (r, j)) before → (if b then now ++ (r, i) ∷ [] else now) ≡ old ++ map (λ j. (r, j)) (if b then before ++ i ∷ [] else before)
one_place true old now before r i e =
    ap (λ (xs : List (ℕ × ℕ)). xs ++ (r, i) ∷ []) e ∙ append_assoc old (map (λ j. (r, j)) before) ((r, i) ∷ []) ∙ ap (λ (xs : List (ℕ × ℕ)). old ++ xs) (sym (map_append (λ j. (r, j)) before (i ∷ [])))
one_place false old now before r i e = e

-- one more place of a rule
pub place_added :
    (old now new : List (ℕ × ℕ)) (r i q s : ℕ) (states : List ℕ) → i < length states → s ≡ get_or states i 0 → now ≡ old ++ map (λ j. (r, j)) (places_with q (take i states)) →
    new ≡ (if nat_eq s q then now ++ (r, i) ∷ [] else now) → new ≡ old ++ map (λ j. (r, j)) (places_with q (take (i + 1) states))
place_added old now new r i q s states low at e k =
    let p = places-one (λ x. nat_eq x q) states i 0 low (nat_eq s q) s at refl (places_with q (take i states)) (if nat_eq s q then places_with q (take i states) ++ i ∷ [] else places_with q (take i states)) refl refl in
    k ∙ one_place (nat_eq s q) old now (places_with q (take i states)) r i e ∙ ap (λ (js : List ℕ). old ++ map (λ j. (r, j)) js) p

-- all places of a rule
pub place_all :
    (old new : List (ℕ × ℕ)) (r i q : ℕ) (states : List ℕ) → length states ≤ i → new ≡ old ++ map (λ j. (r, j)) (places_with q (take i states)) → new ≡ old ++ map (λ j. (r, j)) (places_with q states)
place_all old new r i q states long e = e ∙ ap (λ (xs : List ℕ). old ++ map (λ j. (r, j)) (places_with q xs)) (take_all i states long)
