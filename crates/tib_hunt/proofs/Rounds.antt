-- The shelves of a round, one of which takes a key.
use Rattle.std.proofs.Common.{◌≡◌, ℕ, zero, suc, ◌<◌, Bool, List, [], ◌∷◌, map, length, set, get_or, Some, refl, sym, ap, ◌∙◌}
use Rattle.std.specs.Prelude.{slice_get}
use Rattle.std.specs.List.{All}
use Rattle.std.proofs.lemmas.List.Elements.{All-get_or, All-set}
use Rattle.indexmap.specs.IndexSet.{insert_key}
use Rattle.tib_table.specs.Kept.{Kept, keys_of}
use Rattle.tib_table.specs.Known.{on}
use Rattle.tib_table.proofs.Taking.{keys_set, here_after, here_before}
use Rattle.tib_hunt.specs.RoundModel.{Core, with_key}

module _ {D K : Type 0} where
  set_same : (ks : List (Kept D K)) (i : ℕ) (s : Kept D K) → s ≡ get_or ks i s → set ks i s ≡ ks
  set_same [] i s e = refl
  set_same (k ∷ ks) zero s e = ap (λ x. x ∷ ks) e
  set_same (k ∷ ks) (suc i) s e = ap (λ l. k ∷ l) (set_same ks i s e)

  module _ (ks : List (Kept D K)) (i : ℕ) (s t : Kept D K) (at : s ≡ get_or ks i s) (low : i < length ks) where
    -- the shelves with a key numbered on one of them
    pub keys_numbered : (eq : K → K → Bool) (key : K) → t.keys ≡ insert_key eq s.keys key → map keys_of (set ks i t) ≡ set (map keys_of ks) i (insert_key eq (on (map keys_of ks) i) key)
    keys_numbered eq key e = keys_set ks i t ∙ ap (λ (l : List K). set (map keys_of ks) i l) (e ∙ ap (λ (l : List K). insert_key eq l key) (sym (here_before ks i s at low)))

    -- shelves of which one is set to itself stay
    pub shelves_same : t ≡ s → set ks i t ≡ ks
    shelves_same e = ap (λ (x : Kept D K). set ks i x) e ∙ set_same ks i s at

    -- a key that its shelf names is named among all shelves
    pub named_there : (place : ℕ) (key : K) → slice_get t.keys place ≡ Some key → slice_get (on (map keys_of (set ks i t)) i) place ≡ Some key
    named_there place key e = ap (λ (l : List K). slice_get l place) (here_after ks i t low) ∙ e

    -- a shelf is about what all are about
    pub about_here : (d : D) → All (λ (k : Kept D K). k.about ≡ d) ks → s.about ≡ d
    about_here d all = ap (λ (k : Kept D K). k.about) at ∙ All-get_or (λ (k : Kept D K). k.about ≡ d) ks i s low all

    -- all shelves still have the same data
    pub about_after : (d : D) → All (λ (k : Kept D K). k.about ≡ d) ks → t.about ≡ s.about → All (λ (k : Kept D K). k.about ≡ d) (set ks i t)
    about_after d all e = All-set (λ (k : Kept D K). k.about ≡ d) ks i t (e ∙ about_here d all) all

    -- the core with a key numbered
    pub core_numbered : (eq : K → K → Bool) (shelf_of : K → ℕ) (key : K) (drawn : ℕ) (filed : List ℕ) (v : Core K) → record { drawn = drawn; shelves = map keys_of ks; filed = filed } ≡ v → i ≡ shelf_of key → t.keys ≡ insert_key eq s.keys key
        → record { drawn = drawn; shelves = map keys_of (set ks i t); filed = filed } ≡ with_key eq shelf_of v key
    core_numbered eq shelf_of key drawn filed v view here e =
        ap (λ (l : List (List K)). record { drawn = drawn; shelves = l; filed = filed }) (keys_numbered eq key e)
        ∙ (λ j. record { drawn = drawn; shelves = set (map keys_of ks) (here j) (insert_key eq (on (map keys_of ks) (here j)) key); filed = filed })
        ∙ ap (λ (u : Core K). with_key eq shelf_of u key) view
