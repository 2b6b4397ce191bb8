-- Keys that are numbered on shelves.
use Rattle.std.proofs.Common.{◌≡◌, inl, inr, ℕ, zero, suc, ◌+◌, ◌<◌, ◌≤◌, Bool, true, false, Some, List, [], ◌∷◌, ◌++◌, length, set, slice_get, append_assoc, length-set, get_or-set_same, get_or-set_other, if◌then◌else◌, refl, sym, ap, subst, ◌∙◌, arith}
use Rattle.std.specs.List.{list_any}
use Rattle.std.proofs.lemmas.Option.{slice_get_within}
use mathlib.Core.Logic.{dite}
use native.Mathlib.Decide.{ℕ_discrete}
use Rattle.indexmap.specs.IndexSet.{insert_key}
use Rattle.tib_lex.specs.Lists.{Has, total}
use Rattle.tib_table.specs.Known.{on, Names}
use Rattle.tib_table.specs.declared.number.Number.{Number}
use Rattle.tib_expand.specs.Reached.{IfTooMany}
use Rattle.tib_hunt.specs.RoundModel.{Core, with_key}
use Rattle.tib_hunt.specs.Shelved.{all_on, with_keys, NameOn, ShelvesHaveMore}
use Rattle.tib_expand.specs.declared.error.HuntError.{HuntError}
use Rattle.tib_expand.proofs.Reaching.{IfTooMany-weaker}
use Rattle.tib_table.proofs.Inserted.{not_any}
use Rattle.tib_table.proofs.Sights.{along_snoc, get_left}
use Rattle.tib_lex.proofs.Lists.{total_append}
use Rattle.tib_lex.proofs.Members.{has_left}

-- what is at a place is in the list
pub got_has : {K : Type 0} (ks : List K) (p : ℕ) (k : K) → slice_get ks p ≡ Some k → Has ks k
got_has [] p k e = grind (arith, e)
got_has (x ∷ xs) zero k e = inl (grind (arith, e))
got_has (x ∷ xs) (suc p) k e = inr (got_has xs p k e)

module _ {K : Type 0} (eq : K → K → Bool) (same : (x y : K) → eq x y ≡ true → x ≡ y) (self : (x : K) → eq x x ≡ true) where
  got_last : (ks : List K) (p : ℕ) (k : K) → slice_get (ks ++ k ∷ []) p ≡ Some k → (Has ks k → ⊥) → p ≡ length ks
  got_last [] zero k e n = refl
  got_last [] (suc p) k e n = grind (arith, e)
  got_last (x ∷ xs) zero k e n = absurd (n (inl (grind (arith, e))))
  got_last (x ∷ xs) (suc p) k e n = ap suc (got_last xs p k e (λ h. n (inr h)))

  total_set : (f : K → ℕ) (kss : List (List K)) (i : ℕ) (ks : List K) (more : ℕ) → i < length kss → total f ks ≡ total f (on kss i) + more → total f (all_on (set kss i ks)) ≡ total f (all_on kss) + more
  total_set f [] i ks more low e = absurd (omega arith)
  total_set f (x ∷ xs) zero ks more low e =
      let a = total_append f ks (all_on xs) in
      let b = total_append f x (all_on xs) in
      omega arith
  total_set f (x ∷ xs) (suc i) ks more low e =
      let a = total_append f x (all_on (set xs i ks)) in
      let b = total_append f x (all_on xs) in
      let c = total_set f xs i ks more (omega arith) e in
      omega arith

  -- a key is numbered on a shelf
  module _ (f : K → ℕ) (kss : List (List K)) (i : ℕ) (k : K) (low : i < length kss) where
    abbrev kss' : List (List K)
    kss' = set kss i (insert_key eq (on kss i) k)

    here : on kss' i ≡ insert_key eq (on kss i) k
    here = get_or-set_same kss i (insert_key eq (on kss i) k) [] low

    module _ (p : ℕ) (named : slice_get (on kss' i) p ≡ Some k) where
      named_so : slice_get (insert_key eq (on kss i) k) p ≡ Some k
      named_so = sym (ap (λ (l : List K). slice_get l p) here) ∙ named

      -- a key that is new on its shelf adds its parts
      pub grew : p ≡ length (on kss i) → total f (all_on kss') ≡ total f (all_on kss) + f k
      grew last = go (list_any (eq k) (on kss i)) named_so
        where
          go : (b : Bool) → slice_get (if b then on kss i else on kss i ++ k ∷ []) p ≡ Some k → total f (all_on (set kss i (if b then on kss i else on kss i ++ k ∷ []))) ≡ total f (all_on kss) + f k
          go true e = let l = slice_get_within (on kss i) p k e in absurd (omega arith)
          go false e = total_set f kss i (on kss i ++ k ∷ []) (f k) low (let a = total_append f (on kss i) (k ∷ []) in omega arith)

      -- a key that was there adds none
      pub stayed : (p ≡ length (on kss i) → ⊥) → total f (all_on kss') ≡ total f (all_on kss)
      stayed apart = go (list_any (eq k) (on kss i)) refl named_so
        where
          go : (b : Bool) → list_any (eq k) (on kss i) ≡ b → slice_get (if b then on kss i else on kss i ++ k ∷ []) p ≡ Some k → total f (all_on (set kss i (if b then on kss i else on kss i ++ k ∷ []))) ≡ total f (all_on kss)
          go true q e = let a = total_set f kss i (on kss i) 0 low (omega arith) in omega arith
          go false q e = absurd (apart (got_last (on kss i) p k e (not_any eq same self k (on kss i) q)))

    -- a number still names its key
    pub still_names : (j p : ℕ) (x : K) → Names kss j p x → Names kss' j p x
    still_names j p x e = dite (ℕ_discrete j i)
        (λ q. subst (λ (m : ℕ). Names kss' m p x) (sym q) (ap (λ (l : List K). slice_get l p) here ∙ go (list_any (eq k) (on kss i)) (subst (λ (m : ℕ). Names kss m p x) q e)))
        (λ n. ap (λ (l : List K). slice_get l p) (get_or-set_other kss i j (insert_key eq (on kss i) k) [] n) ∙ e)
      where
        go : (b : Bool) → slice_get (on kss i) p ≡ Some x → slice_get (if b then on kss i else on kss i ++ k ∷ []) p ≡ Some x
        go true e = e
        go false e = get_left eq (on kss i) (k ∷ []) p x e

    -- numbers still name their keys
    pub still_name : (ends : List K) (ns : List Number) → NameOn kss ends ns → NameOn kss' ends ns
    still_name [] [] a = tt
    still_name [] (n ∷ ns) a = absurd a
    still_name (x ∷ xs) [] a = absurd a
    still_name (x ∷ xs) (n ∷ ns) a = (still_names n.shelf n.place x a.0, still_name xs ns a.1)

  module _ (shelf_of : K → ℕ) (low : (k : K) → shelf_of k < 16) where
    -- whether a key was new on its shelf shows in its place there
    module _ (f : K → ℕ) (s s' : Core K) (k : K) (wide : length s.shelves ≡ 16) (is : s' ≡ with_key eq shelf_of s k) (n : Number) (own_shelf : n.shelf ≡ shelf_of k) (named : Names s'.shelves n.shelf n.place k)
        (shelf held : ℕ) (that : shelf ≡ shelf_of k) (held_is : held ≡ length (on s.shelves shelf)) where
      few : shelf_of k < length s.shelves
      few = let l = low k in omega arith

      named_here : slice_get (on (set s.shelves (shelf_of k) (insert_key eq (on s.shelves (shelf_of k)) k)) (shelf_of k)) n.place ≡ Some k
      named_here = subst (λ (i : ℕ). Names (set s.shelves (shelf_of k) (insert_key eq (on s.shelves (shelf_of k)) k)) i n.place k) own_shelf (subst (λ (u : Core K). Names u.shelves n.shelf n.place k) is named)

      held_here : held ≡ length (on s.shelves (shelf_of k))
      held_here = held_is ∙ ap (λ (i : ℕ). length (on s.shelves i)) that

      -- a new key adds its parts to those of the core
      pub key_grew : n.place ≡ held → total f (all_on (with_key eq shelf_of s k).shelves) ≡ total f (all_on s.shelves) + f k
      key_grew e = grew f s.shelves (shelf_of k) k few n.place named_here (e ∙ held_here)

      -- a known key adds none to those of the core
      pub key_stayed : (n.place ≡ held → ⊥) → total f (all_on (with_key eq shelf_of s k).shelves) ≡ total f (all_on s.shelves)
      key_stayed d = stayed f s.shelves (shelf_of k) k few n.place named_here (λ e. d (e ∙ sym held_here))

    -- the last key is numbered after the others
    pub with_last : (s : Core K) (ks : List K) (k : K) → with_keys eq shelf_of s (ks ++ k ∷ []) ≡ with_key eq shelf_of (with_keys eq shelf_of s ks) k
    with_last s [] k = refl
    with_last s (x ∷ xs) k = with_last (with_key eq shelf_of s x) xs k

    -- what holds once these ends are numbered
    pub record ShelvedSoFar (f : K → ℕ) (old : Core K) (ends done rest : List K) (limit : ℕ) (s : Core K) (numbers : List Number) (seen : ℕ) : Type 0 where
      pub whole : ends ≡ done ++ rest
      pub core_is : s ≡ with_keys eq shelf_of old done
      pub wide : length s.shelves ≡ 16
      pub drawn : s.drawn ≡ old.drawn
      pub named : NameOn s.shelves done numbers
      pub counted : seen ≡ total f (all_on s.shelves)
      pub within : seen ≤ limit

    module _ (f : K → ℕ) (old : Core K) (ends done rest : List K) (limit : ℕ) (s : Core K) (numbers : List Number) (seen : ℕ) (c : ShelvedSoFar f old ends done rest limit s numbers seen) (k : K) (rest' : List K) (next : rest ≡ k ∷ rest') where
      whole_still : ends ≡ (done ++ k ∷ []) ++ rest'
      whole_still = c.whole ∙ ap (λ (l : List K). done ++ l) next ∙ sym (append_assoc done (k ∷ []) rest')

      core_still : with_keys eq shelf_of old (done ++ k ∷ []) ≡ with_key eq shelf_of s k
      core_still = with_last old done k ∙ ap (λ (u : Core K). with_key eq shelf_of u k) (sym c.core_is)

      -- the next key is one of the ends
      pub own : Has ends k
      own = subst (λ (l : List K). Has l k) (sym whole_still) (has_left (done ++ k ∷ []) rest' k (last done))
        where
          last : (xs : List K) → Has (xs ++ k ∷ []) k
          last [] = inl refl
          last (x ∷ xs) = inr (last xs)

      -- what holds after one more end is numbered
      pub shelved : (s' : Core K) (n : Number) (seen' : ℕ) → s' ≡ with_key eq shelf_of s k → Names s'.shelves n.shelf n.place k → seen' ≡ total f (all_on (with_key eq shelf_of s k).shelves) → seen' ≤ limit → ShelvedSoFar f old ends (done ++ k ∷ []) rest' limit s' (numbers ++ n ∷ []) seen'
      shelved s' n seen' is named counted within = record {
        whole = whole_still;
        core_is = is ∙ sym core_still;
        wide = ap (λ (u : Core K). length u.shelves) is ∙ length-set s.shelves (shelf_of k) (insert_key eq (on s.shelves (shelf_of k)) k) ∙ c.wide;
        drawn = ap (λ (u : Core K). u.drawn) is ∙ c.drawn;
        named = along_snoc (λ x (m : Number). Names s'.shelves m.shelf m.place x) done numbers k n
            (subst (λ (u : Core K). NameOn u.shelves done numbers) (sym is) (still_name f s.shelves (shelf_of k) k (let l = low k in let w = c.wide in omega arith) done numbers c.named)) named;
        counted = counted ∙ ap (λ (u : Core K). total f (all_on u.shelves)) (sym is);
        within = within;
      }

      -- where the next key is too much, so are the ends
      pub told : (e : HuntError) → IfTooMany limit (limit < total f (all_on (with_key eq shelf_of s k).shelves)) e → IfTooMany limit (ShelvesHaveMore eq shelf_of f old (Has ends) limit) e
      told e = IfTooMany-weaker limit _ _ e (λ more. (done ++ k ∷ [], (λ x m. subst (λ (l : List K). Has l x) (sym whole_still) (has_left (done ++ k ∷ []) rest' x m)), subst (λ (u : Core K). limit < total f (all_on u.shelves)) (sym core_still) more))
