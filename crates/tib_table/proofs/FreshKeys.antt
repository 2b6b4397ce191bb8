-- Keys that the order lacks follow it, each once.
use Rattle.std.proofs.Common.{◌≡◌, ◌⊎◌, inl, inr, ℕ, zero, suc, ◌+◌, Bool, true, false, true≢false, not, ◌||◌, cond, is_some, IfSome, IfNone, nat_lt, None, Some, Option, List, [], ◌∷◌, ◌++◌, length, drop, reverse, slice_get, position, append_assoc, append-nil, length-append, if◌then◌else◌, refl, sym, ap, subst, ◌∙◌, arith}
use Rattle.std.specs.List.{list_any, position_or_len}
use Rattle.std.specs.List.Sorted.{IsPermutation}
use Rattle.std.proofs.lemmas.List.Sorted.{IsPermutation-sym, IsPermutation-trans, IsPermutation-reverse}
use Rattle.indexmap.specs.IndexSet.{insert_key, insert_all}
use Rattle.tib_lex.specs.Lists.{Has, Distinct}
use Rattle.tib_table.specs.Numbered.{placed, keys_of}
use Rattle.tib_table.specs.Numbered.{all_on}
use Rattle.tib_table.proofs.Sorting.{absent, distinct_apart}
use Rattle.tib_table.proofs.Inserted.{inserted, not_any}
use Rattle.tib_table.proofs.Sights.{SoFar, drop_front}
use Rattle.tib_table.proofs.Placed.{PlacedSoFar, all_both, map_append}
use Rattle.tib_lex.proofs.Members.{has_either, has_left, has_right}

module _ {K : Type 0} where
  has_at : (ks : List K) (n : ℕ) (k : K) → slice_get ks n ≡ Some k → Has ks k
  has_at [] n k e = grind (arith, e)
  has_at (x ∷ xs) zero k e = inl (grind (arith, e))
  has_at (x ∷ xs) (suc n) k e = inr (has_at xs n k e)

  -- the last fresh key has the last number
  pub last_at : (xs ys : List K) (k : K) (n : ℕ) → n ≡ length xs + length ys → slice_get (xs ++ (ys ++ k ∷ [])) n ≡ Some k
  last_at [] [] k zero e = refl
  last_at [] [] k (suc n) e = absurd (omega arith)
  last_at [] (y ∷ ys) k zero e = absurd (omega arith)
  last_at [] (y ∷ ys) k (suc n) e = last_at [] ys k n (omega arith)
  last_at (x ∷ xs) ys k zero e = absurd (omega arith)
  last_at (x ∷ xs) ys k (suc n) e = last_at xs ys k n (omega arith)

  placed_snoc : (n : ℕ) (ks : List K) (k : K) → placed n (ks ++ k ∷ []) ≡ placed n ks ++ (k, n + length ks) ∷ []
  placed_snoc n [] k = let z : n ≡ n + 0 = omega arith in λ i. (k, z i) ∷ []
  placed_snoc n (x ∷ ks) k =
      let z : (n + 1) + length ks ≡ n + suc (length ks) = omega arith in
      λ i. (x, n) ∷ (placed_snoc (n + 1) ks k ∙ (λ j. placed (n + 1) ks ++ (k, z j) ∷ [])) i

  -- there are as many keys as pairs
  pub many : (ps : List (K × ℕ)) → length (keys_of ps) ≡ length ps
  many [] = refl
  many (p ∷ ps) = ap suc (many ps)

  -- a pair at the end is a key at the end
  pub keys_snoc : (ps ps' : List (K × ℕ)) (k : K) (place : ℕ) → ps' ≡ ps ++ (k, place) ∷ [] → keys_of ps' ≡ keys_of ps ++ k ∷ []
  keys_snoc ps ps' k place is = ap keys_of is ∙ map_append (λ (p : K × ℕ). p.0) ps ((k, place) ∷ [])

  -- each key still has its index after one more
  pub still_placed : (ps ps' : List (K × ℕ)) (k : K) (place : ℕ) → ps ≡ placed 0 (keys_of ps) → place ≡ length ps → ps' ≡ ps ++ (k, place) ∷ [] → ps' ≡ placed 0 (keys_of ps')
  still_placed ps ps' k place was at is =
      let m = many ps in
      let z : place ≡ 0 + length (keys_of ps) = omega arith in
      is ∙ (λ i. was i ++ (k, z i) ∷ []) ∙ sym (placed_snoc 0 (keys_of ps) k) ∙ ap (placed 0) (sym (keys_snoc ps ps' k place is))

  -- parts of a list
  before : (xs ys : List K) → Distinct (xs ++ ys) → Distinct xs
  before [] ys d = tt
  before (x ∷ xs) ys d = ((λ h. d.0 (has_left xs ys x h)), before xs ys d.1)

  behind : (xs ys : List K) → Distinct (xs ++ ys) → Distinct ys
  behind [] ys d = d
  behind (x ∷ xs) ys d = behind xs ys d.1

  apart_both : (xs ys : List K) (k : K) → Distinct (xs ++ ys) → Has xs k → Has ys k → ⊥
  apart_both [] ys k d h m = h
  apart_both (x ∷ xs) ys k d (inl e) m = d.0 (has_right xs ys x (subst (Has ys) (sym e) m))
  apart_both (x ∷ xs) ys k d (inr h) m = apart_both xs ys k d.1 h m

  -- the next of the ends is one of them
  pub next_has : (ends done rest : List K) (k : K) (rest' : List K) → ends ≡ done ++ rest → rest ≡ k ∷ rest' → Has ends k
  next_has ends done rest k rest' whole next = subst (λ (l : List K). Has l k) (sym (whole ∙ ap (λ (l : List K). done ++ l) next)) (has_right done (k ∷ rest') k (inl refl))

  -- a key of the next shelf is one of all
  pub shelf_has : (all done rest : List (List K)) (ks : List K) (rest' : List (List K)) → all ≡ done ++ rest → rest ≡ ks ∷ rest' → (k : K) → Has ks k → Has (all_on all) k
  shelf_has all done rest ks rest' whole next k h =
      subst (λ (l : List K). Has l k) (sym (ap all_on (whole ∙ ap (λ (l : List (List K)). done ++ l) next) ∙ all_both done (ks ∷ rest'))) (has_right (all_on done) (ks ++ all_on rest') k (has_left ks (all_on rest') k h))

  -- the pairs in any order are the keys with their indexes in that order
  pub turned : (ps qs : List (K × ℕ)) → ps ≡ placed 0 (keys_of ps) → IsPermutation ps qs → IsPermutation (reverse (placed 0 (keys_of ps))) qs
  turned ps qs is perm = subst (λ (l : List (K × ℕ)). IsPermutation (reverse l) qs) is (IsPermutation-trans (reverse ps) ps qs (IsPermutation-sym ps (reverse ps) (IsPermutation-reverse ps)) perm)

module _ {K : Type 0} (eq : K → K → Bool) (same : (x y : K) → eq x y ≡ true → x ≡ y) (self : (x : K) → eq x x ≡ true) where
  at_any : (xs : List K) (k : K) → list_any (eq k) xs ≡ true → slice_get xs (position_or_len (eq k) xs) ≡ Some k
  at_any [] k e = absurd (true≢false (sym e))
  at_any (x ∷ xs) k e = go (eq k x) refl e (at_any xs k)
    where
      go : (b : Bool) → eq k x ≡ b → (b || list_any (eq k) xs) ≡ true → (list_any (eq k) xs ≡ true → slice_get xs (position_or_len (eq k) xs) ≡ Some k) → slice_get (x ∷ xs) (cond (not b) (1 + position_or_len (eq k) xs) 0) ≡ Some k
      go true q e r = ap (λ (z : K). Some z) (sym (same k x q))
      go false q e r = let o : 1 + position_or_len (eq k) xs ≡ suc (position_or_len (eq k) xs) = omega arith in ap (slice_get (x ∷ xs)) o ∙ r e

  at_position : (xs : List K) (k : K) (n : ℕ) → Some n ≡ position (eq k) xs → list_any (eq k) xs ≡ true → slice_get xs n ≡ Some k
  at_position xs k n e t = go (nat_lt (position_or_len (eq k) xs) (length xs)) e
    where
      go : (b : Bool) → Some n ≡ cond b (Some (position_or_len (eq k) xs)) None → slice_get xs n ≡ Some k
      go true e =
          let z : n ≡ position_or_len (eq k) xs = grind (arith, e) in
          ap (slice_get xs) z ∙ at_any xs k t
      go false e = grind (arith, e)

  -- what a search for a key finds
  pub found_at : (xs : List K) (k : K) (r : Option ℕ) → r ≡ position (eq k) xs → is_some r ≡ list_any (eq k) xs → IfSome r (λ n. slice_get xs n ≡ Some k)
  found_at xs k (Some n) e t = at_position xs k n e (sym t)
  found_at xs k None e t = tt

  -- a key that a look-up does not find is not there
  pub not_found : (xs : List K) (k : K) (r : Option ℕ) → is_some r ≡ list_any (eq k) xs → IfNone r (Has xs k → ⊥)
  not_found xs k (Some n) t = tt
  not_found xs k None t = not_any eq same self k xs (sym t)

  any_true : (ks : List K) (k : K) → Has ks k → list_any (eq k) ks ≡ true
  any_true ks k h = go (list_any (eq k) ks) refl
    where
      go : (b : Bool) → list_any (eq k) ks ≡ b → list_any (eq k) ks ≡ true
      go true e = e
      go false e = absurd (not_any eq same self k ks e h)

  -- a key of the order stays where it is, and any other is appended
  pub known : (keys fresh : List K) (k : K) (n : ℕ) → slice_get keys n ≡ Some k → insert_key eq (keys ++ fresh) k ≡ keys ++ fresh
  known keys fresh k n e = ap (λ (b : Bool). if b then keys ++ fresh else (keys ++ fresh) ++ k ∷ []) (any_true (keys ++ fresh) k (has_left keys fresh k (has_at keys n k e)))

  -- a key that neither list has is appended
  pub unknown : (keys fresh : List K) (k : K) → (Has keys k → ⊥) → (Has fresh k → ⊥) → insert_key eq (keys ++ fresh) k ≡ keys ++ (fresh ++ k ∷ [])
  unknown keys fresh k n m = ap (λ (b : Bool). if b then keys ++ fresh else (keys ++ fresh) ++ k ∷ []) (absent eq same (keys ++ fresh) k (λ h. go (has_either keys fresh k h))) ∙ append_assoc keys fresh (k ∷ [])
    where
      go : Has keys k ⊎ Has fresh k → ⊥
      go (inl a) = n a
      go (inr b) = m b

  fresh_are : (keys old now done : List K) → keys ++ now ≡ insert_all eq (keys ++ old) done → (new : List K) × (now ≡ old ++ new) × ((k : K) → Has new k → Has done k)
  fresh_are keys old now done is =
      let i = inserted eq same self done (keys ++ old) in (
        i.new,
        sym (drop_front keys now (length keys) refl) ∙ ap (drop (length keys)) (is ∙ i.keys_are ∙ append_assoc keys old i.new) ∙ drop_front keys (old ++ i.new) (length keys) refl,
        i.among,
      )

  -- the next key is not among the fresh ones
  pub next_apart : (f : K → ℕ) (keys old now ends done rest : List K) (was limit : ℕ) (numbers : List ℕ) (parts : ℕ) → SoFar eq f (keys ++ old) ends done rest was limit (keys ++ now) numbers parts
      → Distinct ends → ((k : K) → Has ends k → Has old k → ⊥) → (k : K) (rest' : List K) → rest ≡ k ∷ rest' → Has now k → ⊥
  next_apart f keys old now ends done rest was limit numbers parts s once apart k rest' next h =
      let r = fresh_are keys old now done s.keys_are in
      let whole : ends ≡ done ++ k ∷ rest' = s.whole ∙ ap (λ (l : List K). done ++ l) next in
      go r.0 whole (has_either old r.0 k (subst (λ (l : List K). Has l k) r.1 h)) r.2
    where
      go : (new : List K) → ends ≡ done ++ k ∷ rest' → Has old k ⊎ Has new k → ((x : K) → Has new x → Has done x) → ⊥
      go new whole (inl a) among = apart k (subst (λ (l : List K). Has l k) (sym whole) (has_right done (k ∷ rest') k (inl refl))) a
      go new whole (inr b) among = distinct_apart eq same done rest' k (subst Distinct whole once) (among k b)

  -- the keys of the next shelf are apart, and none is among the fresh ones
  module _ (f : K → ℕ) (keys now : List K) (all done rest : List (List K)) (was limit : ℕ) (positions : List (List ℕ)) (parts : ℕ) (s : PlacedSoFar eq same self f keys all done rest was limit (keys ++ now) positions parts)
      (once : Distinct (all_on all)) (ks : List K) (rest' : List (List K)) (next : rest ≡ ks ∷ rest') where
    parted : Distinct (all_on done ++ (ks ++ all_on rest'))
    parted = subst Distinct (ap all_on (s.whole ∙ ap (λ (l : List (List K)). done ++ l) next) ∙ all_both done (ks ∷ rest')) once

    -- the keys of a shelf are distinct
    pub shelf_once : Distinct ks
    shelf_once = before ks (all_on rest') (behind (all_on done) (ks ++ all_on rest') parted)

    -- no key of a shelf is among the fresh ones yet
    pub shelf_apart : (k : K) → Has ks k → Has now k → ⊥
    shelf_apart k h m =
        let r = fresh_are keys [] now (all_on done) (s.keys_are ∙ ap (λ (l : List K). insert_all eq l (all_on done)) (sym (append-nil keys))) in
        apart_both (all_on done) (ks ++ all_on rest') k parted (r.2 k (subst (λ (l : List K). Has l k) r.1 m)) (has_left ks (all_on rest') k h)

-- as many numbers were moved as there are fresh keys
pub moved_bound : {K : Type 0} (order fresh : List K) (moved : List ℕ) → length moved ≡ length fresh → length (order ++ fresh) ≡ length order + length moved
moved_bound order fresh moved e = let a = length-append order fresh in omega arith
