-- What closed shelves hold.
use Rattle.std.proofs.Common.{◌≡◌, ℕ, zero, suc, ◌+◌, ◌<◌, Bool, true, false, true≢false, List, [], ◌∷◌, ◌++◌, map, length, reverse, Some, refl, sym, ap, ◌∙◌, subst, arith}
use Rattle.std.specs.Prelude.{slice_get, nat_lt}
use Rattle.std.specs.List.{All, AllZip, IsDistinct}
use Rattle.std.proofs.lemmas.Bool.Decides.{nat_tests}
use Rattle.std.proofs.lemmas.Option.{slice_get_within, get_or_from_slice_get}
use Rattle.std.proofs.lemmas.Map.Keys.{apart_from_distinct}
use Rattle.std.proofs.lemmas.List.{reverse-append}
use Rattle.std.proofs.lemmas.List.Elements.{All-nil, All-cons, All-pop}
use Rattle.atomic_table.specs.Seated.{TableId}
use Rattle.tib_turn.specs.Prefixes.{IsPrefix}
use Rattle.tib_turn.specs.Seen.{Seen}
use Rattle.tib_table.specs.Kept.{Kept, keys_of, log_of}
use Rattle.tib_table.specs.Known.{on, Names, GoOn, KeepNames, IsNumbering, AreShelves}
use Rattle.tib_table.specs.Seated.{known_of, lock_of, AreSeated, Closes}
use Rattle.tib_table.specs.declared.problem.Entry.{Entry}
use Rattle.tib_table.proofs.Logs.{keys_more, keys_seen, same_about, prefix_get, prefix_refl}

module _ {K : Type 0} where
  -- what a list of keys names, a longer one also names
  pub names_kept : (old new : List (List K)) → GoOn old new → KeepNames old new
  names_kept old new more shelf place x = prefix_get (on old shelf) (on new shelf) place x (more shelf)

  pub numbering_kept : (old new : List (List K)) → GoOn old new → IsNumbering new → IsNumbering old
  numbering_kept old new more n = record {
    one_key = λ s p x y a b. n.one_key s p x y (names_kept old new more s p x a) (names_kept old new more s p y b);
    one_number = λ s p t q x a b. n.one_number s p t q x (names_kept old new more s p x a) (names_kept old new more t q x b);
  }

  -- each key at its place
  pub all_at : (P : K → Type 0) (xs : List K) (p : ℕ) (x : K) → All P xs → slice_get xs p ≡ Some x → P x
  all_at P xs p x all e = subst P (get_or_from_slice_get xs p x x e) (all p x (slice_get_within xs p x e))

  module _ (eq : K → K → Bool) (self : (x : K) → eq x x ≡ true) where
    -- a key of distinct ones is at one place
    pub one_place : (xs : List K) (p q : ℕ) (x : K) → IsDistinct eq xs → slice_get xs p ≡ Some x → slice_get xs q ≡ Some x → p ≡ q
    one_place xs p q x d a b = go (nat_lt p q) refl (nat_lt q p) refl
      where
        apart : (p q : ℕ) → slice_get xs p ≡ Some x → slice_get xs q ≡ Some x → p < q → ⊥
        apart p q a b l = true≢false (sym (self x) ∙ (let f = sym (get_or_from_slice_get xs p x x a) in let h = sym (get_or_from_slice_get xs q x x b) in (λ i. eq (f i) (h i))) ∙ apart_from_distinct eq xs p q x d l (slice_get_within xs q x b))

        go : (c : Bool) → nat_lt p q ≡ c → (e : Bool) → nat_lt q p ≡ e → p ≡ q
        go true l e m = absurd (apart p q a b (grind (arith, nat_tests)))
        go false l true m = absurd (apart q p b a (grind (arith, nat_tests)))
        go false l false m = grind (arith, nat_tests)

module _ {D K : Type 0} (d : D) (holds : D → K → Type 0) (shelf_of : K → ℕ) (eq : K → K → Bool) where
  -- what a shelf of the table may hold
  abbrev pub on_shelf : (D × ℕ) → K → Type 0
  on_shelf x k = holds x.0 k × (shelf_of k ≡ x.1)

  closes_more : (ss : List (Seen (Entry (D × ℕ) K))) (ks : List (Kept (D × ℕ) K)) → AllZip (Closes on_shelf eq) ss ks → GoOn (map known_of ss) (map keys_of ks)
  closes_more [] [] c shelf = prefix_refl [] [] refl
  closes_more [] (k ∷ ks) c shelf = absurd c
  closes_more (s ∷ ss) [] c shelf = absurd c
  closes_more (s ∷ ss) (k ∷ ks) c zero = subst (IsPrefix (known_of s)) (keys_seen (log_of k) k refl) (keys_more s.seen (log_of k) c.0.more)
  closes_more (s ∷ ss) (k ∷ ks) c (suc shelf) = closes_more ss ks c.1 shelf

  closes_held : (j : ℕ) (ss : List (Seen (Entry (D × ℕ) K))) (ks : List (Kept (D × ℕ) K)) → AllZip (Closes on_shelf eq) ss ks → AreSeated d j ss
      → (shelf place : ℕ) (x : K) → Names (map keys_of ks) shelf place x → holds d x × (shelf_of x ≡ j + shelf)
  closes_held j [] [] c a shelf place x e = absurd (cc)
  closes_held j [] (k ∷ ks) c a shelf place x e = absurd c
  closes_held j (s ∷ ss) [] c a shelf place x e = absurd c
  closes_held j (s ∷ ss) (k ∷ ks) c a zero place x e =
      let here : k.about ≡ (d, j) = same_about (d, j) s.seen k a.1 c.0.more in
      let h : holds d x × (shelf_of x ≡ j) = subst (λ (y : D × ℕ). on_shelf y x) here (all_at (on_shelf k.about) k.keys place x c.0.held e) in
      (h.0, h.1 ∙ (let n : j ≡ j + 0 = omega arith in n))
  closes_held j (s ∷ ss) (k ∷ ks) c a (suc shelf) place x e =
      let h = closes_held (j + 1) ss ks c.1 a.2 shelf place x e in
      (h.0, h.1 ∙ (let n : (j + 1) + shelf ≡ j + suc shelf = omega arith in n))

  closes_once : (self : (x : K) → eq x x ≡ true) (ss : List (Seen (Entry (D × ℕ) K))) (ks : List (Kept (D × ℕ) K)) → AllZip (Closes on_shelf eq) ss ks
      → (shelf p q : ℕ) (x : K) → Names (map keys_of ks) shelf p x → Names (map keys_of ks) shelf q x → p ≡ q
  closes_once self [] [] c shelf p q x a b = absurd (cc)
  closes_once self [] (k ∷ ks) c shelf p q x a b = absurd c
  closes_once self (s ∷ ss) [] c shelf p q x a b = absurd c
  closes_once self (s ∷ ss) (k ∷ ks) c zero p q x a b = one_place eq self k.keys p q x c.0.distinct a b
  closes_once self (s ∷ ss) (k ∷ ks) c (suc shelf) p q x a b = closes_once self ss ks c.1 shelf p q x a b

  closes_length : (ss : List (Seen (Entry (D × ℕ) K))) (ks : List (Kept (D × ℕ) K)) → AllZip (Closes on_shelf eq) ss ks → length ks ≡ length ss
  closes_length [] [] c = refl
  closes_length [] (k ∷ ks) c = absurd c
  closes_length (s ∷ ss) [] c = absurd c
  closes_length (s ∷ ss) (k ∷ ks) c = ap suc (closes_length ss ks c.1)

  keys_length : (ks : List (Kept (D × ℕ) K)) → length (map keys_of ks) ≡ length ks
  keys_length [] = refl
  keys_length (k ∷ ks) = ap suc (keys_length ks)

  module _ (self : (x : K) → eq x x ≡ true) (ss : List (Seen (Entry (D × ℕ) K))) (ks : List (Kept (D × ℕ) K)) (closes : AllZip (Closes on_shelf eq) ss ks) (seated : AreSeated d 0 ss) (long : length ss ≡ 16) where
    at_shelf : (shelf place : ℕ) (x : K) → Names (map keys_of ks) shelf place x → holds d x × (shelf_of x ≡ shelf)
    at_shelf shelf place x e =
        let h = closes_held 0 ss ks closes seated shelf place x e in
        (h.0, h.1 ∙ (let n : 0 + shelf ≡ shelf = omega arith in n))

    numbered : IsNumbering (map keys_of ks)
    numbered = record {
      one_key = λ s p x y a b. let e : Some x ≡ Some y = sym a ∙ b in cc;
      one_number = λ s p t q x a b.
          let same : t ≡ s = sym (at_shelf t q x b).1 ∙ (at_shelf s p x a).1 in
          (sym same, closes_once self ss ks closes s p q x a (subst (λ (n : ℕ). Names (map keys_of ks) n q x) same b));
    }

    pub closed_length : length ks ≡ 16
    closed_length = closes_length ss ks closes ∙ long

    pub closed_shelves : AreShelves (holds d) shelf_of (map keys_of ks)
    closed_shelves = record { sixteen = keys_length ks ∙ closed_length; held = at_shelf; numbering = numbered }

    pub closed_more : GoOn (map known_of ss) (map keys_of ks)
    closed_more = closes_more ss ks closes

-- the last pass and the last shelf, in a list from the back
module _ {D K : Type 0} (holds : D → K → Type 0) (eq : K → K → Bool) (all now now' rest : List (Seen (Entry D K))) (done done' : List (Kept D K)) (s : Seen (Entry D K)) (k : Kept D K)
    (whole : all ≡ now ++ rest) (taken : now ≡ now' ++ s ∷ []) (put : done' ≡ done ++ k ∷ []) (closes : AllZip (Closes holds eq) rest (reverse done)) (one : Closes holds eq s k) where
  rest_more : (xs ys : List (Seen (Entry D K))) → (xs ++ s ∷ []) ++ ys ≡ xs ++ s ∷ ys
  rest_more [] ys = refl
  rest_more (x ∷ xs) ys = ap (λ l. x ∷ l) (rest_more xs ys)

  pub close_step : (r : List (Seen (Entry D K))) × (all ≡ now' ++ r) × AllZip (Closes holds eq) r (reverse done')
  close_step = (
    s ∷ rest,
    whole ∙ ap (λ l. l ++ rest) taken ∙ rest_more now' rest,
    subst (AllZip (Closes holds eq) (s ∷ rest)) (sym (ap reverse put ∙ reverse-append done (k ∷ []))) (one, closes),
  )

-- the locks of passes without the last
pub locks_less : {E K : Type 0} (ss ss' : List (Seen (Entry E K))) (s : Seen (Entry E K)) (zs zs' : List TableId) (z : TableId) → ss ≡ ss' ++ s ∷ [] → zs ≡ zs' ++ z ∷ [] → map lock_of ss ≡ zs → (map lock_of ss' ≡ zs') × (s.lock ≡ z)
locks_less {E} {K} ss ss' s zs zs' z a b m = go ss' zs' (sym (push ss') ∙ sym (ap (map lock_of) a) ∙ m ∙ b)
  where
    push : (xs : List (Seen (Entry E K))) → map lock_of (xs ++ s ∷ []) ≡ map lock_of xs ++ s.lock ∷ []
    push [] = refl
    push (x ∷ xs) = ap (λ l. x.lock ∷ l) (push xs)

    go : (xs : List (Seen (Entry E K))) (ys : List TableId) → map lock_of xs ++ s.lock ∷ [] ≡ ys ++ z ∷ [] → (map lock_of xs ≡ ys) × (s.lock ≡ z)
    go [] [] e = (refl, cc)
    go [] (y ∷ []) e = absurd (cc)
    go [] (y ∷ w ∷ ys) e = absurd (cc)
    go (x ∷ []) [] e = absurd (cc)
    go (x ∷ w ∷ xs) [] e = absurd (cc)
    go (x ∷ xs) (y ∷ ys) e =
        let h : x.lock ≡ y = cc in
        let t : map lock_of xs ++ s.lock ∷ [] ≡ ys ++ z ∷ [] = cc in
        let k = go xs ys t in
        ((λ i. h i ∷ k.0 i), k.1)

pub out_less : {E K : Type 0} (ss ss' : List (Seen (Entry E K))) (s : Seen (Entry E K)) → ss ≡ ss' ++ s ∷ [] → All (λ (u : Seen (Entry E K)). u.inside ≡ false) ss → All (λ (u : Seen (Entry E K)). u.inside ≡ false) ss' × (s.inside ≡ false)
out_less {E} {K} ss ss' s e all = let k = All-pop (λ (u : Seen (Entry E K)). u.inside ≡ false) ss ss' (Some s) e all in (k.0, k.1)

-- seated passes are out of their turns
pub seated_out : {D K : Type 0} (d : D) (j : ℕ) (ss : List (Seen (Entry (D × ℕ) K))) → AreSeated d j ss → All (λ (u : Seen (Entry (D × ℕ) K)). u.inside ≡ false) ss
seated_out {D} {K} d j [] a = All-nil (λ (u : Seen (Entry (D × ℕ) K)). u.inside ≡ false)
seated_out {D} {K} d j (s ∷ ss) a = All-cons (λ (u : Seen (Entry (D × ℕ) K)). u.inside ≡ false) s ss a.0 (seated_out d (j + 1) ss a.2)
