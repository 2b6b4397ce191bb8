-- Seats that take in others, shelf by shelf.
use Rattle.std.proofs.Common.{◌≡◌, ℕ, zero, suc, ◌+◌, ◌<◌, List, [], ◌∷◌, ◌++◌, map, length, set, get_or, false, refl, sym, ap, ◌∙◌, subst, arith, length-append}
use Rattle.atomic_table.specs.Seated.{TableId}
use Rattle.tib_turn.specs.Prefixes.{IsPrefix, longer}
use Rattle.tib_turn.specs.Seen.{Seen}
use Rattle.tib_table.specs.Known.{TableOf, Knowledge, GoOn, longest}
use Rattle.tib_table.specs.Seated.{IsLogOf, known_of, lock_of, knowledge, AreSeated}
use Rattle.tib_table.specs.declared.problem.Entry.{Entry}
use Rattle.tib_table.proofs.Logs.{keys_more, longer_log, prefix_refl}

module _ {E K : Type 0} where
  -- a pass took in another
  abbrev pub IsJoined : Seen (Entry E K) → Seen (Entry E K) → Seen (Entry E K) → Type 0
  IsJoined x y z = (z.lock ≡ x.lock) × (z.inside ≡ false) × (z.seen ≡ longer x.seen y.seen) × IsPrefix x.seen z.seen × IsPrefix y.seen z.seen

  -- the passes from place n on took in others, and those before are as they were
  abbrev pub JoinedFrom : ℕ → List (Seen (Entry E K)) → List (Seen (Entry E K)) → List (Seen (Entry E K)) → Type 0
  JoinedFrom n [] [] [] = Unit {0}
  JoinedFrom n [] [] (z ∷ zs) = ⊥
  JoinedFrom n [] (y ∷ ys) zs = ⊥
  JoinedFrom n (x ∷ xs) [] zs = ⊥
  JoinedFrom n (x ∷ xs) (y ∷ ys) [] = ⊥
  JoinedFrom zero (x ∷ xs) (y ∷ ys) (z ∷ zs) = IsJoined x y z × JoinedFrom zero xs ys zs
  JoinedFrom (suc n) (x ∷ xs) (y ∷ ys) (z ∷ zs) = (z ≡ x) × JoinedFrom n xs ys zs

  -- at first none took in another
  pub joined_none : (n : ℕ) (xs ys : List (Seen (Entry E K))) → length xs ≡ n → length ys ≡ n → JoinedFrom n xs ys xs
  joined_none n [] [] a b = tt
  joined_none n [] (y ∷ ys) a b = absurd (omega arith)
  joined_none n (x ∷ xs) [] a b = absurd (omega arith)
  joined_none zero (x ∷ xs) (y ∷ ys) a b = absurd (omega arith)
  joined_none (suc n) (x ∷ xs) (y ∷ ys) a b = (refl, joined_none n xs ys (omega arith) (omega arith))

  joined_before : (n : ℕ) (xs ys zs : List (Seen (Entry E K))) (h : Seen (Entry E K)) → JoinedFrom (suc n) xs ys zs → h ≡ get_or zs n h → h ≡ get_or xs n h
  joined_before n [] [] [] h j e = refl
  joined_before n [] [] (z ∷ zs) h j e = absurd j
  joined_before n [] (y ∷ ys) zs h j e = absurd j
  joined_before n (x ∷ xs) [] zs h j e = absurd j
  joined_before n (x ∷ xs) (y ∷ ys) [] h j e = absurd j
  joined_before zero (x ∷ xs) (y ∷ ys) (z ∷ zs) h j e = e ∙ j.0
  joined_before (suc n) (x ∷ xs) (y ∷ ys) (z ∷ zs) h j e = joined_before n xs ys zs h j.1 e

  joined_set : (n : ℕ) (xs ys zs : List (Seen (Entry E K))) (h b c : Seen (Entry E K)) → n < length ys → JoinedFrom (suc n) xs ys zs → h ≡ get_or zs n h → b ≡ get_or ys n b → IsJoined h b c → JoinedFrom n xs ys (set zs n c)
  joined_set n [] [] [] h b c l j e f is = absurd (omega arith)
  joined_set n [] [] (z ∷ zs) h b c l j e f is = absurd j
  joined_set n [] (y ∷ ys) zs h b c l j e f is = absurd j
  joined_set n (x ∷ xs) [] zs h b c l j e f is = absurd j
  joined_set n (x ∷ xs) (y ∷ ys) [] h b c l j e f is = absurd j
  joined_set zero (x ∷ xs) (y ∷ ys) (z ∷ zs) h b c l j e f is = (subst (λ (u : Seen (Entry E K) × Seen (Entry E K)). IsJoined u.0 u.1 c) (λ i. ((e ∙ j.0) i, f i)) is, j.1)
  joined_set (suc n) (x ∷ xs) (y ∷ ys) (z ∷ zs) h b c l j e f is = (j.0, joined_set n xs ys zs h b c (omega arith) j.1 e f is)

  last_of : (xs rest : List (Seen (Entry E K))) (b : Seen (Entry E K)) → b ≡ get_or ((xs ++ b ∷ []) ++ rest) (length xs) b
  last_of [] rest b = refl
  last_of (x ∷ xs) rest b = last_of xs rest b

  pub rest_more : (xs rest : List (Seen (Entry E K))) (b : Seen (Entry E K)) → (xs ++ b ∷ []) ++ rest ≡ xs ++ b ∷ rest
  rest_more [] rest b = refl
  rest_more (x ∷ xs) rest b = ap (λ l. x ∷ l) (rest_more xs rest b)

  -- the last of the others is taken, and will be joined at its place
  module _ (old all now others others' rest : List (Seen (Entry E K))) (b h : Seen (Entry E K)) (at : ℕ) (whole : all ≡ others ++ rest) (taken : others ≡ others' ++ b ∷ [])
      (joined : JoinedFrom (length others) old all now) (place : at ≡ length others') (here : h ≡ get_or now at h) where
    split_all : all ≡ (others' ++ b ∷ []) ++ rest
    split_all = whole ∙ ap (λ l. l ++ rest) taken

    one_less : length others ≡ suc (length others')
    one_less = let a = ap length taken in let e = length-append others' (b ∷ []) in omega arith

    at_suc : JoinedFrom (suc (length others')) old all now
    at_suc = subst (λ (n : ℕ). JoinedFrom n old all now) one_less joined

    pub other_at : b ≡ get_or all at b
    other_at = last_of others' rest b ∙ (λ i. get_or (sym split_all i) (sym place i) b)

    pub within_all : at < length all
    within_all = let a = ap length split_all in let e = length-append (others' ++ b ∷ []) rest in let f = length-append others' (b ∷ []) in omega arith

    at_here : JoinedFrom (suc at) old all now
    at_here = subst (λ (n : ℕ). JoinedFrom (suc n) old all now) (sym place) at_suc

    pub old_at : h ≡ get_or old at h
    old_at = joined_before at old all now h at_here here

    pub join_step : (c : Seen (Entry E K)) (z : TableId) → h.lock ≡ z → c ≡ record { lock = z; seen = longer h.seen b.seen; inside = false } → IsPrefix h.seen c.seen → IsPrefix b.seen c.seen
        → ((r : List (Seen (Entry E K))) × (all ≡ others' ++ r)) × JoinedFrom (length others') old all (set now at c)
    join_step c z l is p q = (
      (b ∷ rest, split_all ∙ rest_more others' rest b),
      subst (λ (n : ℕ). JoinedFrom n old all (set now at c)) place (joined_set at old all now h b c within_all at_here here other_at (ap (λ (u : Seen (Entry E K)). u.lock) is ∙ sym l, ap (λ (u : Seen (Entry E K)). u.inside) is, ap (λ (u : Seen (Entry E K)). u.seen) is, p, q)),
    )

  joined_locks : (xs ys zs : List (Seen (Entry E K))) → JoinedFrom 0 xs ys zs → map lock_of zs ≡ map lock_of xs
  joined_locks [] [] [] j = refl
  joined_locks [] [] (z ∷ zs) j = absurd j
  joined_locks [] (y ∷ ys) zs j = absurd j
  joined_locks (x ∷ xs) [] zs j = absurd j
  joined_locks (x ∷ xs) (y ∷ ys) [] j = absurd j
  joined_locks (x ∷ xs) (y ∷ ys) (z ∷ zs) j = λ i. j.0.0 i ∷ joined_locks xs ys zs j.1 i

  joined_this : (xs ys zs : List (Seen (Entry E K))) → JoinedFrom 0 xs ys zs → GoOn (map known_of xs) (map known_of zs)
  joined_this [] [] [] j shelf = prefix_refl [] [] refl
  joined_this [] [] (z ∷ zs) j shelf = absurd j
  joined_this [] (y ∷ ys) zs j shelf = absurd j
  joined_this (x ∷ xs) [] zs j shelf = absurd j
  joined_this (x ∷ xs) (y ∷ ys) [] j shelf = absurd j
  joined_this (x ∷ xs) (y ∷ ys) (z ∷ zs) j zero = keys_more x.seen z.seen j.0.3
  joined_this (x ∷ xs) (y ∷ ys) (z ∷ zs) j (suc shelf) = joined_this xs ys zs j.1 shelf

  joined_that : (xs ys zs : List (Seen (Entry E K))) → JoinedFrom 0 xs ys zs → GoOn (map known_of ys) (map known_of zs)
  joined_that [] [] [] j shelf = prefix_refl [] [] refl
  joined_that [] [] (z ∷ zs) j shelf = absurd j
  joined_that [] (y ∷ ys) zs j shelf = absurd j
  joined_that (x ∷ xs) [] zs j shelf = absurd j
  joined_that (x ∷ xs) (y ∷ ys) [] j shelf = absurd j
  joined_that (x ∷ xs) (y ∷ ys) (z ∷ zs) j zero = keys_more y.seen z.seen j.0.4
  joined_that (x ∷ xs) (y ∷ ys) (z ∷ zs) j (suc shelf) = joined_that xs ys zs j.1 shelf

  joined_length : (xs ys zs : List (Seen (Entry E K))) → JoinedFrom 0 xs ys zs → length zs ≡ length xs
  joined_length [] [] [] j = refl
  joined_length [] [] (z ∷ zs) j = absurd j
  joined_length [] (y ∷ ys) zs j = absurd j
  joined_length (x ∷ xs) [] zs j = absurd j
  joined_length (x ∷ xs) (y ∷ ys) [] j = absurd j
  joined_length (x ∷ xs) (y ∷ ys) (z ∷ zs) j = ap suc (joined_length xs ys zs j.1)

module _ {D K : Type 0} (d : D) where
  joined_seats : (j : ℕ) (xs ys zs : List (Seen (Entry (D × ℕ) K))) → JoinedFrom 0 xs ys zs → AreSeated d j xs → AreSeated d j ys
      → AreSeated d j zs × (map known_of zs ≡ longest (map known_of xs) (map known_of ys))
  joined_seats j [] [] [] k a b = (tt, refl)
  joined_seats j [] [] (z ∷ zs) k a b = absurd k
  joined_seats j [] (y ∷ ys) zs k a b = absurd k
  joined_seats j (x ∷ xs) [] zs k a b = absurd k
  joined_seats j (x ∷ xs) (y ∷ ys) [] k a b = absurd k
  joined_seats j (x ∷ xs) (y ∷ ys) (z ∷ zs) k a b =
      let rest = joined_seats (j + 1) xs ys zs k.1 a.2 b.2 in
      let log = longer_log (d, j) x.seen y.seen a.1 b.1 in
      let seen : z.seen ≡ longer x.seen y.seen = k.0.2 in
      ((k.0.1, subst (IsLogOf (d, j)) (sym seen) log.0, rest.0), λ i. (ap (λ (l : List (Entry (D × ℕ) K)). known_of (record { lock = z.lock; seen = l; inside = false })) seen ∙ log.1) i ∷ rest.1 i)

-- what seats know that took in others, w being their table
module _ {D K : Type 0} (v u : Knowledge D K) (w : TableOf D) (d e : D) (xs ys zs : List (Seen (Entry (D × ℕ) K)))
    (these : knowledge d xs ≡ v) (those : knowledge e ys ≡ u) (fits : v.table ≡ w) (fit : u.table ≡ w) (long : length xs ≡ 16)
    (seated : AreSeated d 0 xs) (others : AreSeated e 0 ys) (joined : JoinedFrom 0 xs ys zs) where
  same : e ≡ d
  same = ap (λ (t : TableOf D). t.about) (ap (λ (k : Knowledge D K). k.table) those ∙ fit ∙ sym fits ∙ sym (ap (λ (k : Knowledge D K). k.table) these))

  both : AreSeated d 0 zs × (map known_of zs ≡ longest (map known_of xs) (map known_of ys))
  both = joined_seats d 0 xs ys zs joined seated (subst (λ (x : D). AreSeated x 0 ys) same others)

  pub joined_seated : (length zs ≡ 16) × AreSeated d 0 zs
  joined_seated = (joined_length xs ys zs joined ∙ long, both.0)

  pub joined_known : knowledge d zs ≡ record { table = w; known = longest v.known u.known }
  joined_known =
      let table : record { about = d; locks = map lock_of zs } ≡ w = ap (λ (l : List TableId). record { about = d; locks = l }) (joined_locks xs ys zs joined) ∙ ap (λ (k : Knowledge D K). k.table) these ∙ fits in
      let known : map known_of zs ≡ longest v.known u.known = both.1 ∙ (λ i. longest (these i).known (those i).known) in
      λ i. record { table = table i; known = known i }

  pub joined_more : GoOn v.known (map known_of zs)
  joined_more = subst (λ (l : List (List K)). GoOn l (map known_of zs)) (ap (λ (k : Knowledge D K). k.known) these) (joined_this xs ys zs joined)

  pub joined_more_too : GoOn u.known (map known_of zs)
  joined_more_too = subst (λ (l : List (List K)). GoOn l (map known_of zs)) (ap (λ (k : Knowledge D K). k.known) those) (joined_that xs ys zs joined)
