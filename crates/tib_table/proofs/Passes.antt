-- Passes shelf by shelf: what is known where one of them changes, and where one more is added.
use Rattle.std.proofs.Common.{◌≡◌, ℕ, zero, suc, ◌+◌, ◌<◌, List, [], ◌∷◌, ◌++◌, map, length, set, get_or, replicate, Some, false, refl, sym, ap, ◌∙◌, subst, arith, length-set, length-append}
use Rattle.std.specs.Prelude.{slice_get}
use Rattle.atomic_table.specs.Seated.{TableId}
use Rattle.tib_turn.specs.Prefixes.{IsPrefix}
use Rattle.tib_turn.specs.Seen.{Seen}
use Rattle.tib_table.specs.Kept.{shelf_log}
use Rattle.tib_table.specs.Known.{TableOf, Knowledge, on, GoOn}
use Rattle.tib_table.specs.Seated.{IsLogOf, known_of, lock_of, knowledge, AreSeated, AreOpened}
use Rattle.tib_table.specs.declared.problem.Entry.{Entry}
use Rattle.tib_table.proofs.Logs.{is_log, prefix_refl}

map_push : {A B : Type 0} (f : A → B) (xs : List A) (x : A) → map f (xs ++ x ∷ []) ≡ map f xs ++ f x ∷ []
map_push f [] x = refl
map_push f (y ∷ ys) x = ap (λ l. f y ∷ l) (map_push f ys x)

length_map : {A B : Type 0} (f : A → B) (xs : List A) → length (map f xs) ≡ length xs
length_map f [] = refl
length_map f (x ∷ xs) = ap suc (length_map f xs)

-- one more value after equal ones
pub replicate_push : {A : Type 0} (n : ℕ) (x : A) → replicate n x ++ x ∷ [] ≡ replicate (n + 1) x
replicate_push zero x = refl
replicate_push (suc n) x = let up : suc n + 1 ≡ suc (n + 1) = omega arith in ap (λ l. x ∷ l) (replicate_push n x) ∙ sym (ap (λ m. replicate m x) up)

module _ {E K : Type 0} where
  pub locks_set : (ss : List (Seen (Entry E K))) (i : ℕ) (s t : Seen (Entry E K)) → s ≡ get_or ss i s → t.lock ≡ s.lock → map lock_of (set ss i t) ≡ map lock_of ss
  locks_set [] i s t e a = refl
  locks_set (r ∷ ss) zero s t e a = ap (λ z. z ∷ map lock_of ss) (a ∙ ap lock_of e)
  locks_set (r ∷ ss) (suc i) s t e a = ap (λ l. r.lock ∷ l) (locks_set ss i s t e a)

  pub lock_at : (ss : List (Seen (Entry E K))) (zs : List TableId) (i : ℕ) (s : Seen (Entry E K)) (z : TableId) → map lock_of ss ≡ zs → i < length ss → s ≡ get_or ss i s → z ≡ get_or zs i z → s.lock ≡ z
  lock_at ss zs i s z m l e f = go ss i l e (subst (λ (ys : List TableId). z ≡ get_or ys i z) (sym m) f)
    where
      go : (ss : List (Seen (Entry E K))) (i : ℕ) → i < length ss → s ≡ get_or ss i s → z ≡ get_or (map lock_of ss) i z → s.lock ≡ z
      go [] i l e f = absurd (omega arith)
      go (r ∷ ss) zero l e f = ap lock_of e ∙ sym f
      go (r ∷ ss) (suc i) l e f = go ss i (omega arith) e f

  -- what is known after one pass has seen more
  pub known_set : (ss : List (Seen (Entry E K))) (i : ℕ) (s t : Seen (Entry E K)) → s ≡ get_or ss i s → IsPrefix (known_of s) (known_of t) → GoOn (map known_of ss) (map known_of (set ss i t))
  known_set [] i s t e p shelf = prefix_refl _ _ refl
  known_set (r ∷ ss) zero s t e p zero = subst (λ (u : Seen (Entry E K)). IsPrefix (known_of u) (known_of t)) e p
  known_set (r ∷ ss) zero s t e p (suc shelf) = prefix_refl _ _ refl
  known_set (r ∷ ss) (suc i) s t e p zero = prefix_refl _ _ refl
  known_set (r ∷ ss) (suc i) s t e p (suc shelf) = known_set ss i s t e p shelf

  pub known_here : (ss : List (Seen (Entry E K))) (i : ℕ) (t : Seen (Entry E K)) → i < length ss → on (map known_of (set ss i t)) i ≡ known_of t
  known_here [] i t l = absurd (omega arith)
  known_here (r ∷ ss) zero t l = refl
  known_here (r ∷ ss) (suc i) t l = known_here ss i t (omega arith)

module _ {D K : Type 0} (d : D) where
  log_at : (m n : ℕ) (es : List (Entry (D × ℕ) K)) → m ≡ n → IsLogOf (d, m) es → IsLogOf (d, n) es
  log_at m n es e l = subst (λ (k : ℕ). IsLogOf (d, k) es) e l

  pub seat_at : (j : ℕ) (ss : List (Seen (Entry (D × ℕ) K))) (i : ℕ) (s : Seen (Entry (D × ℕ) K)) → AreSeated d j ss → i < length ss → s ≡ get_or ss i s → (s.inside ≡ false) × IsLogOf (d, j + i) s.seen
  seat_at j [] i s a l e = absurd (omega arith)
  seat_at j (r ∷ ss) zero s a l e = (ap (λ (u : Seen (Entry (D × ℕ) K)). u.inside) e ∙ a.0, log_at j (j + 0) s.seen (omega arith) (subst (λ (u : Seen (Entry (D × ℕ) K)). IsLogOf (d, j) u.seen) (sym e) a.1))
  seat_at j (r ∷ ss) (suc i) s a l e =
      let k = seat_at (j + 1) ss i s a.2 (omega arith) e in
      (k.0, log_at ((j + 1) + i) (j + suc i) s.seen (omega arith) k.1)

  pub seated_set : (j : ℕ) (ss : List (Seen (Entry (D × ℕ) K))) (i : ℕ) (t : Seen (Entry (D × ℕ) K)) → AreSeated d j ss → t.inside ≡ false → IsLogOf (d, j + i) t.seen → AreSeated d j (set ss i t)
  seated_set j [] i t a out is = tt
  seated_set j (r ∷ ss) zero t a out is = (out, log_at (j + 0) j t.seen (omega arith) is, a.2)
  seated_set j (r ∷ ss) (suc i) t a out is =
      (a.0, a.1, seated_set (j + 1) ss i t a.2 out (log_at (j + suc i) ((j + 1) + i) t.seen (omega arith) is))

  seated_push : (j : ℕ) (ss : List (Seen (Entry (D × ℕ) K))) (t : Seen (Entry (D × ℕ) K)) → AreSeated d j ss → t.inside ≡ false → IsLogOf (d, j + length ss) t.seen → AreSeated d j (ss ++ t ∷ [])
  seated_push j [] t a out is = (out, log_at (j + 0) j t.seen (omega arith) is, tt)
  seated_push j (r ∷ ss) t a out is =
      (a.0, a.1, seated_push (j + 1) ss t a.2 out (log_at (j + suc (length ss)) ((j + 1) + length ss) t.seen (omega arith) is))

  -- one more lock
  pub opened_push : (n : ℕ) (zs zs' : List TableId) (ss ss' : List (Seen (Entry (D × ℕ) K))) (z : TableId) (s : Seen (Entry (D × ℕ) K)) → zs' ≡ zs ++ z ∷ [] → ss' ≡ ss ++ s ∷ []
      → s ≡ record { lock = z; seen = shelf_log (d, n) []; inside = false } → AreOpened d n zs ss → AreOpened d (n + 1) zs' ss'
  opened_push n zs zs' ss ss' z s a b is (long, locks, known, seated) =
      let k : length ss ≡ n = sym (length_map lock_of ss) ∙ ap length locks ∙ long in
      let log : IsLogOf (d, 0 + length ss) s.seen = log_at n (0 + length ss) s.seen (omega arith) (subst (λ (u : Seen (Entry (D × ℕ) K)). IsLogOf (d, n) u.seen) (sym is) (is_log (d, n) [])) in
      let P : List (Seen (Entry (D × ℕ) K)) → Type 0 = λ l. (map lock_of l ≡ zs ++ z ∷ []) × (map known_of l ≡ replicate (n + 1) []) × AreSeated d 0 l in
      let now : P (ss ++ s ∷ []) = (
        map_push lock_of ss s ∙ (λ i. locks i ++ lock_of (is i) ∷ []),
        map_push known_of ss s ∙ (λ i. known i ++ known_of (is i) ∷ []) ∙ replicate_push n [],
        seated_push 0 ss s seated (ap (λ (u : Seen (Entry (D × ℕ) K)). u.inside) is) log,
      ) in
      let after = subst P (sym b) now in
      (ap length a ∙ length-append zs (z ∷ []) ∙ ap (λ (m : ℕ). m + 1) long, after.0 ∙ sym a, after.1, after.2)

-- seats v of a table w, whose fields are given
module _ {D K : Type 0} (v : Knowledge D K) (w : TableOf D) (d e : D) (zs : List TableId) (ss : List (Seen (Entry (D × ℕ) K)))
    (table : record { about = e; locks = zs } ≡ w) (seats : knowledge d ss ≡ v) (fits : v.table ≡ w) where
  fit : record { about = d; locks = map lock_of ss } ≡ w
  fit = ap (λ (u : Knowledge D K). u.table) seats ∙ fits

  pub same_locks : map lock_of ss ≡ zs
  same_locks = ap (λ (u : TableOf D). u.locks) (fit ∙ sym table)

  pub is_about : w.about ≡ d
  is_about = ap (λ (u : TableOf D). u.about) (sym fit)

  module _ (i : ℕ) (z : TableId) (s t : Seen (Entry (D × ℕ) K)) (seated : AreSeated d 0 ss) (long : length ss ≡ 16) (low : i < 16) (lock : z ≡ get_or zs i z) (here : s ≡ get_or ss i s) where
    within : i < length ss
    within = omega arith

    pub its_lock : s.lock ≡ z
    its_lock = lock_at ss zs i s z same_locks within here lock

    pub out_of_turn : s.inside ≡ false
    out_of_turn = (seat_at d 0 ss i s seated within here).0

    pub its_log : IsLogOf (d, i) s.seen
    its_log = log_at d (0 + i) i s.seen (omega arith) (seat_at d 0 ss i s seated within here).1

    module _ (same : t.lock ≡ z) (out : t.inside ≡ false) (log : (x : D × ℕ) → IsLogOf x s.seen → IsLogOf x t.seen) (more : IsPrefix (known_of s) (known_of t)) where
      pub seated_after : (length (set ss i t) ≡ 16) × AreSeated d 0 (set ss i t)
      seated_after = (length-set ss i t ∙ long, seated_set d 0 ss i t seated out (log_at d i (0 + i) t.seen (omega arith) (log (d, i) its_log)))

      pub table_after : record { about = d; locks = map lock_of (set ss i t) } ≡ w
      table_after = ap (λ (l : List TableId). record { about = d; locks = l }) (locks_set ss i s t here (same ∙ sym its_lock)) ∙ fit

      pub known_after : GoOn v.known (map known_of (set ss i t))
      known_after = subst (λ (l : List (List K)). GoOn l (map known_of (set ss i t))) (ap (λ (u : Knowledge D K). u.known) seats) (known_set ss i s t here more)

      pub named_after : (p : ℕ) (x : K) → slice_get (known_of t) p ≡ Some x → slice_get (on (map known_of (set ss i t)) i) p ≡ Some x
      named_after p x h = ap (λ (l : List K). slice_get l p) (known_here ss i t within) ∙ h
