-- The log of a shelf as it grows.
use Rattle.std.proofs.Common.{◌≡◌, ℕ, zero, suc, Bool, true, false, List, [], ◌∷◌, ◌++◌, map, length, Result, Ok, Err, Some, refl, sym, ap, ◌∙◌, subst, arith, append-nil, append_assoc}
use Rattle.std.proofs.lemmas.Bool.Decides.{nat_tests}
use Rattle.std.specs.Prelude.{slice_get, OnOk, IfErr, IfOk, if◌then◌else◌, nat_lt}
use Rattle.std.specs.List.{list_any}
use Rattle.tib_turn.specs.Prefixes.{IsPrefix, longer}
use Rattle.indexmap.specs.IndexSet.{insert_key}
use Rattle.tib_table.specs.Kept.{Kept, shelf_log, log_of, keys_in}
use Rattle.tib_table.specs.Seated.{IsLogOf}
use Rattle.tib_table.specs.declared.problem.Entry.{Entry}
use Rattle.tib_table.specs.declared.problem.Entry.TheVariants.{Data, Key}

module _ {A : Type 0} where
  pub prefix_refl : (xs ys : List A) → ys ≡ xs → IsPrefix xs ys
  prefix_refl xs ys e = ([], e ∙ sym (append-nil xs))

  pub prefix_trans : (xs ys zs : List A) → IsPrefix xs ys → IsPrefix ys zs → IsPrefix xs zs
  prefix_trans xs ys zs a b = (a.0 ++ b.0, b.1 ∙ ap (λ l. l ++ b.0) a.1 ∙ append_assoc xs a.0 b.0)

  pub prefix_get : (xs ys : List A) (i : ℕ) (x : A) → IsPrefix xs ys → slice_get xs i ≡ Some x → slice_get ys i ≡ Some x
  prefix_get xs ys i x p e = subst (λ l. slice_get l i ≡ Some x) (sym p.1) (go xs p.0 i e)
    where
      go : (xs rest : List A) (i : ℕ) → slice_get xs i ≡ Some x → slice_get (xs ++ rest) i ≡ Some x
      go [] rest i e = absurd (cc)
      go (y ∷ ys) rest zero e = e
      go (y ∷ ys) rest (suc i) e = go ys rest i e

module _ {K : Type 0} (eq : K → K → Bool) where
  -- a key that is inserted is there already or is added after the others
  pub insert_grows : (ks : List K) (k : K) → IsPrefix ks (insert_key eq ks k)
  insert_grows ks k = go (list_any (eq k) ks)
    where
      go : (b : Bool) → IsPrefix ks (if b then ks else ks ++ k ∷ [])
      go true = prefix_refl ks ks refl
      go false = (k ∷ [], refl)

one_more : (m n : ℕ) → nat_lt (suc m) (suc n) ≡ nat_lt m n
one_more m n = grind (arith, nat_tests)

module _ (D : Type 0) {K : Type 0} where
  keys_in_log : (ks : List K) → keys_in (map {B = Entry D K} Key ks) ≡ ks
  keys_in_log [] = refl
  keys_in_log (k ∷ ks) = ap (λ l. k ∷ l) (keys_in_log ks)

  length_log : (ks : List K) → length (map {B = Entry D K} Key ks) ≡ length ks
  length_log [] = refl
  length_log (k ∷ ks) = ap suc (length_log ks)

module _ {D K : Type 0} where
  keys_in-append : (xs ys : List (Entry D K)) → keys_in (xs ++ ys) ≡ keys_in xs ++ keys_in ys
  keys_in-append [] ys = refl
  keys_in-append (Data d ∷ xs) ys = keys_in-append xs ys
  keys_in-append (Key k ∷ xs) ys = ap (λ l. k ∷ l) (keys_in-append xs ys)

  -- a log knows its own keys
  pub is_log : (d : D) (ks : List K) → IsLogOf d (shelf_log d ks)
  is_log d ks = ap (shelf_log d) (sym (keys_in_log D ks))

  -- a longer log has more keys
  pub keys_more : (xs ys : List (Entry D K)) → IsPrefix xs ys → IsPrefix (keys_in xs) (keys_in ys)
  keys_more xs ys p = (keys_in p.0, ap keys_in p.1 ∙ keys_in-append xs p.0)

  map_more : (xs ys : List K) → map {B = Entry D K} Key (xs ++ ys) ≡ map Key xs ++ map Key ys
  map_more [] ys = refl
  map_more (x ∷ xs) ys = ap (λ (l : List (Entry D K)). Key x ∷ l) (map_more xs ys)

  -- the log of a shelf with the same data grows as its keys do
  log_more : (s t : Kept D K) → t.about ≡ s.about → IsPrefix s.keys t.keys → IsPrefix (log_of s) (log_of t)
  log_more s t a p = (map Key p.0, ap (λ (d : D). Data d ∷ map Key t.keys) a ∙ ap (λ (ks : List K). Data s.about ∷ map Key ks) p.1 ∙ ap (λ (l : List (Entry D K)). Data s.about ∷ l) (map_more s.keys p.0))

  module _ (eq : K → K → Bool) (s t : Kept D K) (k : K) (r : Result ℕ K) (about : t.about ≡ s.about)
      (put : OnOk r (t.keys ≡ insert_key eq s.keys k)) (back : IfErr r (λ x. (x ≡ k) × (t ≡ s))) where
    -- a key that is numbered makes the log longer or leaves it
    pub number_grows : IsPrefix (log_of s) (log_of t)
    number_grows = log_more s t about (go r put back)
      where
        go : (r : Result ℕ K) → OnOk r (t.keys ≡ insert_key eq s.keys k) → IfErr r (λ x. (x ≡ k) × (t ≡ s)) → IsPrefix s.keys t.keys
        go (Ok n) p b = subst (IsPrefix s.keys) (sym p) (insert_grows eq s.keys k)
        go (Err x) p b = prefix_refl s.keys t.keys (ap (λ (u : Kept D K). u.keys) b.1)

  -- if a shelf's log begins with a log about d, the shelf is about d
  pub same_about : (d : D) (es : List (Entry D K)) (s : Kept D K) → IsLogOf d es → IsPrefix es (log_of s) → s.about ≡ d
  same_about d es s l p = let e : Data s.about ∷ map Key s.keys ≡ Data d ∷ (map {B = Entry D K} Key (keys_in es) ++ p.0) = p.1 ∙ ap (λ x. x ++ p.0) l in cc

  -- and its keys go on from those of that log
  pub log_kept : (d : D) (es fs : List (Entry D K)) (s t : Kept D K) → fs ≡ log_of t → t.about ≡ s.about → IsPrefix es (log_of s) → IsLogOf d es → IsLogOf d fs
  log_kept d es fs s t e a p l =
      let here : t.about ≡ d = a ∙ same_about d es s l p in
      subst (IsLogOf d) (sym (e ∙ ap (λ (x : D). shelf_log x t.keys) here)) (is_log d t.keys)

  pub keys_seen : (fs : List (Entry D K)) (t : Kept D K) → fs ≡ log_of t → keys_in fs ≡ t.keys
  keys_seen fs t e = ap keys_in e ∙ keys_in_log D t.keys

  pub named_in : (fs : List (Entry D K)) (t : Kept D K) (k : K) (r : Result ℕ K) → fs ≡ log_of t → IfOk r (λ n. slice_get t.keys n ≡ Some k) → IfOk r (λ n. slice_get (keys_in fs) n ≡ Some k)
  named_in fs t k (Ok n) e h = ap (λ l. slice_get l n) (keys_seen fs t e) ∙ h
  named_in fs t k (Err x) e h = h

  -- of two logs about the same data, the longer one has more keys
  pub longer_log : (d : D) (xs ys : List (Entry D K)) → IsLogOf d xs → IsLogOf d ys
      → IsLogOf d (longer xs ys) × (keys_in (longer xs ys) ≡ longer (keys_in xs) (keys_in ys))
  longer_log d xs ys a b =
      let p : length xs ≡ suc (length (keys_in xs)) = ap length a ∙ ap suc (length_log D (keys_in xs)) in
      let q : length ys ≡ suc (length (keys_in ys)) = ap length b ∙ ap suc (length_log D (keys_in ys)) in
      let e : nat_lt (length xs) (length ys) ≡ nat_lt (length (keys_in xs)) (length (keys_in ys)) = (λ i. nat_lt (p i) (q i)) ∙ one_more (length (keys_in xs)) (length (keys_in ys)) in
      subst (λ (c : Bool). IsLogOf d (if nat_lt (length xs) (length ys) then ys else xs) × (keys_in (if nat_lt (length xs) (length ys) then ys else xs) ≡ (if c then keys_in ys else keys_in xs))) e (go (nat_lt (length xs) (length ys)))
    where
      go : (c : Bool) → IsLogOf d (if c then ys else xs) × (keys_in (if c then ys else xs) ≡ (if c then keys_in ys else keys_in xs))
      go true = (b, refl)
      go false = (a, refl)
