-- Keys are numbered in the order of first sight.
use Rattle.std.proofs.Common.{◌≡◌, ℕ, zero, suc, ◌+◌, ◌-◌, ◌<◌, ◌≤◌, Bool, true, false, not, Some, List, [], ◌∷◌, ◌++◌, length, reverse, take, slice_get, drop, append_assoc, append-nil, length-append, if◌then◌else◌, refl, sym, ap, subst, ◌∙◌, true≢false, arith}
use Rattle.std.specs.List.{list_any}
use Rattle.std.proofs.lemmas.Grind.{reverse_onto}
use Rattle.std.proofs.lemmas.List.Sums.{fold_push}
use Rattle.indexmap.specs.IndexSet.{insert_key, insert_all}
use Rattle.tib_lex.specs.Lists.{Has, Along, total}
use Rattle.tib_expand.specs.Limits.{IfTooMany}
use Rattle.tib_expand.specs.declared.error.HuntError.{HuntError}
use Rattle.tib_table.specs.Numbered.{Name, HaveMore, placed}
use Rattle.tib_expand.specs.Keys.{key_parts}
use Rattle.tib_expand.proofs.Limits.{IfTooMany-weaker}
use Rattle.tib_lex.proofs.Lists.{total_append}
use Rattle.tib_lex.proofs.Members.{has_left}

pub total_least : {K : Type 0} (entries : K → ℕ) (ks : List K) → length ks ≤ total (key_parts entries) ks
total_least entries [] = omega arith
total_least entries (k ∷ ks) = let h = total_least entries ks in omega arith

pub along_snoc : {A B : Type 0} (R : A → B → Type 0) (xs : List A) (ys : List B) (x : A) (y : B) → Along R xs ys → R x y → Along R (xs ++ x ∷ []) (ys ++ y ∷ [])
along_snoc R [] [] x y a r = (r, tt)
along_snoc R [] (z ∷ ys) x y a r = absurd a
along_snoc R (w ∷ xs) [] x y a r = absurd a
along_snoc R (w ∷ xs) (z ∷ ys) x y a r = (a.0, along_snoc R xs ys x y a.1 r)

module _ {K : Type 0} (eq : K → K → Bool) where
  pub total_new : (f : K → ℕ) (ks : List K) (k : K) (b : Bool) → b ≡ not (list_any (eq k) ks) → b ≡ true → total f (insert_key eq ks k) ≡ total f ks + f k
  total_new f ks k b is t = go (list_any (eq k) ks) (sym is ∙ t)
    where
      go : (a : Bool) → not a ≡ true → total f (if a then ks else ks ++ k ∷ []) ≡ total f ks + f k
      go true e = absurd (true≢false (sym e))
      go false e = let r = total_append f ks (k ∷ []) in omega arith

  pub total_old : (f : K → ℕ) (ks : List K) (k : K) (b : Bool) → b ≡ not (list_any (eq k) ks) → b ≡ false → total f (insert_key eq ks k) ≡ total f ks
  total_old f ks k b is t = go (list_any (eq k) ks) (sym is ∙ t)
    where
      go : (a : Bool) → not a ≡ false → total f (if a then ks else ks ++ k ∷ []) ≡ total f ks
      go true e = refl
      go false e = absurd (true≢false e)

  pub get_left : (xs ys : List K) (n : ℕ) (k : K) → slice_get xs n ≡ Some k → slice_get (xs ++ ys) n ≡ Some k
  get_left [] ys n k e = grind (arith, e)
  get_left (x ∷ xs) ys zero k e = e
  get_left (x ∷ xs) ys (suc n) k e = get_left xs ys n k e

  named_on : (ks : List K) (k : K) (ends : List K) (ns : List ℕ) → Name ks ends ns → Name (insert_key eq ks k) ends ns
  named_on ks k [] [] a = tt
  named_on ks k [] (n ∷ ns) a = absurd a
  named_on ks k (x ∷ xs) [] a = absurd a
  named_on ks k (x ∷ xs) (n ∷ ns) a = (go (list_any (eq k) ks), named_on ks k xs ns a.1)
    where
      go : (b : Bool) → slice_get (if b then ks else ks ++ k ∷ []) n ≡ Some x
      go true = a.0
      go false = get_left ks (k ∷ []) n x a.0

  -- what holds once these ends are numbered
  pub record SoFar (f : K → ℕ) (old ends done rest : List K) (was limit : ℕ) (keys : List K) (numbers : List ℕ) (parts : ℕ) : Type 0 where
    pub whole : ends ≡ done ++ rest
    pub keys_are : keys ≡ insert_all eq old done
    pub named : Name keys done numbers
    pub counted : parts + total f old ≡ was + total f keys
    pub within : parts ≤ limit

  module _ (f : K → ℕ) (old ends done rest : List K) (was limit : ℕ) (keys : List K) (numbers : List ℕ) (parts : ℕ) (s : SoFar f old ends done rest was limit keys numbers parts) (k : K) (rest' : List K) (next : rest ≡ k ∷ rest') where
    whole_still : ends ≡ (done ++ k ∷ []) ++ rest'
    whole_still = s.whole ∙ ap (λ (l : List K). done ++ l) next ∙ sym (append_assoc done (k ∷ []) rest')

    all_inserted : insert_all eq old (done ++ k ∷ []) ≡ insert_key eq keys k
    all_inserted = fold_push (insert_key eq) old done k ∙ ap (λ (l : List K). insert_key eq l k) (sym s.keys_are)

    pub step : (keys' : List K) (n parts' : ℕ) → keys' ≡ insert_key eq keys k → slice_get keys' n ≡ Some k → parts' + total f keys ≡ parts + total f keys' → parts' ≤ limit → SoFar f old ends (done ++ k ∷ []) rest' was limit keys' (numbers ++ n ∷ []) parts'
    step keys' n parts' is named counted within = record {
      whole = whole_still;
      keys_are = is ∙ sym all_inserted;
      named = along_snoc (λ x m. slice_get keys' m ≡ Some x) done numbers k n (subst (λ (l : List K). Name l done numbers) (sym is) (named_on keys k done numbers s.named)) named;
      counted = let c = s.counted in omega arith;
      within = within;
    }

    pub too_many : limit + total f keys < parts + total f (insert_key eq keys k) → HaveMore eq f old ends was limit
    too_many more = (done ++ k ∷ [], (λ x h. subst (λ (l : List K). Has l x) (sym whole_still) (has_left (done ++ k ∷ []) rest' x h)), (let c = s.counted in let e = ap (total f) all_inserted in omega arith))

    pub told : (e : HuntError) → IfTooMany limit (limit + total f keys < parts + total f (insert_key eq keys k)) e → IfTooMany limit (HaveMore eq f old ends was limit) e
    told e = IfTooMany-weaker limit _ _ e too_many

module _ {K : Type 0} where
  pub take_front : (xs ys : List K) (n : ℕ) → length xs ≡ n → take n (xs ++ ys) ≡ xs
  take_front [] ys zero e = refl
  take_front [] ys (suc n) e = absurd (omega arith)
  take_front (x ∷ xs) ys zero e = absurd (omega arith)
  take_front (x ∷ xs) ys (suc n) e = ap (λ (l : List K). x ∷ l) (take_front xs ys n (omega arith))

  pub drop_front : (xs ys : List K) (n : ℕ) → length xs ≡ n → drop n (xs ++ ys) ≡ ys
  drop_front [] ys zero e = refl
  drop_front [] ys (suc n) e = absurd (omega arith)
  drop_front (x ∷ xs) ys zero e = absurd (omega arith)
  drop_front (x ∷ xs) ys (suc n) e = drop_front xs ys n (omega arith)

  -- what holds while keys are taken out
  pub record TakenSoFar (first : ℕ) (old keys : List K) (pairs : List (K × ℕ)) : Type 0 where
    pub enough : first ≤ length keys
    pub fresh : List K
    pub whole : old ≡ keys ++ fresh
    pub taken : pairs ≡ reverse (placed (length keys - first) fresh)

  pub taken_none : (first : ℕ) (keys : List K) → first ≤ length keys → TakenSoFar first keys keys []
  taken_none first keys low = record { enough = low; fresh = []; whole = sym (append-nil keys); taken = refl }

  pub taken_more : (first : ℕ) (old keys : List K) (pairs : List (K × ℕ)) → TakenSoFar first old keys pairs → (keys' : List K) (k : K) → keys ≡ keys' ++ k ∷ [] → first < length keys → TakenSoFar first old keys' (pairs ++ (k, length keys' - first) ∷ [])
  taken_more first old keys pairs t keys' k is more =
      let long : length keys ≡ length keys' + 1 = ap length is ∙ length-append keys' (k ∷ []) in
      let next : length keys - first ≡ (length keys' - first) + 1 = omega arith in
      record {
        enough = omega arith;
        fresh = k ∷ t.fresh;
        whole = t.whole ∙ ap (λ (l : List K). l ++ t.fresh) is ∙ append_assoc keys' (k ∷ []) t.fresh;
        taken = ap (λ (l : List (K × ℕ)). l ++ (k, length keys' - first) ∷ []) (t.taken ∙ ap (λ (n : ℕ). reverse (placed n t.fresh)) next) ∙ sym (reverse_onto (placed ((length keys' - first) + 1) t.fresh) (k, length keys' - first) []);
      }

  pub taken_all : (first : ℕ) (old keys : List K) (pairs : List (K × ℕ)) → TakenSoFar first old keys pairs → length keys ≤ first → (pairs ≡ reverse (placed 0 (drop first old))) × (keys ≡ take first old)
  taken_all first old keys pairs t low =
      let same : length keys ≡ first = (let e = t.enough in omega arith) in
      let z : length keys - first ≡ 0 = omega arith in (
        t.taken ∙ (λ i. reverse (placed (z i) (sym (drop_front keys t.fresh first same) i))) ∙ ap (λ (l : List K). reverse (placed 0 (drop first l))) (sym t.whole),
        sym (take_front keys t.fresh first same) ∙ ap (λ (l : List K). take first l) (sym t.whole),
      )
