-- Keys that are inserted one after the other.
use Rattle.std.proofs.Common.{◌≡◌, ◌⊎◌, inl, inr, Bool, true, false, List, [], ◌∷◌, ◌++◌, append_assoc, append-nil, ◌||◌, if◌then◌else◌, refl, sym, subst, ◌∙◌, true≢false}
use Rattle.std.specs.List.{list_any}
use Rattle.indexmap.specs.IndexSet.{insert_key, insert_all}
use Rattle.tib_lex.specs.Lists.{Has, Distinct}
use Rattle.tib_lex.proofs.Members.{has_either, has_left, has_right}

module _ {K : Type 0} (eq : K → K → Bool) (same : (x y : K) → eq x y ≡ true → x ≡ y) (self : (x : K) → eq x x ≡ true) where
  one_more : (ks : List K) (k x : K) (b : Bool) → Has (if b then ks else ks ++ k ∷ []) x → Has ks x ⊎ (k ≡ x)
  one_more ks k x true h = inl h
  one_more ks k x false h = go (has_either ks (k ∷ []) x h)
    where
      go : Has ks x ⊎ Has (k ∷ []) x → Has ks x ⊎ (k ≡ x)
      go (inl a) = inl a
      go (inr (inl e)) = inr e
      go (inr (inr n)) = absurd n

  -- a key that compares equal to one of the list is in it
  pub any_has : (k : K) (ks : List K) → list_any (eq k) ks ≡ true → Has ks k
  any_has k [] e = absurd (true≢false (sym e))
  any_has k (x ∷ xs) e = go (eq k x) refl (any_has k xs) e
    where
      go : (b : Bool) → eq k x ≡ b → (list_any (eq k) xs ≡ true → Has xs k) → (b || list_any (eq k) xs) ≡ true → Has (x ∷ xs) k
      go true q r e = inl (sym (same k x q))
      go false q r e = inr (r e)

  -- a key that compares equal to none of the list is not in it
  pub not_any : (k : K) (ks : List K) → list_any (eq k) ks ≡ false → Has ks k → ⊥
  not_any k [] e h = h
  not_any k (x ∷ xs) e (inl i) = go (eq k x) (subst (λ z. eq k z ≡ true) (sym i) (self k)) e
    where
      go : (b : Bool) → b ≡ true → (b || list_any (eq k) xs) ≡ false → ⊥
      go true q e = true≢false e
      go false q e = true≢false (sym q)
  not_any k (x ∷ xs) e (inr h) = go (eq k x) e (λ q. not_any k xs q h)
    where
      go : (b : Bool) → (b || list_any (eq k) xs) ≡ false → (list_any (eq k) xs ≡ false → ⊥) → ⊥
      go true q r = true≢false q
      go false q r = r q

  snoc_once : (ks : List K) (k : K) → Distinct ks → (Has ks k → ⊥) → Distinct (ks ++ k ∷ [])
  snoc_once [] k d n = ((λ h. h), tt)
  snoc_once (x ∷ xs) k d n = ((λ h. go (has_either xs (k ∷ []) x h)), snoc_once xs k d.1 (λ h. n (inr h)))
    where
      go : Has xs x ⊎ Has (k ∷ []) x → ⊥
      go (inl a) = d.0 a
      go (inr (inl e)) = n (inl (sym e))
      go (inr (inr m)) = m

  -- the old keys are the front, each key is an old one or one of the ends, each end is there, and
  -- no key is there twice
  pub record Inserted (old ends keys : List K) : Type 0 where
    pub new : List K
    pub keys_are : keys ≡ old ++ new
    pub among : (k : K) → Has new k → Has ends k
    pub there : (k : K) → Has ends k → Has keys k
    pub once : Distinct old → Distinct keys

  -- what inserting keys one after the other does
  pub inserted : (ends old : List K) → Inserted old ends (insert_all eq old ends)
  inserted [] old = record { new = []; keys_are = sym (append-nil old); among = λ k h. absurd h; there = λ k h. absurd h; once = λ d. d }
  inserted (x ∷ ends) old = go (list_any (eq x) old) refl (inserted ends (insert_key eq old x))
    where
      go : (b : Bool) → list_any (eq x) old ≡ b → Inserted (if b then old else old ++ x ∷ []) ends (insert_all eq (insert_key eq old x) ends) → Inserted old (x ∷ ends) (insert_all eq (insert_key eq old x) ends)
      go true e i = record {
        new = i.new;
        keys_are = i.keys_are;
        among = λ k h. inr (i.among k h);
        there = λ k h. elim h [
          | inl q ↦ subst (λ (l : List K). Has l k) (sym i.keys_are) (has_left old i.new k (subst (Has old) q (any_has x old e)))
          | inr m ↦ i.there k m
        ];
        once = i.once;
      }
      go false e i = record {
        new = x ∷ i.new;
        keys_are = i.keys_are ∙ append_assoc old (x ∷ []) i.new;
        among = λ k h. elim h [ inl q ↦ inl q | inr m ↦ inr (i.among k m) ];
        there = λ k h. elim h [
          | inl q ↦ subst (λ (l : List K). Has l k) (sym i.keys_are) (has_left (old ++ x ∷ []) i.new k (has_right old (x ∷ []) k (inl q)))
          | inr m ↦ i.there k m
        ];
        once = λ d. i.once (snoc_once old x d (not_any x old e));
      }
