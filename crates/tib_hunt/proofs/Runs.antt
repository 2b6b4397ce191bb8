-- Every complete run of a round numbers just those ends of its items that may be numbered, each
-- once.
use Rattle.std.proofs.Common.{◌≡◌, ◌≢◌, ◌⊎◌, inl, inr, ⊎_elim, ℕ, zero, suc, ◌+◌, ◌<◌, ◌≤◌, Bool, true, false, true≢false, ◌||◌, List, [], ◌∷◌, ◌++◌, length, set, Some, None, replicate, refl, sym, ap, ◌∙◌, subst, arith, length-set, get_or-set_same, get_or-set_other}
use Rattle.std.specs.Prelude.{if◌then◌else◌, nat_lt}
use Rattle.std.specs.List.{list_any}
use Rattle.std.proofs.lemmas.Bool.Decides.{nat_tests}
use mathlib.Core.Logic.{dite}
use native.Mathlib.Decide.{ℕ_discrete}
use Rattle.tib_lex.specs.Lists.{Has, Distinct}
use Rattle.indexmap.specs.IndexSet.{insert_key}
use Rattle.tib_table.specs.Known.{on}
use Rattle.tib_hunt.specs.declared.event.Event.{Event}
use Rattle.tib_hunt.specs.declared.event.Event.TheVariants.{Draw, Number, File}
use Rattle.tib_hunt.specs.RoundModel.{Core, opened, IsItem, with_key, Allowed, after, Runs, put_item, draws}
use Rattle.tib_hunt.specs.Shelved.{with_keys}
use Rattle.tib_hunt.specs.RoundLaw.{numbers_from, IsKept, EveryRun, TwoRuns}
use Rattle.tib_lex.proofs.Members.{has_left}

module _ {A : Type 0} where
  -- a member of a list with one more element
  pub has_snoc : (xs : List A) (x y : A) → Has (xs ++ x ∷ []) y → Has xs y ⊎ (x ≡ y)
  has_snoc [] x y (inl e) = inr e
  has_snoc [] x y (inr h) = absurd h
  has_snoc (z ∷ xs) x y (inl e) = inl (inl e)
  has_snoc (z ∷ xs) x y (inr h) = ⊎_elim (λ a. inl (inr a)) (λ b. inr b) (has_snoc xs x y h)

  -- the last element is a member
  pub has_last : (xs : List A) (x : A) → Has (xs ++ x ∷ []) x
  has_last [] x = inl refl
  has_last (z ∷ xs) x = inr (has_last xs x)

  distinct_snoc : (xs : List A) (x : A) → Distinct xs → (Has xs x → ⊥) → Distinct (xs ++ x ∷ [])
  distinct_snoc [] x d n = ((λ h. h), tt)
  distinct_snoc (z ∷ xs) x d n = ((λ h. ⊎_elim d.0 (λ (e : x ≡ z). n (inl (sym e))) (has_snoc xs x z h)), distinct_snoc xs x d.1 (λ h. n (inr h)))

module _ {K : Type 0} (eq : K → K → Bool) (same : (x y : K) → eq x y ≡ true → x ≡ y) (self : (x : K) → eq x x ≡ true) where
  any_has : (k : K) (ks : List K) → list_any (eq k) ks ≡ true → Has ks k
  any_has k [] e = absurd (true≢false (sym e))
  any_has k (x ∷ ks) e = go (eq k x) refl (any_has k ks)
    where
      go : (b : Bool) → eq k x ≡ b → (list_any (eq k) ks ≡ true → Has ks k) → Has (x ∷ ks) k
      go true is rest = inl (sym (same k x is))
      go false is rest = inr (rest (sym (ap (λ c. c || list_any (eq k) ks) is) ∙ e))

  not_any : (k : K) (ks : List K) → list_any (eq k) ks ≡ false → Has ks k → ⊥
  not_any k [] e h = h
  not_any k (x ∷ ks) e (inl is) = true≢false (sym (self k) ∙ ap (eq k) (sym is) ∙ go (eq k x) refl)
    where
      go : (b : Bool) → eq k x ≡ b → eq k x ≡ false
      go true q = absurd (true≢false (sym (ap (λ c. c || list_any (eq k) ks) q) ∙ e))
      go false q = q
  not_any k (x ∷ ks) e (inr h) = go (eq k x) refl (λ q. not_any k ks q h)
    where
      go : (b : Bool) → eq k x ≡ b → (list_any (eq k) ks ≡ false → ⊥) → ⊥
      go true q rest = true≢false (sym (ap (λ c. c || list_any (eq k) ks) q) ∙ e)
      go false q rest = rest (sym (ap (λ c. c || list_any (eq k) ks) q) ∙ e)

  -- a shelf after a key was numbered: it has that key and what it had, each once
  number_only : (ks : List K) (k x : K) (b : Bool) → Has (if b then ks else ks ++ k ∷ []) x → Has ks x ⊎ (k ≡ x)
  number_only ks k x true h = inl h
  number_only ks k x false h = has_snoc ks k x h

  number_keeps : (ks : List K) (k x : K) (b : Bool) → Has ks x → Has (if b then ks else ks ++ k ∷ []) x
  number_keeps ks k x true h = h
  number_keeps ks k x false h = has_left ks (k ∷ []) x h

  number_has : (ks : List K) (k : K) (b : Bool) → list_any (eq k) ks ≡ b → Has (if b then ks else ks ++ k ∷ []) k
  number_has ks k true e = any_has k ks e
  number_has ks k false e = has_last ks k

  number_once : (ks : List K) (k : K) (b : Bool) → list_any (eq k) ks ≡ b → Distinct ks → Distinct (if b then ks else ks ++ k ∷ [])
  number_once ks k true e d = d
  number_once ks k false e d = distinct_snoc ks k d (not_any k ks e)

  module _ (shelf : K → ℕ) (low : (k : K) → shelf k < 16) (first count : ℕ) (is_end : ℕ → K → Type 0) where
    abbrev Kept : Core K → Type 0
    Kept = IsKept shelf first count is_end

    nothing : (j n : ℕ) → on (replicate {A = List K} n []) j ≡ []
    nothing j zero = refl
    nothing zero (suc n) = refl
    nothing (suc j) (suc n) = nothing j n

    -- the opened core keeps the rule of a round
    pub begins : Kept opened
    begins = record {
      wide = refl;
      few = omega arith;
      only = λ j k h. absurd (subst (λ (ks : List K). Has ks k) (nothing j 16) h);
      once = λ j. subst (λ (ks : List K). Distinct ks) (sym (nothing j 16)) tt;
      filed = (tt, λ i h. absurd h);
      stands = λ i h. absurd h;
    }

    -- where the shelves after a key is numbered are looked at
    shelf_after : (s : Core K) (k : K) (ks : List K) (j : ℕ) (F : ℕ → List K → Type 0) → length s.shelves ≡ 16 → F (shelf k) ks → ((other : j ≢ shelf k) → F j (on s.shelves j)) → F j (on (set s.shelves (shelf k) ks) j)
    shelf_after s k ks j F wide here apart = dite (ℕ_discrete j (shelf k))
        (λ e. subst (λ (i : ℕ). F i (on (set s.shelves (shelf k) ks) i)) (sym e) (subst (F (shelf k)) (sym (get_or-set_same s.shelves (shelf k) ks [] (let l = low k in omega arith))) here))
        (λ n. subst (F j) (sym (get_or-set_other s.shelves (shelf k) j ks [] n)) (apart n))

    -- it is kept where more items are drawn
    pub more_drawn : (s : Core K) (n : ℕ) → s.drawn ≤ n → n ≤ count → Kept s → Kept (record { drawn = n; shelves = s.shelves; filed = s.filed })
    more_drawn s n low few c = record {
      wide = c.wide;
      few = few;
      only = λ j k h. let o = c.only j k h in (o.0, (o.1.0, (o.1.1.0, (let l = o.1.1.1 in omega arith)), o.1.2));
      once = c.once;
      filed = (c.filed.0, λ i h. let l = c.filed.1 i h in (l.0, (let m = l.1 in omega arith)));
      stands = c.stands;
    }

    -- an event that is allowed keeps it
    pub kept_after : (s : Core K) (e : Event K) → Kept s → Allowed eq shelf first count is_end s e → Kept (after eq shelf first count is_end s e)
    kept_after s Draw c a = go (nat_lt s.drawn count) refl
      where
        go : (b : Bool) → nat_lt s.drawn count ≡ b → Kept (record { drawn = if b then s.drawn + 1 else s.drawn; shelves = s.shelves; filed = s.filed })
        go true l = more_drawn s (s.drawn + 1) (omega arith) (grind (arith, nat_tests)) c
        go false l = more_drawn s s.drawn (omega arith) c.few c
    kept_after s (File i) c a = record {
      wide = c.wide;
      few = c.few;
      only = c.only;
      once = c.once;
      filed = (distinct_snoc s.filed i c.filed.0 a.1, λ j h. ⊎_elim (c.filed.1 j) (λ (e : i ≡ j). subst (λ (n : ℕ). IsItem first s.drawn n) e a.0) (has_snoc s.filed i j h));
      stands = λ j h. ⊎_elim (c.stands j) (λ (e : i ≡ j). subst (λ (n : ℕ). (k : K) → is_end n k → Has (on s.shelves (shelf k)) k) e a.2) (has_snoc s.filed i j h);
    }
    kept_after s (Number k) c a =
        let ks : List K = on s.shelves (shelf k) in
        let ks' : List K = insert_key eq ks k in
        record {
          wide = length-set s.shelves (shelf k) ks' ∙ c.wide;
          few = c.few;
          only = λ j x. shelf_after s k ks' j (λ n l. Has l x → (shelf x ≡ n) × ((i : ℕ) × IsItem first s.drawn i × is_end i x)) c.wide
              (λ h. ⊎_elim (c.only (shelf k) x) (λ (e : k ≡ x). subst (λ (y : K). (shelf y ≡ shelf k) × ((i : ℕ) × IsItem first s.drawn i × is_end i y)) e (refl, a)) (number_only ks k x (list_any (eq k) ks) h))
              (λ _ h. c.only j x h);
          once = λ j. shelf_after s k ks' j (λ n l. Distinct l) c.wide (number_once ks k (list_any (eq k) ks) refl (c.once (shelf k))) (λ _. c.once j);
          filed = c.filed;
          stands = λ i h x e. shelf_after s k ks' (shelf x) (λ n l. (shelf x ≡ n) → Has l x) c.wide
              (λ q. number_keeps ks k x (list_any (eq k) ks) (subst (λ (n : ℕ). Has (on s.shelves n) x) q (c.stands i h x e)))
              (λ _ _. c.stands i h x e) refl;
        }

    -- after keys of drawn items are numbered, each is on its shelf
    pub record KeptWith (s t : Core K) (ks : List K) : Type 0 where
      pub kept : Kept t
      pub drawn : t.drawn ≡ s.drawn
      pub filed : t.filed ≡ s.filed
      pub stays : (j : ℕ) (x : K) → Has (on s.shelves j) x → Has (on t.shelves j) x
      pub there : (x : K) → Has ks x → Has (on t.shelves (shelf x)) x

    -- numbering ends of drawn items keeps it
    pub kept_keys : (s : Core K) (ks : List K) → Kept s → ((k : K) → Has ks k → (i : ℕ) × IsItem first s.drawn i × is_end i k) → KeptWith s (with_keys eq shelf s ks) ks
    kept_keys s [] c ends = record { kept = c; drawn = refl; filed = refl; stays = λ j x h. h; there = λ x h. absurd h }
    kept_keys s (k ∷ ks) c ends =
        let r = kept_keys (with_key eq shelf s k) ks (kept_after s (Number k) c (ends k (inl refl))) (λ x h. ends x (inr h)) in
        record {
          kept = r.kept;
          drawn = r.drawn;
          filed = r.filed;
          stays = λ j x h. r.stays j x (shelf_after s k (insert_key eq (on s.shelves (shelf k)) k) j (λ n l. Has (on s.shelves n) x → Has l x) c.wide
              (λ q. number_keeps (on s.shelves (shelf k)) k x (list_any (eq k) (on s.shelves (shelf k))) q) (λ _ q. q) h);
          there = λ x h. elim h [
            | inl e ↦ subst (λ (y : K). Has (on (with_keys eq shelf (with_key eq shelf s k) ks).shelves (shelf y)) y) e
                (r.stays (shelf k) k (subst (λ (l : List K). Has l k) (sym (get_or-set_same s.shelves (shelf k) (insert_key eq (on s.shelves (shelf k)) k) [] (let l = low k in let w = c.wide in omega arith))) (number_has (on s.shelves (shelf k)) k (list_any (eq k) (on s.shelves (shelf k))) refl)))
            | inr m ↦ r.there x m
          ];
        }

    kept_run : (s : Core K) (es : List (Event K)) (t : Core K) → Kept s → Runs eq shelf first count is_end s es t → Kept t
    kept_run s [] t c r = subst Kept (sym r) c
    kept_run s (e ∷ es) t c r = kept_run (after eq shelf first count is_end s e) es t (kept_after s e c r.0) r.1

    -- the draws return one item after the other
    draws_in_order : (s : Core K) (es : List (Event K)) (t : Core K) → Runs eq shelf first count is_end s es t → (n : ℕ) × (t.drawn ≡ s.drawn + n) × (draws eq shelf first count is_end s es ≡ numbers_from (first + s.drawn) n)
    draws_in_order s [] t r = (0, ap (λ (u : Core K). u.drawn) r ∙ (let e : s.drawn ≡ s.drawn + 0 = omega arith in e), refl)
    draws_in_order s (Number k ∷ es) t r = draws_in_order (after eq shelf first count is_end s (Number k)) es t r.1
    draws_in_order s (File i ∷ es) t r = draws_in_order (after eq shelf first count is_end s (File i)) es t r.1
    draws_in_order s (Draw ∷ es) t r = go (nat_lt s.drawn count) (draws_in_order (after eq shelf first count is_end s Draw) es t r.1)
      where
        go : (b : Bool) → (n : ℕ) × (t.drawn ≡ (if b then s.drawn + 1 else s.drawn) + n) × (draws eq shelf first count is_end (record { drawn = if b then s.drawn + 1 else s.drawn; shelves = s.shelves; filed = s.filed }) es ≡ numbers_from (first + (if b then s.drawn + 1 else s.drawn)) n)
            → (n : ℕ) × (t.drawn ≡ s.drawn + n) × (put_item (if b then Some (first + s.drawn) else None) (draws eq shelf first count is_end (record { drawn = if b then s.drawn + 1 else s.drawn; shelves = s.shelves; filed = s.filed }) es) ≡ numbers_from (first + s.drawn) n)
        go true (n, e, is) =
            let up : first + (s.drawn + 1) ≡ (first + s.drawn) + 1 = omega arith in
            (suc n, (let f = e in omega arith), ap (λ (l : List ℕ). (first + s.drawn) ∷ l) (is ∙ ap (λ (m : ℕ). numbers_from m n) up))
        go false (n, e, is) = (n, e, is)

    -- a run from the opened core keeps it
    pub kept_at_end : (es : List (Event K)) (t : Core K) → Runs eq shelf first count is_end opened es t → Kept t
    kept_at_end es t r = kept_run opened es t begins r

    -- a complete run draws all items in order
    pub drawn_in_order : (es : List (Event K)) (t : Core K) → Runs eq shelf first count is_end opened es t → t.drawn ≡ count → draws eq shelf first count is_end opened es ≡ numbers_from first count
    drawn_in_order es t r all =
        let d = draws_in_order opened es t r in
        let e : d.0 ≡ count = (let f = d.1 in omega arith) in
        let z : first + 0 ≡ first = omega arith in
        d.2 ∙ (λ i. numbers_from (z i) (e i))

  module _ (shelf : K → ℕ) (low : (k : K) → shelf k < 16) (first count : ℕ) {O E : Type 0} (edge : ℕ → O → E → Type 0) (is_end : ℕ → K → Type 0) where
    -- what holds after every complete run
    pub every_run : EveryRun eq shelf first count edge is_end
    every_run es t (r, (all, done)) =
        let c = kept_at_end shelf low first count is_end es t r in
        let item : (i : ℕ) → Has t.filed i → IsItem first count i = λ i h. subst (λ (n : ℕ). IsItem first n i) all (c.filed.1 i h) in
        record {
          drawn_once = drawn_in_order shelf low first count is_end es t r all;
          filed_once = c.filed.0;
          edges = λ i o e. ((λ h. (item i h.0, h.1)), (λ h. (done i h.0, h.1)));
          items = λ i. (item i, done i);
          keys = λ j k. (
            (λ h. let o = c.only j k h in (o.0, (o.1.0, subst (λ (n : ℕ). IsItem first n o.1.0) all o.1.1, o.1.2))),
            (λ h. subst (λ (n : ℕ). Has (on t.shelves n) k) h.0 (c.stands h.1.0 (done h.1.0 h.1.1) k h.1.2)),
          );
          keys_once = c.once;
        }

    -- two complete runs leave the same
    pub two_runs : TwoRuns eq shelf first count edge is_end
    two_runs es fs t u a b =
        let v = every_run es t a in
        let w = every_run fs u b in
        record {
          keys = λ j k. ((λ h. (w.keys j k).1 ((v.keys j k).0 h)), (λ h. (v.keys j k).1 ((w.keys j k).0 h)));
          edges = λ i o e. ((λ h. (w.edges i o e).1 ((v.edges i o e).0 h)), (λ h. (v.edges i o e).1 ((w.edges i o e).0 h)));
        }
