-- A complete run that leaves given shelves, written down: it draws all items, then numbers the keys
-- shelf by shelf, and then files the items in order.
use Rattle.std.proofs.Common.{◌≡◌, inl, inr, ⊎_elim, ℕ, zero, suc, ◌+◌, ◌<◌, ◌≤◌, Bool, true, false, List, [], ◌∷◌, ◌++◌, map, length, set, replicate, length-append, length-set, append_assoc, append-nil, get_or-set_same, set-set, refl, sym, ap, ◌∙◌, subst, arith}
use Rattle.std.specs.Prelude.{if◌then◌else◌, nat_lt}
use Rattle.std.specs.List.{list_any}
use Rattle.std.proofs.lemmas.Bool.Decides.{nat_tests}
use lib.Seq.{set-get_or}
use Rattle.tib_lex.specs.Lists.{Has, Distinct}
use Rattle.indexmap.specs.IndexSet.{insert_key}
use Rattle.tib_table.specs.Known.{on}
use Rattle.tib_table.specs.Numbered.{all_on}
use Rattle.tib_hunt.specs.declared.event.Event.{Event}
use Rattle.tib_hunt.specs.declared.event.Event.TheVariants.{Draw, Number, File}
use Rattle.tib_hunt.specs.RoundModel.{Core, opened, IsItem, with_key, after, Runs}
use Rattle.tib_hunt.specs.RoundLaw.{numbers_from, IsOutcome}
use Rattle.tib_hunt.specs.Shelved.{with_keys}
use Rattle.tib_hunt.proofs.Runs.{has_snoc}
use Rattle.tib_hunt.proofs.Underway.{all_somewhere}
use Rattle.tib_table.proofs.Inserted.{any_has}
use Rattle.tib_lex.proofs.Members.{has_right}

-- a number that is counted
counted_number : (n m i : ℕ) → n ≤ i → i < n + m → Has (numbers_from n m) i
counted_number n zero i low below = absurd (omega arith)
counted_number n (suc m) i low below = go (nat_lt n i) refl (λ later. counted_number (n + 1) m i later (omega arith))
  where
    go : (b : Bool) → nat_lt n i ≡ b → (n + 1 ≤ i → Has (numbers_from (n + 1) m) i) → Has (n ∷ numbers_from (n + 1) m) i
    go true e rest = inr (rest (let l : n < i = grind (arith, nat_tests) in omega arith))
    go false e rest = inl (let z : i ≤ n = grind (arith, nat_tests) in let q : n ≡ i = omega arith in q)

-- a place at the end of a list takes a list
set_next : {K : Type 0} (done rest : List (List K)) (ks : List K) → set (done ++ [] ∷ rest) (length done) ks ≡ done ++ ks ∷ rest
set_next [] rest ks = refl
set_next (d ∷ done) rest ks = ap (λ l. d ∷ l) (set_next done rest ks)

next_nothing : {K : Type 0} (done rest : List (List K)) → on (done ++ [] ∷ rest) (length done) ≡ []
next_nothing [] rest = refl
next_nothing (d ∷ done) rest = next_nothing done rest

module _ {K : Type 0} (eq : K → K → Bool) (same : (x y : K) → eq x y ≡ true → x ≡ y) (self : (x : K) → eq x x ≡ true) (shelf : K → ℕ) where
  -- keys are numbered, and then others
  keys_both : (s : Core K) (ks more : List K) → with_keys eq shelf s (ks ++ more) ≡ with_keys eq shelf (with_keys eq shelf s ks) more
  keys_both s [] more = refl
  keys_both s (k ∷ ks) more = keys_both (with_key eq shelf s k) ks more

  abbrev with_shelf : Core K → ℕ → List K → Core K
  with_shelf s j ks = record { drawn = s.drawn; shelves = set s.shelves j ks; filed = s.filed }

  new_last : (k : K) (front : List K) → (Has front k → ⊥) → insert_key eq front k ≡ front ++ k ∷ []
  new_last k front none = go (list_any (eq k) front) refl
    where
      go : (b : Bool) → list_any (eq k) front ≡ b → (if b then front else front ++ k ∷ []) ≡ front ++ k ∷ []
      go true e = absurd (none (any_has eq same self k front e))
      go false e = refl

  not_before : (front : List K) (k : K) (ks : List K) → Distinct (front ++ k ∷ ks) → Has front k → ⊥
  not_before [] k ks d h = h
  not_before (x ∷ front) k ks d (inl e) = d.0 (subst (Has (front ++ k ∷ ks)) (sym e) (has_right front (k ∷ ks) k (inl refl)))
  not_before (x ∷ front) k ks d (inr h) = not_before front k ks d.1 h

  -- distinct keys of one shelf are appended there
  keys_on : (ks : List K) (s : Core K) (j : ℕ) (front : List K) → j < length s.shelves → on s.shelves j ≡ front → ((k : K) → Has ks k → shelf k ≡ j) → Distinct (front ++ ks)
      → with_keys eq shelf s ks ≡ with_shelf s j (front ++ ks)
  keys_on [] s j front low is own d =
      ap (λ (l : List (List K)). record { drawn = s.drawn; shelves = l; filed = s.filed }) (sym (set-get_or s.shelves j []))
      ∙ ap (λ (l : List K). with_shelf s j l) (is ∙ sym (append-nil front))
  keys_on (k ∷ ks) s j front low is own d =
      let here : shelf k ≡ j = own k (inl refl) in
      let new : insert_key eq (on s.shelves j) k ≡ front ++ k ∷ [] = ap (λ (l : List K). insert_key eq l k) is ∙ new_last k front (not_before front k ks d) in
      let one : with_key eq shelf s k ≡ with_shelf s j (front ++ k ∷ []) = ap (λ (i : ℕ). with_shelf s i (insert_key eq (on s.shelves i) k)) here ∙ ap (with_shelf s j) new in
      let wide : length (set s.shelves j (front ++ k ∷ [])) ≡ length s.shelves = length-set s.shelves j (front ++ k ∷ []) in
      let rest = keys_on ks (with_shelf s j (front ++ k ∷ [])) j (front ++ k ∷ []) (omega arith) (get_or-set_same s.shelves j (front ++ k ∷ []) [] low) (λ x h. own x (inr h)) (subst Distinct (sym (append_assoc front (k ∷ []) ks)) d) in
      ap (λ (u : Core K). with_keys eq shelf u ks) one ∙ rest
      ∙ ap (λ (l : List (List K)). record { drawn = s.drawn; shelves = l; filed = s.filed }) (set-set s.shelves j (front ++ k ∷ []) ((front ++ k ∷ []) ++ ks))
      ∙ ap (with_shelf s j) (append_assoc front (k ∷ []) ks)

  abbrev with_shelves : ℕ → List ℕ → List (List K) → Core K
  with_shelves drawn filed kss = record { drawn = drawn; shelves = kss; filed = filed }

  -- the keys of shelves are numbered, shelf by shelf
  shelves_filled : (drawn : ℕ) (filed : List ℕ) (done rest : List (List K)) → ((i : ℕ) (k : K) → Has (on rest i) k → shelf k ≡ length done + i) → ((i : ℕ) → Distinct (on rest i))
      → with_keys eq shelf (with_shelves drawn filed (done ++ replicate (length rest) [])) (all_on rest) ≡ with_shelves drawn filed (done ++ rest)
  shelves_filled drawn filed done [] own once = refl
  shelves_filled drawn filed done (ks ∷ kss) own once =
      let empty : List (List K) = replicate (length kss) [] in
      let long : length (done ++ [] ∷ empty) ≡ length done + length ([] ∷ empty) = length-append done ([] ∷ empty) in
      let low : length done < length (done ++ [] ∷ empty) = omega arith in
      let first : with_keys eq shelf (with_shelves drawn filed (done ++ [] ∷ empty)) ks ≡ with_shelves drawn filed ((done ++ ks ∷ []) ++ empty) =
      keys_on ks (with_shelves drawn filed (done ++ [] ∷ empty)) (length done) [] low (next_nothing done empty) (λ k h. let o = own 0 k h in omega arith) (once 0)
      ∙ ap (with_shelves drawn filed) (set_next done empty ks ∙ sym (append_assoc done (ks ∷ []) empty)) in
      let grown : length (done ++ ks ∷ []) ≡ length done + 1 = length-append done (ks ∷ []) in
      keys_both (with_shelves drawn filed (done ++ [] ∷ empty)) ks (all_on kss)
      ∙ ap (λ (u : Core K). with_keys eq shelf u (all_on kss)) first
      ∙ shelves_filled drawn filed (done ++ ks ∷ []) kss (λ i k h. let o = own (suc i) k h in omega arith) (λ i. once (suc i))
      ∙ ap (with_shelves drawn filed) (append_assoc done (ks ∷ []) kss)

  module _ (first count : ℕ) (is_end : ℕ → K → Type 0) where
    abbrev Leads : Core K → List (Event K) → Core K → Type 0
    Leads = Runs eq shelf first count is_end

    -- one run goes on where another ends
    leads_both : (s : Core K) (es fs : List (Event K)) (t u : Core K) → Leads s es t → Leads t fs u → Leads s (es ++ fs) u
    leads_both s [] fs t u a b = subst (λ (v : Core K). Leads v fs u) a b
    leads_both s (e ∷ es) fs t u a b = (a.0, leads_both (after eq shelf first count is_end s e) es fs t u a.1 b)

    -- items are drawn
    leads_draws : (n drawn : ℕ) (shelves : List (List K)) (filed : List ℕ) (last : ℕ) → last ≡ drawn + n → last ≤ count
        → Leads (record { drawn = drawn; shelves = shelves; filed = filed }) (replicate n Draw) (record { drawn = last; shelves = shelves; filed = filed })
    leads_draws zero drawn shelves filed last is few = ap (λ (d : ℕ). record { drawn = d; shelves = shelves; filed = filed }) (let z : last ≡ drawn = omega arith in z)
    leads_draws (suc n) drawn shelves filed last is few =
        let b : nat_lt drawn count ≡ true = grind (arith, nat_tests) in (
          tt,
          subst (λ (c : Bool). Leads (record { drawn = if c then drawn + 1 else drawn; shelves = shelves; filed = filed }) (replicate n Draw) (record { drawn = last; shelves = shelves; filed = filed })) (sym b)
              (leads_draws n (drawn + 1) shelves filed last (omega arith) few),
        )

    -- ends of drawn items are numbered
    leads_keys : (s : Core K) (ks : List K) → ((k : K) → Has ks k → (i : ℕ) × IsItem first s.drawn i × is_end i k) → Leads s (map (λ (k : K). Number k) ks) (with_keys eq shelf s ks)
    leads_keys s [] ends = refl
    leads_keys s (k ∷ ks) ends = (ends k (inl refl), leads_keys (with_key eq shelf s k) ks (λ x h. ends x (inr h)))

    -- items are filed whose ends are on the shelves
    leads_files : (m n drawn : ℕ) (shelves : List (List K)) (filed : List ℕ) → ((i : ℕ) → Has filed i → i < n) → first ≤ n → n + m ≤ first + drawn
        → ((i : ℕ) (k : K) → n ≤ i → i < n + m → is_end i k → Has (on shelves (shelf k)) k)
        → Leads (record { drawn = drawn; shelves = shelves; filed = filed }) (map (λ (i : ℕ). File i) (numbers_from n m)) (record { drawn = drawn; shelves = shelves; filed = filed ++ numbers_from n m })
    leads_files zero n drawn shelves filed below from few stand = ap (λ (l : List ℕ). record { drawn = drawn; shelves = shelves; filed = l }) (append-nil filed)
    leads_files (suc m) n drawn shelves filed below from few stand = (
      ((from, omega arith), (λ h. let b = below n h in absurd (omega arith)), (λ k e. stand n k (omega arith) (omega arith) e)),
      subst (λ (l : List ℕ). Leads (record { drawn = drawn; shelves = shelves; filed = filed ++ n ∷ [] }) (map (λ (i : ℕ). File i) (numbers_from (n + 1) m)) (record { drawn = drawn; shelves = shelves; filed = l })) (append_assoc filed (n ∷ []) (numbers_from (n + 1) m))
          (leads_files m (n + 1) drawn shelves (filed ++ n ∷ []) (λ i h. ⊎_elim (λ a. let b = below i a in omega arith) (λ (e : n ≡ i). omega arith) (has_snoc filed n i h)) (omega arith) (omega arith) (λ i k a b. stand i k (omega arith) (omega arith))),
    )

    -- The shelves are what a complete run leaves: each key on them is an end of an item, is on its
    -- own shelf and there once, and each end of an item is on its shelf.
    pub written_down : (shelves : List (List K)) (rows : ℕ) → length shelves ≡ 16 → rows ≡ count
        → ((i : ℕ) (k : K) → Has (on shelves i) k → (shelf k ≡ i) × ((j : ℕ) × IsItem first count j × is_end j k))
        → ((i : ℕ) → Distinct (on shelves i))
        → ((i : ℕ) (k : K) → first ≤ i → i < first + count → is_end i k → Has (on shelves (shelf k)) k)
        → IsOutcome eq shelf first count is_end shelves rows
    written_down shelves rows wide each only once stand =
        let ks = all_on shelves in
        let filled : with_keys eq shelf (with_shelves count [] (replicate 16 [])) ks ≡ with_shelves count [] shelves =
        subst (λ (n : ℕ). with_keys eq shelf (with_shelves count [] (replicate n [])) ks ≡ with_shelves count [] shelves) wide
        (shelves_filled count [] [] shelves (λ i k h. (only i k h).0 ∙ (let z : i ≡ 0 + i = omega arith in z)) once) in
        let draws = leads_draws count 0 (replicate 16 []) [] count (omega arith) (omega arith) in
        let keys = subst (Leads (with_shelves count [] (replicate 16 [])) (map (λ (k : K). Number k) ks)) filled
        (leads_keys (with_shelves count [] (replicate 16 [])) ks (λ k h. let j = all_somewhere shelves k h in (only j.0 k j.1).1)) in
        let files = leads_files rows first count shelves [] (λ i h. absurd h) (omega arith) (omega arith) (λ i k a b. stand i k a (omega arith)) in (
          replicate count Draw ++ (map (λ (k : K). Number k) ks ++ map (λ (i : ℕ). File i) (numbers_from first rows)),
          (
            leads_both opened (replicate count Draw) (map (λ (k : K). Number k) ks ++ map (λ (i : ℕ). File i) (numbers_from first rows)) (with_shelves count [] (replicate 16 [])) (with_shelves count (numbers_from first rows) shelves) draws
                (leads_both (with_shelves count [] (replicate 16 [])) (map (λ (k : K). Number k) ks) (map (λ (i : ℕ). File i) (numbers_from first rows)) (with_shelves count [] shelves) (with_shelves count (numbers_from first rows) shelves) keys files),
            (refl, λ i item. counted_number first rows i item.0 (let b = item.1 in omega arith)),
          ),
        )
