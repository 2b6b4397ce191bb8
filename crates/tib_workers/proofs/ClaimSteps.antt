-- Each step keeps the rule of the claim counter.
use Rattle.std.proofs.Common.{◌≡◌, ◌≢◌, ℕ, suc, ◌+◌, ◌-◌, ◌%◌, ◌^◌, ◌<◌, ◌≤◌, List, [], ◌∷◌, ◌++◌, get_or, set, min, refl, sym, ap, ◌∙◌, subst, ⊎_elim, arith, length-set, get_or-set_same, mod-eq_of_lt}
use native.Mathlib.Decide.{dec_lt}
use mathlib.Core.Option.{none, some}
use lib.ListN.{get_elem?}
use Rattle.atomic_table.proofs.Lists.{at_set}
use Rattle.atomic_table.specs.Table.{State, Me, step, keeps, Allows, Splits, Joins}
use Rattle.tib_workers.specs.declared.claim.Claim.{Claim}
use Rattle.tib_workers.specs.ClaimRule.{claim, IsFair, EachIsDrawnOnce, IsTold, Drew, Looked}
use Rattle.tib_workers.specs.Claims.{one_if, once_below}
use Rattle.tib_workers.proofs.Totals.{total_set, total_snoc, total_at, total_le, alone}
use Rattle.tib_workers.proofs.Occurrences.{occurrences-append, once_le}
use Rattle.tib_turn.proofs.Lists.{here_after, all_set, all_snoc}
use Rattle.tib_lex.specs.Lists.{total, occurrences}

abbrev St : Type 0
St = State ℕ Claim

tells : (count : ℕ) (s : St) → EachIsDrawnOnce count s → (j : ℕ) (v : Claim) → get_elem? s.views j ≡ some v → 0 < v.shares → IsTold v
tells count s c j v at some_share =
    let same = (c.fair j v at).same some_share in (
      (λ x. let a = total_at (λ u. occurrences x u.drawn) s.views j v at in let b = once_le x (min (get_or s.words 0 0) count) in let o = c.once x in omega arith),
      (λ all some_none x.
          let mine = alone (λ u. occurrences x u.drawn) (λ u. u.shares) s.views j v at (λ k u there none. ap (occurrences x) ((c.fair k u there).idle none)) (c.shared ∙ sym all) in
          let nones = total_at (λ u. u.nones) s.views j v at in
          let t = c.tally in
          let full : min (get_or s.words 0 0) count ≡ v.count = omega arith in
          sym mine ∙ c.once x ∙ ap (once_below x) full),
    )

-- the rule after a step that makes the word n and the view w
moved : (count id n : ℕ) (s : St) (v w : Claim) → EachIsDrawnOnce count s → get_elem? s.views id ≡ some v
    → ((x : ℕ) → once_below x (min n count) + occurrences x v.drawn ≡ once_below x (min (get_or s.words 0 0) count) + occurrences x w.drawn)
    → n + min (get_or s.words 0 0) count + v.nones ≡ min n count + get_or s.words 0 0 + w.nones
    → w.shares ≡ v.shares → IsFair count w
    → EachIsDrawnOnce count record { words = set s.words 0 n; homes = s.homes; views = set s.views id w }
moved count id n s v w c at drawn nones shares fair =
    let wide = c.wide in
    let word : get_or (set s.words 0 n) 0 0 ≡ n = get_or-set_same s.words 0 n 0 (omega arith) in record {
      small = c.small;
      wide = length-set s.words 0 n ∙ c.wide;
      once = λ x.
          let t = total_set (λ u. occurrences x u.drawn) s.views id v w at in
          let o = c.once x in
          let d = drawn x in
          let e : total (λ u. occurrences x u.drawn) (set s.views id w) ≡ once_below x (min n count) = omega arith in
          e ∙ ap (λ k. once_below x (min k count)) (sym word);
      tally =
          let t = total_set (λ u. u.nones) s.views id v w at in
          let o = c.tally in
          let e : n ≡ min n count + total (λ u. u.nones) (set s.views id w) = omega arith in
          word ∙ e ∙ ap (λ k. min k count + total (λ u. u.nones) (set s.views id w)) (sym word);
      shared =
          let t = total_set (λ u. u.shares) s.views id v w at in
          let o = c.shared in omega arith;
      fair = all_set (λ _ u. IsFair count u) s.views id w fair (λ j u _ e. c.fair j u e);
    }

-- the word stays small
roomy : (count : ℕ) (s : St) → EachIsDrawnOnce count s → get_or s.words 0 0 < 2 ^ 63
roomy count s c =
    let owed = total_le (λ u. u.nones) (λ u. u.shares) s.views (λ j v at. (c.fair j v at).owed) in
    let t = c.tally in let o = c.shared in let k = c.small in omega arith

step_up : (x n count : ℕ) → n < count → once_below x (min (suc n) count) ≡ one_if x n + once_below x (min n count)
step_up x n count h =
    let a : min (suc n) count ≡ suc n = omega arith in
    let b : min n count ≡ n = omega arith in
    ap (once_below x) a ∙ ap (λ k. one_if x n + once_below x k) (sym b)

draws_from : (count id : ℕ) (m : Me ℕ Claim) (s : St) → EachIsDrawnOnce count s → get_elem? s.views id ≡ some m.0 → 0 < m.0.shares → m.0.nones ≡ 0 → (n : ℕ) → get_or s.words 0 0 ≡ n → Dec (n < count)
    → (w : Claim) × EachIsDrawnOnce count record { words = set s.words 0 (suc n); homes = s.homes; views = set s.views id w }
    × (n < m.0.count → w ≡ claim m.0.count m.0.shares m.0.nones (m.0.drawn ++ n ∷ []))
    × (m.0.count ≤ n → w ≡ claim m.0.count m.0.shares (m.0.nones + 1) m.0.drawn)
    × IsTold w
draws_from count id m s c at some_share going n is (yes here) =
    let f = c.fair id m.0 at in
    let same = f.same some_share in
    let w : Claim = claim m.0.count m.0.shares m.0.nones (m.0.drawn ++ n ∷ []) in
    let next = moved count id (suc n) s m.0 w c at
    (λ x. let a = occurrences-append x m.0.drawn (n ∷ []) in let b = step_up x n count here in let k = ap (λ k. once_below x (min k count)) is in omega arith)
    (omega arith) refl
    record { same = f.same; owed = f.owed; idle = λ none. absurd (omega arith) } in
    (w, next, (λ _. refl), (λ far. absurd (omega arith)), tells count _ next id w (here_after s.views id m.0 w at) some_share)
draws_from count id m s c at some_share going n is (no far) =
    let f = c.fair id m.0 at in
    let same = f.same some_share in
    let w : Claim = claim m.0.count m.0.shares (m.0.nones + 1) m.0.drawn in
    let full : min (suc n) count ≡ min (get_or s.words 0 0) count = omega arith in
    let next = moved count id (suc n) s m.0 w c at
    (λ x. ap (λ k. once_below x k + occurrences x m.0.drawn) full)
    (omega arith) refl
    record { same = f.same; owed = omega arith; idle = λ none. absurd (omega arith) } in
    (w, next, (λ near. absurd (omega arith)), (λ _. refl), tells count _ next id w (here_after s.views id m.0 w at) some_share)

-- a draw keeps the rule
pub draws : (count slots id : ℕ) (m : Me ℕ Claim) → 0 < m.0.shares → m.0.nones ≡ 0 → Allows (EachIsDrawnOnce count) slots id m 0 (λ n. (n + 1) % 2 ^ 64) (Drew (step slots 0 1 0 none) m)
draws count slots id m some_share going s c long at small =
    let n : ℕ = get_or s.words 0 0 in
    let room = roomy count s c in
    let up : suc n ≡ (n + 1) % 2 ^ 64 = let a : n + 1 ≡ suc n = omega arith in sym (mod-eq_of_lt (omega arith) ∙ a) in
    let d = draws_from count id m s c at some_share going n refl (dec_lt n count) in
    (d.0, keeps, tt, subst (λ k. EachIsDrawnOnce count record { words = set s.words 0 k; homes = s.homes; views = set s.views id d.0 }) up d.1, (refl, d.2, d.3, d.4))

-- a look keeps the rule
pub looks : (count slots id : ℕ) (m : Me ℕ Claim) → 0 < m.0.shares → Allows (EachIsDrawnOnce count) slots id m 0 (λ n. n) (Looked (step slots 0 0 0 none) m)
looks count slots id m some_share s c long at small =
    let next = moved count id (get_or s.words 0 0) s m.0 m.0 c at (λ x. refl) (omega arith) refl (c.fair id m.0 at) in
    (m.0, keeps, tt, next, (refl, tells count s c id m.0 at some_share))

-- a split keeps the rule
pub parts : (count id : ℕ) (v : Claim) → 1 < v.shares → v.nones ≡ 0 → Splits (EachIsDrawnOnce count) id v (claim v.count (v.shares - 1) v.nones v.drawn) (claim v.count 1 0 [])
parts count id v more going s c at =
    let f = c.fair id v at in
    let l : Claim = claim v.count (v.shares - 1) v.nones v.drawn in
    let r : Claim = claim v.count 1 0 [] in
    let vs : List Claim = set s.views id l in record {
      small = c.small;
      wide = c.wide;
      once = λ x. let a = total_set (λ u. occurrences x u.drawn) s.views id v l at in let b = total_snoc (λ u. occurrences x u.drawn) vs r in let o = c.once x in omega arith;
      tally = let a = total_set (λ u. u.nones) s.views id v l at in let b = total_snoc (λ u. u.nones) vs r in let o = c.tally in omega arith;
      shared = let a = total_set (λ u. u.shares) s.views id v l at in let b = total_snoc (λ u. u.shares) vs r in let o = c.shared in omega arith;
      fair = all_snoc (λ _ u. IsFair count u) vs r (λ _. record { same = λ _. f.same (omega arith); owed = omega arith; idle = λ _. refl })
          (all_set (λ _ u. IsFair count u) s.views id l record { same = λ _. f.same (omega arith); owed = omega arith; idle = λ none. absurd (omega arith) } (λ j u _ e. c.fair j u e));
    }

-- a join keeps the rule
pub joins : (count id : ℕ) (v : Claim) (other : ℕ) (u : Claim) → 0 < v.shares → Joins (EachIsDrawnOnce count) id v other u (claim v.count (v.shares + u.shares) (v.nones + u.nones) (v.drawn ++ u.drawn)) (claim 0 0 0 [])
joins count id v other u some_share s c at apart there =
    let f = c.fair id v at in
    let b : Claim = claim v.count (v.shares + u.shares) (v.nones + u.nones) (v.drawn ++ u.drawn) in
    let z : Claim = claim 0 0 0 [] in
    let vs : List Claim = set s.views id b in
    let was : get_elem? s.views other ≡ some u = ⊎_elim (λ (t : (other ≡ id) × (b ≡ u)). absurd (apart t.0)) (λ (t : (other ≢ id) × (get_elem? s.views other ≡ some u)). t.1) (at_set s.views id other b u there) in
    let g = c.fair other u was in record {
      small = c.small;
      wide = c.wide;
      once = λ x. let a = total_set (λ y. occurrences x y.drawn) s.views id v b at in let k = total_set (λ y. occurrences x y.drawn) vs other u z there in let o = c.once x in let t = occurrences-append x v.drawn u.drawn in omega arith;
      tally = let a = total_set (λ y. y.nones) s.views id v b at in let k = total_set (λ y. y.nones) vs other u z there in let o = c.tally in omega arith;
      shared = let a = total_set (λ y. y.shares) s.views id v b at in let k = total_set (λ y. y.shares) vs other u z there in let o = c.shared in omega arith;
      fair = all_set (λ _ u. IsFair count u) vs other z record { same = λ some_share. absurd (omega arith); owed = omega arith; idle = λ _. refl }
          (λ j u _ e. all_set (λ _ u. IsFair count u) s.views id b record { same = λ _. f.same some_share; owed = let p = f.owed in let q = g.owed in omega arith; idle = λ none. absurd (omega arith) } (λ j u _ e. c.fair j u e) j u e);
    }
