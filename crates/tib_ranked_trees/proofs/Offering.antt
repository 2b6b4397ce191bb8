-- What a rule makes of entries, put together from the last child to the first.
use Rattle.std.specs.Prelude.{◌≡◌, ℕ, ◌+◌, ◌<◌, ◌≤◌, List, [], ◌∷◌, length, drop, None, refl, Bool}
use Rattle.std.proofs.Common.{zero, suc, arith, ap, sym, ◌∙◌, subst, inl, inr, get_or}
use Rattle.tib_tree.specs.Trees.{size, sizes}
use Rattle.tib_cost.specs.Semiring.{most, cut, ProductLaws}
use Rattle.tib_cost.proofs.Times.{cut-above}
use Rattle.tib_cost.proofs.Least.{cut-cases}
use Rattle.tib_ranked_trees.specs.Levels.{trees_of, total}
use Rattle.tib_ranked_trees.specs.Pass.{Entries, entry_at, picked, AreRanks}

pub ranks_long : (entries : Entries) (qs js : List ℕ) → AreRanks entries qs js → length js ≡ length qs
ranks_long entries [] [] r = refl
ranks_long entries [] (j ∷ js) r = absurd r
ranks_long entries (q ∷ qs) [] r = absurd r
ranks_long entries (q ∷ qs) (j ∷ js) r = ap suc (ranks_long entries qs js r.1)

pub rank_at : (entries : Entries) (qs js : List ℕ) (i : ℕ) → AreRanks entries qs js → i < length qs → get_or js i 0 < length (entries (get_or qs i 0))
rank_at entries [] js i r h = absurd (omega arith)
rank_at entries (q ∷ qs) [] i r h = absurd r
rank_at entries (q ∷ qs) (j ∷ js) zero r h = r.0
rank_at entries (q ∷ qs) (j ∷ js) (suc i) r h = rank_at entries qs js i r.1 (omega arith)

-- the entries from a place on begin with that of the place
pub picked_at :
    (entries : Entries) (qs js : List ℕ) (i : ℕ) → AreRanks entries qs js → i < length qs →
    picked entries (drop i qs) (drop i js) ≡ entry_at entries (get_or qs i 0) (get_or js i 0) ∷ picked entries (drop (suc i) qs) (drop (suc i) js)
picked_at entries [] js i r h = absurd (omega arith)
picked_at entries (q ∷ qs) [] i r h = absurd r
picked_at entries (q ∷ qs) (j ∷ js) zero r h = refl
picked_at entries (q ∷ qs) (j ∷ js) (suc i) r h = picked_at entries qs js i r.1 (omega arith)

-- the cost of the entries from a place on
abbrev pub total_from : (ℕ → ℕ → ℕ) → Entries → List ℕ → List ℕ → ℕ → ℕ
total_from product entries qs js i = total product (picked entries (drop i qs) (drop i js))

abbrev pub nodes_from : Entries → List ℕ → List ℕ → ℕ → ℕ
nodes_from entries qs js i = suc (sizes (trees_of (picked entries (drop i qs) (drop i js))))

pub none_left : {A : Type 0} (xs : List A) (n : ℕ) → n ≡ length xs → drop n xs ≡ []
none_left [] zero e = refl
none_left [] (suc n) e = absurd (omega arith)
none_left (x ∷ xs) zero e = absurd (omega arith)
none_left (x ∷ xs) (suc n) e = none_left xs n (omega arith)

module _ {levelled weighted : Bool} {product : ℕ → ℕ → ℕ} (laws : ProductLaws levelled weighted product) (entries : Entries) (qs js : List ℕ) (ranks : AreRanks entries qs js) where
  pub total_begins : (n : ℕ) → n ≡ length qs → total_from product entries qs js n ≡ 0
  total_begins n e =
      let a : drop n qs ≡ [] = none_left qs n e in
      rw a

  pub total_step : (i c t : ℕ) → i < length qs → (entry_at entries (get_or qs i 0) (get_or js i 0)).1 ≡ c → t ≡ total_from product entries qs js (i + 1) → product c t ≡ total_from product entries qs js i
  total_step i c t h e f =
      let s : t ≡ total_from product entries qs js (suc i) = f ∙ ap (total_from product entries qs js) {x = i + 1} {y = suc i} (omega arith) in
      rw (picked_at entries qs js i ranks h, e, s)

  -- the cost of the entries from a place on is no more than that of all
  pub total_front : (i : ℕ) → i ≤ length qs → total_from product entries qs js i ≤ total_from product entries qs js 0
  total_front zero h = omega arith
  total_front (suc i) h =
      let b : i < length qs = omega arith in
      let c : ℕ = (entry_at entries (get_or qs i 0) (get_or js i 0)).1 in
      let step : product c (total_from product entries qs js (suc i)) ≡ total_from product entries qs js i = total_step i c (total_from product entries qs js (suc i)) b refl (ap (total_from product entries qs js) {x = suc i} {y = i + 1} (omega arith)) in
      let least : total_from product entries qs js (suc i) ≤ product c (total_from product entries qs js (suc i)) =
      subst (λ n. total_from product entries qs js (suc i) ≤ n) (laws.commutes (total_from product entries qs js (suc i)) c) (laws.at_least (total_from product entries qs js (suc i)) c)
      in
      omega (arith, total_front i (omega arith), step, least)

  pub too_dear :
      (d i c t : ℕ) → i < length qs → (entry_at entries (get_or qs i 0) (get_or js i 0)).1 ≡ c → t ≡ total_from product entries qs js (i + 1) → None ≡ cut (product c t) →
      None ≡ cut (product d (total_from product entries qs js 0))
  too_dear d i c t h e f none =
      let high : most < product c t = elim (cut-cases (product c t)) [ inl w ↦ absurd (cc (none, w.1)) | inr w ↦ w.0 ] in
      let step = total_step i c t h e f in
      let least : total_from product entries qs js 0 ≤ product d (total_from product entries qs js 0) =
      subst (λ n. total_from product entries qs js 0 ≤ n) (laws.commutes (total_from product entries qs js 0) d) (laws.at_least (total_from product entries qs js 0) d)
      in
      sym (cut-above (product d (total_from product entries qs js 0)) (omega (arith, high, step, least, total_front i (omega arith))))

module _ (entries : Entries) (qs js : List ℕ) (ranks : AreRanks entries qs js) where
  pub nodes_begin : (n : ℕ) → n ≡ length qs → nodes_from entries qs js n ≡ 1
  nodes_begin n e =
      let a : drop n qs ≡ [] = none_left qs n e in
      rw a

  pub nodes_step : (i m t : ℕ) → i < length qs → size (entry_at entries (get_or qs i 0) (get_or js i 0)).0 ≡ m → t ≡ nodes_from entries qs js (i + 1) → t + m ≡ nodes_from entries qs js i
  nodes_step i m t h e f =
      let s : t ≡ nodes_from entries qs js (suc i) = f ∙ ap (nodes_from entries qs js) {x = i + 1} {y = suc i} (omega arith) in
      rw (picked_at entries qs js i ranks h) (omega (arith, e, s))
