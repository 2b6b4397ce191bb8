-- The steps of the search for an order.
use Rattle.std.specs.Prelude.{◌≡◌, ℕ, ◌+◌, ◌<◌, ◌≤◌, ◌⊎◌, List, [], ◌∷◌, ◌++◌, length, take, sum_by, slice_set, refl}
use Rattle.std.proofs.Common.{arith, ap, sym, ◌∙◌, subst, inl, inr, get_or}
use Rattle.std.proofs.lemmas.List.{get_or-set_same, get_or-set_other, length-set, length_push, get_or_push, get_or_append_left, take-append-le, take_all, get_or_past, get_or_default}
use Rattle.std.proofs.lemmas.List.Sums.{sum_by-set}
use Rattle.tib_lex.specs.Lists.{Has, Distinct}
use Rattle.tib_lex.proofs.Members.{has_left, has_right, has_either, has_at, distinct_more}
use Rattle.tib_lex.proofs.Numbers.{same_or_other, below_cases}
use Rattle.tib_grammar.specs.Range.{AreBelow}
use Rattle.tib_count.specs.Edges.{IsEdge}
use Rattle.tib_count.specs.declared.order.Phase.{Phase}
use Rattle.tib_count.specs.declared.order.Phase.TheVariants.{Unseen, Begun, Settled}
use Rattle.tib_count.specs.Order.{IsCircle, IsPath, IsAt, IsCursor, IsSearching, Skips, changes_left}

place : (i n : ℕ) → (i < n) ⊎ (n ≤ i)
place i n = grind arith

-- Phases

begun_below : (phases : List Phase) (q : ℕ) → IsAt phases q Begun → q < length phases
begun_below phases q h = elim (place q (length phases)) [
  | inl k ↦ k
  | inr k ↦ let bad : Unseen ≡ Begun = sym (get_or_past phases q Unseen k) ∙ h in absurd (cc bad)
]

pub phase_at : (phases : List Phase) (i : ℕ) (d x : Phase) → i < length phases → get_or phases i d ≡ x → IsAt phases i x
phase_at phases i d x h e = get_or_default phases i Unseen d h ∙ e

pub is_begun : (phase : Phase) → (phase ≡ Unseen → ⊥) → (phase ≡ Settled → ⊥) → phase ≡ Begun
is_begun Unseen u s = absurd (u refl)
is_begun Begun u s = refl
is_begun Settled u s = absurd (s refl)

one_left : (phase : Phase) → phase ≡ Begun → changes_left phase ≡ 1
one_left phase e = ap changes_left e

pub settle_less : (phases : List Phase) (q : ℕ) → q < length phases → IsAt phases q Begun →
    sum_by changes_left (slice_set phases q Settled) < sum_by changes_left phases
settle_less phases q h b =
    let one : changes_left (get_or phases q Unseen) ≡ 1 = ap changes_left b in
    let sums : sum_by changes_left (slice_set phases q Settled) + changes_left (get_or phases q Unseen) ≡ sum_by changes_left phases + 0 =
    sum_by-set changes_left phases q Settled Unseen h in
    omega arith

pub begin_less : (phases : List Phase) (q : ℕ) → q < length phases → IsAt phases q Unseen →
    sum_by changes_left (slice_set phases q Begun) < sum_by changes_left phases
begin_less phases q h b =
    let two : changes_left (get_or phases q Unseen) ≡ 2 = ap changes_left b in
    let sums : sum_by changes_left (slice_set phases q Begun) + changes_left (get_or phases q Unseen) ≡ sum_by changes_left phases + 1 =
    sum_by-set changes_left phases q Begun Unseen h in
    omega arith

-- Paths

path_front : (E : ℕ → ℕ → Type 0) (rest : List ℕ) (x : ℕ) → IsPath E (rest ++ x ∷ []) → IsPath E rest
path_front E [] x p = tt
path_front E (z ∷ []) x p = tt
path_front E (z ∷ (w ∷ ws)) x p = (p.0, path_front E (w ∷ ws) x p.1)

path_more : (E : ℕ → ℕ → Type 0) (rest : List ℕ) (x y : ℕ) → IsPath E (rest ++ x ∷ []) → E x y → IsPath E ((rest ++ x ∷ []) ++ y ∷ [])
path_more E [] x y p e = (e, tt)
path_more E (z ∷ []) x y p e = (p.0, (e, tt))
path_more E (z ∷ (w ∷ ws)) x y p e = (p.0, path_more E (w ∷ ws) x y p.1 e)

path_circle :
    (E : ℕ → ℕ → Type 0) (all rest : List ℕ) (x y : ℕ) → ((z : ℕ) → Has (rest ++ x ∷ []) z → Has all z) → IsPath E (rest ++ x ∷ []) → E x y → Has all y →
    (q : ℕ) → Has (rest ++ x ∷ []) q → (p : ℕ) × E q p × Has all p
path_circle E all [] x y sub p e h q k = elim k [ inl same ↦ (y, subst (λ z. E z y) same e, h) | inr f ↦ absurd f ]
path_circle E all (z ∷ []) x y sub p e h q k = elim k [
  | inl same ↦ (x, subst (λ v. E v x) same p.0, sub x (inr (inl refl)))
  | inr l ↦ elim l [ inl same ↦ (y, subst (λ v. E v y) same e, h) | inr f ↦ absurd f ]
]
path_circle E all (z ∷ (w ∷ ws)) x y sub p e h q k = elim k [
  | inl same ↦ (w, subst (λ v. E v w) same p.0, sub w (inr (inl refl)))
  | inr l ↦ path_circle E all (w ∷ ws) x y (λ v m. sub v (inr m)) p.1 e h q l
]

distinct_front : (rest : List ℕ) (x : ℕ) → Distinct (rest ++ x ∷ []) → Distinct rest
distinct_front [] x d = tt
distinct_front (y ∷ rest) x d = (λ h. d.0 (has_left rest (x ∷ []) y h), distinct_front rest x d.1)

distinct_last : (rest : List ℕ) (x q : ℕ) → Distinct (rest ++ x ∷ []) → Has rest q → q ≡ x → ⊥
distinct_last [] x q d h e = h
distinct_last (y ∷ rest) x q d h e = elim h [
  | inl same ↦ d.0 (has_right rest (x ∷ []) y (inl (sym e ∙ sym same)))
  | inr k ↦ distinct_last rest x q d.1 k e
]

bottom_front : (rest : List ℕ) (x : ℕ) → get_or (rest ++ x ∷ []) 0 0 ≡ 0 → get_or rest 0 0 ≡ 0
bottom_front [] x e = refl
bottom_front (y ∷ rest) x e = e

bottom_alone : (rest : List ℕ) (x : ℕ) → length rest ≡ 0 → get_or (rest ++ x ∷ []) 0 0 ≡ 0 → x ≡ 0
bottom_alone [] x h e = e
bottom_alone (y ∷ rest) x h e = absurd (omega (arith, h))

-- Steps

pub skipped : (froms tos : List ℕ) (phases : List Phase) (q i p : ℕ) → IsCursor froms tos phases q i → Skips froms tos phases i p → IsCursor froms tos phases q p
skipped froms tos phases q i p c s = record {
  within = s.within;
  own = λ h. s.own h ∙ c.own (omega (arith, s.from));
  settled = λ n b f. elim (place n i) [
    | inl l ↦ c.settled n l f
    | inr l ↦ s.settled n l b (f ∙ sym (c.own (omega (arith, s.within))))
  ];
}

pub last_begun :
    (froms tos : List ℕ) (phases : List Phase) (cursors path order rest : List ℕ) (q : ℕ) → path ≡ rest ++ q ∷ [] → IsSearching froms tos phases cursors path order → IsAt phases q Begun
last_begun froms tos phases cursors path order rest q e s = s.on_path q (subst (λ xs. Has xs q) (sym e) (has_right rest (q ∷ []) q (inl refl)))

pub last_below :
    (froms tos : List ℕ) (phases : List Phase) (cursors path order rest : List ℕ) (q : ℕ) → path ≡ rest ++ q ∷ [] → IsSearching froms tos phases cursors path order → q < length phases
last_below froms tos phases cursors path order rest q e s = begun_below phases q (last_begun froms tos phases cursors path order rest q e s)

-- the cursor of the last state, moved on
pub last_cursor :
    (froms tos : List ℕ) (phases : List Phase) (cursors path order rest : List ℕ) (q p : ℕ) → path ≡ rest ++ q ∷ [] → IsSearching froms tos phases cursors path order →
    Skips froms tos phases (get_or cursors q 0) p → IsCursor froms tos phases q p
last_cursor froms tos phases cursors path order rest q p e s k =
    skipped froms tos phases q (get_or cursors q 0) p (s.cursor q (last_below froms tos phases cursors path order rest q e s)) k

-- where it is at the end, the state is settled
module _ (froms tos : List ℕ) (phases : List Phase) (cursors order rest : List ℕ) (q : ℕ) (s : IsSearching froms tos phases cursors (rest ++ q ∷ []) order) (c : IsCursor froms tos phases q (length froms)) where
  settled_kept : (p : ℕ) → q < length phases → IsAt phases p Settled → IsAt (slice_set phases q Settled) p Settled
  settled_kept p b h = elim (same_or_other p q) [
    | inl e ↦ subst (λ z. IsAt (slice_set phases q Settled) z Settled) (sym e) (get_or-set_same phases q Settled Unseen b)
    | inr e ↦ get_or-set_other phases q p Settled Unseen e ∙ h
  ]

  settled_after : (k p : ℕ) → k < length (order ++ q ∷ []) → IsEdge froms tos (get_or (order ++ q ∷ []) k 0) p → Has (take k (order ++ q ∷ [])) p
  settled_after k p h edge = elim (below_cases k (length order) (omega (arith, length_push order q))) [
    | inl l ↦
        subst (λ xs. Has xs p) (sym (take-append-le k order (q ∷ []) (omega arith)))
        (s.after k p l (subst (λ z. IsEdge froms tos z p) (get_or_append_left order (q ∷ []) 0 k l) edge))
    | inr e ↦
        let own : IsEdge froms tos q p = subst (λ z. IsEdge froms tos z p) (get_or_push order q 0 k (sym e)) edge in
        let all : take k (order ++ q ∷ []) ≡ order = take-append-le k order (q ∷ []) (omega arith) ∙ take_all k order (omega arith) in
        subst (λ xs. Has xs p) (sym all)
        (s.settled p (subst (λ z. IsAt phases z Settled) own.to (c.settled own.place own.within own.from)))
  ]

  settled_below : q < length phases → AreBelow (length (slice_set phases q Settled)) (order ++ q ∷ [])
  settled_below b i h = elim (below_cases i (length order) (omega (arith, length_push order q))) [
    | inl l ↦ omega (arith, get_or_append_left order (q ∷ []) 0 i l, s.below i l, length-set phases q Settled)
    | inr e ↦ omega (arith, get_or_push order q 0 i (sym e), length-set phases q Settled)
  ]

  settled_on : IsSearching froms tos (slice_set phases q Settled) cursors rest (order ++ q ∷ [])
  settled_on =
      let on : IsAt phases q Begun = s.on_path q (has_right rest (q ∷ []) q (inl refl)) in
      let b : q < length phases = begun_below phases q on in
      let here : IsAt (slice_set phases q Settled) q Settled = get_or-set_same phases q Settled Unseen b in
      record {
        long = s.long ∙ sym (length-set phases q Settled);
        cursor = λ p h.
            let old = s.cursor p (omega (arith, length-set phases q Settled)) in
            record { within = old.within; own = old.own; settled = λ n l f. settled_kept (get_or tos n 0) b (old.settled n l f) };
        settled = λ p h. elim (same_or_other p q) [
          | inl e ↦ has_right order (q ∷ []) p (inl (sym e))
          | inr e ↦ has_left order (q ∷ []) p (s.settled p (sym (get_or-set_other phases q p Settled Unseen e) ∙ h))
        ];
        begun = λ p h. elim (same_or_other p q) [
          | inl e ↦ let bad : Settled ≡ Begun = sym here ∙ subst (λ z. IsAt (slice_set phases q Settled) z Begun) e h in absurd (cc bad)
          | inr e ↦ elim (has_either rest (q ∷ []) p (s.begun p (sym (get_or-set_other phases q p Settled Unseen e) ∙ h))) [
            | inl k ↦ k
            | inr k ↦ elim k [ inl f ↦ absurd (e (sym f)) | inr f ↦ absurd f ]
          ]
        ];
        on_path = λ p h. get_or-set_other phases q p Settled Unseen (distinct_last rest q p s.once h) ∙ s.on_path p (has_left rest (q ∷ []) p h);
        once = distinct_front rest q s.once;
        path_leads = path_front (IsEdge froms tos) rest q s.path_leads;
        bottom = bottom_front rest q s.bottom;
        done = λ h. subst (λ z. IsAt (slice_set phases q Settled) z Settled) (bottom_alone rest q h s.bottom) here;
        below = settled_below b;
        after = settled_after;
      }

-- otherwise a state that it leads to is begun
module _ (froms tos : List ℕ) (phases : List Phase) (cursors order rest : List ℕ) (q at p : ℕ)
    (s : IsSearching froms tos phases cursors (rest ++ q ∷ []) order) (c : IsCursor froms tos phases q at) (edge : IsEdge froms tos q p) (b : p < length phases) (fresh : IsAt phases p Unseen) where
  begun_kept : (v : ℕ) → IsAt phases v Settled → IsAt (slice_set phases p Begun) v Settled
  begun_kept v h = elim (same_or_other v p) [
    | inl e ↦ let bad : Unseen ≡ Settled = sym fresh ∙ subst (λ z. IsAt phases z Settled) e h in absurd (cc bad)
    | inr e ↦ get_or-set_other phases p v Begun Unseen e ∙ h
  ]

  not_on_path : (v : ℕ) → Has (rest ++ q ∷ []) v → v ≡ p → ⊥
  not_on_path v h e = let bad : Unseen ≡ Begun = sym fresh ∙ subst (λ z. IsAt phases z Begun) e (s.on_path v h) in cc bad

  cursor_on : q < length phases → (v : ℕ) → v < length phases → IsCursor froms tos (slice_set phases p Begun) v (get_or (slice_set cursors q at) v 0)
  cursor_on l v h = elim (same_or_other v q) [
    | inl e ↦
        subst (λ z. IsCursor froms tos (slice_set phases p Begun) z (get_or (slice_set cursors q at) z 0)) (sym e)
        (subst (IsCursor froms tos (slice_set phases p Begun) q) (sym (get_or-set_same cursors q at 0 (omega (arith, s.long))))
        (record { within = c.within; own = c.own; settled = λ n m f. begun_kept (get_or tos n 0) (c.settled n m f) }))
    | inr e ↦
        let old = s.cursor v h in
        subst (IsCursor froms tos (slice_set phases p Begun) v) (sym (get_or-set_other cursors q v at 0 e))
        (record { within = old.within; own = old.own; settled = λ n m f. begun_kept (get_or tos n 0) (old.settled n m f) })
  ]

  begun_on : IsSearching froms tos (slice_set phases p Begun) (slice_set cursors q at) ((rest ++ q ∷ []) ++ p ∷ []) order
  begun_on =
      let path : List ℕ = rest ++ q ∷ [] in
      let l : q < length phases = begun_below phases q (s.on_path q (has_right rest (q ∷ []) q (inl refl))) in
      let here : IsAt (slice_set phases p Begun) p Begun = get_or-set_same phases p Begun Unseen b in
      let some : 0 < length path = omega (arith, length_push rest q) in
      record {
        long = length-set cursors q at ∙ s.long ∙ sym (length-set phases p Begun);
        cursor = λ v h. cursor_on l v (omega (arith, length-set phases p Begun));
        settled = λ v h. elim (same_or_other v p) [
          | inl e ↦ let bad : Begun ≡ Settled = sym here ∙ subst (λ z. IsAt (slice_set phases p Begun) z Settled) e h in absurd (cc bad)
          | inr e ↦ s.settled v (sym (get_or-set_other phases p v Begun Unseen e) ∙ h)
        ];
        begun = λ v h. elim (same_or_other v p) [
          | inl e ↦ has_right path (p ∷ []) v (inl (sym e))
          | inr e ↦ has_left path (p ∷ []) v (s.begun v (sym (get_or-set_other phases p v Begun Unseen e) ∙ h))
        ];
        on_path = λ v h. elim (has_either path (p ∷ []) v h) [
          | inl k ↦ get_or-set_other phases p v Begun Unseen (not_on_path v k) ∙ s.on_path v k
          | inr k ↦ elim k [ inl e ↦ subst (λ z. IsAt (slice_set phases p Begun) z Begun) e here | inr f ↦ absurd f ]
        ];
        once = distinct_more path p s.once (λ h. not_on_path p h refl);
        path_leads = path_more (IsEdge froms tos) rest q p s.path_leads edge;
        bottom = get_or_append_left path (p ∷ []) 0 0 some ∙ s.bottom;
        done = λ h. absurd (omega (arith, length_push path p));
        below = λ i h. omega (arith, s.below i h, length-set phases p Begun);
        after = s.after;
      }

-- or it is on the path
circle_on : (froms tos : List ℕ) (phases : List Phase) (cursors order rest : List ℕ) (q p : ℕ) → IsSearching froms tos phases cursors (rest ++ q ∷ []) order → IsEdge froms tos q p → IsAt phases p Begun →
    IsCircle (IsEdge froms tos)
circle_on froms tos phases cursors order rest q p s edge b =
    let path : List ℕ = rest ++ q ∷ [] in
    record {
      states = path;
      start = subst (Has path) s.bottom (has_at path 0 0 (omega (arith, length_push rest q)));
      leads = path_circle (IsEdge froms tos) path rest q p (λ z h. h) s.path_leads edge (s.begun p b);
    }

edge_here : (froms tos : List ℕ) (phases : List Phase) (q at p : ℕ) → IsCursor froms tos phases q at → at < length froms → p ≡ get_or tos at 0 → IsEdge froms tos q p
edge_here froms tos phases q at p c h e = record { place = at; within = h; from = c.own h; to = sym e }

-- the steps as the code takes them
pub settle_step :
    (froms tos : List ℕ) (phases : List Phase) (cursors path order rest after : List ℕ) (q at : ℕ) → path ≡ rest ++ q ∷ [] → after ≡ order ++ q ∷ [] → IsSearching froms tos phases cursors path order →
    Skips froms tos phases (get_or cursors q 0) at → at ≡ length froms → IsSearching froms tos (slice_set phases q Settled) cursors rest after
settle_step froms tos phases cursors path order rest after q at e f s k all =
    let c = last_cursor froms tos phases cursors path order rest q at e s k in
    subst (IsSearching froms tos (slice_set phases q Settled) cursors rest) (sym f)
    (settled_on froms tos phases cursors order rest q (subst (λ xs. IsSearching froms tos phases cursors xs order) e s) (subst (IsCursor froms tos phases q) all c))

pub begin_step :
    (froms tos : List ℕ) (phases : List Phase) (cursors path order rest again after : List ℕ) (q at p : ℕ) → path ≡ rest ++ q ∷ [] → again ≡ rest ++ q ∷ [] → after ≡ again ++ p ∷ [] →
    IsSearching froms tos phases cursors path order → Skips froms tos phases (get_or cursors q 0) at → at < length froms → p ≡ get_or tos at 0 → p < length phases → IsAt phases p Unseen →
    IsSearching froms tos (slice_set phases p Begun) (slice_set cursors q at) after order
begin_step froms tos phases cursors path order rest again after q at p e f g s k h same b fresh =
    let c = last_cursor froms tos phases cursors path order rest q at e s k in
    subst (λ xs. IsSearching froms tos (slice_set phases p Begun) (slice_set cursors q at) xs order) (sym (g ∙ ap (λ (xs : List ℕ). xs ++ p ∷ []) f))
    (begun_on froms tos phases cursors order rest q at p (subst (λ xs. IsSearching froms tos phases cursors xs order) e s) c (edge_here froms tos phases q at p c h same) b fresh)

pub circle_step :
    (froms tos : List ℕ) (phases : List Phase) (cursors path order rest : List ℕ) (q at p : ℕ) → path ≡ rest ++ q ∷ [] → IsSearching froms tos phases cursors path order →
    Skips froms tos phases (get_or cursors q 0) at → at < length froms → p ≡ get_or tos at 0 → IsAt phases p Begun → IsCircle (IsEdge froms tos)
circle_step froms tos phases cursors path order rest q at p e s k h same b =
    let c = last_cursor froms tos phases cursors path order rest q at e s k in
    circle_on froms tos phases cursors order rest q p (subst (λ xs. IsSearching froms tos phases cursors xs order) e s) (edge_here froms tos phases q at p c h same) b
