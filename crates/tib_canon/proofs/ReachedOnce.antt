-- What a problem reaches is one: its order, which has no key twice, and the members of its edges.
use Rattle.std.proofs.Common.{◌≡◌, ◌⊎◌, ℕ, zero, suc, ◌+◌, ◌<◌, ◌≤◌, List, [], ◌∷◌, ◌++◌, length, refl, sym, ap, ◌∙◌, subst, arith, inl, inr, length-append, append-nil}
use Rattle.std.specs.declared.cmp.Ordering.{Ordering}
use Rattle.std.specs.declared.cmp.Ordering.TheVariants.{Less, Equal, Greater}
use Rattle.std.specs.Ordering.{ordering_reverse}
use Rattle.tib_expand.proofs.Members.{distinct_append}
use Rattle.tib_lex.specs.Lists.{Has, Distinct, Ascends, Along}
use Rattle.tib_expand.specs.EdgeLists.{Lists}
use Rattle.tib_expand.specs.Reached.{Exploration, AfterRounds, IsReached, AreEdges, IsReachedSet}
use Rattle.tib_expand.proofs.Reaching.{Laws, apart, in_reached}
use Rattle.tib_lex.proofs.Members.{each_has, has_either, has_left, has_right}

-- values that are listed by their origins
module _ {O A : Type 0} (Gives : O → A → Type 0) where
  origin_of : (os : List O) (xs : List A) (x : A) → Along Gives os xs → Has xs x → (o : O) × Gives o x
  origin_of [] [] x a h = absurd h
  origin_of [] (y ∷ xs) x a h = absurd a
  origin_of (o ∷ os) [] x a h = absurd h
  origin_of (o ∷ os) (y ∷ xs) x a (inl e) = (o, subst (Gives o) e a.0)
  origin_of (o ∷ os) (y ∷ xs) x a (inr h) = origin_of os xs x a.1 h

  given_by : (os : List O) (xs : List A) (o : O) → Along Gives os xs → Has os o → (x : A) × Gives o x × Has xs x
  given_by [] [] o a h = absurd h
  given_by [] (y ∷ xs) o a h = absurd h
  given_by (u ∷ os) [] o a h = absurd a
  given_by (u ∷ os) (y ∷ xs) o a (inl e) = (y, subst (λ z. Gives z y) e a.0, inl refl)
  given_by (u ∷ os) (y ∷ xs) o a (inr h) = let g = given_by os xs o a.1 h in (g.0, g.1, inr g.2)

  pub same_listed : ((o : O) (x y : A) → Gives o x → Gives o y → x ≡ y) → (xs ys : List A) → Lists Gives xs → Lists Gives ys → (x : A) → Has xs x → Has ys x
  same_listed one xs ys l m x h =
      let b = origin_of l.origins xs x l.given h in
      let f = given_by m.origins ys b.0 m.given (m.whole b.0 x b.1) in
      subst (Has ys) (one b.0 f.0 x f.1 b.1) f.2

  pub listed_given : (xs : List A) → Lists Gives xs → (x : A) → Has xs x → (o : O) × Gives o x
  listed_given xs l x h = origin_of l.origins xs x l.given h

module _ {K O E : Type 0} (p : Exploration K O E) (laws : Laws p) where
  pub same_order : (order other : List K) → IsReached p order → IsReached p other → order ≡ other
  same_order order other h k =
      let a = (in_reached p laws h.0 h.1 order h.2 other k).0 in
      let b = (in_reached p laws k.0 k.1 other k.2 order h).0 in
      let m : length other ≡ length order + length a.0 = ap length a.1 ∙ length-append order a.0 in
      let n : length order ≡ length other + length b.0 = ap length b.1 ∙ length-append other b.0 in
      let nothing : a.0 ≡ [] = empty a.0 (omega arith) in
      sym (a.1 ∙ ap (λ (l : List K). order ++ l) nothing ∙ append-nil order)
    where
      empty : (l : List K) → length l ≡ 0 → l ≡ []
      empty [] e = refl
      empty (x ∷ xs) e = absurd (omega arith)

  edges_stand : (order : List K) (n : ℕ) (es fs : List E) → AreEdges p order n es → AreEdges p order n fs → (e : E) → Has es e → Has fs e
  edges_stand order zero es fs a b e h = same_listed p.seed_edge laws.one_seed_edge es fs a b e h
  edges_stand order (suc n) es fs (front, last, is, before, l) (first, rest, made, early, m) e h =
      subst (λ (xs : List E). Has xs e) (sym made) (elim (has_either front last e (subst (λ (xs : List E). Has xs e) is h)) [
        | inl k ↦ has_left first rest e (edges_stand order n front first before early e k)
        | inr k ↦ has_right first rest e (same_listed (p.edge order n) (laws.one_edge order n) last rest l m e k)
      ])

  pub one_set : (order other : List K) (es fs : List E) → IsReachedSet p order es → IsReachedSet p other fs → (order ≡ other) × ((e : E) → Has es e → Has fs e)
  one_set order other es fs h k =
      let same = same_order order other h.0 k.0 in
      (same, edges_stand order (length order) es fs h.1 (subst (λ (l : List K). AreEdges p l (length l) fs) (sym same) k.1))

  -- an edge that is listed is one of the seeds, or of a position
  pub edge_given :
      (order : List K) (n : ℕ) (es : List E) → AreEdges p order n es → (e : E) → Has es e → ((o : O) × p.seed_edge o e) ⊎ ((i : ℕ) × (i < n) × ((o : O) × p.edge order i o e))
  edge_given order zero es l e h = inl (listed_given p.seed_edge es l e h)
  edge_given order (suc n) es (front, last, is, before, l) e h = elim (has_either front last e (subst (λ (xs : List E). Has xs e) is h)) [
    | inl k ↦ elim (edge_given order n front before e k) [
      | inl s ↦ inl s
      | inr m ↦ inr (m.0, (let low = m.1 in omega arith), m.2)
    ]
    | inr k ↦ inr (n, omega arith, listed_given (p.edge order n) last l e k)
  ]

  ascending_once : (xs : List K) → Ascends (λ a b. p.cmp a b ≡ Less) xs → Distinct xs
  ascending_once [] a = tt
  ascending_once (x ∷ xs) a = (
    λ h. let itself = each_has (λ b. p.cmp x b ≡ Less) xs x a.0 h in apart p.cmp laws.total_order x x itself itself,
    ascending_once xs a.1,
  )

  -- no key is there twice
  pub order_once : (rounds expanded : ℕ) (order : List K) → AfterRounds p rounds expanded order → Distinct order
  order_once zero expanded order (none, first) = ascending_once order first.0
  order_once (suc rounds) expanded order (old, first, new, before, is, at, made) =
      subst Distinct (sym made) (distinct_append old new (order_once rounds first old before) (ascending_once new is.0) (λ k h m. ((is.1 k).0 m).1 h))

  -- nor in the order of a reached set
  pub reached_apart : {order : List K} → IsReached p order → Distinct order
  reached_apart {order} r = order_once r.0 r.1 order r.2

  -- keys are told apart
  module _ (equal : (x y : K) → p.cmp x y ≡ Equal → x ≡ y) where
    not_equal : (x y : K) (o : Ordering) → p.cmp x y ≡ o → (o ≡ Equal → ⊥) → x ≡ y → ⊥
    not_equal x y o is other e =
        let itself : p.cmp x x ≡ o = subst (λ (z : K). p.cmp x z ≡ o) (sym e) is in
        other (own o (sym itself ∙ laws.total_order.antisymm x x ∙ ap ordering_reverse itself))
      where
        own : (o : Ordering) → o ≡ ordering_reverse o → o ≡ Equal
        own Less e = absurd (cc)
        own Equal e = refl
        own Greater e = absurd (cc)

    pub key_same : (x y : K) → (x ≡ y) ⊎ (x ≡ y → ⊥)
    key_same x y = by (p.cmp x y) refl
      where
        by : (o : Ordering) → p.cmp x y ≡ o → (x ≡ y) ⊎ (x ≡ y → ⊥)
        by Less is = inr (not_equal x y Less is (λ e. cc e))
        by Equal is = inl (equal x y is)
        by Greater is = inr (not_equal x y Greater is (λ e. cc e))

    has_or_not : (xs : List K) (k : K) → Has xs k ⊎ (Has xs k → ⊥)
    has_or_not [] k = inr (λ h. h)
    has_or_not (x ∷ xs) k = elim (key_same x k) [
      | inl e ↦ inl (inl e)
      | inr other ↦ elim (has_or_not xs k) [ inl h ↦ inl (inr h) | inr never ↦ inr (neither x xs k other never) ]
    ]
      where
        neither : (x : K) (xs : List K) (k : K) → (x ≡ k → ⊥) → (Has xs k → ⊥) → Has (x ∷ xs) k → ⊥
        neither x xs k other never (inl e) = other e
        neither x xs k other never (inr h) = never h

    before_or_on : (i n : ℕ) → (i < n) ⊎ (n ≤ i)
    before_or_on i n = grind arith

    ends_stood :
        (rounds expanded : ℕ) (order : List K) → AfterRounds p rounds expanded order → (i : ℕ) → i < expanded → (o : O) (e : E) (k : K) → p.edge order i o e → Has (p.ends_of e) k → Has order k
    ends_stood zero expanded order (none, first) i low o e k edge h = absurd (omega (arith, none, low))
    ends_stood (suc rounds) expanded order (old, first, new, before, is, at, made) i low o e k edge h =
        let within : i < length old = omega (arith, low, at) in
        let there : p.edge old i o e = laws.back old new i o e within (subst (λ (l : List K). p.edge l i o e) made edge) in
        subst (λ (l : List K). Has l k) (sym made) (elim (before_or_on i first) [
          | inl early ↦ has_left old new k (ends_stood rounds first old before i early o e k there h)
          | inr late ↦ elim (has_or_not old k) [
            | inl stood ↦ has_left old new k stood
            | inr fresh ↦ has_right old new k ((is.1 k).1 ((i, late, within, (o, e, there, h)), fresh))
          ]
        ])

    -- what an edge of a position ends at is in the reached order
    pub ends_stand : (order : List K) → IsReached p order → (i : ℕ) → i < length order → (o : O) (e : E) (k : K) → p.edge order i o e → Has (p.ends_of e) k → Has order k
    ends_stand order (rounds, expanded, after, all) i low o e k edge h = elim (before_or_on i expanded) [
      | inl early ↦ ends_stood rounds expanded order after i early o e k edge h
      | inr late ↦ elim (has_or_not order k) [
        | inl stood ↦ stood
        | inr fresh ↦ absurd (all k ((i, late, low, (o, e, edge, h)), fresh))
      ]
    ]
