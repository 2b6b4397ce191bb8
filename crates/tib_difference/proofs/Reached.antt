-- The edges of a reached set, where an origin gives one edge: there is one such set, each edge of
-- the seeds and of a position is in it, and each of its edges is one of these.
use Rattle.std.specs.Prelude.{◌≡◌, ◌⊎◌, ℕ, ◌+◌, ◌<◌, List, [], ◌∷◌, ◌++◌, length, refl}
use Rattle.std.proofs.Common.{zero, suc, arith, ap, sym, ◌∙◌, subst, inl, inr, length-append, append-nil}
use Rattle.std.proofs.lemmas.Bool.{cases_lt}
use Rattle.tib_lex.specs.Lists.{Has, Distinct}
use Rattle.tib_lex.proofs.Members.{has_left, has_right, has_either}
use Rattle.tib_lex.proofs.Alongs.{along_of, along_back}
use Rattle.tib_expand.specs.EdgeLists.{Lists}
use Rattle.tib_expand.specs.Reached.{Exploration, AfterRounds, IsReached, AreEdges, IsReachedSet}
use Rattle.tib_expand.proofs.Members.{distinct_append}
use Rattle.tib_expand.proofs.Reaching.{Laws, in_reached}
use Rattle.tib_key_edges.proofs.KeyOrders.{ascending_once}

module _ {O A : Type 0} (Gives : O → A → Type 0) (one : (o : O) (x y : A) → Gives o x → Gives o y → x ≡ y) where
  -- what an origin gives is in each list
  listed : (xs : List A) → Lists Gives xs → (o : O) (x : A) → Gives o x → Has xs x
  listed xs l o x g =
      let f = along_of Gives l.origins xs o l.given (l.whole o x g) in
      subst (Has xs) (one o f.0 x f.1 g) f.2

  same_listed : (xs ys : List A) → Lists Gives xs → Lists Gives ys → (x : A) → Has xs x → Has ys x
  same_listed xs ys l m x h = let b = along_back Gives l.origins xs x l.given h in listed ys m b.0 x b.1

module _ {K O E : Type 0} (p : Exploration K O E) (laws : Laws p) where
  -- no key is twice in an order
  pub order_once : (rounds expanded : ℕ) (order : List K) → AfterRounds p rounds expanded order → Distinct order
  order_once zero expanded order (none, first) = ascending_once p.cmp laws.total_order order first.0
  order_once (suc rounds) expanded order (old, first, new, before, is, at, made) =
      subst Distinct (sym made)
      (distinct_append old new (order_once rounds first old before) (ascending_once p.cmp laws.total_order new is.0) (λ k h m. ((is.1 k).0 m).1 h))

  -- an edge of the seeds is in the list
  pub seed_listed : (order : List K) (n : ℕ) (es : List E) → AreEdges p order n es → (o : O) (e : E) → p.seed_edge o e → Has es e
  seed_listed order zero es l o e g = listed p.seed_edge laws.one_seed_edge es l o e g
  seed_listed order (suc n) es (front, last, is, before, l) o e g =
      subst (λ (xs : List E). Has xs e) (sym is) (has_left front last e (seed_listed order n front before o e g))

  -- and so is an edge of a position
  pub edge_listed : (order : List K) (n : ℕ) (es : List E) → AreEdges p order n es → (i : ℕ) → i < n → (o : O) (e : E) → p.edge order i o e → Has es e
  edge_listed order zero es l i low o e g = absurd (omega arith)
  edge_listed order (suc n) es (front, last, is, before, l) i low o e g =
      subst (λ (xs : List E). Has xs e) (sym is) (elim (cases_lt i n) [
        | inl h ↦ has_left front last e (edge_listed order n front before i h o e g)
        | inr h ↦
            let at : i ≡ n = omega arith in
            has_right front last e (listed (p.edge order n) (laws.one_edge order n) last l o e (subst (λ (j : ℕ). p.edge order j o e) at g))
      ])

  -- each edge in the list is one of the seeds, or of a position
  pub edge_given :
      (order : List K) (n : ℕ) (es : List E) → AreEdges p order n es → (e : E) → Has es e → ((o : O) × p.seed_edge o e) ⊎ ((i : ℕ) × (i < n) × ((o : O) × p.edge order i o e))
  edge_given order zero es l e h = inl (along_back p.seed_edge l.origins es e l.given h)
  edge_given order (suc n) es (front, last, is, before, l) e h = elim (has_either front last e (subst (λ (xs : List E). Has xs e) is h)) [
    | inl k ↦ elim (edge_given order n front before e k) [
      | inl s ↦ inl s
      | inr m ↦ inr (m.0, (let low = m.1 in omega arith), m.2)
    ]
    | inr k ↦ inr (n, omega arith, along_back (p.edge order n) l.origins last e l.given k)
  ]

  -- two orders of reached sets are the same
  same_order : (order other : List K) → IsReached p order → IsReached p other → order ≡ other
  same_order order other h k =
      let a = (in_reached p laws h.0 h.1 order h.2 other k).0 in
      let b = (in_reached p laws k.0 k.1 other k.2 order h).0 in
      let m : length other ≡ length order + length a.0 = ap length a.1 ∙ length-append order a.0 in
      let n : length order ≡ length other + length b.0 = ap length b.1 ∙ length-append other b.0 in
      let nothing : a.0 ≡ [] = empty a.0 (omega arith) in
      sym (a.1 ∙ ap (λ (l : List K). order ++ l) nothing ∙ append-nil order)
    where
      empty : (l : List K) → length l ≡ 0 → l ≡ []
      empty [] e = refl
      empty (x ∷ xs) e = absurd (omega arith)

  edges_stand : (order : List K) (n : ℕ) (es fs : List E) → AreEdges p order n es → AreEdges p order n fs → (e : E) → Has es e → Has fs e
  edges_stand order n es fs a b e h = elim (edge_given order n es a e h) [
    | inl s ↦ seed_listed order n fs b s.0 e s.1
    | inr m ↦ edge_listed order n fs b m.0 m.1 m.2.0 e m.2.1
  ]

  -- there is one reached set
  pub one_set : (order other : List K) (es fs : List E) → IsReachedSet p order es → IsReachedSet p other fs → (order ≡ other) × ((e : E) → Has es e → Has fs e)
  one_set order other es fs h k =
      let same = same_order order other h.0 k.0 in
      (same, edges_stand order (length order) es fs h.1 (subst (λ (l : List K). AreEdges p l (length l) fs) (sym same) k.1))
