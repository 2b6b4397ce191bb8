-- The order by rounds of a keyed operation begins with the start and has no key twice, its edges
-- are those of its keys, and there is one reached set.
use Rattle.std.specs.Prelude.{◌≡◌, ℕ, ◌+◌, ◌<◌, List, [], ◌∷◌, ◌++◌, length, map, take, refl}
use Rattle.std.proofs.Common.{zero, suc, arith, ap, sym, ◌∙◌, subst, get_or, inl, inr, length-append, append-nil}
use Rattle.std.proofs.lemmas.Bool.{cases_lt}
use Rattle.std.specs.declared.cmp.Ordering.{Ordering}
use Rattle.std.specs.declared.cmp.Ordering.TheVariants.{Less}
use Rattle.std.specs.Cmp.{IsTotalOrder}
use Rattle.tib_lex.specs.Lists.{Has, Distinct, Ascends, Along}
use Rattle.tib_lex.proofs.Members.{each_has, has_left, has_right}
use Rattle.tib_lex.proofs.Places.{take_at}
use Rattle.tib_lex.proofs.Alongs.{along_of, along_back, along_append, along_map}
use Rattle.tib_expand.specs.EdgeLists.{Lists}
use Rattle.tib_expand.specs.Reached.{Exploration, AfterRounds, IsReached, AreEdges, IsReachedSet}
use Rattle.tib_expand.proofs.Members.{distinct_append}
use Rattle.tib_expand.proofs.Reaching.{Laws, apart, in_reached}
use Rattle.tib_key_edges.specs.Keyed.{keyed, GivesBelow}
use Rattle.tib_key_edges.proofs.Tagged.{no_edges, has_tagged, tagged_has, tagged_once, along_tagged}

-- an ascending list has no key twice
pub ascending_once : {K : Type 0} (cmp : K → K → Ordering) → IsTotalOrder cmp → (xs : List K) → Ascends (λ a b. cmp a b ≡ Less) xs → Distinct xs
ascending_once cmp total [] a = tt
ascending_once cmp total (x ∷ xs) a = (
  λ h. let itself = each_has (λ b. cmp x b ≡ Less) xs x a.0 h in apart cmp total x x itself itself,
  ascending_once cmp total xs a.1,
)

-- two orders that agree up to a position have the same key there
pub key_stays : {K : Type 0} (d : K) (xs ys : List K) (n : ℕ) → take (n + 1) xs ≡ take (n + 1) ys → get_or xs n d ≡ get_or ys n d
key_stays {K} d xs ys n e =
    let one : n + 1 ≡ suc n = omega arith in
    let same : take (suc n) xs ≡ take (suc n) ys = subst (λ m. take m xs ≡ take m ys) one e in
    sym (take_at xs n d) ∙ ap (λ (zs : List K). get_or zs n d) same ∙ take_at ys n d

-- an element stays where the list goes on
pub at_append : {K : Type 0} (d : K) (xs ys : List K) (n : ℕ) → n < length xs → get_or (xs ++ ys) n d ≡ get_or xs n d
at_append d [] ys n h = absurd (omega arith)
at_append d (x ∷ xs) ys zero h = refl
at_append d (x ∷ xs) ys (suc n) h = at_append d xs ys n (omega arith)

module _
    {K O E : Type 0} (cmp : K → K → Ordering) (start : K) (Edge : K → O → E → Type 0) (ends_of : E → List K)
    (key_parts : K → ℕ) (edge_parts : E → ℕ) where
  abbrev op : Exploration K O E
  op = keyed cmp start Edge ends_of key_parts edge_parts

  module _ (order : List K) where
    abbrev Gives : ℕ → ℕ × O → E → Type 0
    Gives n = GivesBelow start Edge order n

    -- those of one more position
    module _ (n : ℕ) (front last : List E) (before : Lists (Gives n) front) (l : Lists (Edge (get_or order n start)) last) where
      abbrev here : List (ℕ × O)
      here = map (λ o. (n, o)) l.origins

      elsewhere : (x : ℕ × O) → Has before.origins x → Has here x → ⊥
      elsewhere x h m =
          let low = (along_of (Gives n) before.origins front x before.given h).1.0 in
          let at = (tagged_has n l.origins x m).0 in
          omega arith

      all_stand : (x : ℕ × O) (e : E) → Gives (suc n) x e → Has (before.origins ++ here) x
      all_stand x e g = elim (cases_lt x.0 n) [
        | inl low ↦ has_left before.origins here x (before.whole x e (low, g.1))
        | inr high ↦
            let at : n ≡ x.0 = (let low = g.0 in omega arith) in
            has_right before.origins here x
            (subst (λ (m : ℕ). Has here (m, x.1)) at (has_tagged n l.origins x.1 (l.whole x.1 e (subst (λ (m : ℕ). Edge (get_or order m start) x.1 e) (sym at) g.1))))
      ]

      one_more : Lists (Gives (suc n)) (front ++ last)
      one_more = record {
        origins = before.origins ++ here;
        once = distinct_append before.origins here before.once (tagged_once n l.origins l.once) elsewhere;
        given = along_append (Gives (suc n)) before.origins here front last
            (along_map (Gives n) (Gives (suc n)) (λ x e g. (let low = g.0 in omega arith, g.1)) before.origins front before.given)
            (along_tagged n (Edge (get_or order n start)) (Gives (suc n)) (λ o e g. (omega arith, g)) l.origins last l.given);
        whole = all_stand;
      }

    -- the edges position by position are a list by position and origin
    pub edges_below : (n : ℕ) (es : List E) → AreEdges op order n es → Lists (Gives n) es
    edges_below zero es l = record {
      origins = [];
      once = tt;
      given = subst (λ (fs : List E). Along (Gives zero) [] fs) (sym (no_edges l.origins es l.given)) tt;
      whole = λ x e g. absurd (let low = g.0 in omega arith);
    }
    edges_below (suc n) es (front, last, is, before, l) =
        subst (λ (fs : List E). Lists (Gives (suc n)) fs) (sym is) (one_more n front last (edges_below n front before) l)

  module _ (total : IsTotalOrder cmp) where
    -- no key is there twice in an order
    pub order_once : (rounds expanded : ℕ) (order : List K) → AfterRounds op rounds expanded order → Distinct order
    order_once zero expanded order (none, first) = ascending_once cmp total order first.0
    order_once (suc rounds) expanded order (old, first, new, before, is, at, made) =
        subst Distinct (sym made) (distinct_append old new (order_once rounds first old before) (ascending_once cmp total new is.0) (λ k h m. ((is.1 k).0 m).1 h))

    -- each order begins with the start
    pub order_begins : (rounds expanded : ℕ) (order : List K) → AfterRounds op rounds expanded order → (rest : List K) × (order ≡ start ∷ rest)
    order_begins zero expanded [] (none, first) = absurd ((first.1 start).1 refl)
    order_begins zero expanded (x ∷ xs) (none, first) = (xs, ap (λ (z : K). z ∷ xs) ((first.1 x).0 (inl refl)))
    order_begins (suc rounds) expanded order (old, first, new, before, is, at, made) =
        let b = order_begins rounds first old before in (b.0 ++ new, made ∙ ap (λ (l : List K). l ++ new) b.1)

    module _ (one : (k : K) (o : O) (e f : E) → Edge k o e → Edge k o f → e ≡ f) where
      -- what the hunt requires of the operation
      pub op_laws : Laws op
      op_laws = record {
        total_order = total;
        one_seed_edge = λ o e f a b. absurd a;
        one_edge = λ order n o e f a b. one (get_or order n start) o e f a b;
        stay = λ xs ys n o e low is. subst (λ k. Edge k o e) (sym (at_append start xs ys n low)) is;
        back = λ xs ys n o e low is. subst (λ k. Edge k o e) (at_append start xs ys n low) is;
      }

      -- two orders of reached sets are the same
      pub same_order : (order other : List K) → IsReached op order → IsReached op other → order ≡ other
      same_order order other h k =
          let a = (in_reached op op_laws h.0 h.1 order h.2 other k).0 in
          let b = (in_reached op op_laws k.0 k.1 other k.2 order h).0 in
          let m : length other ≡ length order + length a.0 = ap length a.1 ∙ length-append order a.0 in
          let n : length order ≡ length other + length b.0 = ap length b.1 ∙ length-append other b.0 in
          let nothing : a.0 ≡ [] = empty a.0 (omega arith) in
          sym (a.1 ∙ ap (λ (l : List K). order ++ l) nothing ∙ append-nil order)
        where
          empty : (l : List K) → length l ≡ 0 → l ≡ []
          empty [] e = refl
          empty (x ∷ xs) e = absurd (omega arith)

      -- an edge of an order is in each list of its edges
      pub edge_stands : (order : List K) (es fs : List E) → AreEdges op order (length order) es → AreEdges op order (length order) fs → (e : E) → Has es e → Has fs e
      edge_stands order es fs a b e h =
          let l = edges_below order (length order) es a in
          let m = edges_below order (length order) fs b in
          let o = along_back (GivesBelow start Edge order (length order)) l.origins es e l.given h in
          let f = along_of (GivesBelow start Edge order (length order)) m.origins fs o.0 m.given (m.whole o.0 e o.1) in
          subst (Has fs) (one (get_or order o.0.0 start) o.0.1 f.0 e f.1.1 o.1.1) f.2

      -- there is one reached set
      pub one_set : (order other : List K) (es fs : List E) → IsReachedSet op order es → IsReachedSet op other fs → (order ≡ other) × ((e : E) → Has es e → Has fs e)
      one_set order other es fs h k =
          let same = same_order order other h.0 k.0 in
          (same, edge_stands order es fs h.1 (subst (λ (l : List K). AreEdges op l (length l) fs) (sym same) k.1))
