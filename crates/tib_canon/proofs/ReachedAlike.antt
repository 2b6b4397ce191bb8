-- Two problems whose edges correspond, one by one, reach the same order.
use Rattle.std.proofs.Common.{◌≡◌, ℕ, zero, suc, List, [], ◌∷◌, length, map, refl, sym, ap, ◌∙◌, subst}
use Rattle.std.proofs.lemmas.List.{map-append}
use Rattle.std.specs.declared.cmp.Ordering.{Ordering}
use Rattle.std.specs.declared.cmp.Ordering.TheVariants.{Less}
use Rattle.tib_lex.specs.Lists.{Has, Ascends, Along, Distinct}
use Rattle.tib_lex.proofs.Lists.{has_mapped, mapped_has}
use Rattle.tib_expand.specs.EdgeLists.{Lists}
use Rattle.tib_expand.specs.Reached.{Exploration, IsNew, AreAscending, AfterRounds, AreEdges, IsReachedSet}

-- The edges that `Gives` gives and those that `Tells` gives correspond under f: an edge of the one
-- goes to one of the other, with the same origin, and each of the other comes from one.
pub record Correspond {O E : Type 0} (f : E → E) (Gives Tells : O → E → Type 0) : Type 0 where
  pub to : (o : O) (e : E) → Gives o e → Tells o (f e)
  pub from : (o : O) (e : E) → Tells o e → (old : E) × (e ≡ f old) × Gives o old

-- The problems have one order of keys and the same seeds, and their edges correspond and end at the
-- same keys.
pub record AreProblemsAlike {K O E : Type 0} (f : E → E) (p q : Exploration K O E) : Type 0 where
  pub cmp : p.cmp ≡ q.cmp
  pub seed_to : (k : K) → p.seed k → q.seed k
  pub seed_from : (k : K) → q.seed k → p.seed k
  pub seed_edges : Correspond f p.seed_edge q.seed_edge
  pub edges : (order : List K) (n : ℕ) → Correspond f (p.edge order n) (q.edge order n)
  pub ends : (e : E) → q.ends_of (f e) ≡ p.ends_of e

-- The same, where an origin is exchanged for another too, each for its own.
pub record CorrespondBy {O E : Type 0} (on : O → O) (f : E → E) (Gives Tells : O → E → Type 0) : Type 0 where
  pub to : (o : O) (e : E) → Gives o e → Tells (on o) (f e)
  pub from : (o : O) (e : E) → Tells o e → (origin : O) × (old : E) × (o ≡ on origin) × (e ≡ f old) × Gives origin old

pub record AreProblemsRenamed {K O E : Type 0} (on : O → O) (f : E → E) (p q : Exploration K O E) : Type 0 where
  pub apart : (o r : O) → on o ≡ on r → o ≡ r
  pub cmp : p.cmp ≡ q.cmp
  pub seed_to : (k : K) → p.seed k → q.seed k
  pub seed_from : (k : K) → q.seed k → p.seed k
  pub seed_edges : CorrespondBy on f p.seed_edge q.seed_edge
  pub edges : (order : List K) (n : ℕ) → CorrespondBy on f (p.edge order n) (q.edge order n)
  pub ends : (e : E) → q.ends_of (f e) ≡ p.ends_of e

-- lists of edges that correspond
module _ {O E : Type 0} (on : O → O) (apart : (o r : O) → on o ≡ on r → o ≡ r) (f : E → E) (Gives Tells : O → E → Type 0) (c : CorrespondBy on f Gives Tells) where
  along_to : (os : List O) (es : List E) → Along Gives os es → Along Tells (map on os) (map f es)
  along_to [] [] a = tt
  along_to [] (e ∷ es) a = absurd a
  along_to (o ∷ os) [] a = absurd a
  along_to (o ∷ os) (e ∷ es) a = (c.to o e a.0, along_to os es a.1)

  once_to : (os : List O) → Distinct os → Distinct (map on os)
  once_to [] d = tt
  once_to (o ∷ os) d = (
    λ h.
        let r = has_mapped on os (on o) h in
        d.0 (subst (Has os) (apart r.0 o r.2) r.1),
    once_to os d.1,
  )

  lists_to : (es : List E) → Lists Gives es → Lists Tells (map f es)
  lists_to es l = record {
    origins = map on l.origins;
    once = once_to l.origins l.once;
    given = along_to l.origins es l.given;
    whole = λ o x g. let r = c.from o x g in subst (Has (map on l.origins)) (sym r.2) (mapped_has on l.origins r.0 (l.whole r.0 r.1 r.4));
  }

module _ {K O E : Type 0} (on : O → O) (f : E → E) (p q : Exploration K O E) (a : AreProblemsRenamed on f p q) where
  new_to : (order : List K) (expanded : ℕ) (k : K) → IsNew p order expanded k → IsNew q order expanded k
  new_to order expanded k ((i, from, below, (o, e, is, has)), out) =
      ((i, from, below, (on o, f e, (a.edges order i).to o e is, subst (λ (ks : List K). Has ks k) (sym (a.ends e)) has)), out)

  new_from : (order : List K) (expanded : ℕ) (k : K) → IsNew q order expanded k → IsNew p order expanded k
  new_from order expanded k ((i, from, below, (o, e, is, has)), out) =
      let r = (a.edges order i).from o e is in
      let there : Has (q.ends_of (f r.1)) k = subst (λ (x : E). Has (q.ends_of x) k) r.3 has in
      ((i, from, below, (r.0, r.1, r.4, subst (λ (ks : List K). Has ks k) (a.ends r.1) there)), out)

  ascend_to : (P Q : K → Type 0) (ks : List K) → ((k : K) → P k → Q k) → ((k : K) → Q k → P k) → AreAscending p P ks → AreAscending q Q ks
  ascend_to P Q ks to from up =
      (subst (λ (c : K → K → Ordering). Ascends (λ x y. c x y ≡ Less) ks) a.cmp up.0, λ k. (λ h. to k ((up.1 k).0 h), λ h. (up.1 k).1 (from k h)))

  rounds_to : (rounds expanded : ℕ) (order : List K) → AfterRounds p rounds expanded order → AfterRounds q rounds expanded order
  rounds_to zero expanded order (none, first) = (none, ascend_to p.seed q.seed order a.seed_to a.seed_from first)
  rounds_to (suc rounds) expanded order (old, start, new, before, is, at, made) = (
    old,
    start,
    new,
    rounds_to rounds start old before,
    ascend_to (IsNew p old start) (IsNew q old start) new (new_to old start) (new_from old start) is,
    at,
    made,
  )

  edges_to : (order : List K) (n : ℕ) (es : List E) → AreEdges p order n es → AreEdges q order n (map f es)
  edges_to order zero es l = lists_to on a.apart f p.seed_edge q.seed_edge a.seed_edges es l
  edges_to order (suc n) es (front, last, is, before, l) = (
    map f front,
    map f last,
    ap (map f) is ∙ map-append f front last,
    edges_to order n front before,
    lists_to on a.apart f (p.edge order n) (q.edge order n) (a.edges order n) last l,
  )

  pub reached_renamed : (order : List K) (es : List E) → IsReachedSet p order es → IsReachedSet q order (map f es)
  reached_renamed order es ((rounds, expanded, after, stops), all) = (
    (rounds, expanded, rounds_to rounds expanded order after, λ k h. stops k (new_from order expanded k h)),
    edges_to order (length order) es all,
  )

-- the same with the same origins
pub reached_alike : {K O E : Type 0} (f : E → E) (p q : Exploration K O E) → AreProblemsAlike f p q → (order : List K) (es : List E) → IsReachedSet p order es → IsReachedSet q order (map f es)
reached_alike {O = O} {E = E} f p q a =
    reached_renamed (λ o. o) f p q (record {
      apart = λ o r e. e;
      cmp = a.cmp;
      seed_to = a.seed_to;
      seed_from = a.seed_from;
      seed_edges = same p.seed_edge q.seed_edge a.seed_edges;
      edges = λ order n. same (p.edge order n) (q.edge order n) (a.edges order n);
      ends = a.ends;
    })
  where
    same : (Gives Tells : O → E → Type 0) → Correspond f Gives Tells → CorrespondBy (λ o. o) f Gives Tells
    same Gives Tells c = record { to = c.to; from = λ o e t. let r = c.from o e t in (o, r.0, refl, r.1, r.2) }
