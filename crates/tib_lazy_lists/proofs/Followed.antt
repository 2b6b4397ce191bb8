-- The first candidates of some rules, and those that follow a candidate, are put into a heap.
use Rattle.std.specs.Prelude.{◌≡◌, ◌⊎◌, ℕ, ◌+◌, ◌<◌, ◌≤◌, List, [], ◌∷◌, ◌++◌, length, refl}
use Rattle.std.proofs.Common.{zero, suc, arith, ap, sym, ◌∙◌, subst, inl, inr, get_or}
use Rattle.std.proofs.lemmas.List.{length-map}
use Rattle.tib_lex.specs.Lists.{Has, Distinct}
use Rattle.tib_lex.proofs.Members.{has_left, has_right, has_either}
use Rattle.tib_lex.proofs.Places.{distinct_at}
use Rattle.tib_cost.specs.Semiring.{most}
use Rattle.tib_grammar.specs.Run.{rule_at}
use Rattle.tib_ranked_trees.specs.Levels.{states_of, states_at}
use Rattle.tib_ranked_trees.specs.Pass.{Entries, AreRanks, zeros, zeros_at, offer}
use Rattle.tib_ranked_trees.specs.Pass as pass
use Rattle.tib_ranked_trees.specs.ListsOf.{ListsOf}
use Rattle.tib_ranked_trees.specs.Held.{list_of, told, entries_of, ranks_from, ranks_of, below_of, raise, grown, IsSound, IsTuple}
use Rattle.tib_ranked_trees.specs.declared.lists.Candidate.{Candidate}
use Rattle.tib_ranked_trees.proofs.Growing.{tuple_kept, ranks_from_kept}
use Rattle.tib_lazy_lists.specs.Offers.{tuples, IsHeld, AreMoreCandidates, IsOffered, AreStarted, AreOpened, AreFollowed}
use Rattle.tib_lazy_lists.proofs.Once.{raised_apart}
use Rattle.tib_lazy_lists.proofs.Kept.{more_of, more_same, more_more, more_keeps}

pub zeros_long : (qs : List ℕ) → length (zeros qs) ≡ length qs
zeros_long [] = refl
zeros_long (q ∷ qs) = ap suc (zeros_long qs)

-- a rank raised by one names an entry where there is one
raise_names : (entries : Entries) (qs js : List ℕ) (i : ℕ) → AreRanks entries qs js → i < length qs → get_or js i 0 + 1 < length (entries (get_or qs i 0)) → AreRanks entries qs (raise i js)
raise_names entries [] js i r l h = absurd (omega arith)
raise_names entries (q ∷ qs) [] i r l h = absurd r
raise_names entries (q ∷ qs) (j ∷ js) zero r l h = (omega arith, r.1)
raise_names entries (q ∷ qs) (j ∷ js) (suc i) r l h = (r.0, raise_names entries qs js i r.1 (omega arith) h)

pub raised_tuple : (x : ListsOf) (n i : ℕ) (js : List ℕ) → IsTuple x n js → i < length (states_of (rule_at x.rules n)) → get_or js i 0 + 1 < length (list_of x (get_or (states_of (rule_at x.rules n)) i 0)) → IsTuple x n (raise i js)
raised_tuple x n i js t l h =
    let q : ℕ = get_or (states_of (rule_at x.rules n)) i 0 in
    record { rule = t.rule; ranks = raise_names (entries_of x) (states_of (rule_at x.rules n)) js i t.ranks l (omega (arith, h, length-map (list_of x q) (told x.trees))) }

-- what is kept of a tuple when candidates were appended
pub tuple_more : (x y : ListsOf) → IsSound x → AreMoreCandidates x y → (n start : ℕ) → IsTuple x n (ranks_from x n start) → IsTuple y n (ranks_from y n start) × (ranks_from y n start ≡ ranks_from x n start)
tuple_more x y s m n start t =
    let k : ranks_from (grown x x.trees x.lists y.candidates y.ranks) n start ≡ ranks_from x n start = ranks_from_kept x s x.trees x.lists y.candidates y.ranks (more_of x y m) n start t in
    more_keeps x y m (λ z. IsTuple z n (ranks_from z n start) × (ranks_from z n start ≡ ranks_from x n start)) (
      subst (λ (js : List ℕ). IsTuple (grown x x.trees x.lists y.candidates y.ranks) n js) (sym k) (tuple_kept x s x.trees x.lists y.candidates y.ranks (more_of x y m) n (ranks_from x n start) t),
      k,
    )

pub started_more : (x y : ListsOf) → AreMoreCandidates x y → AreStarted x → AreStarted y
started_more x y m s = more_keeps x y m AreStarted s

next_or : (i j : ℕ) → j < i + 1 → (j < i) ⊎ (j ≡ i)
next_or i j h = grind arith

-- first candidates

abbrev paired : ℕ → List ℕ → pass.Candidate
paired n js = (n, js)

pub opened_none : (product : ℕ → ℕ → ℕ) (x : ListsOf) (rules : List ℕ) (but : ℕ) (heap : List ℕ) → IsHeld product x heap → AreOpened product x rules but 0 heap x heap
opened_none product x rules but heap held = record { held = held; more = more_same x; to = λ z h. h; from = λ z h. inl h; count = omega arith; there = λ i l. absurd (omega (arith, l)); once = λ apart taken new d. d }

module _ (product : ℕ → ℕ → ℕ) (x : ListsOf) (rules : List ℕ) (but i : ℕ) (heap : List ℕ) (y : ListsOf) (now : List ℕ) (o : AreOpened product x rules but i heap y now) (r : ℕ) (at : r ≡ get_or rules i 0) where
  pub opened_skip : r ≡ but → AreOpened product x rules but (i + 1) heap y now
  opened_skip e = record {
    held = o.held;
    more = o.more;
    to = o.to;
    from = λ z h. elim (o.from z h) [ inl k ↦ inl k | inr t ↦ inr (t.0, omega (arith, t.1), t.2) ];
    count = o.count;
    there = λ j l. elim (next_or i j l) [
      | inl k ↦ o.there j k
      | inr f ↦ inl (ap (λ (m : ℕ). get_or rules m 0) f ∙ sym at ∙ e)
    ];
    once = o.once;
  }

  pub opened_next : (r ≡ but → ⊥) → i < length rules → (y2 : ListsOf) (now2 : List ℕ) → IsOffered product (Unit {0}) y r (zeros_at y.rules r) now y2 now2 → AreOpened product x rules but (i + 1) heap y2 now2
  opened_next other inside y2 now2 s = record {
    held = s.held;
    more = more_more x y y2 o.more s.more;
    to = λ z h. s.to z (o.to z h);
    from = λ z h. elim (s.from z h) [
      | inl k ↦ elim (o.from z k) [ inl m ↦ inl m | inr t ↦ inr (t.0, omega (arith, t.1), t.2) ]
      | inr e ↦ inr (i, omega arith, e ∙ ap (λ (u : ListsOf). paired r (zeros_at u.rules r)) o.more.same ∙ ap (λ (m : ℕ). paired m (zeros_at x.rules m)) at)
    ];
    count = omega (arith, o.count, s.count);
    there = λ j l. elim (next_or i j l) [
      | inl k ↦ elim (o.there j k) [ inl e ↦ inl e | inr f ↦ inr (λ fits. s.to _ (f fits)) ]
      | inr e ↦ inr (subst (λ (n : ℕ). (offer product x.rules (entries_of x) n (zeros_at x.rules n)).1 ≤ most → Has (tuples y2 now2) (n, zeros_at x.rules n)) (at ∙ ap (λ (m : ℕ). get_or rules m 0) (sym e)) here)
    ];
    once = λ apart taken new d. s.once taken (λ h. not_there apart taken new (subst (λ (z : pass.Candidate). Has (tuples y now ++ taken) z) is_here h)) (o.once apart taken new d);
  }
    where
      is_here : paired r (zeros_at y.rules r) ≡ paired (get_or rules i 0) (zeros_at x.rules (get_or rules i 0))
      is_here = ap (λ (u : ListsOf). paired r (zeros_at u.rules r)) o.more.same ∙ ap (λ (m : ℕ). paired m (zeros_at x.rules m)) at

      not_there :
          Distinct rules → (taken : List pass.Candidate) → ((j : ℕ) → j < length rules → (get_or rules j 0 ≡ but → ⊥) → Has (tuples x heap ++ taken) (get_or rules j 0, zeros_at x.rules (get_or rules j 0)) → ⊥) →
          Has (tuples y now ++ taken) (get_or rules i 0, zeros_at x.rules (get_or rules i 0)) → ⊥
      not_there apart taken new h =
          let z : pass.Candidate = paired (get_or rules i 0) (zeros_at x.rules (get_or rules i 0)) in
          elim (has_either (tuples y now) taken z h) [
            | inr t ↦ new i inside (λ f. other (at ∙ f)) (has_right (tuples x heap) taken z t)
            | inl k ↦ elim (o.from z k) [
              | inl w ↦ new i inside (λ f. other (at ∙ f)) (has_left (tuples x heap) taken z w)
              | inr t ↦
                  let same : i ≡ t.0 = distinct_at rules i t.0 0 apart inside (omega (arith, inside, t.1)) (ap (λ (w : pass.Candidate). w.0) t.2) in
                  omega (arith, same, t.1)
            ]
          ]

      here : (offer product x.rules (entries_of x) r (zeros_at x.rules r)).1 ≤ most → Has (tuples y2 now2) (r, zeros_at x.rules r)
      here = subst (λ (u : ListsOf). (offer product u.rules (entries_of u) r (zeros_at u.rules r)).1 ≤ most → Has (tuples y2 now2) (r, zeros_at u.rules r)) o.more.same (s.there tt)

-- followers

pub followed_none : (product : ℕ → ℕ → ℕ) (x : ListsOf) (c : Candidate) (first n : ℕ) (heap : List ℕ) → n ≤ first → IsHeld product x heap → AreFollowed product x c first n heap x heap
followed_none product x c first n heap none held = record { held = held; more = more_same x; to = λ z h. h; from = λ z h. inl h; count = omega arith; there = λ i low l. absurd (omega (arith, none, low, l)); once = λ taken new d. d }

module _ (product : ℕ → ℕ → ℕ) (x : ListsOf) (c : Candidate) (first i : ℕ) (heap : List ℕ) (y : ListsOf) (now : List ℕ) (o : AreFollowed product x c first i heap y now) (same : ranks_from y c.rule c.start ≡ ranks_of x c)
    (low : first ≤ i) (inside : i < length (below_of x c)) (many : length (ranks_of x c) ≡ length (below_of x c)) where
  pub followed_next :
      (y2 : ListsOf) (now2 : List ℕ) →
      IsOffered product (get_or (ranks_from y c.rule c.start) i 0 + 1 < length (list_of y (get_or (states_at y.rules c.rule) i 0))) y c.rule (raise i (ranks_from y c.rule c.start)) now y2 now2 →
      AreFollowed product x c first (i + 1) heap y2 now2
  followed_next y2 now2 s = record {
    held = s.held;
    more = more_more x y y2 o.more s.more;
    to = λ z h. s.to z (o.to z h);
    from = λ z h. elim (s.from z h) [
      | inl k ↦ elim (o.from z k) [ inl w ↦ inl w | inr e ↦ inr (e.0, e.1, e.2, omega (arith, e.3), e.4) ]
      | inr e ↦ inr (i, low, inside, omega arith, e ∙ ap (λ (js : List ℕ). paired c.rule (raise i js)) same)
    ];
    count = omega (arith, o.count, s.count);
    there = λ j from_first l next fits. elim (next_or i j l) [
      | inl k ↦ s.to _ (o.there j from_first k next fits)
      | inr e ↦
          let next_i = subst (λ (m : ℕ). get_or (ranks_of x c) m 0 + 1 < length (list_of x (get_or (below_of x c) m 0))) e next in
          let fits_i = subst (λ (m : ℕ). (offer product x.rules (entries_of x) c.rule (raise m (ranks_of x c))).1 ≤ most) e fits in
          subst (λ (m : ℕ). Has (tuples y2 now2) (c.rule, raise m (ranks_of x c))) (sym e) (here next_i fits_i)
    ];
    once = λ taken new d. s.once taken (λ h. not_there taken new (subst (λ (js : List ℕ). Has (tuples y now ++ taken) (c.rule, raise i js)) same h)) (o.once taken new d);
  }
    where
      not_there :
          (taken : List pass.Candidate) → ((j : ℕ) → first ≤ j → j < length (below_of x c) → Has (tuples x heap ++ taken) (c.rule, raise j (ranks_of x c)) → ⊥) →
          Has (tuples y now ++ taken) (c.rule, raise i (ranks_of x c)) → ⊥
      not_there taken new h =
          let z : pass.Candidate = paired c.rule (raise i (ranks_of x c)) in
          elim (has_either (tuples y now) taken z h) [
            | inr t ↦ new i low inside (has_right (tuples x heap) taken z t)
            | inl k ↦ elim (o.from z k) [
              | inl w ↦ new i low inside (has_left (tuples x heap) taken z w)
              | inr e ↦ raised_apart e.0 i (ranks_of x c) e.3 (omega (arith, inside, many)) (sym (ap (λ (w : pass.Candidate). w.1) e.4))
            ]
          ]

      here : get_or (ranks_of x c) i 0 + 1 < length (list_of x (get_or (below_of x c) i 0)) → (offer product x.rules (entries_of x) c.rule (raise i (ranks_of x c))).1 ≤ most → Has (tuples y2 now2) (c.rule, raise i (ranks_of x c))
      here =
          subst (λ (js : List ℕ). get_or js i 0 + 1 < length (list_of x (get_or (below_of x c) i 0)) → (offer product x.rules (entries_of x) c.rule (raise i js)).1 ≤ most → Has (tuples y2 now2) (c.rule, raise i js)) same
          (subst
          (λ (u : ListsOf).
          get_or (ranks_from y c.rule c.start) i 0 + 1 < length (list_of u (get_or (states_at u.rules c.rule) i 0)) → (offer product u.rules (entries_of u) c.rule (raise i (ranks_from y c.rule c.start))).1 ≤ most →
          Has (tuples y2 now2) (c.rule, raise i (ranks_from y c.rule c.start))) o.more.same s.there)

  pub followed_at :
      (d e : Candidate) → d ≡ c → e ≡ c → (y2 : ListsOf) (now2 : List ℕ) →
      IsOffered product (get_or (ranks_from y d.rule e.start) i 0 + 1 < length (list_of y (get_or (states_at y.rules d.rule) i 0))) y d.rule (raise i (ranks_from y d.rule e.start)) now y2 now2 →
      AreFollowed product x c first (i + 1) heap y2 now2
  followed_at d e f g y2 now2 s =
      followed_next y2 now2
      (subst (λ (a : Candidate). IsOffered product (get_or (ranks_from y a.rule c.start) i 0 + 1 < length (list_of y (get_or (states_at y.rules a.rule) i 0))) y a.rule (raise i (ranks_from y a.rule c.start)) now y2 now2) f
      (subst (λ (a : Candidate). IsOffered product (get_or (ranks_from y d.rule a.start) i 0 + 1 < length (list_of y (get_or (states_at y.rules d.rule) i 0))) y d.rule (raise i (ranks_from y d.rule a.start)) now y2 now2) g s))

-- the same for all places
pub followed_all : (product : ℕ → ℕ → ℕ) (x : ListsOf) (c : Candidate) (first n i : ℕ) (heap : List ℕ) (y : ListsOf) (now : List ℕ) → n ≤ i → n ≡ length (below_of x c) → AreFollowed product x c first i heap y now → AreFollowed product x c first n heap y now
followed_all product x c first n i heap y now l e o = record {
  held = o.held;
  more = o.more;
  to = o.to;
  from = λ z h. elim (o.from z h) [ inl w ↦ inl w | inr f ↦ inr (f.0, f.1, f.2, omega (arith, f.2, e), f.4) ];
  count = o.count;
  there = λ j low h next fits. o.there j low (omega (arith, h, l)) next fits;
  once = o.once;
}

-- the ranks of a candidate that was read
pub tuple_read :
    (x y : ListsOf) → IsSound x → AreMoreCandidates x y → (c d e : Candidate) → d ≡ c → e ≡ c → IsTuple x c.rule (ranks_of x c) → IsTuple y d.rule (ranks_from y d.rule e.start)
tuple_read x y s m c d e f g t =
    subst (λ (a : Candidate). IsTuple y a.rule (ranks_from y a.rule e.start)) (sym f) (subst (λ (a : Candidate). IsTuple y c.rule (ranks_from y c.rule a.start)) (sym g) (tuple_more x y s m c.rule c.start t).0)

pub ranks_read : (x : ListsOf) (c d e : Candidate) → d ≡ c → e ≡ c → ranks_from x d.rule e.start ≡ ranks_of x c
ranks_read x c d e f g = ap (λ (a : Candidate). ranks_from x a.rule e.start) f ∙ ap (λ (a : Candidate). ranks_from x c.rule a.start) g
