-- A state is opened, and the candidates that follow its last one are put in.
use Rattle.std.specs.Prelude.{◌≡◌, ℕ, ◌+◌, ◌<◌, ◌≤◌, List, [], ◌∷◌, ◌++◌, length, refl}
use Rattle.std.proofs.Common.{zero, suc, arith, ap, sym, ◌∙◌, subst, inl, inr, get_or, length-append}
use Rattle.std.proofs.lemmas.List.{length-map}
use Rattle.tib_lex.specs.Lists.{Has, Distinct}
use Rattle.tib_lex.proofs.Lists.{has_mapped, head_is, tail_is}
use Rattle.tib_lex.proofs.Members.{at_has, has_at, has_either}
use Rattle.tib_cost.specs.Semiring.{most}
use Rattle.tib_grammar.specs.Run.{rule_at}
use Rattle.tib_ranked_trees.specs.Heaps.{IsHeap}
use Rattle.tib_tree.specs.Trees.{Tree}
use Rattle.tib_ranked_trees.specs.Lazy.{IsFrom, IsKept, IsAsked}
use Rattle.tib_ranked_trees.specs.Levels.{states_at}
use Rattle.tib_ranked_trees.specs.Pass.{AreRanks, zeros, zeros_at, offer, HasTree, IsKnown}
use Rattle.tib_ranked_trees.specs.Pass as pass
use Rattle.tib_ranked_trees.proofs.Keeping.{keeps}
use Rattle.tib_ranked_trees.specs.ListsOf.{ListsOf}
use Rattle.tib_ranked_trees.specs.Held.{list_of, told, entries_of, candidate_at, tuple_of, ranks_of, below_of, raise, tree_by, IsLast}
use Rattle.tib_ranked_trees.specs.declared.lists.Candidate.{Candidate}
use Rattle.tib_ranked_trees.proofs.Growing.{tuple_of_kept}
use Rattle.tib_ranked_trees.proofs.Offering.{ranks_long}
use Rattle.tib_lazy_lists.specs.Offers.{tuples, AreSound, order_of, AreMoreCandidates, AreStarted, AreOpened, HasFollowers}
use Rattle.tib_lazy_lists.specs.AskingOf.{StateOf}
use Rattle.tib_lazy_lists.specs.Asks.{AreOnce, ArePreceded, IsClosed, IsOpen, IsAnswered, AreAnswered, AreRulesOf}
use Rattle.tib_lazy_lists.proofs.Once.{distinct_right, one_alone, raised_at}
use Rattle.tib_lazy_lists.proofs.Kept.{below_or, more_of, more_keeps}

-- a candidate of the heap is one of its rule, names entries, and costs no more than the greatest
-- cost
pub in_range :
    (product : ℕ → ℕ → ℕ) (x : ListsOf) (heap : List ℕ) → AreSound product x → ((m : ℕ) → Has heap m → m < length x.candidates) → (n : ℕ) (js : List ℕ) → Has (tuples x heap) (n, js) →
    (n < length x.rules) × AreRanks (entries_of x) (states_at x.rules n) js × ((offer product x.rules (entries_of x) n js).1 ≤ most)
in_range product x heap s b n js h =
    let m = has_mapped (tuple_of x) heap (n, js) h in
    let i = s.made m.0 (b m.0 m.1) in
    let c : Candidate = candidate_at x m.0 in
    let fits : (offer product x.rules (entries_of x) c.rule (ranks_of x c)).1 ≤ most = omega (arith, i.priced, i.within) in
    subst (λ (z : pass.Candidate). (z.0 < length x.rules) × AreRanks (entries_of x) (states_at x.rules z.0) z.1 × ((offer product x.rules (entries_of x) z.0 z.1).1 ≤ most)) m.2 (i.is.tuple.rule, i.is.tuple.ranks, fits)

-- the last candidate stands for the same
pub last_more : (product : ℕ → ℕ → ℕ) (x y : ListsOf) → AreSound product x → AreMoreCandidates x y → (m : ℕ) → m < length x.candidates → tuple_of y m ≡ tuple_of x m
last_more product x y s m n l =
    more_keeps x y m (λ z. tuple_of z n ≡ tuple_of x n) (tuple_of_kept x s.sound x.trees x.lists y.candidates y.ranks (more_of x y m) n l (s.made n l).is)

-- ranks 0 are no ranks of which one is not
pub not_zeros : (qs front : List ℕ) (j : ℕ) (back : List ℕ) → zeros qs ≡ front ++ suc j ∷ back → ⊥
not_zeros [] [] j back e = cc
not_zeros [] (f ∷ front) j back e = cc
not_zeros (q ∷ qs) [] j back e = let h : 0 ≡ suc j = head_is e in omega (arith, h)
not_zeros (q ∷ qs) (f ∷ front) j back e = not_zeros qs front j back (tail_is e)

module _ (product : ℕ → ℕ → ℕ) (k : ℕ) (x : ListsOf) (lists : AreSound product x) (started : AreStarted x) (u : ℕ) (s : StateOf) (c : IsClosed x u s)
    (rules : List ℕ) (by : AreRulesOf x.rules u rules) (y : ListsOf) (now : List ℕ) (o : AreOpened product x rules (candidate_at x s.last).rule (length rules) s.heap y now) where
  abbrev first : ℕ
  first = (candidate_at x s.last).rule

  nothing_held : (z : pass.Candidate) → Has (tuples x s.heap) z → ⊥
  nothing_held z h = subst (λ (ms : List ℕ). Has (tuples x ms) z) c.empty h

  -- over the entries as they were
  begun : IsKept product x.rules k (entries_of x) [] ((first, zeros_at x.rules first) ∷ []) (tuples y now) u
  begun =
      (keeps product).begins x.rules k (entries_of x) (tuples y now) u first (λ n l e. started n l) (lists.made s.last c.last).is.tuple.rule c.left
      (subst (λ (js : List ℕ). HasTree (entries_of x u) (tree_by x first js)) c.first c.listed)
      (λ n l e fits.
      let h : Has rules n = by.each n l e in
      let a = at_has rules n 0 h in
      elim (o.there a.0 a.1) [
        | inl f ↦ inl (sym f ∙ a.2)
        | inr g ↦ inr (subst (λ (m : ℕ). Has (tuples y now) (m, zeros_at x.rules m)) a.2 (g (subst (λ (m : ℕ). (offer product x.rules (entries_of x) m (zeros_at x.rules m)).1 ≤ most) (sym a.2) fits)))
      ]) (λ n js h.
      let r = more_range n js h in (
        r.0,
        elim (o.from (n, js) h) [
          | inl i ↦ absurd (nothing_held (n, js) i)
          | inr t ↦
              ap (λ (w : pass.Candidate). (rule_at x.rules w.0).left) t.2 ∙ (by.only (get_or rules t.0 0) (has_at rules t.0 0 t.1)).1
        ],
        r.1,
        r.2,
      ))
    where
      more_range : (n : ℕ) (js : List ℕ) → Has (tuples y now) (n, js) → (n < length x.rules) × AreRanks (entries_of x) (states_at x.rules n) js × ((offer product x.rules (entries_of x) n js).1 ≤ most)
      more_range n js h =
          subst (λ (z : ListsOf). (n < length z.rules) × AreRanks (entries_of z) (states_at z.rules n) js × ((offer product z.rules (entries_of z) n js).1 ≤ most)) o.more.same
          (in_range product y now o.held.lists o.held.below n js h)

  pub opened : (t : StateOf) → t.last ≡ s.last → t.heap ≡ now → IsOpen product k y u t
  opened t e f =
      let tuple_is : tuple_of y t.last ≡ paired first (zeros_at x.rules first) =
      ap (tuple_of y) e ∙ last_more product x y lists o.more s.last c.last ∙ ap (λ (js : List ℕ). paired first js) c.first
      in
      let over_y : IsKept product y.rules k (entries_of y) [] ((first, zeros_at x.rules first) ∷ []) (tuples y now) u =
      subst (λ (z : ListsOf). IsKept product z.rules k (entries_of z) [] ((first, zeros_at x.rules first) ∷ []) (tuples y now) u) (sym o.more.same) begun
      in
      record {
        last = omega (arith, e, c.last, ap (λ (ds : List Candidate). length ds) o.more.candidates.1, length-append x.candidates o.more.candidates.0);
        heap = subst (λ (ms : List ℕ). IsHeap (order_of y) ms) (sym f) o.held.is_heap;
        below = subst (λ (ms : List ℕ). (m : ℕ) → Has ms m → m < length y.candidates) (sym f) o.held.below;
        older = [];
        kept =
            subst (λ (ms : List ℕ). IsKept product y.rules k (entries_of y) [] (tuple_of y t.last ∷ []) (tuples y ms) u) (sym f)
            (subst (λ (w : pass.Candidate). IsKept product y.rules k (entries_of y) [] (w ∷ []) (tuples y now) u) (sym tuple_is) over_y);
        preceded = λ n front j back h. elim h [
          | inl e ↦ absurd (not_zeros (states_at x.rules first) front j (zeros back) (ap (λ (w : pass.Candidate). w.1) (sym tuple_is ∙ e)))
          | inr bad ↦ absurd bad
        ];
        waits = λ n front j back h. elim (o.from (n, front ++ suc j ∷ zeros back) (subst (λ (ms : List ℕ). Has (tuples y ms) (n, front ++ suc j ∷ zeros back)) f h)) [
          | inl i ↦ absurd (nothing_held _ i)
          | inr t ↦ absurd (not_zeros (states_at x.rules (get_or rules t.0 0)) front j (zeros back) (ap (λ (w : pass.Candidate). w.1) (sym t.2)))
        ];
        single = subst (λ (ms : List ℕ). AreOnce product y u (tuple_of y t.last ∷ []) (tuples y ms)) (sym f)
            (subst (λ (w : pass.Candidate). AreOnce product y u (w ∷ []) (tuples y now)) (sym tuple_is) (record { once = once_here; from = from_here }));
      }
    where
      paired : ℕ → List ℕ → pass.Candidate
      paired n js = (n, js)

      none_twice : Distinct (tuples x s.heap ++ paired first (zeros_at x.rules first) ∷ [])
      none_twice = subst (λ (ms : List ℕ). Distinct (tuples x ms ++ paired first (zeros_at x.rules first) ∷ [])) (sym c.empty) (λ h. h, tt)

      once_here : Distinct (tuples y now ++ paired first (zeros_at x.rules first) ∷ [])
      once_here = o.once by.once (paired first (zeros_at x.rules first) ∷ []) (λ i inside other h.
          elim (has_either (tuples x s.heap) (paired first (zeros_at x.rules first) ∷ []) (paired (get_or rules i 0) (zeros_at x.rules (get_or rules i 0))) h) [
            | inl w ↦ nothing_held _ w
            | inr w ↦ elim w [ inl g ↦ other (sym (ap (λ (v : pass.Candidate). v.0) g)) | inr bad ↦ bad ]
          ]) none_twice

      from_first : (w : Tree ℕ) → HasTree (entries_of x u) w → IsFrom product x.rules (entries_of x) (paired first (zeros_at x.rules first) ∷ []) w
      from_first w h =
          let few : length (entries_of x u) ≤ 1 = omega (arith, c.few, length-map (list_of x u) (told x.trees)) in
          let same : tree_by x first (ranks_of x (candidate_at x s.last)) ≡ w =
          ap (λ (z : Tree ℕ × ℕ). z.0) (one_alone (entries_of x u) (tree_by x first (ranks_of x (candidate_at x s.last)), c.listed.0) (w, h.0) few c.listed.1 h.1)
          in
          let tuple = (lists.made s.last c.last).is.tuple in
          record {
            rule = first;
            ranks = zeros_at x.rules first;
            stands = inl refl;
            named = record { below = tuple.rule; ranks = subst (λ (js : List ℕ). AreRanks (entries_of x) (states_at x.rules first) js) c.first tuple.ranks };
            same = subst (λ (js : List ℕ). tree_by x first js ≡ w) c.first same;
          }

      from_here : (w : Tree ℕ) → HasTree (entries_of y u) w → IsFrom product y.rules (entries_of y) (paired first (zeros_at x.rules first) ∷ []) w
      from_here = subst (λ (z : ListsOf). (w : Tree ℕ) → HasTree (entries_of z u) w → IsFrom product z.rules (entries_of z) (paired first (zeros_at x.rules first) ∷ []) w) (sym o.more.same) from_first

-- a list with a rank raised by one

raise_front : (front back : List ℕ) (j : ℕ) → raise (length front) (front ++ j ∷ back) ≡ front ++ suc j ∷ back
raise_front [] back j = refl
raise_front (f ∷ front) back j = ap (λ (js : List ℕ). f ∷ js) (raise_front front back j)

at_front : (front back : List ℕ) (j : ℕ) → get_or (front ++ j ∷ back) (length front) 0 ≡ j
at_front [] back j = refl
at_front (f ∷ front) back j = at_front front back j

behind_front : (front qs : List ℕ) (j i : ℕ) → length front < i → get_or (front ++ j ∷ zeros qs) i 0 ≡ 0
behind_front [] qs j zero h = absurd (omega arith)
behind_front [] qs j (suc i) h = none qs i
  where
    none : (ps : List ℕ) (m : ℕ) → get_or (zeros ps) m 0 ≡ 0
    none [] m = refl
    none (p ∷ ps) zero = refl
    none (p ∷ ps) (suc m) = none ps m
behind_front (f ∷ front) qs j zero h = absurd (omega arith)
behind_front (f ∷ front) qs j (suc i) h = behind_front front qs j i (omega arith)

-- after the last rank that is not 0 all are 0, so it is not after one from which all are 0
last_before : (front qs : List ℕ) (j i : ℕ) (js : List ℕ) → js ≡ front ++ j ∷ zeros qs → IsLast js i → i ≤ length front
last_before front qs j i js e l = elim (below_or (length front) i) [
  | inr h ↦ h
  | inl h ↦ elim l.other [
    | inl z ↦ absurd (omega (arith, z, h))
    | inr n ↦ absurd (n (ap (λ (ks : List ℕ). get_or ks i 0) e ∙ behind_front front qs j i h))
  ]
]

-- ranks that are 0 after a place, with the one at the place raised by one, come from those alone
before_raised :
    (i : ℕ) (js front : List ℕ) (j : ℕ) (back : List ℕ) → i < length js → ((m : ℕ) → i < m → m < length js → get_or js m 0 ≡ 0) → front ++ suc j ∷ zeros back ≡ raise i js → front ++ j ∷ zeros back ≡ js
before_raised i [] front j back l z e = absurd (omega arith)
before_raised zero (r ∷ rs) [] j back l z e =
    let a : suc j ≡ suc r = head_is e in
    let b : zeros back ≡ rs = tail_is e in
    let c : j ≡ r = omega (arith, a) in
    ap (λ (m : ℕ). m ∷ zeros back) c ∙ ap (λ (ks : List ℕ). r ∷ ks) b
before_raised zero (r ∷ rs) (f ∷ front) j back l z e =
    let b : front ++ suc j ∷ zeros back ≡ rs = tail_is e in
    let at : get_or rs (length front) 0 ≡ suc j = ap (λ (ks : List ℕ). get_or ks (length front) 0) (sym b) ∙ at_front front (zeros back) (suc j) in
    let low : length front < length rs = omega (arith, ap (λ (ks : List ℕ). length ks) b, length-append front (suc j ∷ zeros back)) in
    let none : get_or rs (length front) 0 ≡ 0 = z (suc (length front)) (omega arith) (omega (arith, low)) in
    absurd (omega (arith, at, none))
before_raised (suc i) (r ∷ rs) [] j back l z e =
    let b : zeros back ≡ raise i rs = tail_is e in
    let up : get_or (raise i rs) i 0 ≡ get_or rs i 0 + 1 = raised_at i rs (omega arith) in
    absurd (let n = ap (λ (ks : List ℕ). get_or ks i 0) b in omega (arith, n, up, zero_at back i))
  where
    raised_at : (m : ℕ) (ks : List ℕ) → m < length ks → get_or (raise m ks) m 0 ≡ get_or ks m 0 + 1
    raised_at m [] h = absurd (omega arith)
    raised_at zero (p ∷ ks) h = omega arith
    raised_at (suc m) (p ∷ ks) h = raised_at m ks (omega arith)

    zero_at : (ps : List ℕ) (m : ℕ) → get_or (zeros ps) m 0 ≡ 0
    zero_at [] m = refl
    zero_at (p ∷ ps) zero = refl
    zero_at (p ∷ ps) (suc m) = zero_at ps m
before_raised (suc i) (r ∷ rs) (f ∷ front) j back l z e =
    ap (λ (m : ℕ). m ∷ (front ++ j ∷ zeros back)) (head_is e)
    ∙ ap (λ (ks : List ℕ). r ∷ ks) (before_raised i rs front j back (omega arith) (λ m low high. z (suc m) (omega (arith, low)) (omega (arith, high))) (tail_is e))

module _ (product : ℕ → ℕ → ℕ) (k : ℕ) (x : ListsOf) (lists : AreSound product x) (u : ℕ) (s : StateOf) (o : IsOpen product k x u s) (y : ListsOf) (now : List ℕ)
    (h : HasFollowers product x (candidate_at x s.last) s.heap y now) (answered : AreAnswered product k x (candidate_at x s.last) (length (below_of x (candidate_at x s.last)))) where
  abbrev c : Candidate
  c = candidate_at x s.last

  here : (front qs : List ℕ) (q j : ℕ) (back : List ℕ) → below_of x c ≡ qs ++ q ∷ back → length front ≡ length qs → ranks_of x c ≡ front ++ j ∷ zeros back →
      (length front < length (below_of x c)) × (get_or (below_of x c) (length front) 0 ≡ q) × (get_or (ranks_of x c) (length front) 0 ≡ j)
  here front qs q j back e l f = (
    omega (arith, l, ap (λ (ps : List ℕ). length ps) e, length-append qs (q ∷ back)),
    ap (λ (m : ℕ). get_or (below_of x c) m 0) l ∙ ap (λ (ps : List ℕ). get_or ps (length qs) 0) e ∙ at_front qs back q,
    ap (λ (js : List ℕ). get_or js (length front) 0) f ∙ at_front front (zeros back) j,
  )

  long : (q : ℕ) → length (entries_of x q) ≡ length (list_of x q)
  long q = length-map (list_of x q) (told x.trees)

  is_asked : IsAsked product x.rules k (entries_of x) (tuple_of x s.last ∷ o.older) (tuples y now) (tuple_of x s.last)
  is_asked = record {
    followed = λ front qs q j back e l f next fits.
        let a = here front qs q j back e l f in
        let r : raise (length front) (ranks_of x c) ≡ front ++ suc j ∷ zeros back = ap (raise (length front)) f ∙ raise_front front (zeros back) j in
        let n : get_or (ranks_of x c) (length front) 0 + 1 < length (list_of x (get_or (below_of x c) (length front) 0)) =
        let w : suc j < length (list_of x q) = omega (arith, next, long q) in
        subst (λ (p : ℕ). get_or (ranks_of x c) (length front) 0 + 1 < length (list_of x p)) (sym a.1) (omega (arith, w, a.2))
        in
        let t : Has (tuples y now) (c.rule, raise (length front) (ranks_of x c)) =
        h.followed.there (length front) (last_before front back j h.first (ranks_of x c) f h.is_last) a.0 n (subst (λ (js : List ℕ). (offer product x.rules (entries_of x) c.rule js).1 ≤ most) (sym r) fits)
        in
        inr (subst (λ (js : List ℕ). Has (tuples y now) (c.rule, js)) r t);
    asked = λ front qs q j back e l f.
        let a = here front qs q j back e l f in
        let w : IsAnswered product k x q j = subst (λ (i : ℕ). IsAnswered product k x q i) a.2 (subst (λ (p : ℕ). IsAnswered product k x p (get_or (ranks_of x c) (length front) 0)) a.1 (answered (length front) a.0)) in
        elim w [
          | inl n ↦ inl (omega (arith, n, long q))
          | inr v ↦ elim v [ inl all ↦ inr (inl all) | inr full ↦ inr (inr (omega (arith, full, long q))) ]
        ];
  }

  pub followed : IsKept product y.rules k (entries_of y) (tuple_of x s.last ∷ o.older) (tuple_of x s.last ∷ o.older) (tuples y now) u
  followed =
      subst (λ (z : ListsOf). IsKept product z.rules k (entries_of z) (tuple_of x s.last ∷ o.older) (tuple_of x s.last ∷ o.older) (tuples y now) u) (sym h.followed.more.same)
      ((keeps product).asks x.rules k (entries_of x) o.older (tuple_of x s.last) (tuples x s.heap) (tuples y now) u o.kept h.followed.to
      (λ n js i.
      let r = more_range n js i in (
        r.0,
        elim (h.followed.from (n, js) i) [
          | inl w ↦ (o.kept.in_range n js w).1
          | inr e ↦ ap (λ (w : pass.Candidate). (rule_at x.rules w.0).left) e.4 ∙ (o.kept.named c.rule (ranks_of x c) (inl refl)).0
        ],
        r.1,
        r.2,
      )) is_asked)
    where
      more_range : (n : ℕ) (js : List ℕ) → Has (tuples y now) (n, js) → (n < length x.rules) × AreRanks (entries_of x) (states_at x.rules n) js × ((offer product x.rules (entries_of x) n js).1 ≤ most)
      more_range n js i =
          subst (λ (z : ListsOf). (n < length z.rules) × AreRanks (entries_of z) (states_at z.rules n) js × ((offer product z.rules (entries_of z) n js).1 ≤ most)) h.followed.more.same
          (in_range product y now h.followed.held.lists h.followed.held.below n js i)

  pub followed_preceded : ArePreceded (tuple_of x s.last ∷ o.older) (tuple_of x s.last ∷ o.older)
  followed_preceded n front j back i = inr (o.preceded n front j back i)

  pub followed_waits : ArePreceded (tuple_of x s.last ∷ o.older) (tuples y now)
  followed_waits n front j back i = elim (h.followed.from (n, front ++ suc j ∷ zeros back) i) [
    | inl w ↦ inr (o.waits n front j back w)
    | inr e ↦
        let r : front ++ suc j ∷ zeros back ≡ raise e.0 (ranks_of x c) = ap (λ (w : pass.Candidate). w.1) e.4 in
        let many : length (ranks_of x c) ≡ length (below_of x c) = ranks_long (entries_of x) (below_of x c) (ranks_of x c) (lists.made s.last o.last).is.tuple.ranks in
        let b : front ++ j ∷ zeros back ≡ ranks_of x c =
        before_raised e.0 (ranks_of x c) front j back (omega (arith, e.2, many)) (λ m low high. h.is_last.zeros m (omega (arith, e.1, low)) high) r
        in
        let rule : c.rule ≡ n = sym (ap (λ (w : pass.Candidate). w.0) e.4) in
        inl (ap (λ (m : ℕ). paired m (ranks_of x c)) rule ∙ ap (λ (js : List ℕ). paired n js) (sym b))
  ]
    where
      paired : ℕ → List ℕ → pass.Candidate
      paired m js = (m, js)

  -- no candidate is there twice
  followed_once : Distinct (tuples y now ++ tuple_of x s.last ∷ o.older)
  followed_once = h.followed.once (tuple_of x s.last ∷ o.older) (λ i low inside k.
      let many : length (ranks_of x c) ≡ length (below_of x c) = ranks_long (entries_of x) (below_of x c) (ranks_of x c) (lists.made s.last o.last).is.tuple.ranks in
      let r = raised_at i (ranks_of x c) (omega (arith, inside, many)) (λ m after high. h.is_last.zeros m (omega (arith, low, after)) high) in
      let w : pass.Candidate = (c.rule, r.front ++ suc r.rank ∷ zeros r.back) in
      let i_was : Has (tuples x s.heap ++ tuple_of x s.last ∷ o.older) w = subst (λ (js : List ℕ). Has (tuples x s.heap ++ tuple_of x s.last ∷ o.older) (c.rule, js)) r.now k in
      let before : Has o.older (c.rule, r.front ++ r.rank ∷ zeros r.back) = elim (has_either (tuples x s.heap) (tuple_of x s.last ∷ o.older) w i_was) [
        | inl v ↦ o.waits c.rule r.front r.rank r.back v
        | inr v ↦ o.preceded c.rule r.front r.rank r.back v
      ]
      in
      (distinct_right (tuples x s.heap) (tuple_of x s.last ∷ o.older) o.single.once).0 (subst (λ (js : List ℕ). Has o.older (c.rule, js)) r.before before)) o.single.once

  pub followed_single : AreOnce product y u (tuple_of x s.last ∷ o.older) (tuples y now)
  followed_single = record {
    once = followed_once;
    from = subst (λ (z : ListsOf). (t : Tree ℕ) → HasTree (entries_of z u) t → IsFrom product z.rules (entries_of z) (tuple_of x s.last ∷ o.older) t) (sym h.followed.more.same) o.single.from;
  }
