-- The least candidate that waits is the first tree of its state.
use Rattle.std.specs.Prelude.{◌≡◌, ◌⊎◌, ℕ, ◌<◌, ◌≤◌, Bool, false, List, [], ◌∷◌, ◌++◌, length, map, refl}
use Rattle.std.proofs.Common.{suc, arith, ap, sym, ◌∙◌, subst, inl, inr, get_or}
use Rattle.std.proofs.lemmas.List.{length-map, get_or-set_same, get_or-set_other}
use Rattle.std.proofs.lemmas.Cmp.{nat_cmp_total, tied_itself}
use Rattle.std.specs.declared.cmp.Ordering.{Ordering}
use Rattle.std.specs.declared.cmp.Ordering.TheVariants.{Less, Equal, Greater}
use Rattle.std.specs.Ordering.{is_gt, nat_cmp, ordering_then, ordering_reverse}
use Rattle.tib_lex.specs.Lists.{Has}
use Rattle.tib_cost.specs.Semiring.{most, ProductLaws}
use Rattle.tib_tree.specs.Trees.{Tree, size, sizes, only, relabel, most_nodes}
use Rattle.tib_tree.specs.Growth.{LabelsBelow, text_at}
use Rattle.tib_tree.specs.Order.{tree_cmp_by}
use Rattle.tib_tree.proofs.Relabelling.{sizes-relabel}
use Rattle.tib_grammar.specs.Run.{rule_at}
use Rattle.tib_ranked_trees.specs.Best.{Cheaper, IsTreeAt}
use Rattle.tib_ranked_trees.specs.First.{NoLater, IsNext, IsFront}
use Rattle.tib_ranked_trees.specs.Firsts.{IsReady, NoLarger}
use Rattle.tib_ranked_trees.specs.Levels.{IsOrderly, states_of}
use Rattle.tib_ranked_trees.specs.Pass.{AreRanks, zeros, offer}
use Rattle.tib_ranked_trees.proofs.Firsts.{firsts_are_best}
use Rattle.tib_tree.proofs.Orderings.{nat_less}
use Rattle.tib_ranked_trees.proofs.FrontsGrowing.{no_smaller}
use Rattle.tib_ranked_trees.proofs.Ranks.{cheaper_total}
use Rattle.tib_ranked_trees.specs.ListsOf.{ListsOf}
use Rattle.tib_ranked_trees.specs.Seen.{tree_at}
use Rattle.tib_ranked_trees.specs.Held.{no_entry, entry_at, list_of, told, entries_of, candidate_at, ranks_of, tree_by, stands_for, offers_cmp, with_entry, grown, AreMore, IsSound}
use Rattle.tib_ranked_trees.specs.Ordered.{offers_total}
use Rattle.tib_ranked_trees.specs.declared.lists.Candidate.{Candidate}
use Rattle.tib_ranked_trees.proofs.Offering.{rank_at}
use Rattle.tib_lazy_lists.specs.Firsts.{IsFromFirst}
use Rattle.tib_k_best.specs.QueueOf.{QueueOf, waiting_at}
use Rattle.tib_k_best.specs.Queues.{Waits, IsBegun, IsPassed, IsQueue, IsSettled, IsTaken, IsListed, IsReleased, StaysSame, state_of}
use Rattle.std.proofs.Math.ListN.{set, length-set}
use Rattle.tib_lex.proofs.Lists.{append_nil}
use Rattle.tib_grammar.specs.Range.{AreInRange}
use Rattle.tib_ranked_trees.proofs.Going.{grow}
use Rattle.tib_ranked_trees.specs.declared.lists.Entry.{Entry}
use Rattle.tib_ranked_trees.proofs.Growing.{entries_kept, offer_kept, stands_kept, heap_kept}
use Rattle.tib_k_best.proofs.Beginning.{from_kept, made_kept, placed_kept, first_kept, trees_kept, zeros_there}
use Rattle.tib_lazy_lists.proofs.Taken.{tree_labelled}

same_or : (a b : ℕ) → (a ≡ b) ⊎ (a ≡ b → ⊥)
same_or a b = grind arith

-- what comes no later is no larger
no_larger : (labels : List (List ℕ)) (a b : Tree ℕ × ℕ) → NoLater (Cheaper labels) a b → NoLarger a b
no_larger labels a b (inl e) = inr (ap (λ (x : Tree ℕ × ℕ). x.1) e, let s : size a.0 ≡ size b.0 = ap (λ (x : Tree ℕ × ℕ). size x.0) e in omega arith)
no_larger labels a b (inr (inl h)) = inl h
no_larger labels a b (inr (inr h)) =
    let s = no_smaller (sizes (relabel (text_at labels) a.0.kids)) (sizes (relabel (text_at labels) b.0.kids)) _ h.1 in
    inr (h.0, omega (arith, s, sizes-relabel (text_at labels) a.0.kids, sizes-relabel (text_at labels) b.0.kids))

cheaper_less : (labels : List (List ℕ)) (a b : Tree ℕ × ℕ) → Cheaper labels a b → offers_cmp labels a b ≡ Less
cheaper_less labels a b (inl h) = let e = nat_less a.1 b.1 h in rw e
cheaper_less labels a b (inr h) =
    let e : nat_cmp a.1 b.1 ≡ Equal = ap (λ (n : ℕ). nat_cmp n b.1) h.0 ∙ tied_itself nat_cmp_total b.1 in
    ap (λ (o : Ordering). ordering_then o (tree_cmp_by labels a.0 b.0)) e ∙ h.1

module _ (product : ℕ → ℕ → ℕ) (x : ListsOf) (w : QueueOf) (s : IsSettled product x w) where
  not_waiting : (n : ℕ) → Waits w n → AreRanks (entries_of x) (states_of (rule_at x.rules n)) (zeros (states_of (rule_at x.rules n))) → ⊥
  not_waiting n ws ranks =
      let p = s.queue.placed ws.state ws.waiting ws.stands in
      let place : ws.waiting.place < length (states_of (rule_at x.rules n)) = subst (λ (i : ℕ). ws.waiting.place < length (states_of (rule_at x.rules i))) ws.is p.place in
      let state : get_or (states_of (rule_at x.rules n)) ws.waiting.place 0 ≡ ws.state = subst (λ (i : ℕ). get_or (states_of (rule_at x.rules i)) ws.waiting.place 0 ≡ ws.state) ws.is p.state in
      let low = rank_at (entries_of x) (states_of (rule_at x.rules n)) (zeros (states_of (rule_at x.rules n))) ws.waiting.place ranks place in
      let there : 0 < length (list_of x (get_or (states_of (rule_at x.rules n)) ws.waiting.place 0)) =
      omega (arith, low, length-map (list_of x (get_or (states_of (rule_at x.rules n)) ws.waiting.place 0)) (told x.trees))
      in
      let none = s.settled ws.state (subst (λ (q : ℕ). 0 < length (list_of x q)) state there) in
      subst (λ bs. Has bs ws.waiting) none ws.stands

  -- a rule that is ready has its candidate in the heap
  pub begun_of : (n : ℕ) → IsReady product x.rules (entries_of x) n → IsBegun x w n
  begun_of n ready = elim (s.queue.each n ready.below) [
    | inl none ↦ absurd none
    | inr o ↦ elim o [ inl ws ↦ absurd (not_waiting n ws ready.ranks) | inr p ↦ p.begun ready ]
  ]

  -- a candidate of the heap stands for what its rule makes of first trees
  pub offer_is : (m : ℕ) → Has w.heap m → offer product x.rules (entries_of x) (candidate_at x m).rule (zeros (states_of (rule_at x.rules (candidate_at x m).rule))) ≡ stands_for x m
  offer_is m h =
      let c : Candidate = candidate_at x m in
      ap (offer product x.rules (entries_of x) c.rule) (sym (s.queue.first m h)) ∙ ap (pair (tree_by x c.rule (ranks_of x c))) (s.queue.made m (s.queue.below m h)).priced
    where
      pair : Tree ℕ → ℕ → Tree ℕ × ℕ
      pair t k = (t, k)

  -- where no candidate waits, no rule is ready
  pub none_ready : w.heap ≡ [] → (n : ℕ) → IsReady product x.rules (entries_of x) n → ⊥
  none_ready e n ready = let b = begun_of n ready in subst (λ (ms : List ℕ). Has ms b.candidate) e b.stands

  not_after : (a b : ℕ) → Has w.heap a → Has w.heap b → is_gt (offers_cmp x.labels (stands_for x a) (stands_for x b)) ≡ false → NoLater (Cheaper x.labels) (stands_for x a) (stands_for x b)
  not_after a b h i g =
      let la = tree_labelled x s.queue.sound (candidate_at x a).rule (ranks_of x (candidate_at x a)) (s.queue.made a (s.queue.below a h)).is.tuple in
      let lb = tree_labelled x s.queue.sound (candidate_at x b).rule (ranks_of x (candidate_at x b)) (s.queue.made b (s.queue.below b i)).is.tuple in
      elim (cheaper_total x.labels s.queue.sound.distinct (stands_for x a) (stands_for x b) la lb) [
        | inl c ↦ inr c
        | inr o ↦ elim o [
          | inl e ↦ inl e
          | inr c ↦
              let turned : offers_cmp x.labels (stands_for x a) (stands_for x b) ≡ Greater =
              (offers_total x).antisymm a b ∙ ap ordering_reverse (cheaper_less x.labels (stands_for x b) (stands_for x a) c)
              in
              absurd (greater (offers_cmp x.labels (stands_for x a) (stands_for x b)) turned g)
        ]
      ]
    where
      greater : (o : Ordering) → o ≡ Greater → is_gt o ≡ false → ⊥
      greater Less e k = cc
      greater Equal e k = cc
      greater Greater e k = cc

  module _ {levelled weighted : Bool} (laws : ProductLaws levelled weighted product) (orderly : IsOrderly product x.rules) (m : ℕ) (h : Has w.heap m)
      (least : (y : ℕ) → Has w.heap y → is_gt (offers_cmp x.labels (stands_for x m) (stands_for x y)) ≡ false) (free : length (list_of x (state_of x m)) ≡ 0) where
    abbrev rule : ℕ
    rule = (candidate_at x m).rule

    empty : {A : Type 0} (xs : List A) → length xs ≡ 0 → xs ≡ []
    empty [] e = refl
    empty (z ∷ zs) e = absurd (omega arith)

    pub no_entries : entries_of x (state_of x m) ≡ []
    no_entries = empty (entries_of x (state_of x m)) (length-map (list_of x (state_of x m)) (told x.trees) ∙ free)

    is_ready : IsReady product x.rules (entries_of x) rule
    is_ready =
        let i = s.queue.made m (s.queue.below m h) in
        record {
          below = i.is.tuple.rule;
          open_state = no_entries;
          ranks = subst (λ (js : List ℕ). AreRanks (entries_of x) (states_of (rule_at x.rules rule)) js) (s.queue.first m h) i.is.tuple.ranks;
          fits = subst (λ (z : Tree ℕ × ℕ). z.1 ≤ most) (sym (offer_is m h)) i.within;
        }

    later : (n : ℕ) → IsReady product x.rules (entries_of x) n →
        NoLater (Cheaper x.labels) (offer product x.rules (entries_of x) rule (zeros (states_of (rule_at x.rules rule)))) (offer product x.rules (entries_of x) n (zeros (states_of (rule_at x.rules n))))
    later n ready =
        let b = begun_of n ready in
        let o : NoLater (Cheaper x.labels) (stands_for x m) (stands_for x b.candidate) = not_after m b.candidate h b.stands (least b.candidate b.stands) in
        let p : stands_for x b.candidate ≡ offer product x.rules (entries_of x) n (zeros (states_of (rule_at x.rules n))) =
        sym (offer_is b.candidate b.stands) ∙ ap (λ (i : ℕ). offer product x.rules (entries_of x) i (zeros (states_of (rule_at x.rules i)))) b.is
        in
        subst (λ (z : Tree ℕ × ℕ). NoLater (Cheaper x.labels) z (offer product x.rules (entries_of x) n (zeros (states_of (rule_at x.rules n))))) (sym (offer_is m h))
        (subst (λ (z : Tree ℕ × ℕ). NoLater (Cheaper x.labels) (stands_for x m) z) p o)

    -- the least candidate stands for the first tree of its state
    pub is_next : IsNext (IsTreeAt product x.rules (state_of x m)) (Cheaper x.labels) (entries_of x (state_of x m)) (stands_for x m)
    is_next =
        subst (λ (z : Tree ℕ × ℕ). IsNext (IsTreeAt product x.rules (state_of x m)) (Cheaper x.labels) (entries_of x (state_of x m)) z) (offer_is m h)
        ((firsts_are_best laws).next x.labels x.rules (entries_of x) s.queue.sound.normal orderly s.queue.fronts rule is_ready (λ n ready e. later n ready) (λ n ready. no_larger x.labels _ _ (later n ready)))

-- a candidate whose state has a tree is dropped
pub dropped : (product : ℕ → ℕ → ℕ) (x : ListsOf) (m : ℕ) (w : QueueOf) → IsTaken product x m w → 0 < length (list_of x (state_of x m)) → IsSettled product x w
dropped product x m w t has =
    let k = t.settled.queue in
    record {
      queue = record {
        sound = k.sound;
        made = k.made;
        long = k.long;
        placed = k.placed;
        heap = t.is_heap;
        below = λ y h. k.below y (t.takes.back y h);
        first = λ y h. k.first y (t.takes.back y h);
        each = λ n l. elim (k.each n l) [
          | inl e ↦ inl e
          | inr o ↦ elim o [
            | inl ws ↦ inr (inl (record { state = ws.state; waiting = ws.waiting; stands = ws.stands; is = ws.is }))
            | inr p ↦ inr (inr (record {
              all = p.all;
              begun = λ ready.
                  let b = p.begun ready in
                  elim (t.takes.out b.candidate b.stands) [
                    | inl e ↦
                        let r : (candidate_at x m).rule ≡ n = ap (λ (i : ℕ). (candidate_at x i).rule) (sym e) ∙ b.is in
                        let none : entries_of x (state_of x m) ≡ [] = ap (λ (i : ℕ). entries_of x (rule_at x.rules i).left) r ∙ ready.open_state in
                        absurd (let z : length (entries_of x (state_of x m)) ≡ 0 = ap (λ es. length es) none in omega (arith, has, z, length-map (list_of x (state_of x m)) (told x.trees)))
                    | inr h ↦ record { candidate = b.candidate; stands = h; is = b.is }
                  ];
            }))
          ]
        ];
        fronts = k.fronts;
        few = k.few;
        from = k.from;
      };
      settled = t.settled.settled;
    }

-- the first tree of a state is listed
module _ {levelled weighted : Bool} {product : ℕ → ℕ → ℕ} (laws : ProductLaws levelled weighted product) (x : ListsOf) (orderly : IsOrderly product x.rules) (m : ℕ) (w : QueueOf) (t : IsTaken product x m w)
    (free : length (list_of x (state_of x m)) ≡ 0) (small : size (tree_by x (candidate_at x m).rule (ranks_of x (candidate_at x m))) ≤ most_nodes) (y : ListsOf) (l : IsListed x m y) where
  abbrev before : QueueOf
  before = record { waiting = w.waiting; heap = t.heap }

  abbrev k : IsQueue product x before []
  k = t.settled.queue

  abbrev q : ℕ
  q = state_of x m

  abbrev c : Candidate
  c = candidate_at x m

  abbrev tree : Tree ℕ
  tree = tree_by x c.rule (ranks_of x c)

  abbrev e : Entry
  e = record { tree = l.number; cost = c.cost; candidate = m }

  abbrev ts : List (Tree ℕ)
  ts = l.middle.trees

  abbrev ls : List (List Entry)
  ls = set x.lists q (list_of x q ++ e ∷ [])

  abbrev z : ListsOf
  z = grown x ts ls x.candidates x.ranks

  is_z : y ≡ z
  is_z = l.put ∙ ap (λ (u : ListsOf). with_entry u q e) l.has.rest

  next : IsNext (IsTreeAt product x.rules q) (Cheaper x.labels) (entries_of x q) (tree, c.cost)
  next = is_next product x before t.settled laws orderly m t.takes.stands t.takes.first free

  within : q < length x.lists
  within = (k.sound.range c.rule (k.made m (k.below m t.takes.stands)).is.tuple.rule).0

  here : get_or ls q [] ≡ list_of x q ++ e ∷ []
  here = get_or-set_same x.lists q (list_of x q ++ e ∷ []) [] within

  there : (p : ℕ) → (p ≡ q → ⊥) → get_or ls p [] ≡ list_of x p
  there p n = get_or-set_other x.lists q p (list_of x q ++ e ∷ []) [] n

  nothing : {A : Type 0} (xs : List A) → length xs ≡ 0 → xs ≡ []
  nothing [] f = refl
  nothing (a ∷ xs) f = absurd (omega arith)

  alone : get_or ls q [] ≡ e ∷ []
  alone = here ∙ ap (λ (es : List Entry). es ++ e ∷ []) (nothing (list_of x q) free)

  more : AreMore x ts ls x.candidates x.ranks
  more = record {
    trees = l.has.still;
    lists = λ p. elim (same_or p q) [
      | inl f ↦ (e ∷ [], subst (λ (r : ℕ). get_or ls r [] ≡ list_of x r ++ e ∷ []) (sym f) here)
      | inr n ↦ ([], there p n ∙ sym (append_nil (list_of x p)))
    ];
    candidates = ([], sym (append_nil x.candidates));
    ranks = ([], sym (append_nil x.ranks));
  }

  tree_is_labelled : LabelsBelow (length x.labels) (only tree)
  tree_is_labelled = tree_labelled x k.sound c.rule (ranks_of x c) (k.made m (k.below m t.takes.stands)).is.tuple

  -- what holds for each tree that was there, and for the new one, holds for each
  each_tree : (P : Tree ℕ → Type 0) → ((i : ℕ) → i < length x.trees → P (tree_at x.trees i)) → P tree → (i : ℕ) → i < length ts → P (tree_at ts i)
  each_tree P old new i h = elim (l.has.only i h) [
    | inl b ↦ subst P (sym (l.has.still.same i b)) (old i b)
    | inr f ↦ subst P (sym (f ∙ l.has.named)) new
  ]

  sound : IsSound z
  sound = record {
    normal = k.sound.normal;
    range = subst (λ (n : ℕ). AreInRange n x.rules) (sym (length-set x.lists q (list_of x q ++ e ∷ []))) k.sound.range;
    rules_labelled = k.sound.rules_labelled;
    distinct = k.sound.distinct;
    ranked = k.sound.ranked;
    listed = λ p j h. elim (same_or p q) [
      | inl f ↦ subst (λ (r : ℕ). (get_or (get_or ls r []) j no_entry).tree < length ts) (sym f)
          (subst (λ (es : List Entry). (get_or es j no_entry).tree < length ts) (sym alone)
          (let j0 : j ≡ 0 = let len : length (get_or ls p []) ≡ 1 = ap (λ (r : ℕ). length (get_or ls r [])) f ∙ ap (λ (es : List Entry). length es) alone in omega (arith, h, len) in
          subst (λ (i : ℕ). (get_or (e ∷ []) i no_entry).tree < length ts) (sym j0) l.has.below))
      | inr n ↦
          let f = there p n in
          let h' : j < length (list_of x p) = omega (arith, h, ap (λ (es : List Entry). length es) f) in
          subst (λ (es : List Entry). (get_or es j no_entry).tree < length ts) (sym f) (omega (arith, k.sound.listed p j h', l.has.still.more))
    ];
    labelled = each_tree (λ u. LabelsBelow (length x.labels) (only u)) k.sound.labelled tree_is_labelled;
    few = λ p. elim (same_or p q) [
      | inl f ↦ let len : length (get_or ls p []) ≡ 1 = ap (λ (r : ℕ). length (get_or ls r [])) f ∙ ap (λ (es : List Entry). length es) alone in omega (arith, len)
      | inr n ↦ omega (arith, k.sound.few p, ap (λ (es : List Entry). length es) (there p n))
    ];
    small = each_tree (λ u. size u ≤ most_nodes) k.sound.small small;
  }

  xs_nil : {A : Type 0} (xs ys : List A) → xs ++ ys ≡ [] → xs ≡ []
  xs_nil [] ys f = refl
  xs_nil (a ∷ xs) ys f = absurd (cc)

  ready_before : (n : ℕ) → IsPassed product x before n → IsReady product x.rules (entries_of z) n → IsReady product x.rules (entries_of x) n
  ready_before n p ready =
      let m1 = entries_kept x k.sound ts ls x.candidates x.ranks more (rule_at x.rules n).left in
      let ranks = zeros_there x (states_of (rule_at x.rules n)) p.all in
      let o = offer_kept x k.sound ts ls x.candidates x.ranks more product n (zeros (states_of (rule_at x.rules n))) (record { rule = ready.below; ranks = ranks }) in
      record {
        below = ready.below;
        open_state = xs_nil (entries_of x (rule_at x.rules n).left) m1.0 (sym m1.1 ∙ ready.open_state);
        ranks = ranks;
        fits = subst (λ (u : Tree ℕ × ℕ). u.1 ≤ most) o ready.fits;
      }

  front_here : IsFront (IsTreeAt product x.rules q) (Cheaper x.labels) (entries_of z q)
  front_here =
      let g = (grow product).more x.labels x.rules q (entries_of x q) (tree, c.cost) (k.fronts q) next in
      let none : entries_of x q ≡ [] = nothing (entries_of x q) (length-map (list_of x q) (told x.trees) ∙ free) in
      let now : entries_of z q ≡ (tree, c.cost) ∷ [] = ap (λ (es : List Entry). map (told ts) es) alone ∙ ap (λ (u : Tree ℕ). (u, c.cost) ∷ []) l.has.named in
      subst (λ (us : List (Tree ℕ × ℕ)). IsFront (IsTreeAt product x.rules q) (Cheaper x.labels) us) (sym (now ∙ sym (ap (λ (us : List (Tree ℕ × ℕ)). us ++ (tree, c.cost) ∷ []) none))) g

  front_there : (p : ℕ) → (p ≡ q → ⊥) → entries_of z p ≡ entries_of x p
  front_there p n =
      let m1 = entries_kept x k.sound ts ls x.candidates x.ranks more p in
      ap (λ (es : List Entry). map (told ts) es) (there p n) ∙ told_same p
    where
      told_same : (r : ℕ) → map (told ts) (list_of x r) ≡ map (told x.trees) (list_of x r)
      told_same r = by (list_of x r) (λ j h. l.has.still.same (get_or (list_of x r) j no_entry).tree (k.sound.listed r j h))
        where
          by : (es : List Entry) → ((j : ℕ) → j < length es → tree_at ts (get_or es j no_entry).tree ≡ tree_at x.trees (get_or es j no_entry).tree) → map (told ts) es ≡ map (told x.trees) es
          by [] h = refl
          by (a ∷ es) h = ap (λ (u : Tree ℕ). (u, a.cost) ∷ map (told ts) es) (h 0 (omega arith)) ∙ ap (λ (us : List (Tree ℕ × ℕ)). (tree_at x.trees a.tree, a.cost) ∷ us) (by es (λ j i. h (suc j) (omega arith)))

  alone_long : (p : ℕ) → p ≡ q → length (get_or ls p []) ≡ 1
  alone_long p f = ap (λ (r : ℕ). length (get_or ls r [])) f ∙ ap (λ (es : List Entry). length es) alone

  few_there : (p : ℕ) → length (list_of z p) ≤ 1
  few_there p = elim (same_or p q) [
    | inl f ↦ omega (arith, alone_long p f)
    | inr n ↦ omega (arith, k.few p, ap (λ (es : List Entry). length es) (there p n))
  ]

  -- the new entry came from the least candidate
  from_here : IsFromFirst z q (entry_at z q 0)
  from_here =
      let b : m < length x.candidates = k.below m t.takes.stands in
      let same : told ts e ≡ stands_for z m =
      ap (λ (u : Tree ℕ). costed u c.cost) l.has.named ∙ sym (stands_kept x k.sound ts ls x.candidates x.ranks more m b (k.made m b).is)
      in
      let is : IsFromFirst z q e = record { below = b; left = refl; first = k.first m t.takes.stands; same = same } in
      subst (λ (es : List Entry). IsFromFirst z q (get_or es 0 no_entry)) (sym alone) is
    where
      costed : Tree ℕ → ℕ → Tree ℕ × ℕ
      costed u n = (u, n)

  from_there : (p : ℕ) → (p ≡ q → ⊥) → 0 < length (list_of z p) → IsFromFirst z p (entry_at z p 0)
  from_there p n h =
      let low : 0 < length (list_of x p) = subst (λ (es : List Entry). 0 < length es) (there p n) h in
      let same : told ts (entry_at x p 0) ≡ told x.trees (entry_at x p 0) =
      ap (λ (u : Tree ℕ). costed u (entry_at x p 0).cost) (l.has.still.same (entry_at x p 0).tree (k.sound.listed p 0 low))
      in
      subst (λ (es : List Entry). IsFromFirst z p (get_or es 0 no_entry)) (sym (there p n))
      (from_kept product x before [] k ts ls x.candidates x.ranks more p (entry_at x p 0) same (k.from p low))
    where
      costed : Tree ℕ → ℕ → Tree ℕ × ℕ
      costed u c = (u, c)

  queue_z : IsQueue product z w []
  queue_z =
      let drop_ : (n : ℕ) → IsPassed product x before n → IsPassed product z w n =
      λ n p. record {
        all = trees_kept product x before [] k ts ls x.candidates x.ranks more (states_of (rule_at x.rules n)) (length (states_of (rule_at x.rules n))) p.all;
        begun = λ ready.
            let b = p.begun (ready_before n p ready) in
            elim (t.takes.out b.candidate b.stands) [
              | inl f ↦
                  let r : c.rule ≡ n = ap (λ (i : ℕ). (candidate_at x i).rule) (sym f) ∙ b.is in
                  let none : entries_of z q ≡ [] = ap (λ (i : ℕ). entries_of z (rule_at x.rules i).left) r ∙ ready.open_state in
                  let full : length (entries_of z q) ≡ 1 = ap (λ (es : List Entry). length (map (told ts) es)) alone in
                  absurd (omega (arith, full, ap (λ (us : List (Tree ℕ × ℕ)). length us) none))
              | inr h ↦ record { candidate = b.candidate; stands = h; is = b.is }
            ];
      } in
      record {
        sound = sound;
        made = λ n h. made_kept product x before [] k ts ls x.candidates x.ranks more n h;
        long = k.long ∙ sym (length-set x.lists q (list_of x q ++ e ∷ []));
        placed = λ p a h. placed_kept product x before [] k ts ls x.candidates x.ranks more p a h;
        heap = heap_kept (λ a b. offers_cmp x.labels (stands_for x a) (stands_for x b)) (λ a b. offers_cmp x.labels (stands_for z a) (stands_for z b)) w.heap
            (λ a b h i. ap (λ (u : Tree ℕ × ℕ). offers_cmp x.labels u (stands_for z b)) (stays a h) ∙ ap (λ (u : Tree ℕ × ℕ). offers_cmp x.labels (stands_for x a) u) (stays b i)) t.is_heap;
        below = λ n h. k.below n (t.takes.back n h);
        first = λ n h. first_kept product x before [] k ts ls x.candidates x.ranks more n (t.takes.back n h);
        each = λ n h. elim (k.each n h) [
          | inl f ↦ inl f
          | inr o ↦ elim o [
            | inl ws ↦ inr (inl (record { state = ws.state; waiting = ws.waiting; stands = ws.stands; is = ws.is }))
            | inr p ↦ inr (inr (drop_ n p))
          ]
        ];
        fronts = λ p. elim (same_or p q) [
          | inl f ↦ subst (λ (r : ℕ). IsFront (IsTreeAt product x.rules r) (Cheaper x.labels) (entries_of z r)) (sym f) front_here
          | inr n ↦ subst (λ (us : List (Tree ℕ × ℕ)). IsFront (IsTreeAt product x.rules p) (Cheaper x.labels) us) (sym (front_there p n)) (k.fronts p)
        ];
        few = few_there;
        from = λ p h. elim (same_or p q) [
          | inl f ↦ subst (λ (r : ℕ). IsFromFirst z r (entry_at z r 0)) (sym f) from_here
          | inr n ↦ from_there p n h
        ];
      }
    where
      stays : (n : ℕ) → Has w.heap n → stands_for z n ≡ stands_for x n
      stays n h = let b = k.below n (t.takes.back n h) in stands_kept x k.sound ts ls x.candidates x.ranks more n b (k.made n b).is

  -- what is known then
  pub listed_queue : IsQueue product y w []
  listed_queue = subst (λ (u : ListsOf). IsQueue product u w []) (sym is_z) queue_z

  pub listed_rules : y.rules ≡ x.rules
  listed_rules = ap (λ (u : ListsOf). u.rules) is_z

  pub listed_labels : y.labels ≡ x.labels
  listed_labels = ap (λ (u : ListsOf). u.labels) is_z

  pub listed_here : 0 < length (list_of y q)
  listed_here = subst (λ (u : ListsOf). 0 < length (list_of u q)) (sym is_z) (let len = ap (λ (es : List Entry). length es) alone in omega (arith, len))

  pub listed_within : q < length y.lists
  listed_within = subst (λ (u : ListsOf). q < length u.lists) (sym is_z) (omega (arith, within, length-set x.lists q (list_of x q ++ e ∷ [])))

  pub settled_after : (u : ListsOf) (v : QueueOf) → StaysSame y u → IsReleased y w q v → IsQueue product u v [] → IsSettled product u v
  settled_after u v same r queue = record {
    queue = queue;
    settled = λ p h. elim (same_or p q) [
      | inl f ↦ subst (λ (i : ℕ). waiting_at v i ≡ []) (sym f) r.none
      | inr n ↦
          let at : list_of u p ≡ list_of x p = ap (λ (es : List (List Entry)). get_or es p []) same.lists ∙ ap (λ (a : ListsOf). list_of a p) is_z ∙ there p n in
          let aty : list_of y p ≡ list_of x p = ap (λ (a : ListsOf). list_of a p) is_z ∙ there p n in
          let hx : 0 < length (list_of x p) = subst (λ (es : List Entry). 0 < length es) at h in
          r.others p n (subst (λ (es : List Entry). 0 < length es) (sym aty) hx) ∙ t.settled.settled p hx
    ];
  }

  pub listed_states : length y.lists ≡ length x.lists
  listed_states = ap (λ (u : ListsOf). length u.lists) is_z ∙ length-set x.lists q (list_of x q ++ e ∷ [])
