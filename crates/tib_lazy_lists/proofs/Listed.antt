-- What is kept once a state's tree was listed, or had been.
use Rattle.std.specs.Prelude.{◌≡◌, ◌⊎◌, ℕ, ◌<◌, ◌≤◌, Bool, List, [], ◌∷◌, ◌++◌, length, Some, refl}
use Rattle.std.proofs.Common.{arith, ap, sym, ◌∙◌, subst, inl, inr}
use Rattle.std.proofs.Math.ListN.{set, length-set}
use Rattle.std.proofs.lemmas.List.{length-map}
use Rattle.tib_lex.specs.Lists.{Has}
use Rattle.tib_lex.proofs.Lists.{has_mapped}
use Rattle.tib_lex.proofs.Members.{at_has, has_right, has_either}
use Rattle.tib_cost.specs.Semiring.{ProductLaws}
use Rattle.tib_tree.specs.Trees.{Tree, size, only, most_nodes}
use Rattle.tib_tree.specs.Growth.{LabelsBelow}
use Rattle.tib_grammar.specs.Range.{SidesEndInHoles}
use Rattle.tib_grammar.specs.Run.{rule_at}
use Rattle.tib_ranked_trees.specs.Below.{IsDeterministicBelow}
use Rattle.tib_ranked_trees.specs.Best.{Costed, IsNextAt, HasLarge}
use Rattle.tib_ranked_trees.specs.Lazy.{IsFrom, IsKept, IsWhole}
use Rattle.tib_ranked_trees.specs.Levels.{IsOrderly, states_at}
use Rattle.tib_ranked_trees.specs.Pass.{Entries, AreRanks, zeros_at, offer, HasTree}
use Rattle.tib_ranked_trees.specs.Pass as pass
use Rattle.tib_ranked_trees.proofs.Apart.{no_duplicates}
use Rattle.tib_ranked_trees.proofs.Keeping.{keeps}
use Rattle.tib_ranked_trees.specs.ListsOf.{ListsOf}
use Rattle.tib_ranked_trees.specs.Seen.{tree_at}
use Rattle.tib_ranked_trees.specs.Held.{no_entry, list_of, entry_at, told, entries_of, candidate_at, tuple_of, ranks_of, tree_by, stands_for, grown, AreMore}
use Rattle.tib_ranked_trees.specs.declared.lists.Entry.{Entry}
use Rattle.tib_ranked_trees.specs.declared.lists.Candidate.{Candidate}
use Rattle.tib_ranked_trees.proofs.Growing.{tuple_of_kept, tree_kept, entries_kept, ranks_kept}
use Rattle.tib_lazy_lists.specs.declared.asking.Stage.{Stage}
use Rattle.tib_lazy_lists.specs.Offers.{tuples, AreSound}
use Rattle.tib_lazy_lists.specs.AskingOf.{StateOf, AskingOf, state_at}
use Rattle.tib_lazy_lists.specs.Asks.{AreOnce, ArePreceded, IsOpen, IsState, IsAtStage, IsAskedFor, IsDrawnFrom, IsTaking, IsAskingBut, IsAsking, IsListing}
use Rattle.tib_lazy_lists.specs.Demands.{IsPlaced, IsPlacedOnce}
use Rattle.tib_lazy_lists.proofs.Once.{distinct_across, distinct_moved, from_kept, from_more}
use Rattle.tib_lazy_lists.proofs.Kept.{made_kept, tuples_kept, heap_stays, same_or}
use Rattle.tib_lazy_lists.proofs.States.{state_kept}
use Rattle.tib_lazy_lists.proofs.Taken.{tree_labelled, left_is, is_next}
use Rattle.tib_lazy_lists.proofs.Grown.{HasNew, same_entries, more_trees, sound_trees, more_entries, entries_here, entries_there, sound_entries, listed_now, carry_grown, whole_grown, fronts_grown, few_grown}

-- a state that took a candidate is open
module _ (product : ℕ → ℕ → ℕ) (k : ℕ) (x : ListsOf) (s : AreSound product x) (ts : List (Tree ℕ)) (ls : List (List Entry)) (more : AreMore x ts ls x.candidates x.ranks)
    (carry : (older taken held : List pass.Candidate) (u : ℕ) → IsKept product x.rules k (entries_of x) older taken held u → IsKept product x.rules k (entries_of (grown x ts ls x.candidates x.ranks)) older taken held u) (u : ℕ)
    (waited : List ℕ) (asked : IsAskedFor product k x u waited) (st : StateOf) (m : ℕ) (drawn : IsDrawnFrom x waited st (Some m))
    (listed : HasTree (entries_of (grown x ts ls x.candidates x.ranks) u) (tree_by x (candidate_at x m).rule (ranks_of x (candidate_at x m))))
    (only_new : (w : Tree ℕ) → HasTree (entries_of (grown x ts ls x.candidates x.ranks) u) w → HasTree (entries_of x u) w ⊎ (tree_by x (candidate_at x m).rule (ranks_of x (candidate_at x m)) ≡ w)) where
  abbrev z : ListsOf
  z = grown x ts ls x.candidates x.ranks

  abbrev c : Candidate
  c = candidate_at x m

  low : m < length x.candidates
  low = asked.below m drawn.3.stands

  rest_low : (n : ℕ) → Has st.heap n → n < length x.candidates
  rest_low n h = asked.below n (drawn.3.back n h)

  out_of : (w : pass.Candidate) → Has (tuples x waited) w → (w ≡ tuple_of x m) ⊎ Has (tuples x st.heap) w
  out_of w h =
      let i = has_mapped (tuple_of x) waited w h in
      elim (drawn.3.out i.0 i.1) [
        | inl e ↦ inl (sym i.2 ∙ ap (tuple_of x) e)
        | inr r ↦ inr (subst (λ (v : pass.Candidate). Has (tuples x st.heap) v) i.2 (Rattle.tib_lazy_lists.proofs.Kept.mapped_has (tuple_of x) st.heap i.0 r))
      ]

  back_to : (w : pass.Candidate) → Has (tuples x st.heap) w → Has (tuples x waited) w
  back_to w h =
      let i = has_mapped (tuple_of x) st.heap w h in
      subst (λ (v : pass.Candidate). Has (tuples x waited) v) i.2 (Rattle.tib_lazy_lists.proofs.Kept.mapped_has (tuple_of x) waited i.0 (drawn.3.back i.0 i.1))

  kept_after : IsKept product x.rules k (entries_of z) asked.taken (tuple_of x m ∷ asked.taken) (tuples x st.heap) u
  kept_after =
      let t : tree_by z c.rule (ranks_of x c) ≡ tree_by x c.rule (ranks_of x c) = tree_kept x s.sound ts ls x.candidates x.ranks more c.rule (ranks_of x c) (s.made m low).is.tuple in
      (keeps product).takes x.rules k (entries_of z) asked.taken (tuples x waited) (tuples x st.heap) (tuple_of x m) u (carry asked.taken asked.taken (tuples x waited) u asked.kept)
      (Rattle.tib_lazy_lists.proofs.Kept.mapped_has (tuple_of x) waited m drawn.3.stands) out_of back_to (subst (λ (v : Tree ℕ). HasTree (entries_of z u) v) (sym t) listed)

  single_after : AreOnce product z u (tuple_of x m ∷ asked.taken) (tuples x st.heap)
  single_after = record {
    once = distinct_moved (tuples x waited) (tuples x st.heap) asked.taken (tuple_of x m) out_of (omega (arith, drawn.4, length-map st.heap (tuple_of x), length-map waited (tuple_of x))) asked.single.once;
    from = λ w h. from_kept product x s.sound ts ls x.candidates x.ranks more (tuple_of x m ∷ asked.taken) w (from_here w (only_new w h));
  }
    where
      from_here : (w : Tree ℕ) → HasTree (entries_of x u) w ⊎ (tree_by x c.rule (ranks_of x c) ≡ w) → IsFrom product x.rules (entries_of x) (tuple_of x m ∷ asked.taken) w
      from_here w (inl h) = from_more product x asked.taken (tuple_of x m) w (asked.single.from w h)
      from_here w (inr e) =
          let tuple = (s.made m low).is.tuple in
          record { rule = c.rule; ranks = ranks_of x c; stands = inl refl; named = record { below = tuple.rule; ranks = tuple.ranks }; same = e }

  pub open_after : IsOpen product k z u st
  open_after =
      let e : tuple_of z st.last ≡ tuple_of x m = ap (tuple_of z) drawn.1 ∙ tuple_of_kept x s.sound ts ls x.candidates x.ranks more m low (s.made m low).is in
      let f : tuples z st.heap ≡ tuples x st.heap = tuples_kept product x s ts ls x.candidates x.ranks more st.heap rest_low in
      record {
        last = omega (arith, drawn.1, low);
        heap = heap_stays product x s ts ls x.candidates x.ranks more st.heap rest_low drawn.2;
        below = rest_low;
        older = asked.taken;
        kept =
            subst (λ (w : pass.Candidate). IsKept product x.rules k (entries_of z) asked.taken (w ∷ asked.taken) (tuples z st.heap) u) (sym e)
            (subst (λ (ws : List pass.Candidate). IsKept product x.rules k (entries_of z) asked.taken (tuple_of x m ∷ asked.taken) ws u) (sym f) kept_after);
        preceded = subst (λ (w : pass.Candidate). ArePreceded asked.taken (w ∷ asked.taken)) (sym e) (λ n front j back h. elim h [
          | inl g ↦
              asked.waits n front j back
              (subst (λ (w : pass.Candidate). Has (tuples x waited) w) g (Rattle.tib_lazy_lists.proofs.Kept.mapped_has (tuple_of x) waited m drawn.3.stands))
          | inr g ↦ asked.preceded n front j back g
        ]);
        waits = subst (λ (ws : List pass.Candidate). ArePreceded asked.taken ws) (sym f) (λ n front j back h. asked.waits n front j back (back_to _ h));
        single =
            subst (λ (w : pass.Candidate). AreOnce product z u (w ∷ asked.taken) (tuples z st.heap)) (sym e)
            (subst (λ (ws : List pass.Candidate). AreOnce product z u (tuple_of x m ∷ asked.taken) ws) (sym f) single_after);
      }

module _ {levelled weighted : Bool} {product : ℕ → ℕ → ℕ} (laws : ProductLaws levelled weighted product) (x : ListsOf) (orderly : IsOrderly product x.rules) (a : AskingOf) (u m : ℕ) (t : IsTaking product x a u m) where
  abbrev d : Candidate
  d = candidate_at x m

  abbrev tree : Tree ℕ
  tree = tree_by x d.rule (ranks_of x d)

  abbrev i : IsAskingBut product x a u
  i = t.others

  pub within_here : m < length x.candidates
  within_here = t.asked.below m t.drawn.3.stands

  pub size_is : d.size ≡ size tree
  size_is = (i.lists.made m within_here).is.size

  pub left : (rule_at x.rules d.rule).left ≡ u
  left = left_is laws a.k x i.lists orderly i.fronts u t.free t.waited t.asked.below t.asked.taken t.asked.kept m (state_at a u).heap t.drawn.3

  pub next : (HasTree (entries_of x u) tree → ⊥) → IsNextAt product x.labels x.rules u (entries_of x u) (stands_for x m)
  next new = is_next laws a.k x i.lists orderly i.fronts u t.free t.waited t.asked.below t.asked.taken t.asked.kept m (state_at a u).heap t.drawn.3 new

  listed_tree : (w : Tree ℕ) → HasTree (entries_of x u) w → (j : ℕ) × (j < length (list_of x u)) × (tree_at x.trees (entry_at x u j).tree ≡ w)
  listed_tree w h =
      let e = has_mapped (told x.trees) (list_of x u) (w, h.0) h.1 in
      let p = at_has (list_of x u) e.0 no_entry e.1 in
      (p.0, p.1, ap (λ (b : Entry). tree_at x.trees b.tree) p.2 ∙ ap (λ (y : Costed). y.0) e.2)

  -- in rules that are deterministic below the root its tree is not listed
  pub is_new : IsDeterministicBelow x.rules → SidesEndInHoles x.rules → HasTree (entries_of x u) tree → ⊥
  is_new form leaves =
      let tuple = (i.lists.made m within_here).is.tuple in
      (no_duplicates laws).new x.labels x.rules (entries_of x) i.lists.sound.normal leaves form i.fronts t.asked.taken u d.rule (ranks_of x d) (record { below = tuple.rule; ranks = tuple.ranks }) left
      (λ y h. (t.asked.kept.named y.0 y.1 h).0) t.asked.single.from
      (distinct_across (tuples x t.waited) t.asked.taken (tuple_of x m) t.asked.single.once (Rattle.tib_lazy_lists.proofs.Kept.mapped_has (tuple_of x) t.waited m t.drawn.3.stands))

  -- so it was placed
  pub is_placed : IsDeterministicBelow x.rules → SidesEndInHoles x.rules → (y : ListsOf) → IsPlacedOnce x u m y → IsPlaced x u m y
  is_placed form leaves y (inl h) = absurd (is_new form leaves h)
  is_placed form leaves y (inr p) = p

  -- a tree of more than 10,000 nodes is not listed, so it is next
  pub large : most_nodes < size tree → HasLarge product x.labels x.rules a.k u
  large big = record {
    front = entries_of x u;
    is_front = i.fronts u;
    few = omega (arith, t.free, length-map (list_of x u) (told x.trees));
    tree = stands_for x m;
    next = next (λ h. let l = listed_tree tree h in absurd (omega (arith, big, i.lists.sound.small (entry_at x u l.0).tree (i.lists.sound.listed u l.0 l.1), ap size l.2)));
    large = big;
  }

  module _ (small : size tree ≤ most_nodes) (pairs : List (ℕ × ℕ)) (y : ListsOf) (l : IsListing x u m a.listed y pairs) where
    has_new : HasNew x l.trees l.number tree
    has_new = record { below = l.has.below; named = l.has.named; still = l.has.still; only = l.has.only }

    labelled : LabelsBelow (length x.labels) (only tree)
    labelled = tree_labelled x i.lists.sound d.rule (ranks_of x d) (i.lists.made m within_here).is.tuple

    abbrev b : AskingOf
    b = record a { listed = pairs }

    within : u < length x.lists
    within = omega (arith, t.inside, i.long)

    -- the tree had been listed

    abbrev same : ListsOf
    same = grown x l.trees x.lists x.candidates x.ranks

    entries_same : entries_of same ≡ entries_of x
    entries_same = same_entries x i.lists.sound l.trees l.number tree has_new small labelled

    more_same_trees : AreMore x l.trees x.lists x.candidates x.ranks
    more_same_trees = more_trees x i.lists.sound l.trees l.number tree has_new small labelled

    carry_same : (older taken held : List pass.Candidate) (v : ℕ) → IsKept product x.rules a.k (entries_of x) older taken held v → IsKept product x.rules a.k (entries_of same) older taken held v
    carry_same older taken held v h = subst (λ (es : Entries). IsKept product x.rules a.k es older taken held v) (sym entries_same) h

    had : Has a.listed (u, l.number) → HasTree (entries_of x u) tree
    had h =
        let f = i.listed.from u l.number h in
        let there : l.number < length x.trees = omega (arith, f.2, i.lists.sound.listed u f.0 f.1) in
        let e : told x.trees (entry_at x u f.0) ≡ (tree, (entry_at x u f.0).cost) =
        ap (λ (n : ℕ). priced (tree_at x.trees n) (entry_at x u f.0).cost) f.2 ∙ ap (λ (w : Tree ℕ). priced w (entry_at x u f.0).cost) (sym (l.has.still.same l.number there) ∙ l.has.named)
        in
        ((entry_at x u f.0).cost, subst (λ (y : Costed). Has (entries_of x u) y) e (Rattle.tib_lazy_lists.proofs.Kept.mapped_has (told x.trees) (list_of x u) (entry_at x u f.0) (Rattle.tib_lex.proofs.Members.has_at (list_of x u) f.0 no_entry f.1)))
      where
        priced : Tree ℕ → ℕ → Costed
        priced w n = (w, n)

    dropped_here : Has a.listed (u, l.number) → IsAsking product same b
    dropped_here h = record {
      lists = record { sound = sound_trees x i.lists.sound l.trees l.number tree has_new small labelled; made = made_kept product x i.lists l.trees x.lists x.candidates x.ranks more_same_trees };
      started = subst (λ (es : Entries). (n : ℕ) → n < length x.rules → AreRanks es (states_at x.rules n) (zeros_at x.rules n)) (sym entries_same) i.started;
      fronts = subst (λ (es : Entries). (q : ℕ) → Rattle.tib_ranked_trees.specs.Best.IsFrontAt product x.labels x.rules q (es q)) (sym entries_same) i.fronts;
      few = i.few;
      small = i.small;
      long = i.long;
      many = i.many;
      by_state = i.by_state;
      listed = record {
        to = λ q j n. l.noted.to _ (i.listed.to q j n);
        from = λ q n k. elim (l.noted.from (q, n) k) [ inl o ↦ i.listed.from q n o | inr e ↦ i.listed.from q n (subst (λ (p : ℕ × ℕ). Has a.listed p) (sym e) h) ];
      };
      states = λ q n. inr (elim (i.states q n) [
        | inl e ↦ subst (λ (p : ℕ). IsState product a.k same p (state_at a p)) (sym e) state_here
        | inr k ↦
            state_kept product a.k x i.lists l.trees x.lists x.candidates x.ranks more_same_trees carry_same (λ v w. subst (λ (es : Entries). IsWhole product x.rules es v) (sym entries_same) w) q (state_at a q)
            (ap (λ (es : Entries). es q) entries_same) k
      ]);
    }
      where
        open_here : IsOpen product a.k same u (state_at a u)
        open_here =
            open_after product a.k x i.lists l.trees x.lists more_same_trees carry_same u t.waited t.asked (state_at a u) m t.drawn
            (subst (λ (es : Entries). HasTree (es u) tree) (sym entries_same) (had h)) (λ w g. inl (subst (λ (es : Entries). HasTree (es u) w) entries_same g))

        state_here : IsState product a.k same u (state_at a u)
        state_here = subst (λ (g : Stage). IsAtStage product a.k same u (state_at a u) g) (sym t.drawn.0) open_here

    -- the tree is new

    new_tree : (Has a.listed (u, l.number) → ⊥) → HasTree (entries_of x u) tree → ⊥
    new_tree n h =
        let f = listed_tree tree h in
        let there : (entry_at x u f.0).tree < length x.trees = i.lists.sound.listed u f.0 f.1 in
        let e : (entry_at x u f.0).tree ≡ l.number =
        l.distinct (entry_at x u f.0).tree l.number (omega (arith, there, l.has.still.more)) l.has.below (l.has.still.same (entry_at x u f.0).tree there ∙ f.2 ∙ sym l.has.named)
        in
        n (subst (λ (j : ℕ). Has a.listed (u, j)) e (i.listed.to u f.0 f.1))

    abbrev longer : ListsOf
    longer = grown x l.trees (set x.lists u (list_of x u ++ record { tree = l.number; cost = d.cost; candidate = m } ∷ [])) x.candidates x.ranks

    listed_here : (Has a.listed (u, l.number) → ⊥) → IsAsking product longer b
    listed_here n =
        let nx : IsNextAt product x.labels x.rules u (entries_of x u) (tree, d.cost) = next (new_tree n) in
        let sx = i.lists.sound in
        let more = more_entries x sx l.trees l.number tree has_new small labelled u within d.cost m in
        let carry = carry_grown x sx l.trees l.number tree has_new small labelled u within d.cost m product a.k t.free nx in
        let here : HasTree (entries_of longer u) tree = (
          d.cost,
          subst (λ (es : List Costed). Has es (tree, d.cost)) (sym (entries_here x sx l.trees l.number tree has_new small labelled u within d.cost m)) (has_right (entries_of x u) ((tree, d.cost) ∷ []) (tree, d.cost) (inl refl)),
        ) in
        let last : (w : Tree ℕ) → HasTree (entries_of longer u) w → HasTree (entries_of x u) w ⊎ (tree ≡ w) = λ w h.
        elim (has_either (entries_of x u) ((tree, d.cost) ∷ []) (w, h.0) (subst (λ (es : List Costed). Has es (w, h.0)) (entries_here x sx l.trees l.number tree has_new small labelled u within d.cost m) h.1)) [
          | inl k ↦ inl (h.0, k)
          | inr k ↦ elim k [ inl e ↦ inr (ap (λ (y : Costed). y.0) e) | inr bad ↦ absurd bad ]
        ]
        in
        let open_here : IsOpen product a.k longer u (state_at a u) = open_after product a.k x i.lists l.trees _ more carry u t.waited t.asked (state_at a u) m t.drawn here last in
        let state_here : IsState product a.k longer u (state_at a u) = subst (λ (g : Stage). IsAtStage product a.k longer u (state_at a u) g) (sym t.drawn.0) open_here in
        record {
          lists = record {
            sound = sound_entries x sx l.trees l.number tree has_new small labelled u within d.cost m (omega (arith, t.free, i.small));
            made = made_kept product x i.lists l.trees _ x.candidates x.ranks more;
          };
          started = λ j h. ranks_kept (entries_of x) (entries_of longer) (entries_kept x sx l.trees _ x.candidates x.ranks more) (states_at x.rules j) (zeros_at x.rules j) (i.started j h);
          fronts = fronts_grown x sx l.trees l.number tree has_new small labelled u within d.cost m product a.k t.free nx i.fronts;
          few = few_grown x sx l.trees l.number tree has_new small labelled u within d.cost m product a.k t.free nx i.few;
          small = i.small;
          long = i.long ∙ sym (length-set x.lists u _);
          many = i.many ∙ sym (length-set x.lists u _);
          by_state = i.by_state;
          listed = listed_now x sx l.trees l.number tree has_new small labelled u within d.cost m a.listed pairs i.listed l.noted.to l.noted.new l.noted.from;
          states = λ q h. inr (elim (same_or q u) [
            | inl e ↦ subst (λ (p : ℕ). IsState product a.k longer p (state_at a p)) (sym e) state_here
            | inr o ↦ elim (i.states q h) [
              | inl e ↦ absurd (o e)
              | inr k ↦
                  state_kept product a.k x i.lists l.trees _ x.candidates x.ranks more carry (whole_grown x sx l.trees l.number tree has_new small labelled u within d.cost m product a.k t.free nx) q (state_at a q)
                  (entries_there x sx l.trees l.number tree has_new small labelled u within d.cost m q o) k
            ]
          ]);
        }

    pub is_asking : IsAsking product y b
    is_asking = elim l.how [
      | inl h ↦ subst (λ (z : ListsOf). IsAsking product z b) (sym h.0) (dropped_here h.1)
      | inr h ↦ subst (λ (z : ListsOf). IsAsking product z b) (sym h.0) (listed_here h.1)
    ]

    -- what was listed
    pub placed : IsPlacedOnce x u m y
    placed = elim l.how [
      | inl h ↦ inl (had h.1)
      | inr h ↦ inr (subst (λ (z : ListsOf). IsPlaced x u m z) (sym h.0) (record {
        rules = refl;
        ranks = refl;
        candidates = refl;
        entry = record { tree = l.number; cost = d.cost; candidate = m };
        lists = refl;
        others = entries_there x i.lists.sound l.trees l.number tree has_new small labelled u within d.cost m;
        here = entries_here x i.lists.sound l.trees l.number tree has_new small labelled u within d.cost m;
      }))
    ]
