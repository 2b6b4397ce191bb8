-- What the least candidate of a state is, and what is known when none waits.
use Rattle.std.specs.Prelude.{◌≡◌, ◌⊎◌, ℕ, ◌<◌, Bool, List, [], ◌∷◌, length}
use Rattle.std.proofs.Common.{arith, ap, sym, ◌∙◌, subst, inl, inr, get_or}
use Rattle.std.proofs.lemmas.List.{length-map}
use Rattle.tib_lex.specs.Lists.{Has}
use Rattle.tib_lex.proofs.Lists.{has_mapped}
use Rattle.tib_cost.specs.Semiring.{ProductLaws}
use Rattle.tib_tree.specs.Trees.{Tree, only}
use Rattle.tib_tree.specs.Growth.{LabelsBelow}
use Rattle.tib_grammar.specs.Run.{rule_at}
use Rattle.tib_ranked_trees.specs.Heaps.{TakesFirst}
use Rattle.tib_ranked_trees.specs.Best.{Cheaper, IsNextAt, IsFrontAt}
use Rattle.tib_ranked_trees.specs.First.{NoLater}
use Rattle.tib_ranked_trees.specs.Lazy.{IsKept, IsWhole}
use Rattle.tib_ranked_trees.specs.Levels.{IsOrderly, root_of, states_of, trees_of}
use Rattle.tib_ranked_trees.specs.Pass.{AreRanks, picked, offer, HasTree}
use Rattle.tib_ranked_trees.specs.Pass as pass
use Rattle.tib_ranked_trees.proofs.Asking.{asking}
use Rattle.tib_ranked_trees.proofs.Opening.{root_label}
use Rattle.tib_ranked_trees.proofs.Ordered.{ordered}
use Rattle.tib_ranked_trees.specs.ListsOf.{ListsOf}
use Rattle.tib_ranked_trees.specs.Held.{no_entry, list_of, told, entries_of, candidate_at, tuple_of, ranks_of, tree_by, stands_for, IsSound, IsTuple}
use Rattle.tib_ranked_trees.specs.declared.lists.Candidate.{Candidate}
use Rattle.tib_ranked_trees.proofs.Children.{get_or-map}
use Rattle.tib_ranked_trees.proofs.Comparing.{below_label}
use Rattle.tib_lazy_lists.specs.Offers.{tuples, order_of, AreSound}
use Rattle.tib_lazy_lists.proofs.Kept.{mapped_has}

-- the labels of what a candidate stands for
module _ (x : ListsOf) (sound : IsSound x) where
  row_labelled : (qs js : List ℕ) → AreRanks (entries_of x) qs js → LabelsBelow (length x.labels) (trees_of (picked (entries_of x) qs js))
  row_labelled [] [] r = tt
  row_labelled [] (j ∷ js) r = absurd r
  row_labelled (q ∷ qs) [] r = absurd r
  row_labelled (q ∷ qs) (j ∷ js) r =
      let low : j < length (list_of x q) = omega (arith, r.0, length-map (list_of x q) (told x.trees)) in
      let e : pass.entry_at (entries_of x) q j ≡ told x.trees (get_or (list_of x q) j no_entry) = get_or-map (told x.trees) (list_of x q) j no_entry pass.no_entry low in
      let b : LabelsBelow (length x.labels) (only (pass.entry_at (entries_of x) q j).0) =
      subst (λ (z : Tree ℕ × ℕ). LabelsBelow (length x.labels) (only z.0)) (sym e) (sound.labelled (get_or (list_of x q) j no_entry).tree (sound.listed q j low))
      in
      (b.0, b.1, row_labelled qs js r.1)

  pub tree_labelled : (n : ℕ) (js : List ℕ) → IsTuple x n js → LabelsBelow (length x.labels) (only (tree_by x n js))
  tree_labelled n js t = (
    below_label (length x.labels) (rule_at x.rules n).right.label (rule_at x.rules n).right.kids (root_of (rule_at x.rules n).right.label) (sound.rules_labelled n t.rule)
        (root_label (rule_at x.rules n).right.label (sound.normal n t.rule).is_label),
    row_labelled (states_of (rule_at x.rules n)) js t.ranks,
    tt,
  )

-- a candidate stands for its offer
pub stands_is : (product : ℕ → ℕ → ℕ) (x : ListsOf) → AreSound product x → (m : ℕ) → m < length x.candidates →
    offer product x.rules (entries_of x) (candidate_at x m).rule (ranks_of x (candidate_at x m)) ≡ stands_for x m
stands_is product x s m h = ap (paired (tree_by x (candidate_at x m).rule (ranks_of x (candidate_at x m)))) (s.made m h).priced
  where
    paired : Tree ℕ → ℕ → Tree ℕ × ℕ
    paired t n = (t, n)

module _ {levelled weighted : Bool} {product : ℕ → ℕ → ℕ} (laws : ProductLaws levelled weighted product) (k : ℕ) (x : ListsOf) (s : AreSound product x) (orderly : IsOrderly product x.rules)
    (fronts : (q : ℕ) → IsFrontAt product x.labels x.rules q (entries_of x q)) (u : ℕ) (few : length (list_of x u) < k) (heap : List ℕ) (below : (m : ℕ) → Has heap m → m < length x.candidates)
    (taken : List pass.Candidate) (kept : IsKept product x.rules k (entries_of x) taken taken (tuples x heap) u) where
  free : length (entries_of x u) < k
  free = omega (arith, few, length-map (list_of x u) (told x.trees))

  pub is_whole : heap ≡ [] → IsWhole product x.rules (entries_of x) u
  is_whole e =
      (asking laws).whole x.labels x.rules k (entries_of x) taken u s.sound.normal orderly
      (record { fronts = fronts; kept = subst (λ (ms : List ℕ). IsKept product x.rules k (entries_of x) taken taken (tuples x ms) u) e kept }) free

  module _ (m : ℕ) (rest : List ℕ) (takes : TakesFirst (order_of x) heap m rest) where
    abbrev c : Candidate
    c = candidate_at x m

    pub inside : m < length x.candidates
    inside = below m takes.stands

    pub held_here : Has (tuples x heap) (c.rule, ranks_of x c)
    held_here = mapped_has (tuple_of x) heap m takes.stands

    pub left_is : (rule_at x.rules c.rule).left ≡ u
    left_is = (kept.in_range c.rule (ranks_of x c) held_here).1

    no_later : (n : ℕ) → Has heap n → NoLater (Cheaper x.labels) (stands_for x m) (stands_for x n)
    no_later n h =
        ordered.no_later x.labels s.sound.distinct (stands_for x m) (stands_for x n) (tree_labelled x s.sound c.rule (ranks_of x c) (s.made m inside).is.tuple)
        (tree_labelled x s.sound (candidate_at x n).rule (ranks_of x (candidate_at x n)) (s.made n (below n h)).is.tuple) (takes.first n h)

    later : (n : ℕ) (js : List ℕ) → Has (tuples x heap) (n, js) → NoLater (Cheaper x.labels) (offer product x.rules (entries_of x) c.rule (ranks_of x c)) (offer product x.rules (entries_of x) n js)
    later n js h =
        let i = has_mapped (tuple_of x) heap (n, js) h in
        let o : offer product x.rules (entries_of x) n js ≡ stands_for x i.0 =
        ap (λ (z : pass.Candidate). offer product x.rules (entries_of x) z.0 z.1) (sym i.2) ∙ stands_is product x s i.0 (below i.0 i.1)
        in
        subst (λ (z : Tree ℕ × ℕ). NoLater (Cheaper x.labels) z (offer product x.rules (entries_of x) n js)) (sym (stands_is product x s m inside))
        (subst (λ (z : Tree ℕ × ℕ). NoLater (Cheaper x.labels) (stands_for x m) z) (sym o) (no_later i.0 i.1))

    -- the least candidate is the next tree where its tree is not listed
    pub is_next : (HasTree (entries_of x u) (tree_by x c.rule (ranks_of x c)) → ⊥) → IsNextAt product x.labels x.rules u (entries_of x u) (stands_for x m)
    is_next new =
        subst (λ (z : Tree ℕ × ℕ). IsNextAt product x.labels x.rules u (entries_of x u) z) (stands_is product x s m inside)
        ((asking laws).next x.labels x.rules k (entries_of x) taken (tuples x heap) u s.sound.normal orderly (record { fronts = fronts; kept = kept }) free c.rule (ranks_of x c) held_here later new)

    -- the others wait on
    pub out : (z : pass.Candidate) → Has (tuples x heap) z → (z ≡ tuple_of x m) ⊎ Has (tuples x rest) z
    out z h =
        let i = has_mapped (tuple_of x) heap z h in
        elim (takes.out i.0 i.1) [
          | inl e ↦ inl (sym i.2 ∙ ap (tuple_of x) e)
          | inr r ↦ inr (subst (λ (w : pass.Candidate). Has (tuples x rest) w) i.2 (mapped_has (tuple_of x) rest i.0 r))
        ]

    pub back : (z : pass.Candidate) → Has (tuples x rest) z → Has (tuples x heap) z
    back z h =
        let i = has_mapped (tuple_of x) rest z h in
        subst (λ (w : pass.Candidate). Has (tuples x heap) w) i.2 (mapped_has (tuple_of x) heap i.0 (takes.back i.0 i.1))
