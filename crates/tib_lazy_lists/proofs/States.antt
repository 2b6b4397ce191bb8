-- What a state keeps stays while lists grow.
use Rattle.std.specs.Prelude.{◌≡◌, ℕ, List, ◌∷◌, length, refl}
use Rattle.std.proofs.Common.{arith, ap, sym, ◌∙◌, subst}
use Rattle.std.proofs.lemmas.List.{length-map}
use Rattle.tib_lex.specs.Lists.{Has}
use Rattle.tib_lex.proofs.Members.{has_left}
use Rattle.tib_tree.specs.Trees.{Tree}
use Rattle.tib_grammar.specs.Run.{rule_at}
use Rattle.tib_ranked_trees.specs.Lazy.{IsKept, IsWhole}
use Rattle.tib_ranked_trees.specs.Levels.{states_of}
use Rattle.tib_ranked_trees.specs.Pass.{zeros, HasTree}
use Rattle.tib_ranked_trees.specs.Pass as pass
use Rattle.tib_ranked_trees.specs.ListsOf.{ListsOf}
use Rattle.tib_ranked_trees.specs.Best.{Costed}
use Rattle.tib_ranked_trees.specs.Held.{entries_of, list_of, told, candidate_at, tuple_of, ranks_of, tree_by, grown, AreMore}
use Rattle.tib_ranked_trees.specs.declared.lists.Entry.{Entry}
use Rattle.tib_ranked_trees.specs.declared.lists.Candidate.{Candidate}
use Rattle.tib_ranked_trees.proofs.Growing.{candidate_kept, tuple_of_kept, ranks_from_kept, tree_kept, entries_kept}
use Rattle.tib_lazy_lists.specs.declared.asking.Stage.{Stage}
use Rattle.tib_lazy_lists.specs.declared.asking.Stage.TheVariants.{Closed, Open, Whole}
use Rattle.tib_lazy_lists.specs.Offers.{tuples, AreSound, AreMoreCandidates}
use Rattle.tib_lazy_lists.specs.AskingOf.{StateOf}
use Rattle.tib_lazy_lists.specs.Asks.{AreOnce, ArePreceded, IsClosed, IsOpen, IsAtStage, IsState}
use Rattle.tib_lazy_lists.proofs.Once.{from_kept}
use Rattle.tib_lazy_lists.proofs.Kept.{tuples_kept, heap_stays, more_long, more_of, more_keeps}

module _ (product : ℕ → ℕ → ℕ) (k : ℕ) (x : ListsOf) (s : AreSound product x) (ts : List (Tree ℕ)) (ls : List (List Entry)) (cs : List Candidate) (rs : List ℕ) (more : AreMore x ts ls cs rs)
    (carry : (older taken held : List pass.Candidate) (u : ℕ) → IsKept product x.rules k (entries_of x) older taken held u → IsKept product x.rules k (entries_of (grown x ts ls cs rs)) older taken held u)
    (whole : (u : ℕ) → IsWhole product x.rules (entries_of x) u → IsWhole product x.rules (entries_of (grown x ts ls cs rs)) u) where
  still_listed : (u : ℕ) (t : Tree ℕ) → HasTree (entries_of x u) t → HasTree (entries_of (grown x ts ls cs rs) u) t
  still_listed u t h =
      let m = entries_kept x s.sound ts ls cs rs more u in
      (h.0, subst (λ (es : List (Tree ℕ × ℕ)). Has es (t, h.0)) (sym m.1) (has_left (entries_of x u) m.0 (t, h.0) h.1))

  closed_kept : (u : ℕ) (st : StateOf) → entries_of (grown x ts ls cs rs) u ≡ entries_of x u → IsClosed x u st → IsClosed (grown x ts ls cs rs) u st
  closed_kept u st same c =
      let z : ListsOf = grown x ts ls cs rs in
      let d : Candidate = candidate_at x st.last in
      let e : candidate_at z st.last ≡ d = candidate_kept x s.sound ts ls cs rs more st.last c.last in
      let i = (s.made st.last c.last).is in
      let r : ranks_of z d ≡ ranks_of x d = ranks_from_kept x s.sound ts ls cs rs more d.rule d.start i.tuple in
      let t : tree_by z d.rule (ranks_of x d) ≡ tree_by x d.rule (ranks_of x d) = tree_kept x s.sound ts ls cs rs more d.rule (ranks_of x d) i.tuple in
      let l : HasTree (entries_of z u) (tree_by z d.rule (ranks_of z d)) =
      subst (λ (js : List ℕ). HasTree (entries_of z u) (tree_by z d.rule js)) (sym r) (subst (λ (w : Tree ℕ). HasTree (entries_of z u) w) (sym t) (still_listed u (tree_by x d.rule (ranks_of x d)) c.listed))
      in
      record {
        last = omega (arith, c.last, more_long product x s ts ls cs rs more);
        left = subst (λ (b : Candidate). (rule_at x.rules b.rule).left ≡ u) (sym e) c.left;
        first = subst (λ (b : Candidate). ranks_of z b ≡ zeros (states_of (rule_at x.rules b.rule))) (sym e) (r ∙ c.first);
        listed = subst (λ (b : Candidate). HasTree (entries_of z u) (tree_by z b.rule (ranks_of z b))) (sym e) l;
        few = omega (arith, c.few, length-map (list_of z u) (told ts), length-map (list_of x u) (told x.trees), ap (λ (es : List Costed). length es) same);
        empty = c.empty;
      }

  open_kept : (u : ℕ) (st : StateOf) → entries_of (grown x ts ls cs rs) u ≡ entries_of x u → IsOpen product k x u st → IsOpen product k (grown x ts ls cs rs) u st
  open_kept u st same o =
      let z : ListsOf = grown x ts ls cs rs in
      let e : tuple_of z st.last ≡ tuple_of x st.last = tuple_of_kept x s.sound ts ls cs rs more st.last o.last (s.made st.last o.last).is in
      let f : tuples z st.heap ≡ tuples x st.heap = tuples_kept product x s ts ls cs rs more st.heap o.below in
      record {
        last = omega (arith, o.last, more_long product x s ts ls cs rs more);
        heap = heap_stays product x s ts ls cs rs more st.heap o.below o.heap;
        below = λ m h. omega (arith, o.below m h, more_long product x s ts ls cs rs more);
        older = o.older;
        kept =
            subst (λ (w : pass.Candidate). IsKept product x.rules k (entries_of z) o.older (w ∷ o.older) (tuples z st.heap) u) (sym e)
            (subst (λ (ws : List pass.Candidate). IsKept product x.rules k (entries_of z) o.older (tuple_of x st.last ∷ o.older) ws u) (sym f)
            (carry o.older (tuple_of x st.last ∷ o.older) (tuples x st.heap) u o.kept));
        preceded = subst (λ (w : pass.Candidate). ArePreceded o.older (w ∷ o.older)) (sym e) o.preceded;
        waits = subst (λ (ws : List pass.Candidate). ArePreceded o.older ws) (sym f) o.waits;
        single =
            subst (λ (w : pass.Candidate). AreOnce product z u (w ∷ o.older) (tuples z st.heap)) (sym e)
            (subst (λ (ws : List pass.Candidate). AreOnce product z u (tuple_of x st.last ∷ o.older) ws) (sym f)
            (record {
              once = o.single.once;
              from = λ t h.
                  from_kept product x s.sound ts ls cs rs more (tuple_of x st.last ∷ o.older) t
                  (o.single.from t (subst (λ (es : List Costed). HasTree es t) same h));
            }));
      }

  stage_kept : (u : ℕ) (st : StateOf) → entries_of (grown x ts ls cs rs) u ≡ entries_of x u → (g : Stage) → IsAtStage product k x u st g → IsAtStage product k (grown x ts ls cs rs) u st g
  stage_kept u st same Closed c = closed_kept u st same c
  stage_kept u st same Open o = open_kept u st same o
  stage_kept u st same Whole w = whole u w

  -- where its own list did not
  pub state_kept : (u : ℕ) (st : StateOf) → entries_of (grown x ts ls cs rs) u ≡ entries_of x u → IsState product k x u st → IsState product k (grown x ts ls cs rs) u st
  state_kept u st same i = stage_kept u st same st.stage i

-- more candidates alone
pub state_more : (product : ℕ → ℕ → ℕ) (k : ℕ) (x y : ListsOf) → AreSound product x → AreMoreCandidates x y → (u : ℕ) (st : StateOf) → IsState product k x u st → IsState product k y u st
state_more product k x y s m u st i =
    more_keeps x y m (λ z. IsState product k z u st) (state_kept product k x s x.trees x.lists y.candidates y.ranks (more_of x y m) (λ older taken held v h. h) (λ v h. h) u st refl i)
