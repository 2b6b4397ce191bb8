-- What is known of a state that took a candidate.
use Rattle.std.specs.Prelude.{◌≡◌, ℕ, ◌<◌, List, [], ◌∷◌, length, refl}
use Rattle.std.proofs.Common.{suc, arith, sym, ◌∙◌, subst, inl, inr, get_or}
use Rattle.tib_lex.specs.Lists.{Has}
use Rattle.tib_ranked_trees.specs.Heaps.{IsHeap}
use Rattle.tib_ranked_trees.specs.Lazy.{IsKept}
use Rattle.tib_ranked_trees.specs.ListsOf.{ListsOf}
use Rattle.tib_ranked_trees.specs.Held.{entries_of, candidate_at, tuple_of, ranks_of, below_of, grown}
use Rattle.tib_ranked_trees.specs.declared.lists.Candidate.{Candidate}
use Rattle.tib_ranked_trees.proofs.Growing.{candidate_kept, ranks_from_kept}
use Rattle.tib_lazy_lists.specs.declared.asking.Stage.{Stage}
use Rattle.tib_lazy_lists.specs.declared.asking.Stage.TheVariants.{Closed, Open, Whole}
use Rattle.tib_lazy_lists.specs.Offers.{tuples, order_of, AreSound, IsHeld, AreMoreCandidates, AreStarted, HasFollowers}
use Rattle.tib_lazy_lists.specs.AskingOf.{StateOf}
use Rattle.tib_lazy_lists.specs.Asks.{AreOnce, ArePreceded, IsClosed, IsOpen, IsState, IsAtStage, IsAskedFor, IsAnswered, AreAnswered, CanTake, IsOpened, turns_at, turns_of}
use Rattle.tib_lazy_lists.proofs.Kept.{more_of, more_keeps}
use Rattle.tib_lazy_lists.proofs.Steps.{opened, followed, followed_preceded, followed_single, followed_waits}

-- a state that can be asked holds a heap
pub held_of : (product : ℕ → ℕ → ℕ) (k : ℕ) (x : ListsOf) → AreSound product x → (u : ℕ) (s : StateOf) → IsState product k x u s → (s.stage ≡ Whole → ⊥) → IsHeld product x s.heap × (s.last < length x.candidates)
held_of product k x sound u s i n = by s.stage refl i
  where
    empty : (heap : List ℕ) → heap ≡ [] → IsHeld product x heap
    empty heap e = subst (λ (ms : List ℕ). IsHeld product x ms) (sym e) (record { lists = sound; is_heap = λ j low l. absurd (omega (arith, l)); below = λ m h. absurd h })

    by : (g : Stage) → s.stage ≡ g → IsAtStage product k x u s g → IsHeld product x s.heap × (s.last < length x.candidates)
    by Closed e c = (empty s.heap c.empty, c.last)
    by Open e o = (record { lists = sound; is_heap = o.heap; below = o.below }, o.last)
    by Whole e w = absurd (n e)

-- it is open then
pub open_of : (product : ℕ → ℕ → ℕ) (k : ℕ) (x : ListsOf) → AreSound product x → AreStarted x → (u : ℕ) (rules : List ℕ) (s : StateOf) → CanTake product k x u rules s → (y : ListsOf) (t : StateOf) → IsOpened product x rules s y t →
    IsOpen product k y u t
open_of product k x sound started u rules s can y t o = elim o.how [
  | inl h ↦
      let c : IsClosed x u s = subst (λ (g : Stage). IsAtStage product k x u s g) h.0 can.state in
      opened product k x sound started u s c rules can.rules_of y t.heap h.2 t o.last refl
  | inr h ↦ by s.stage refl can.state h.0 h.2 h.3
]
  where
    open_same : IsOpen product k x u s → t.heap ≡ s.heap → y ≡ x → IsOpen product k y u t
    open_same i e f =
        subst (λ (z : ListsOf). IsOpen product k z u t) (sym f)
        (record {
          last = omega (arith, o.last, i.last);
          heap = subst (λ (ms : List ℕ). IsHeap (order_of x) ms) (sym e) i.heap;
          below = subst (λ (ms : List ℕ). (m : ℕ) → Has ms m → m < length x.candidates) (sym e) i.below;
          older = i.older;
          kept =
              subst (λ (n : ℕ). IsKept product x.rules k (entries_of x) i.older (tuple_of x n ∷ i.older) (tuples x t.heap) u) (sym o.last)
              (subst (λ (ms : List ℕ). IsKept product x.rules k (entries_of x) i.older (tuple_of x s.last ∷ i.older) (tuples x ms) u) (sym e) i.kept);
          preceded = subst (λ (n : ℕ). ArePreceded i.older (tuple_of x n ∷ i.older)) (sym o.last) i.preceded;
          waits = subst (λ (ms : List ℕ). ArePreceded i.older (tuples x ms)) (sym e) i.waits;
          single =
              subst (λ (n : ℕ). AreOnce product x u (tuple_of x n ∷ i.older) (tuples x t.heap)) (sym o.last)
              (subst (λ (ms : List ℕ). AreOnce product x u (tuple_of x s.last ∷ i.older) (tuples x ms)) (sym e) i.single);
        })

    by : (g : Stage) → s.stage ≡ g → IsAtStage product k x u s g → (s.stage ≡ Closed → ⊥) → t.heap ≡ s.heap → y ≡ x → IsOpen product k y u t
    by Closed e c n f h = absurd (n e)
    by Open e i n f h = open_same i f h
    by Whole e w n f h = absurd (can.left e)

-- what was answered stays so while candidates are made
answered_more : (product : ℕ → ℕ → ℕ) (k : ℕ) (x : ListsOf) → AreSound product x → (y : ListsOf) → AreMoreCandidates x y → (m n : ℕ) → m < length x.candidates → n ≡ m → AreAnswered product k x (candidate_at x m) (length (below_of x (candidate_at x m))) →
    AreAnswered product k y (candidate_at y n) (length (below_of y (candidate_at y n)))
answered_more product k x s y m i n l f a =
    subst (λ (j : ℕ). AreAnswered product k y (candidate_at y j) (length (below_of y (candidate_at y j)))) (sym f)
    (more_keeps x y m (λ z. AreAnswered product k z (candidate_at z i) (length (below_of z (candidate_at z i)))) (
    let z : ListsOf = grown x x.trees x.lists y.candidates y.ranks in
    let d : Candidate = candidate_at x i in
    let e : candidate_at z i ≡ d = candidate_kept x s.sound x.trees x.lists y.candidates y.ranks (more_of x y m) i l in
    let r : ranks_of z d ≡ ranks_of x d = ranks_from_kept x s.sound x.trees x.lists y.candidates y.ranks (more_of x y m) d.rule d.start (s.made i l).is.tuple in
    subst (λ (b : Candidate). AreAnswered product k z b (length (below_of z b))) (sym e) (λ p h. subst (λ (js : List ℕ). IsAnswered product k x (get_or (below_of x d) p 0) (get_or js p 0)) (sym r) (a p h))
    ))

-- after a state was opened, and the candidates that follow its last one were offered
pub asked_of :
    (product : ℕ → ℕ → ℕ) (x : ListsOf) → AreSound product x → AreStarted x → (rules : List ℕ) (s : StateOf) → s.last < length x.candidates → (y : ListsOf) (t : StateOf) → IsOpened product x rules s y t → (n : ℕ) → n ≡ t.last → (z : ListsOf) (now : List ℕ) →
    HasFollowers product y (candidate_at y n) t.heap z now → (k u : ℕ) → CanTake product k x u rules s → IsAskedFor product k z u now
asked_of product x sound started rules s inside y t o n e z now h k u can =
    let i = open_of product k x sound started u rules s can y t o in
    let f : HasFollowers product y (candidate_at y t.last) t.heap z now = subst (λ (m : ℕ). HasFollowers product y (candidate_at y m) t.heap z now) e h in
    let a : AreAnswered product k y (candidate_at y t.last) (length (below_of y (candidate_at y t.last))) = answered_more product k x sound y o.more s.last t.last inside o.last can.answered in
    record {
      below = f.followed.held.below;
      taken = tuple_of y t.last ∷ i.older;
      kept = followed product k y o.held.lists u t i z now f a;
      preceded = followed_preceded product k y o.held.lists u t i z now f a;
      waits = followed_waits product k y o.held.lists u t i z now f a;
      single = followed_single product k y o.held.lists u t i z now f a;
    }

-- the stage of a state that was opened
pub stage_of : (product : ℕ → ℕ → ℕ) (x : ListsOf) (rules : List ℕ) (s : StateOf) (y : ListsOf) (t : StateOf) → IsOpened product x rules s y t → (s.stage ≡ Whole → ⊥) → t.stage ≡ Open
stage_of product x rules s y t o n = elim o.how [ inl h ↦ h.1 | inr h ↦ by s.stage refl h.0 h.1 ]
  where
    by : (g : Stage) → s.stage ≡ g → (s.stage ≡ Closed → ⊥) → t.stage ≡ s.stage → t.stage ≡ Open
    by Closed e m f = absurd (m e)
    by Open e m f = f ∙ e
    by Whole e m f = absurd (n e)

-- a state whose list is not complete has a turn for each candidate that waits, and one more
pub turns_open : (s : StateOf) → (s.stage ≡ Whole → ⊥) → turns_of s ≡ suc (length s.heap)
turns_open s n = by s.stage refl
  where
    by : (g : Stage) → s.stage ≡ g → turns_at g (length s.heap) ≡ suc (length s.heap)
    by Closed e = refl
    by Open e = refl
    by Whole e = absurd (n e)
