-- What stays as it is while candidates, ranks, trees and entries are appended.
use Rattle.std.specs.Prelude.{◌≡◌, ◌⊎◌, ℕ, ◌<◌, ◌≤◌, List, [], ◌∷◌, ◌++◌, length, map, refl}
use Rattle.std.proofs.Common.{arith, ap, sym, ◌∙◌, subst, inl, inr, append_assoc, length-append}
use Rattle.tib_lex.specs.Lists.{Has}
use Rattle.tib_lex.proofs.Lists.{append_nil}
use Rattle.tib_cost.specs.Semiring.{most}
use Rattle.tib_tree.specs.Trees.{Tree}
use Rattle.tib_ranked_trees.specs.Heaps.{IsHeap}
use Rattle.tib_ranked_trees.specs.Pass.{offer}
use Rattle.tib_ranked_trees.specs.Pass as pass
use Rattle.tib_ranked_trees.specs.ListsOf.{ListsOf}
use Rattle.tib_ranked_trees.specs.Held.{list_of, entries_of, candidate_at, tuple_of, ranks_of, stands_for, offers_cmp, grown, AreMore, IsSound, IsPriced, IsKnownBy}
use Rattle.tib_ranked_trees.specs.declared.lists.Entry.{Entry}
use Rattle.tib_ranked_trees.specs.declared.lists.Candidate.{Candidate}
use Rattle.tib_ranked_trees.proofs.Growing.{candidate_kept, known_kept, tuple_of_kept, stands_kept, ranks_from_kept, offer_kept, heap_kept}
use Rattle.tib_lazy_lists.specs.Firsts.{IsMade}
use Rattle.tib_lazy_lists.specs.Offers.{tuples, order_of, AreSound, IsHeld, AreMoreCandidates}

pub below_or : (a b : ℕ) → (a < b) ⊎ (b ≤ a)
below_or a b = grind arith

pub same_or : (a b : ℕ) → (a ≡ b) ⊎ (a ≡ b → ⊥)
same_or a b = grind arith

-- members of a list are members of what it maps to
pub mapped_has : {A B : Type 0} (f : A → B) (xs : List A) (x : A) → Has xs x → Has (map f xs) (f x)
mapped_has f [] x h = absurd h
mapped_has f (y ∷ ys) x (inl e) = inl (ap f e)
mapped_has f (y ∷ ys) x (inr h) = inr (mapped_has f ys x h)

module _ (product : ℕ → ℕ → ℕ) (x : ListsOf) (s : AreSound product x) (ts : List (Tree ℕ)) (ls : List (List Entry)) (cs : List Candidate) (rs : List ℕ) (more : AreMore x ts ls cs rs) where
  pub made_kept : (n : ℕ) → n < length x.candidates → IsMade product (grown x ts ls cs rs) n
  made_kept n h =
      let y : ListsOf = grown x ts ls cs rs in
      let m = s.made n h in
      let c : Candidate = candidate_at x n in
      let e : candidate_at y n ≡ c = candidate_kept x s.sound ts ls cs rs more n h in
      let r : ranks_of y c ≡ ranks_of x c = ranks_from_kept x s.sound ts ls cs rs more c.rule c.start m.is.tuple in
      let priced : IsPriced product y c =
      ap (λ (js : List ℕ). (offer product x.rules (entries_of y) c.rule js).1) r
      ∙ ap (λ (z : Tree ℕ × ℕ). z.1) (offer_kept x s.sound ts ls cs rs more product c.rule (ranks_of x c) m.is.tuple) ∙ m.priced
      in
      record {
        is = known_kept x s.sound ts ls cs rs more n h m.is;
        priced = subst (λ (d : Candidate). IsPriced product y d) (sym e) priced;
        within = subst (λ (d : Candidate). d.cost ≤ most) (sym e) m.within;
      }

  pub tuples_kept : (heap : List ℕ) → ((m : ℕ) → Has heap m → m < length x.candidates) → tuples (grown x ts ls cs rs) heap ≡ tuples x heap
  tuples_kept [] b = refl
  tuples_kept (m ∷ ms) b =
      let e : tuple_of (grown x ts ls cs rs) m ≡ tuple_of x m = tuple_of_kept x s.sound ts ls cs rs more m (b m (inl refl)) (s.made m (b m (inl refl))).is in
      ap (λ (z : pass.Candidate). z ∷ tuples (grown x ts ls cs rs) ms) e ∙ ap (λ (zs : List pass.Candidate). tuple_of x m ∷ zs) (tuples_kept ms (λ i h. b i (inr h)))

  pub heap_stays : (heap : List ℕ) → ((m : ℕ) → Has heap m → m < length x.candidates) → IsHeap (order_of x) heap → IsHeap (order_of (grown x ts ls cs rs)) heap
  heap_stays heap b is =
      let y : ListsOf = grown x ts ls cs rs in
      let stays : (m : ℕ) → Has heap m → stands_for y m ≡ stands_for x m = λ m h. stands_kept x s.sound ts ls cs rs more m (b m h) (s.made m (b m h)).is in
      heap_kept (order_of x) (order_of y) heap
      (λ i j h k. ap (λ (z : Tree ℕ × ℕ). offers_cmp x.labels z (stands_for y j)) (stays i h) ∙ ap (λ (z : Tree ℕ × ℕ). offers_cmp x.labels (stands_for x i) z) (stays j k)) is

  pub more_long : length x.candidates ≤ length cs
  more_long = omega (arith, ap (λ (ds : List Candidate). length ds) more.candidates.1, length-append x.candidates more.candidates.0)

  pub made_all : ((n : ℕ) → length x.candidates ≤ n → n < length cs → IsMade product (grown x ts ls cs rs) n) → (n : ℕ) → n < length cs → IsMade product (grown x ts ls cs rs) n
  made_all new n h = elim (below_or n (length x.candidates)) [ inl l ↦ made_kept n l | inr l ↦ new n l h ]

-- what is known of lists does not depend on ranks and candidates
pub sound_kept : (x : ListsOf) → IsSound x → (cs : List Candidate) (rs : List ℕ) → IsSound (grown x x.trees x.lists cs rs)
sound_kept x s cs rs = record {
  normal = s.normal;
  range = s.range;
  rules_labelled = s.rules_labelled;
  distinct = s.distinct;
  ranked = s.ranked;
  listed = s.listed;
  labelled = s.labelled;
  few = s.few;
  small = s.small;
}

-- more candidates and ranks alone

pub more_with : (x : ListsOf) (cs : List Candidate) (rs : List ℕ) → ((more : List Candidate) × (cs ≡ x.candidates ++ more)) → ((more : List ℕ) × (rs ≡ x.ranks ++ more)) → AreMore x x.trees x.lists cs rs
more_with x cs rs c r = record {
  trees = record { more = omega arith; same = λ m h. refl };
  lists = λ q. ([], sym (append_nil (list_of x q)));
  candidates = c;
  ranks = r;
}

pub more_of : (x y : ListsOf) → AreMoreCandidates x y → AreMore x x.trees x.lists y.candidates y.ranks
more_of x y m = more_with x y.candidates y.ranks m.candidates m.ranks

pub more_same : (x : ListsOf) → AreMoreCandidates x x
more_same x = record { same = refl; candidates = ([], sym (append_nil x.candidates)); ranks = ([], sym (append_nil x.ranks)) }

pub more_more : (x y z : ListsOf) → AreMoreCandidates x y → AreMoreCandidates y z → AreMoreCandidates x z
more_more x y z m n = record {
  same = n.same ∙ ap (λ (u : ListsOf). grown u u.trees u.lists z.candidates z.ranks) m.same;
  candidates = (m.candidates.0 ++ n.candidates.0, n.candidates.1 ∙ ap (λ (cs : List Candidate). cs ++ n.candidates.0) m.candidates.1 ∙ append_assoc x.candidates m.candidates.0 n.candidates.0);
  ranks = (m.ranks.0 ++ n.ranks.0, n.ranks.1 ∙ ap (λ (rs : List ℕ). rs ++ n.ranks.0) m.ranks.1 ∙ append_assoc x.ranks m.ranks.0 n.ranks.0);
}

-- what does not depend on candidates and ranks holds after as before
pub more_keeps : (x y : ListsOf) → AreMoreCandidates x y → (P : ListsOf → Type 0) → P (grown x x.trees x.lists y.candidates y.ranks) → P y
more_keeps x y m P p = subst P (sym m.same) p

pub sound_more : (product : ℕ → ℕ → ℕ) (x y : ListsOf) → AreMoreCandidates x y → ((n : ℕ) → length x.candidates ≤ n → n < length y.candidates → IsMade product y n) → AreSound product x → AreSound product y
sound_more product x y m new s =
    more_keeps x y m (λ z. AreSound product z) (record {
      sound = sound_kept x s.sound y.candidates y.ranks;
      made = made_all product x s x.trees x.lists y.candidates y.ranks (more_of x y m) (λ n l h. subst (λ (z : ListsOf). IsMade product z n) m.same (new n l h));
    })

pub known : (product : ℕ → ℕ → ℕ) (x : ListsOf) (heap : List ℕ) → IsHeld product x heap → (m : ℕ) → Has heap m → IsKnownBy x m
known product x heap h m i = record { sound = h.lists.sound; below = h.below m i; is = (h.lists.made m (h.below m i)).is }
