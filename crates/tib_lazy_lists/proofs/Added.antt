-- A candidate is made, and put into a heap.
use Rattle.std.specs.Prelude.{◌≡◌, ℕ, ◌+◌, ◌^◌, ◌<◌, ◌≤◌, List, [], ◌∷◌, ◌++◌, length, take, drop, refl, Some, Result, Ok, Err, OnOk}
use Rattle.std.proofs.Common.{arith, ap, sym, ◌∙◌, subst, inl, inr, length-append}
use Rattle.std.proofs.lemmas.List.{length-map}
use Rattle.tib_lex.specs.Lists.{Has, Distinct}
use Rattle.tib_lex.proofs.Lists.{append_nil, has_mapped}
use Rattle.tib_cost.specs.Semiring.{most}
use Rattle.tib_tree.specs.Trees.{size}
use Rattle.tib_grammar.specs.Run.{rule_at}
use Rattle.tib_ranked_trees.specs.Heaps.{IsHeap, Adds}
use Rattle.tib_ranked_trees.specs.Levels.{states_of}
use Rattle.tib_ranked_trees.specs.Pass.{AreRanks, offer}
use Rattle.tib_ranked_trees.specs.Pass as pass
use Rattle.tib_ranked_trees.specs.ListsOf.{ListsOf}
use Rattle.tib_ranked_trees.specs.Held.{entries_of, candidate_at, no_candidate, tuple_of, ranks_from, ranks_of, tree_by, with_ranks, with_candidate, AreMore, IsTuple, IsCandidate, IsPriced, IsKnownBy, Makes}
use Rattle.tib_ranked_trees.specs.declared.lists.Candidate.{Candidate}
use Rattle.tib_ranked_trees.proofs.Seeing.{last_at}
use Rattle.tib_lazy_lists.specs.Firsts.{IsMade}
use Rattle.tib_lazy_lists.specs.Offers.{tuples, order_of, IsHeld, AreMoreCandidates, IsOffered}
use Rattle.tib_lazy_lists.proofs.Once.{distinct_put}
use Rattle.tib_lazy_lists.proofs.Kept.{mapped_has, tuples_kept, heap_stays, made_all, sound_kept, more_with, more_same, more_more}

pub on_ok : {T E : Type 0} (r : Result T E) (P Q : Type 0) → (P → Q) → OnOk r P → OnOk r Q
on_ok (Ok v) P Q f h = f h
on_ok (Err e) P Q f h = tt

pub on_ok_both : {T E : Type 0} (r : Result T E) (P Q R : Type 0) → (P → Q → R) → OnOk r P → OnOk r Q → OnOk r R
on_ok_both (Ok v) P Q R f h i = f h i
on_ok_both (Err e) P Q R f h i = tt

-- where nothing was made, as it costs too much or there is no such entry
pub offers_none :
    (product : ℕ → ℕ → ℕ) (When : Type 0) (x : ListsOf) (n : ℕ) (js heap : List ℕ) → IsHeld product x heap → (When → (offer product x.rules (entries_of x) n js).1 ≤ most → ⊥) → (y : ListsOf) → y ≡ x →
    IsOffered product When x n js heap y heap
offers_none product When x n js heap held none y e =
    subst (λ (z : ListsOf). IsOffered product When x n js heap z heap) (sym e)
    (record { held = held; more = more_same x; to = λ z h. h; from = λ z h. inl h; count = omega arith; there = λ w fits. absurd (none w fits); once = λ taken new d. d })

abbrev paired : ℕ → List ℕ → pass.Candidate
paired n js = (n, js)

-- what is known once a candidate is made
pub record Begins (product : ℕ → ℕ → ℕ) (x : ListsOf) (n : ℕ) (js heap : List ℕ) (y : ListsOf) (m : ℕ) : Type 0 where
  pub known : (z : ℕ) → Has heap z → IsKnownBy y z
  pub number : IsKnownBy y m
  pub is_heap : IsHeap (order_of y) heap
  pub offered : (now : List ℕ) → IsHeap (order_of y) now → Adds heap m now → length now ≡ length heap + 1 → m < 2 ^ 32 → IsOffered product (Unit {0}) x n js heap y now

module _ (product : ℕ → ℕ → ℕ) (x : ListsOf) (heap : List ℕ) (held : IsHeld product x heap) (n start : ℕ) (tuple : IsTuple x n (ranks_from x n start)) where
  abbrev new : Candidate
  new = record { rule = n; start = start; cost = (offer product x.rules (entries_of x) n (ranks_from x n start)).1; size = size (tree_by x n (ranks_from x n start)) }

  abbrev y : ListsOf
  y = with_candidate x new

  more : AreMore x x.trees x.lists (x.candidates ++ new ∷ []) x.ranks
  more = more_with x (x.candidates ++ new ∷ []) x.ranks (new ∷ [], refl) ([], sym (append_nil x.ranks))

  more_here : AreMoreCandidates x y
  more_here = record { same = refl; candidates = (new ∷ [], refl); ranks = ([], sym (append_nil x.ranks)) }

  last : candidate_at y (length x.candidates) ≡ new
  last = last_at x.candidates new no_candidate

  new_made : (offer product x.rules (entries_of x) n (ranks_from x n start)).1 ≤ most → IsMade product y (length x.candidates)
  new_made fits = record {
    is = subst (λ (d : Candidate). IsCandidate y d) (sym last) (record { tuple = record { rule = tuple.rule; ranks = tuple.ranks }; size = refl });
    priced = subst (λ (d : Candidate). IsPriced product y d) (sym last) refl;
    within = subst (λ (d : Candidate). d.cost ≤ most) (sym last) fits;
  }

  made_now : (offer product x.rules (entries_of x) n (ranks_from x n start)).1 ≤ most → (m : ℕ) → m < length (x.candidates ++ new ∷ []) → IsMade product y m
  made_now fits =
      made_all product x held.lists x.trees x.lists (x.candidates ++ new ∷ []) x.ranks more
      (λ m l h. let e : length x.candidates ≡ m = omega (arith, l, h, length-append x.candidates (new ∷ [])) in subst (λ (i : ℕ). IsMade product y i) e (new_made fits))

  there : length x.candidates < length (x.candidates ++ new ∷ [])
  there = omega (arith, length-append x.candidates (new ∷ []))

  older : (m : ℕ) → m < length x.candidates → m < length (x.candidates ++ new ∷ [])
  older m h = omega (arith, h, length-append x.candidates (new ∷ []))

  known_now : (offer product x.rules (entries_of x) n (ranks_from x n start)).1 ≤ most → (m : ℕ) → m < length (x.candidates ++ new ∷ []) → IsKnownBy y m
  known_now fits m h = record { sound = sound_kept x held.lists.sound (x.candidates ++ new ∷ []) x.ranks; below = h; is = (made_now fits m h).is }

  new_tuple : tuple_of y (length x.candidates) ≡ paired n (ranks_from x n start)
  new_tuple = ap (λ (c : Candidate). paired c.rule (ranks_of y c)) last

  same_tuples : tuples y heap ≡ tuples x heap
  same_tuples = tuples_kept product x held.lists x.trees x.lists (x.candidates ++ new ∷ []) x.ranks more heap held.below

  to_now : (now : List ℕ) → Adds heap (length x.candidates) now → (z : pass.Candidate) → Has (tuples x heap) z → Has (tuples y now) z
  to_now now adds z h =
      let m = has_mapped (tuple_of y) heap z (subst (λ (zs : List pass.Candidate). Has zs z) (sym same_tuples) h) in
      subst (λ (w : pass.Candidate). Has (tuples y now) w) m.2 (mapped_has (tuple_of y) now m.0 (adds.to m.0 m.1))

  new_now : (now : List ℕ) → Adds heap (length x.candidates) now → Has (tuples y now) (paired n (ranks_from x n start))
  new_now now adds = subst (λ (z : pass.Candidate). Has (tuples y now) z) new_tuple (mapped_has (tuple_of y) now (length x.candidates) adds.new)

  begins_here : (offer product x.rules (entries_of x) n (ranks_from x n start)).1 ≤ most → Begins product x n (ranks_from x n start) heap y (length x.candidates)
  begins_here fits = record {
    known = λ z h. known_now fits z (older z (held.below z h));
    number = known_now fits (length x.candidates) there;
    is_heap = heap_stays product x held.lists x.trees x.lists (x.candidates ++ new ∷ []) x.ranks more heap held.below held.is_heap;
    offered = λ now is adds long bound. record {
      held = record {
        lists = record { sound = sound_kept x held.lists.sound (x.candidates ++ new ∷ []) x.ranks; made = made_now fits };
        is_heap = is;
        below = λ m h. elim (adds.from m h) [ inl e ↦ omega (arith, e, there) | inr i ↦ older m (held.below m i) ];
      };
      more = more_here;
      to = to_now now adds;
      from = λ z h.
          let m = has_mapped (tuple_of y) now z h in
          elim (adds.from m.0 m.1) [
            | inl e ↦ inr (sym m.2 ∙ ap (tuple_of y) e ∙ new_tuple)
            | inr i ↦ inl (subst (λ (zs : List pass.Candidate). Has zs z) same_tuples (subst (λ (w : pass.Candidate). Has (tuples y heap) w) m.2 (mapped_has (tuple_of y) heap m.0 i)))
          ];
      count = omega (arith, long, bound, length-append x.candidates (new ∷ []));
      there = λ w f. new_now now adds;
      once = λ taken new d.
          distinct_put (tuples x heap) (tuples y now) taken (paired n (ranks_from x n start)) (to_now now adds) (new_now now adds) (omega (arith, long, length-map now (tuple_of y), length-map heap (tuple_of x))) new d;
    };
  }

pub begins :
    (product : ℕ → ℕ → ℕ) (x : ListsOf) (heap : List ℕ) → IsHeld product x heap → (n start : ℕ) → IsTuple x n (ranks_from x n start) → (x2 : ListsOf) (m : ℕ) → Makes product x n start (Some m) x2 →
    Begins product x n (ranks_from x n start) heap x2 m
begins product x heap held n start tuple x2 m made =
    subst (λ (u : ListsOf). Begins product x n (ranks_from x n start) heap u m) (sym made.2)
    (subst (λ (i : ℕ). Begins product x n (ranks_from x n start) heap (with_candidate x (new product x heap held n start tuple)) i) (sym made.0)
    (begins_here product x heap held n start tuple made.1))

-- ranks that were appended

take_whole : (js : List ℕ) → take (length js) js ≡ js
take_whole [] = refl
take_whole (j ∷ js) = ap (λ (ks : List ℕ). j ∷ ks) (take_whole js)

-- a list that was appended to another is read from the end of that one
pub from_end : (xs js : List ℕ) → take (length js) (drop (length xs) (xs ++ js)) ≡ js
from_end [] js = take_whole js
from_end (x ∷ xs) js = from_end xs js

-- what is known once ranks were appended
pub record IsPut (product : ℕ → ℕ → ℕ) (x : ListsOf) (n : ℕ) (js heap : List ℕ) (x1 : ListsOf) (start : ℕ) : Type 0 where
  pub held : IsHeld product x1 heap
  pub tuple : IsTuple x1 n (ranks_from x1 n start)
  pub offered : (y : ListsOf) (now : List ℕ) → IsOffered product (Unit {0}) x1 n (ranks_from x1 n start) heap y now → IsOffered product (Unit {0}) x n js heap y now

module _ (product : ℕ → ℕ → ℕ) (x : ListsOf) (heap : List ℕ) (held : IsHeld product x heap) (n : ℕ) (js : List ℕ) (tuple : IsTuple x n js) (long : length js ≡ length (states_of (rule_at x.rules n))) where
  abbrev x1 : ListsOf
  x1 = with_ranks x js

  put_more : AreMore x x.trees x.lists x.candidates (x.ranks ++ js)
  put_more = more_with x x.candidates (x.ranks ++ js) ([], sym (append_nil x.candidates)) (js, refl)

  put_more_here : AreMoreCandidates x x1
  put_more_here = record { same = refl; candidates = ([], sym (append_nil x.candidates)); ranks = (js, refl) }

  put_is : ranks_from x1 n (length x.ranks) ≡ js
  put_is = ap (λ (m : ℕ). take m (drop (length x.ranks) (x.ranks ++ js))) (sym long) ∙ from_end x.ranks js

  put_tuples : tuples x1 heap ≡ tuples x heap
  put_tuples = tuples_kept product x held.lists x.trees x.lists x.candidates (x.ranks ++ js) put_more heap held.below

  put_held : IsHeld product x1 heap
  put_held = record {
    lists = record {
      sound = sound_kept x held.lists.sound x.candidates (x.ranks ++ js);
      made = made_all product x held.lists x.trees x.lists x.candidates (x.ranks ++ js) put_more (λ m l h. absurd (omega (arith, l, h)));
    };
    is_heap = heap_stays product x held.lists x.trees x.lists x.candidates (x.ranks ++ js) put_more heap held.below held.is_heap;
    below = held.below;
  }

  puts : IsPut product x n js heap x1 (length x.ranks)
  puts = record {
    held = put_held;
    tuple = record { rule = tuple.rule; ranks = subst (λ (ks : List ℕ). AreRanks (entries_of x) (states_of (rule_at x.rules n)) ks) (sym put_is) tuple.ranks };
    offered = λ y now o. record {
      held = o.held;
      more = more_more x x1 y put_more_here o.more;
      to = λ z h. o.to z (subst (λ (zs : List pass.Candidate). Has zs z) (sym put_tuples) h);
      from = λ z h. elim (o.from z h) [
        | inl i ↦ inl (subst (λ (zs : List pass.Candidate). Has zs z) put_tuples i)
        | inr e ↦ inr (e ∙ ap (paired n) put_is)
      ];
      count = o.count;
      there = λ w fits. subst (λ (ks : List ℕ). Has (tuples y now) (n, ks)) put_is (o.there w (subst (λ (ks : List ℕ). (offer product x.rules (entries_of x) n ks).1 ≤ most) (sym put_is) fits));
      once = λ taken new d.
          o.once taken (λ h. new (subst (λ (ks : List ℕ). Has (tuples x heap ++ taken) (n, ks)) put_is (subst (λ (zs : List pass.Candidate). Has (zs ++ taken) (n, ranks_from x1 n (length x.ranks))) put_tuples h)))
          (subst (λ (zs : List pass.Candidate). Distinct (zs ++ taken)) (sym put_tuples) d);
    };
  }

pub ranks_put :
    (product : ℕ → ℕ → ℕ) (x : ListsOf) (heap : List ℕ) → IsHeld product x heap → (n : ℕ) (js : List ℕ) → IsTuple x n js → length js ≡ length (states_of (rule_at x.rules n)) → (after : ListsOf) → after ≡ with_ranks x js →
    (start : ℕ) → start ≡ length x.ranks → IsPut product x n js heap after start
ranks_put product x heap held n js tuple long after e start f =
    subst (λ (u : ListsOf). IsPut product x n js heap u start) (sym e) (subst (λ (s : ℕ). IsPut product x n js heap (with_ranks x js) s) (sym f) (puts product x heap held n js tuple long))

-- an offer that only counts where there is such an entry
pub offered_when : (product : ℕ → ℕ → ℕ) (When : Type 0) (x : ListsOf) (n : ℕ) (js heap : List ℕ) (y : ListsOf) (now : List ℕ) → IsOffered product (Unit {0}) x n js heap y now → IsOffered product When x n js heap y now
offered_when product When x n js heap y now o = record { held = o.held; more = o.more; to = o.to; from = o.from; count = o.count; there = λ w fits. o.there tt fits; once = o.once }
