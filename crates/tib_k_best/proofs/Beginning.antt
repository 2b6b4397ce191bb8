-- A rule's first candidate is made, and goes into the heap.
use Rattle.std.specs.Prelude.{◌≡◌, ◌⊎◌, ℕ, ◌<◌, ◌≤◌, List, [], ◌∷◌, ◌++◌, length, take, drop, refl, Some, Result, Ok, Err, OnOk}
use Rattle.std.proofs.Common.{arith, ap, sym, ◌∙◌, subst, inl, inr, get_or, length-append}
use Rattle.std.proofs.lemmas.List.{length-map}
use Rattle.tib_lex.specs.Lists.{Has}
use Rattle.tib_lex.proofs.Lists.{append_nil}
use Rattle.tib_cost.specs.Semiring.{most}
use Rattle.tib_tree.specs.Trees.{Tree, size}
use Rattle.tib_grammar.specs.Run.{rule_at}
use Rattle.tib_ranked_trees.specs.Heaps.{IsHeap, Adds}
use Rattle.tib_ranked_trees.specs.Levels.{states_of}
use Rattle.tib_ranked_trees.specs.Pass.{AreRanks, zeros, offer}
use Rattle.tib_ranked_trees.specs.ListsOf.{ListsOf}
use Rattle.tib_ranked_trees.specs.Held.{list_of, entry_at, told, entries_of, candidate_at, no_candidate, ranks_of, ranks_from, tree_by, stands_for, offers_cmp, grown, with_ranks, with_candidate, AreMore, IsSound, IsTuple, IsCandidate, IsPriced, IsKnownBy, Makes}
use Rattle.tib_ranked_trees.specs.declared.lists.Entry.{Entry}
use Rattle.tib_ranked_trees.specs.declared.lists.Candidate.{Candidate}
use Rattle.tib_ranked_trees.proofs.Seeing.{last_at}
use Rattle.tib_ranked_trees.proofs.Growing.{candidate_kept, known_kept, stands_kept, ranks_from_kept, offer_kept, heap_kept}
use Rattle.tib_k_best.specs.QueueOf.{QueueOf, waiting_at}
use Rattle.tib_lazy_lists.specs.Firsts.{IsFromFirst, IsMade}
use Rattle.tib_k_best.specs.Queues.{HasTrees, IsWaiting, Waits, IsBegun, IsPassed, IsQueue}
use Rattle.tib_k_best.specs.declared.queue.Waiting.{Waiting}
use Rattle.tib_lazy_lists.proofs.Begun.{ranks_zero}
use Rattle.tib_lazy_lists.proofs.Followed.{zeros_long}
use Rattle.tib_lazy_lists.proofs.Added.{from_end}
use Rattle.tib_lazy_lists.proofs.Kept.{sound_kept}

below_or : (a b : ℕ) → (a < b) ⊎ (b ≤ a)
below_or a b = grind arith

-- a rule whose states all have trees has its first ranks

pub zeros_there : (x : ListsOf) (qs : List ℕ) → HasTrees x qs (length qs) → AreRanks (entries_of x) qs (zeros qs)
zeros_there x qs h =
    ranks_zero (entries_of x) qs (λ k l. let e : length (entries_of x (get_or qs k 0)) ≡ length (list_of x (get_or qs k 0)) = length-map (list_of x (get_or qs k 0)) (told x.trees) in omega (arith, h k l, e))

pub ranks_put : (x : ListsOf) (n start : ℕ) → start ≡ length x.ranks → ranks_from (with_ranks x (zeros (states_of (rule_at x.rules n)))) n start ≡ zeros (states_of (rule_at x.rules n))
ranks_put x n start e =
    let qs : List ℕ = states_of (rule_at x.rules n) in
    ap (λ (s : ℕ). take (length qs) (drop s (x.ranks ++ zeros qs))) e ∙ ap (λ (m : ℕ). take m (drop (length x.ranks) (x.ranks ++ zeros qs))) (sym (zeros_long qs)) ∙ from_end x.ranks (zeros qs)

pub tuple_put :
    (x : ListsOf) → IsSound x → (n start : ℕ) → n < length x.rules → HasTrees x (states_of (rule_at x.rules n)) (length (states_of (rule_at x.rules n))) → start ≡ length x.ranks → (x1 : ListsOf) →
    x1 ≡ with_ranks x (zeros (states_of (rule_at x.rules n))) → IsSound x1 × IsTuple x1 n (ranks_from x1 n start)
tuple_put x s n start h all e x1 f =
    let js : List ℕ = zeros (states_of (rule_at x.rules n)) in
    subst (λ (y : ListsOf). IsSound y × IsTuple y n (ranks_from y n start)) (sym f) (
      sound_kept x s x.candidates (x.ranks ++ js),
      record { rule = h; ranks = subst (λ (ks : List ℕ). AreRanks (entries_of x) (states_of (rule_at x.rules n)) ks) (sym (ranks_put x n start e)) (zeros_there x (states_of (rule_at x.rules n)) all) },
    )

module _ (product : ℕ → ℕ → ℕ) (x : ListsOf) (w : QueueOf) (out : List ℕ) (k : IsQueue product x w out) (ts : List (Tree ℕ)) (ls : List (List Entry)) (cs : List Candidate) (rs : List ℕ) (more : AreMore x ts ls cs rs) where
  pub made_kept : (n : ℕ) → n < length x.candidates → IsMade product (grown x ts ls cs rs) n
  made_kept n h =
      let y : ListsOf = grown x ts ls cs rs in
      let m = k.made n h in
      let c : Candidate = candidate_at x n in
      let e : candidate_at y n ≡ c = candidate_kept x k.sound ts ls cs rs more n h in
      let r : ranks_of y c ≡ ranks_of x c = ranks_from_kept x k.sound ts ls cs rs more c.rule c.start m.is.tuple in
      let priced : IsPriced product y c =
      ap (λ (js : List ℕ). (offer product x.rules (entries_of y) c.rule js).1) r
      ∙ ap (λ (z : Tree ℕ × ℕ). z.1) (offer_kept x k.sound ts ls cs rs more product c.rule (ranks_of x c) m.is.tuple) ∙ m.priced
      in
      record {
        is = known_kept x k.sound ts ls cs rs more n h m.is;
        priced = subst (λ (d : Candidate). IsPriced product y d) (sym e) priced;
        within = subst (λ (d : Candidate). d.cost ≤ most) (sym e) m.within;
      }

  -- a state keeps its trees
  pub trees_kept : (qs : List ℕ) (n : ℕ) → HasTrees x qs n → HasTrees (grown x ts ls cs rs) qs n
  trees_kept qs n h j l =
      let m = more.lists (get_or qs j 0) in
      omega (arith, h j l, ap (λ (es : List Entry). length es) m.1, length-append (list_of x (get_or qs j 0)) m.0)

  pub placed_kept : (q : ℕ) (a : Waiting) → Has (waiting_at w q) a → IsWaiting (grown x ts ls cs rs) q a
  placed_kept q a h = let p = k.placed q a h in record { rule = p.rule; place = p.place; state = p.state; before = trees_kept (states_of (rule_at x.rules a.rule)) a.place p.before }

  pub heap_stays : IsHeap (λ a b. offers_cmp x.labels (stands_for (grown x ts ls cs rs) a) (stands_for (grown x ts ls cs rs) b)) w.heap
  heap_stays =
      let y : ListsOf = grown x ts ls cs rs in
      let stays : (m : ℕ) → Has w.heap m → stands_for y m ≡ stands_for x m = λ m h. stands_kept x k.sound ts ls cs rs more m (k.below m h) (k.made m (k.below m h)).is in
      heap_kept (λ a b. offers_cmp x.labels (stands_for x a) (stands_for x b)) (λ a b. offers_cmp x.labels (stands_for y a) (stands_for y b)) w.heap
      (λ a b h i. ap (λ (z : Tree ℕ × ℕ). offers_cmp x.labels z (stands_for y b)) (stays a h) ∙ ap (λ (z : Tree ℕ × ℕ). offers_cmp x.labels (stands_for x a) z) (stays b i)) k.heap

  more_long : length x.candidates ≤ length cs
  more_long = omega (arith, ap (λ (ds : List Candidate). length ds) more.candidates.1, length-append x.candidates more.candidates.0)

  pub first_kept : (m : ℕ) → Has w.heap m → ranks_of (grown x ts ls cs rs) (candidate_at (grown x ts ls cs rs) m) ≡ zeros (states_of (rule_at x.rules (candidate_at (grown x ts ls cs rs) m).rule))
  first_kept m h =
      let y : ListsOf = grown x ts ls cs rs in
      let c : Candidate = candidate_at x m in
      let r : ranks_of y c ≡ ranks_of x c = ranks_from_kept x k.sound ts ls cs rs more c.rule c.start (k.made m (k.below m h)).is.tuple in
      subst (λ (d : Candidate). ranks_of y d ≡ zeros (states_of (rule_at x.rules d.rule))) (sym (candidate_kept x k.sound ts ls cs rs more m (k.below m h))) (r ∙ k.first m h)

  pub begun_kept : (n : ℕ) → IsBegun x w n → IsBegun (grown x ts ls cs rs) w n
  begun_kept n b = record {
    candidate = b.candidate;
    stands = b.stands;
    is = ap (λ (d : Candidate). d.rule) (candidate_kept x k.sound ts ls cs rs more b.candidate (k.below b.candidate b.stands)) ∙ b.is;
  }

  -- an entry still came from the candidate that it came from
  pub from_kept : (q : ℕ) (e : Entry) → told ts e ≡ told x.trees e → IsFromFirst x q e → IsFromFirst (grown x ts ls cs rs) q e
  from_kept q e same f =
      let y : ListsOf = grown x ts ls cs rs in
      let c : Candidate = candidate_at x e.candidate in
      let is : candidate_at y e.candidate ≡ c = candidate_kept x k.sound ts ls cs rs more e.candidate f.below in
      let m = (k.made e.candidate f.below).is in
      let r : ranks_of y c ≡ ranks_of x c = ranks_from_kept x k.sound ts ls cs rs more c.rule c.start m.tuple in
      record {
        below = omega (arith, f.below, more_long);
        left = ap (λ (d : Candidate). (rule_at x.rules d.rule).left) is ∙ f.left;
        first = subst (λ (d : Candidate). ranks_of y d ≡ zeros (states_of (rule_at x.rules d.rule))) (sym is) (r ∙ f.first);
        same = same ∙ f.same ∙ sym (stands_kept x k.sound ts ls cs rs more e.candidate f.below m);
      }

  made_all : ((n : ℕ) → length x.candidates ≤ n → n < length cs → IsMade product (grown x ts ls cs rs) n) → (n : ℕ) → n < length cs → IsMade product (grown x ts ls cs rs) n
  made_all new n h = elim (below_or n (length x.candidates)) [ inl l ↦ made_kept n l | inr l ↦ new n l h ]

-- where the first candidate costs too much, the rule gives no state its first tree
pub too_dear :
    (product : ℕ → ℕ → ℕ) (x : ListsOf) (w : QueueOf) (n start : ℕ) (out : List ℕ) → IsQueue product x w (n ∷ out) → HasTrees x (states_of (rule_at x.rules n)) (length (states_of (rule_at x.rules n))) → start ≡ length x.ranks → (x1 x2 : ListsOf) → x1 ≡ with_ranks x (zeros (states_of (rule_at x.rules n))) →
    most < (offer product x1.rules (entries_of x1) n (ranks_from x1 n start)).1 → x2 ≡ x1 → IsQueue product x2 w out
too_dear product x w n start out k all e x1 x2 f dear same =
    let js : List ℕ = zeros (states_of (rule_at x.rules n)) in
    let y : ListsOf = with_ranks x js in
    let more : AreMore x x.trees x.lists x.candidates (x.ranks ++ js) =
    record { trees = record { more = omega arith; same = λ m h. refl }; lists = λ q. ([], sym (append_nil (list_of x q))); candidates = ([], sym (append_nil x.candidates)); ranks = (js, refl) }
    in
    let high : most < (offer product x.rules (entries_of x) n js).1 =
    subst (λ (ks : List ℕ). most < (offer product x.rules (entries_of x) n ks).1) (ranks_put x n start e) (subst (λ (z : ListsOf). most < (offer product z.rules (entries_of z) n (ranks_from z n start)).1) f dear)
    in
    let each :
    (m : ℕ) → m < length x.rules → Has out m ⊎ (Waits w m ⊎ IsPassed product y w m) =
    λ m h. elim (k.each m h) [
      | inl h ↦ elim h [
        | inl at ↦ inr (inr (record {
          all = subst (λ (i : ℕ). HasTrees x (states_of (rule_at x.rules i)) (length (states_of (rule_at x.rules i)))) at all;
          begun = λ ready. absurd (let l = subst (λ (i : ℕ). (offer product x.rules (entries_of x) i (zeros (states_of (rule_at x.rules i)))).1 ≤ most) (sym at) ready.fits in omega (arith, l, high));
        }))
        | inr left ↦ inl left
      ]
      | inr o ↦ elim o [
        | inl ws ↦ inr (inl ws)
        | inr b ↦ inr (inr (record { all = b.all; begun = λ ready. begun_kept product x w (n ∷ out) k x.trees x.lists x.candidates (x.ranks ++ js) more m (b.begun ready) }))
      ]
    ]
    in
    subst (λ (z : ListsOf). IsQueue product z w out) (sym (same ∙ f))
    (record {
      sound = sound_kept x k.sound x.candidates (x.ranks ++ js);
      made = made_all product x w (n ∷ out) k x.trees x.lists x.candidates (x.ranks ++ js) more (λ m l h. absurd (omega (arith, l, h)));
      long = k.long;
      placed = placed_kept product x w (n ∷ out) k x.trees x.lists x.candidates (x.ranks ++ js) more;
      heap = heap_stays product x w (n ∷ out) k x.trees x.lists x.candidates (x.ranks ++ js) more;
      below = k.below;
      first = first_kept product x w (n ∷ out) k x.trees x.lists x.candidates (x.ranks ++ js) more;
      each = each;
      fronts = k.fronts;
      few = k.few;
      from = λ q h. from_kept product x w (n ∷ out) k x.trees x.lists x.candidates (x.ranks ++ js) more q (entry_at x q 0) refl (k.from q h);
    })

-- what is known once a rule's first candidate is made
pub record Begins (product : ℕ → ℕ → ℕ) (y : ListsOf) (w : QueueOf) (out : List ℕ) (m : ℕ) : Type 0 where
  pub known : (z : ℕ) → Has w.heap z → IsKnownBy y z
  pub number : IsKnownBy y m
  pub heap : IsHeap (λ a b. offers_cmp y.labels (stands_for y a) (stands_for y b)) w.heap
  pub queue : (heap : List ℕ) → IsHeap (λ a b. offers_cmp y.labels (stands_for y a) (stands_for y b)) heap → Adds w.heap m heap →
      IsQueue product y (record { waiting = w.waiting; heap = heap }) out

module _ (product : ℕ → ℕ → ℕ) (x : ListsOf) (w : QueueOf) (n start : ℕ) (out : List ℕ) (k : IsQueue product x w (n ∷ out)) (inside : n < length x.rules) (at : start ≡ length x.ranks)
    (all : HasTrees x (states_of (rule_at x.rules n)) (length (states_of (rule_at x.rules n)))) where
  abbrev js : List ℕ
  js = zeros (states_of (rule_at x.rules n))

  abbrev x1 : ListsOf
  x1 = with_ranks x js

  abbrev new : Candidate
  new = record { rule = n; start = start; cost = (offer product x1.rules (entries_of x1) n (ranks_from x1 n start)).1; size = size (tree_by x1 n (ranks_from x1 n start)) }

  abbrev y : ListsOf
  y = with_candidate x1 new

  more : AreMore x x.trees x.lists (x.candidates ++ new ∷ []) (x.ranks ++ js)
  more = record { trees = record { more = omega arith; same = λ m h. refl }; lists = λ q. ([], sym (append_nil (list_of x q))); candidates = (new ∷ [], refl); ranks = (js, refl) }

  last : candidate_at y (length x.candidates) ≡ new
  last = last_at x.candidates new no_candidate

  new_made : (offer product x1.rules (entries_of x1) n (ranks_from x1 n start)).1 ≤ most → IsMade product y (length x.candidates)
  new_made fits =
      let t = (tuple_put x k.sound n start inside all at x1 refl).1 in
      record {
        is = subst (λ (d : Candidate). IsCandidate y d) (sym last) (record { tuple = record { rule = t.rule; ranks = t.ranks }; size = refl });
        priced = subst (λ (d : Candidate). IsPriced product y d) (sym last) refl;
        within = subst (λ (d : Candidate). d.cost ≤ most) (sym last) fits;
      }

  made_now : (offer product x1.rules (entries_of x1) n (ranks_from x1 n start)).1 ≤ most → (m : ℕ) → m < length (x.candidates ++ new ∷ []) → IsMade product y m
  made_now fits =
      made_all product x w (n ∷ out) k x.trees x.lists (x.candidates ++ new ∷ []) (x.ranks ++ js) more
      (λ m l h. let e : length x.candidates ≡ m = omega (arith, l, h, length-append x.candidates (new ∷ [])) in subst (λ (i : ℕ). IsMade product y i) e (new_made fits))

  there : length x.candidates < length (x.candidates ++ new ∷ [])
  there = omega (arith, length-append x.candidates (new ∷ []))

  known_now : (offer product x1.rules (entries_of x1) n (ranks_from x1 n start)).1 ≤ most → (m : ℕ) → m < length (x.candidates ++ new ∷ []) → IsKnownBy y m
  known_now fits m h = record { sound = sound_kept x k.sound (x.candidates ++ new ∷ []) (x.ranks ++ js); below = h; is = (made_now fits m h).is }

  older : (m : ℕ) → m < length x.candidates → m < length (x.candidates ++ new ∷ [])
  older m h = omega (arith, h, length-append x.candidates (new ∷ []))

  begins_here : (offer product x1.rules (entries_of x1) n (ranks_from x1 n start)).1 ≤ most → Begins product y w out (length x.candidates)
  begins_here fits = record {
    known = λ z h. known_now fits z (older z (k.below z h));
    number = known_now fits (length x.candidates) there;
    heap = heap_stays product x w (n ∷ out) k x.trees x.lists (x.candidates ++ new ∷ []) (x.ranks ++ js) more;
    queue = λ heap is adds. record {
      sound = sound_kept x k.sound (x.candidates ++ new ∷ []) (x.ranks ++ js);
      made = made_now fits;
      long = k.long;
      placed = placed_kept product x w (n ∷ out) k x.trees x.lists (x.candidates ++ new ∷ []) (x.ranks ++ js) more;
      heap = is;
      below = λ m h. elim (adds.from m h) [ inl e ↦ omega (arith, e, there) | inr i ↦ older m (k.below m i) ];
      first = λ m h. elim (adds.from m h) [
        | inl e ↦ subst (λ (i : ℕ). ranks_of y (candidate_at y i) ≡ zeros (states_of (rule_at x.rules (candidate_at y i).rule))) (sym e)
            (subst (λ (d : Candidate). ranks_of y d ≡ zeros (states_of (rule_at x.rules d.rule))) (sym last) (ranks_put x n start at))
        | inr i ↦ first_kept product x w (n ∷ out) k x.trees x.lists (x.candidates ++ new ∷ []) (x.ranks ++ js) more m i
      ];
      each = λ m h. elim (k.each m h) [
        | inl h ↦ elim h [
          | inl e ↦ inr (inr (record {
            all = subst (λ (i : ℕ). HasTrees x (states_of (rule_at x.rules i)) (length (states_of (rule_at x.rules i)))) e all;
            begun = λ ready. record { candidate = length x.candidates; stands = adds.new; is = ap (λ (d : Candidate). d.rule) last ∙ e };
          }))
          | inr left ↦ inl left
        ]
        | inr o ↦ elim o [
          | inl ws ↦ inr (inl (record { state = ws.state; waiting = ws.waiting; stands = ws.stands; is = ws.is }))
          | inr b ↦ inr (inr (record {
            all = b.all;
            begun = λ ready.
                let g = begun_kept product x w (n ∷ out) k x.trees x.lists (x.candidates ++ new ∷ []) (x.ranks ++ js) more m (b.begun ready) in
                record { candidate = g.candidate; stands = adds.to g.candidate g.stands; is = g.is };
          }))
        ]
      ];
      fronts = k.fronts;
      few = k.few;
      from = λ q h. from_kept product x w (n ∷ out) k x.trees x.lists (x.candidates ++ new ∷ []) (x.ranks ++ js) more q (entry_at x q 0) refl (k.from q h);
    };
  }

pub begins :
    (product : ℕ → ℕ → ℕ) (x : ListsOf) (w : QueueOf) (n start : ℕ) (out : List ℕ) → IsQueue product x w (n ∷ out) → n < length x.rules → start ≡ length x.ranks →
    HasTrees x (states_of (rule_at x.rules n)) (length (states_of (rule_at x.rules n))) → (x1 x2 : ListsOf) (m : ℕ) → x1 ≡ with_ranks x (zeros (states_of (rule_at x.rules n))) →
    Makes product x1 n start (Some m) x2 → Begins product x2 w out m
begins product x w n start out k inside at all z x2 m f made =
    let mk : Makes product (with_ranks x (zeros (states_of (rule_at x.rules n)))) n start (Some m) x2 = subst (λ (u : ListsOf). Makes product u n start (Some m) x2) f made in
    subst (λ (u : ListsOf). Begins product u w out m) (sym mk.2)
    (subst (λ (i : ℕ). Begins product (with_candidate (with_ranks x (zeros (states_of (rule_at x.rules n)))) (new product x w n start out k inside at all)) w out i) (sym mk.0)
    (begins_here product x w n start out k inside at all mk.1))

-- the heap after a push that was not refused memory
pub queue_on_ok : {T E : Type 0} (r : Result T E) (P Q : Type 0) → (P → Q) → OnOk r P → OnOk r Q
queue_on_ok (Ok v) P Q f h = f h
queue_on_ok (Err e) P Q f h = tt
