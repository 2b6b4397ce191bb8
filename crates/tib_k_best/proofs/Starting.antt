-- The queue at first, when each rule has begun or waits, and when no candidate is left.
use Rattle.std.specs.Prelude.{◌≡◌, ◌⊎◌, ℕ, ◌+◌, ◌<◌, ◌≤◌, List, [], ◌∷◌, length, replicate, map, refl, Bool, Option, Some, None, IfSome}
use Rattle.std.proofs.Common.{zero, suc, arith, ap, sym, ◌∙◌, subst, inl, inr, get_or}
use Rattle.tib_lex.specs.Lists.{Has}
use Rattle.tib_cost.specs.Semiring.{ProductLaws}
use Rattle.tib_grammar.specs.declared.Rule.{Rule}
use Rattle.tib_ranked_trees.specs.Heaps.{IsHeap, TakesFirst}
use Rattle.tib_ranked_trees.specs.Best.{Cheaper, HasLarge, IsTreeAt}
use Rattle.tib_ranked_trees.specs.First.{IsFront}
use Rattle.tib_ranked_trees.specs.Levels.{IsOrderly}
use Rattle.tib_ranked_trees.proofs.Firsts.{firsts_are_best}
use Rattle.tib_ranked_trees.specs.ListsOf.{ListsOf}
use Rattle.tib_ranked_trees.specs.Held.{empty_lists, entries_of, list_of, offers_cmp, stands_for, told, IsKnownBy, IsSound}
use Rattle.tib_ranked_trees.specs.declared.lists.Entry.{Entry}
use Rattle.tib_k_best.specs.Causes.{IsCause}
use Rattle.tib_lazy_lists.specs.Firsts.{AreFirsts}
use Rattle.tib_k_best.specs.QueueOf.{QueueOf, empty_queue, waiting_at}
use Rattle.tib_k_best.specs.Queues.{rules_before, IsQueue, IsSettled, IsTaken, StaysSame}
use Rattle.tib_k_best.specs.declared.error.KBestError.{KBestError}
use Rattle.tib_k_best.specs.declared.error.KBestError.TheVariants.{TreeTooLarge, OutOfMemory}
use Rattle.tib_k_best.specs.declared.queue.Waiting.{Waiting}
use Rattle.tib_k_best.proofs.Settled.{none_ready}

same_or : (a b : ℕ) → (a ≡ b) ⊎ (a ≡ b → ⊥)
same_or a b = grind arith

abbrev nil : (A : Type 0) → List A
nil A = []

none_in : {A : Type 0} (n q : ℕ) → get_or (replicate n (nil A)) q [] ≡ nil A
none_in {A} zero q = refl
none_in {A} (suc n) zero = refl
none_in {A} (suc n) (suc q) = none_in n q

pub as_many : (A : Type 0) (n : ℕ) → length (replicate n (nil A)) ≡ n
as_many A zero = refl
as_many A (suc n) = ap suc (as_many A n)

-- the rules before the n-th are all of them that are less
has_before : (n m : ℕ) → m < n → Has (rules_before n) m
has_before zero m l = absurd (omega arith)
has_before (suc n) m l = elim (same_or n m) [ inl e ↦ inl e | inr o ↦ inr (has_before n m (omega (arith, o, l))) ]

pub before_more : (m n : ℕ) → m ≡ n + 1 → rules_before m ≡ n ∷ rules_before n
before_more zero n e = absurd (omega (arith, e))
before_more (suc k) n e = let f : k ≡ n = omega (arith, e) in ap (λ (i : ℕ). i ∷ rules_before i) f

-- no state has a tree at first
pub no_list : (x : ListsOf) → x ≡ empty_lists x.rules x.labels x.label_ranks (length x.lists) → (q : ℕ) → list_of x q ≡ []
no_list x e q = ap (λ (y : ListsOf). list_of y q) e ∙ none_in (length x.lists) q

-- at first no candidate is there, and all rules are left out
pub queue_begins :
    (product : ℕ → ℕ → ℕ) (x : ListsOf) → IsSound x → x ≡ empty_lists x.rules x.labels x.label_ranks (length x.lists) → (w : QueueOf) → w ≡ empty_queue (length x.lists) →
    IsQueue product x w (rules_before (length x.rules))
queue_begins product x sound empty w e =
    let none : (q : ℕ) → list_of x q ≡ [] = no_list x empty in
    let made : length x.candidates ≡ 0 = ap (λ (y : ListsOf). length y.candidates) empty in
    let waits : (q : ℕ) → waiting_at w q ≡ [] = λ q. ap (λ (v : QueueOf). waiting_at v q) e ∙ none_in (length x.lists) q in
    let heap : w.heap ≡ [] = ap (λ (v : QueueOf). v.heap) e in
    let long : (q : ℕ) → length (list_of x q) ≡ 0 = λ q. ap (λ (es : List Entry). length es) (none q) in
    record {
      sound = sound;
      made = λ n h. absurd (omega (arith, h, made));
      long = ap (λ (v : QueueOf). length v.waiting) e ∙ as_many Waiting (length x.lists);
      placed = λ q a h. absurd (subst (λ (bs : List Waiting). Has bs a) (waits q) h);
      heap = λ j low high. absurd (let l : length w.heap ≡ 0 = ap (λ (ms : List ℕ). length ms) heap in omega (arith, high, l));
      below = λ m h. absurd (subst (λ (ms : List ℕ). Has ms m) heap h);
      first = λ m h. absurd (subst (λ (ms : List ℕ). Has ms m) heap h);
      each = λ n l. inl (has_before (length x.rules) n l);
      fronts = λ q. subst (λ (es : List Entry). IsFront (IsTreeAt product x.rules q) (Cheaper x.labels) (map (told x.trees) es)) (sym (none q))
          (record { members = tt; ascends = tt; others = λ y m n. tt });
      few = λ q. omega (arith, long q);
      from = λ q h. absurd (omega (arith, h, long q));
    }

-- once no rule is left out, and no state has a tree
pub all_begun :
    (product : ℕ → ℕ → ℕ) (x y : ListsOf) (w : QueueOf) (n : ℕ) → n ≤ 0 → IsQueue product y w (rules_before n) → StaysSame x y → ((q : ℕ) → list_of x q ≡ []) →
    IsSettled product y w
all_begun product x y w n low queue same none =
    let z : n ≡ 0 = omega (arith, low) in
    let empty : (q : ℕ) → list_of y q ≡ [] = λ q. ap (λ (ls : List (List Entry)). get_or ls q []) same.lists ∙ none q in
    record {
      queue = subst (λ (i : ℕ). IsQueue product y w (rules_before i)) z queue;
      settled = λ q h. absurd (let l : length (list_of y q) ≡ 0 = ap (λ (es : List Entry). length es) (empty q) in omega (arith, h, l));
    }

-- what the heap may compare
pub heap_known : (product : ℕ → ℕ → ℕ) (x : ListsOf) (w : QueueOf) → IsSettled product x w → (m : ℕ) → Has w.heap m → IsKnownBy x m
heap_known product x w s m h = record { sound = s.queue.sound; below = s.queue.below m h; is = (s.queue.made m (s.queue.below m h)).is }

-- the least candidate was taken
pub takes_least :
    (product : ℕ → ℕ → ℕ) (x : ListsOf) (w : QueueOf) (waiting : List (List Waiting)) (old new : List ℕ) → record { waiting = waiting; heap = old } ≡ w → IsSettled product x w → (o : Option ℕ) →
    IsHeap (λ a b. offers_cmp x.labels (stands_for x a) (stands_for x b)) new → IfSome o (λ m. TakesFirst (λ a b. offers_cmp x.labels (stands_for x a) (stands_for x b)) old m new) →
    IfSome o (λ m. IsTaken product x m (record { waiting = waiting; heap = new }))
takes_least product x w waiting old new e s None heap t = tt
takes_least product x w waiting old new e s (Some m) heap t =
    record { heap = old; settled = subst (λ (v : QueueOf). IsSettled product x v) (sym e) s; takes = t; is_heap = heap }

-- where no candidate is left, the states without a tree have none
pub firsts_end :
    {levelled weighted : Bool} {product : ℕ → ℕ → ℕ} (laws : ProductLaws levelled weighted product) (x : ListsOf) (w : QueueOf) → IsOrderly product x.rules → IsSettled product x w → w.heap ≡ [] →
    AreFirsts product x
firsts_end {levelled} {weighted} {product} laws x w orderly s empty = record {
  sound = s.queue.sound;
  made = s.queue.made;
  fronts = s.queue.fronts;
  few = s.queue.few;
  from = s.queue.from;
  none = λ q e. (firsts_are_best laws).whole x.labels x.rules (entries_of x) s.queue.sound.normal orderly s.queue.fronts (none_ready product x w s empty) q (ap (λ (es : List Entry). map (told x.trees) es) e);
}

-- a cause among the first is one among more
pub cause_among :
    (product : ℕ → ℕ → ℕ) (labels now : List (List ℕ)) (rules after : List (Rule ℕ)) → now ≡ labels → after ≡ rules → (j k : ℕ) → j ≤ k → (e : KBestError) → IsCause product now after j e →
    IsCause product labels rules k e
cause_among product labels now rules after l r j k m (TreeTooLarge q) h =
    let g = subst (λ (ls : List (List ℕ)). HasLarge product ls rules j q) l (subst (λ (rs : List (Rule ℕ)). HasLarge product now rs j q) r h) in
    record { front = g.front; is_front = g.is_front; few = omega (arith, g.few, m); tree = g.tree; next = g.next; large = g.large }
cause_among product labels now rules after l r j k m OutOfMemory h = tt
