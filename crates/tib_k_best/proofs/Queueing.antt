-- A rule waits for a state, or is taken from those that wait for it.
use Rattle.std.specs.Prelude.{◌≡◌, ◌⊎◌, ℕ, ◌+◌, ◌<◌, List, [], ◌∷◌, ◌++◌, length, refl}
use Rattle.std.proofs.Common.{arith, ap, sym, ◌∙◌, subst, inl, inr, get_or, length-append}
use Rattle.std.proofs.Math.ListN.{set, length-set}
use Rattle.std.proofs.lemmas.List.{get_or-set_same, get_or-set_other}
use Rattle.std.proofs.lemmas.List.Sums.{sum_by-set}
use Rattle.tib_lex.specs.Lists.{Has}
use Rattle.tib_grammar.specs.Run.{rule_at}
use Rattle.tib_ranked_trees.specs.Levels.{states_of}
use Rattle.tib_ranked_trees.specs.ListsOf.{ListsOf}
use Rattle.tib_ranked_trees.specs.Held.{list_of}
use Rattle.tib_ranked_trees.specs.declared.lists.Entry.{Entry}
use Rattle.tib_k_best.specs.QueueOf.{QueueOf, waiting_at}
use Rattle.tib_k_best.specs.Queues.{HasTrees, IsWaiting, IsQueue, IsPopped, left_over}
use Rattle.tib_k_best.specs.declared.queue.Waiting.{Waiting}

same_or : (p q : ℕ) → (p ≡ q) ⊎ (p ≡ q → ⊥)
same_or p q = grind arith

has_snoc : {A : Type 0} (xs : List A) (y z : A) → Has (xs ++ y ∷ []) z → Has xs z ⊎ (y ≡ z)
has_snoc [] y z (inl e) = inr e
has_snoc [] y z (inr h) = absurd h
has_snoc (x ∷ xs) y z (inl e) = inl (inl e)
has_snoc (x ∷ xs) y z (inr h) = elim (has_snoc xs y z h) [ inl i ↦ inl (inr i) | inr e ↦ inr e ]

has_front : {A : Type 0} (xs ys : List A) (z : A) → Has xs z → Has (xs ++ ys) z
has_front [] ys z h = absurd h
has_front (x ∷ xs) ys z (inl e) = inl e
has_front (x ∷ xs) ys z (inr h) = inr (has_front xs ys z h)

has_last : {A : Type 0} (xs : List A) (z : A) → Has (xs ++ z ∷ []) z
has_last [] z = inl refl
has_last (x ∷ xs) z = inr (has_last xs z)

-- the queue with other rules that wait for q
abbrev pub with_waiting : QueueOf → ℕ → List Waiting → QueueOf
with_waiting w q bs = record w { waiting = set w.waiting q bs }

pub at_set : (w : QueueOf) (q : ℕ) (bs : List Waiting) → q < length w.waiting → waiting_at (with_waiting w q bs) q ≡ bs
at_set w q bs h = get_or-set_same w.waiting q bs [] h

pub at_other : (w : QueueOf) (q p : ℕ) (bs : List Waiting) → (p ≡ q → ⊥) → waiting_at (with_waiting w q bs) p ≡ waiting_at w p
at_other w q p bs n = get_or-set_other w.waiting q p bs [] n

pub left_set : (w : QueueOf) (q : ℕ) (bs : List Waiting) → q < length w.waiting → left_over (with_waiting w q bs) + length (waiting_at w q) ≡ left_over w + length bs
left_set w q bs h = omega (arith, sum_by-set length w.waiting q bs [] h)

-- a rule waits

pub waits :
    (product : ℕ → ℕ → ℕ) (x : ListsOf) (w : QueueOf) (q : ℕ) (a : Waiting) (out : List ℕ) → IsQueue product x w (a.rule ∷ out) → q < length w.waiting → IsWaiting x q a →
    IsQueue product x (with_waiting w q (waiting_at w q ++ a ∷ [])) out
waits product x w q a out k h is =
    let v : QueueOf = with_waiting w q (waiting_at w q ++ a ∷ []) in
    let old : (p : ℕ) (b : Waiting) → Has (waiting_at w p) b → Has (waiting_at v p) b =
    λ p b i. elim (same_or p q) [
      | inl e ↦ subst (λ (r : ℕ). Has (waiting_at v r) b) (sym e) (subst (λ (bs : List Waiting). Has bs b) (sym (at_set w q (waiting_at w q ++ a ∷ []) h)) (has_front (waiting_at w q) (a ∷ []) b (subst (λ (r : ℕ). Has (waiting_at w r) b) e i)))
      | inr n ↦ subst (λ (bs : List Waiting). Has bs b) (sym (at_other w q p (waiting_at w q ++ a ∷ []) n)) i
    ]
    in
    record {
      sound = k.sound;
      made = k.made;
      long = length-set w.waiting q (waiting_at w q ++ a ∷ []) ∙ k.long;
      placed = λ p b i. elim (same_or p q) [
        | inl e ↦ elim (has_snoc (waiting_at w q) a b (subst (λ (bs : List Waiting). Has bs b) (at_set w q (waiting_at w q ++ a ∷ []) h) (subst (λ (r : ℕ). Has (waiting_at v r) b) e i))) [
          | inl j ↦ subst (λ (r : ℕ). IsWaiting x r b) (sym e) (k.placed q b j)
          | inr f ↦ subst (λ (r : ℕ). IsWaiting x r b) (sym e) (subst (λ (c : Waiting). IsWaiting x q c) f is)
        ]
        | inr n ↦ k.placed p b (subst (λ (bs : List Waiting). Has bs b) (at_other w q p (waiting_at w q ++ a ∷ []) n) i)
      ];
      heap = k.heap;
      below = k.below;
      first = k.first;
      each = λ m l. elim (k.each m l) [
        | inl i ↦ elim i [
          | inl e ↦ inr (inl (record { state = q; waiting = a; stands = subst (λ (bs : List Waiting). Has bs a) (sym (at_set w q (waiting_at w q ++ a ∷ []) h)) (has_last (waiting_at w q) a); is = e }))
          | inr left ↦ inl left
        ]
        | inr o ↦ elim o [
          | inl ws ↦ inr (inl (record { state = ws.state; waiting = ws.waiting; stands = old ws.state ws.waiting ws.stands; is = ws.is }))
          | inr b ↦ inr (inr (record { all = b.all; begun = λ ready. let g = b.begun ready in record { candidate = g.candidate; stands = g.stands; is = g.is } }))
        ]
      ];
      fronts = k.fronts;
      few = k.few;
      from = k.from;
    }

-- a rule is taken

pub popped :
    (product : ℕ → ℕ → ℕ) (x : ListsOf) (w : QueueOf) (q : ℕ) (a : Waiting) (v : QueueOf) (out : List ℕ) → IsQueue product x w out → q < length w.waiting → IsPopped w q a v →
    IsQueue product x v (a.rule ∷ out) × IsWaiting x q a
popped product x w q a v out k h p =
    let bs : List Waiting = waiting_at v q in
    let u : QueueOf = with_waiting w q bs in
    let one : (c : Waiting) → Has bs c → Has (waiting_at w q) c = λ c i. subst (λ (cs : List Waiting). Has cs c) (sym p.was) (has_front bs (a ∷ []) c i) in (
      subst (λ (z : QueueOf). IsQueue product x z (a.rule ∷ out)) (sym p.rest)
          (record {
            sound = k.sound;
            made = k.made;
            long = length-set w.waiting q bs ∙ k.long;
            placed = λ r b i. elim (same_or r q) [
              | inl e ↦ subst (λ (s : ℕ). IsWaiting x s b) (sym e) (k.placed q b (one b (subst (λ (cs : List Waiting). Has cs b) (at_set w q bs h) (subst (λ (s : ℕ). Has (waiting_at u s) b) e i))))
              | inr n ↦ k.placed r b (subst (λ (cs : List Waiting). Has cs b) (at_other w q r bs n) i)
            ];
            heap = k.heap;
            below = k.below;
            first = k.first;
            each = λ m l. elim (k.each m l) [
              | inl i ↦ inl (inr i)
              | inr o ↦ elim o [
                | inl ws ↦ elim (same_or ws.state q) [
                  | inl e ↦ elim (has_snoc bs a ws.waiting (subst (λ (cs : List Waiting). Has cs ws.waiting) p.was (subst (λ (s : ℕ). Has (waiting_at w s) ws.waiting) e ws.stands))) [
                    | inl j ↦ inr (inl (record { state = q; waiting = ws.waiting; stands = subst (λ (cs : List Waiting). Has cs ws.waiting) (sym (at_set w q bs h)) j; is = ws.is }))
                    | inr f ↦ inl (inl (ap (λ (c : Waiting). c.rule) f ∙ ws.is))
                  ]
                  | inr n ↦ inr (inl (record { state = ws.state; waiting = ws.waiting; stands = subst (λ (cs : List Waiting). Has cs ws.waiting) (sym (at_other w q ws.state bs n)) ws.stands; is = ws.is }))
                ]
                | inr b ↦ inr (inr (record { all = b.all; begun = λ ready. let g = b.begun ready in record { candidate = g.candidate; stands = g.stands; is = g.is } }))
              ]
            ];
            fronts = k.fronts;
            few = k.few;
            from = k.from;
          }),
      k.placed q a (subst (λ (cs : List Waiting). Has cs a) (sym p.was) (has_last bs a)),
    )

pub left_popped : (w : QueueOf) (q : ℕ) (a : Waiting) (v : QueueOf) → q < length w.waiting → IsPopped w q a v → left_over v + 1 ≡ left_over w
left_popped w q a v h p =
    let e = left_set w q (waiting_at v q) h in
    let f : left_over v ≡ left_over (with_waiting w q (waiting_at v q)) = ap left_over p.rest in
    let g : length (waiting_at w q) ≡ length (waiting_at v q) + 1 = ap (λ (cs : List Waiting). length cs) p.was ∙ length-append (waiting_at v q) (a ∷ []) in
    omega (arith, e, f, g)

pub left_waits : (w : QueueOf) (q : ℕ) (a : Waiting) → q < length w.waiting → left_over (with_waiting w q (waiting_at w q ++ a ∷ [])) ≡ left_over w + 1
left_waits w q a h =
    let e = left_set w q (waiting_at w q ++ a ∷ []) h in
    omega (arith, e, length-append (waiting_at w q) (a ∷ []))

-- after a state that has its tree now, a rule has passed one more state
pub passes :
    (x y : ListsOf) (q : ℕ) (a : Waiting) → IsWaiting y q a → y.lists ≡ x.lists → 0 < length (list_of x q) → HasTrees y (states_of (rule_at y.rules a.rule)) (a.place + 1)
passes x y q a is e tree k h = elim (same_or k a.place) [
  | inr n ↦ is.before k (omega (arith, n, h))
  | inl s ↦
      let at : get_or (states_of (rule_at y.rules a.rule)) k 0 ≡ q = ap (λ (i : ℕ). get_or (states_of (rule_at y.rules a.rule)) i 0) s ∙ is.state in
      let here : length (list_of y q) ≡ length (list_of x q) = ap (λ (ls : List (List Entry)). length (get_or ls q [])) e in
      let there : 0 < length (list_of y q) = omega (arith, here, tree) in
      subst (λ (p : ℕ). 0 < length (list_of y p)) (sym at) there
]
