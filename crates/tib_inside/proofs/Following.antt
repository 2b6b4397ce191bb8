-- How the states that live rules lead to are marked.
use Rattle.std.specs.Prelude.{◌≡◌, ℕ, ◌+◌, ◌<◌, ◌≤◌, ◌⊎◌, List, [], ◌∷◌, ◌++◌, length, take, Bool, true, false, sum_by, refl, slice_set, replicate}
use Rattle.std.proofs.Common.{arith, ap, sym, ◌∙◌, subst, inl, inr, get_or, length-append}
use Rattle.std.proofs.lemmas.List.{get_or-set_same, get_or-set_other, length-set, get_or-map, length-map, take_more, get_or_past, get_or_default, get_or-replicate, length-replicate}
use Rattle.std.proofs.lemmas.List.Sums.{sum_by-set}
use Rattle.tib_lex.specs.Lists.{Has}
use Rattle.tib_grammar.specs.Items.{holes_in}
use Rattle.tib_grammar.specs.Sides.{holes_of}
use Rattle.tib_grammar.specs.Range.{AreInRange, AreBelow}
use Rattle.tib_grammar.specs.Run.{rule_at, no_rule}
use Rattle.tib_grammar.specs.declared.Rule.{Rule}
use Rattle.tib_grammar.specs.declared.Item.{Item}
use Rattle.tib_grammar.specs.declared.Item.TheVariants.{Label, Hole}
use Rattle.tib_grammar.proofs.Members.{has_left, has_right, has_either}
use Rattle.tib_inside.specs.Links.{IsNext}
use Rattle.tib_inside.specs.Reaching.{lefts, IsMarked, IsReached, start, below, unmarked, Marks, Follows, IsReaching, AreReached}
use Rattle.tib_lex.proofs.Numbers.{same_or_other}

pub marks_none : (W : ℕ → Type 0) (old : List Bool) (stack : List ℕ) → ((q : ℕ) → W q → ⊥) → Marks W old old stack stack
marks_none W old stack empty = record {
  long = refl;
  marked = λ q w. absurd (empty q w);
  kept = λ q k. k;
  only = λ q k. inl k;
  fresh = λ q k. inl k;
  waiting = λ q k. k;
  on_stack = λ q k. inl k;
  more = omega arith;
}

pub marks_held : (old : List Bool) (stack : List ℕ) (state : ℕ) → IsMarked old state → Marks (λ q. state ≡ q) old old stack stack
marks_held old stack state held = record {
  long = refl;
  marked = λ q w. subst (IsMarked old) w held;
  kept = λ q k. k;
  only = λ q k. inl k;
  fresh = λ q k. inl k;
  waiting = λ q k. k;
  on_stack = λ q k. inl k;
  more = omega arith;
}

unmarked_one : (b : Bool) → b ≡ false → unmarked b ≡ 1
unmarked_one true e = absurd (cc)
unmarked_one false e = refl

pub marks_one : (old : List Bool) (stack : List ℕ) (state : ℕ) → state < length old → get_or old state false ≡ false → Marks (λ q. state ≡ q) old (slice_set old state true) stack (stack ++ state ∷ [])
marks_one old stack state h free =
    let here : get_or (slice_set old state true) state false ≡ true = get_or-set_same old state true false h in
    let one : unmarked (get_or old state false) ≡ 1 = unmarked_one (get_or old state false) free in
    let sums : sum_by unmarked (slice_set old state true) + unmarked (get_or old state false) ≡ sum_by unmarked old + 0 = sum_by-set unmarked old state true false h in
    record {
      long = length-set old state true;
      marked = λ q w. subst (IsMarked (slice_set old state true)) w here;
      kept = λ q k. elim (same_or_other q state) [
        | inl e ↦ subst (IsMarked (slice_set old state true)) (sym e) here
        | inr e ↦ get_or-set_other old state q true false e ∙ k
      ];
      only = λ q k. elim (same_or_other q state) [
        | inl e ↦ inr (sym e)
        | inr e ↦ inl (sym (get_or-set_other old state q true false e) ∙ k)
      ];
      fresh = λ q k. elim (same_or_other q state) [
        | inl e ↦ inr (has_right stack (state ∷ []) q (inl (sym e)))
        | inr e ↦ inl (sym (get_or-set_other old state q true false e) ∙ k)
      ];
      waiting = λ q k. has_left stack (state ∷ []) q k;
      on_stack = λ q k. elim (has_either stack (state ∷ []) q k) [
        | inl s ↦ inl s
        | inr s ↦ elim s [ inl e ↦ inr (subst (IsMarked (slice_set old state true)) e here) | inr f ↦ absurd f ]
      ];
      more = omega (arith, length-append stack (state ∷ []));
    }

-- one after the other
pub marks_then :
    (V W X : ℕ → Type 0) (a b c : List Bool) (s t u : List ℕ) → ((q : ℕ) → V q ⊎ W q → X q) → ((q : ℕ) → X q → V q ⊎ W q) → Marks V a b s t → Marks W b c t u → Marks X a c s u
marks_then V W X a b c s t u to from one two = record {
  long = two.long ∙ one.long;
  marked = λ q x. elim (from q x) [ inl v ↦ two.kept q (one.marked q v) | inr w ↦ two.marked q w ];
  kept = λ q k. two.kept q (one.kept q k);
  only = λ q k. elim (two.only q k) [
    | inl l ↦ elim (one.only q l) [ inl m ↦ inl m | inr v ↦ inr (to q (inl v)) ]
    | inr w ↦ inr (to q (inr w))
  ];
  fresh = λ q k. elim (two.fresh q k) [
    | inl l ↦ elim (one.fresh q l) [ inl m ↦ inl m | inr h ↦ inr (two.waiting q h) ]
    | inr h ↦ inr h
  ];
  waiting = λ q k. two.waiting q (one.waiting q k);
  on_stack = λ q k. elim (two.on_stack q k) [
    | inl l ↦ elim (one.on_stack q l) [ inl m ↦ inl m | inr h ↦ inr (two.kept q h) ]
    | inr h ↦ inr h
  ];
  more = omega (arith, one.more, two.more);
}

pub marks_same : (V W : ℕ → Type 0) (a b : List Bool) (s t : List ℕ) → ((q : ℕ) → V q → W q) → ((q : ℕ) → W q → V q) → Marks V a b s t → Marks W a b s t
marks_same V W a b s t to from m = record {
  long = m.long;
  marked = λ q w. m.marked q (from q w);
  kept = m.kept;
  only = λ q k. elim (m.only q k) [ inl l ↦ inl l | inr v ↦ inr (to q v) ];
  fresh = m.fresh;
  waiting = m.waiting;
  on_stack = m.on_stack;
  more = m.more;
}

pub marks_hole : (x : Item ℕ) (state : ℕ) (a b : List Bool) (s t : List ℕ) → x ≡ Hole state → Marks (λ q. state ≡ q) a b s t → Marks (Has (holes_in (x ∷ []))) a b s t
marks_hole x state a b s t e m =
    subst (λ (y : Item ℕ). Marks (Has (holes_in (y ∷ []))) a b s t) (sym e)
    (marks_same (λ q. state ≡ q) (Has (state ∷ [])) a b s t (λ q k. inl k) (λ q k. elim k [ inl l ↦ l | inr f ↦ absurd f ]) m)

pub marks_label : (x : Item ℕ) (f rank : ℕ) (a : List Bool) (s : List ℕ) → x ≡ Label f rank → Marks (Has (holes_in (x ∷ []))) a a s s
marks_label x f rank a s e = subst (λ (y : Item ℕ). Marks (Has (holes_in (y ∷ []))) a a s s) (sym e) (marks_none (Has []) a s (λ q k. k))

pub holes_append : (xs ys : List (Item ℕ)) → holes_in (xs ++ ys) ≡ holes_in xs ++ holes_in ys
holes_append [] ys = refl
holes_append (Label f rank ∷ xs) ys = holes_append xs ys
holes_append (Hole q ∷ xs) ys = ap (λ zs. q ∷ zs) (holes_append xs ys)

-- one more item
pub marks_item :
    (items : List (Item ℕ)) (i : ℕ) (a b c : List Bool) (s t u : List ℕ) → i < length items → Marks (Has (holes_in (take i items))) a b s t →
    Marks (Has (holes_in (get_or items i (Label 0 0) ∷ []))) b c t u → Marks (Has (holes_in (take (i + 1) items))) a c s u
marks_item items i a b c s t u h one two =
    let e : holes_in (take (i + 1) items) ≡ holes_in (take i items) ++ holes_in (get_or items i (Label 0 0) ∷ []) =
    ap holes_in (take_more items i (Label 0 0) h) ∙ holes_append (take i items) (get_or items i (Label 0 0) ∷ []) in
    subst (λ qs. Marks (Has qs) a c s u) (sym e)
    (marks_then (Has (holes_in (take i items))) (Has (holes_in (get_or items i (Label 0 0) ∷ []))) (Has (holes_in (take i items) ++ holes_in (get_or items i (Label 0 0) ∷ []))) a b c s t u
    (λ q k. elim k [
      | inl l ↦ has_left (holes_in (take i items)) (holes_in (get_or items i (Label 0 0) ∷ [])) q l
      | inr l ↦ has_right (holes_in (take i items)) (holes_in (get_or items i (Label 0 0) ∷ [])) q l
    ])
    (λ q k. has_either (holes_in (take i items)) (holes_in (get_or items i (Label 0 0) ∷ [])) q k) one two)

pub lefts_at : (rules : List (Rule ℕ)) (n : ℕ) → n < length rules → get_or (lefts rules) n 0 ≡ (rule_at rules n).left
lefts_at rules n h = get_or-map (λ r. r.left) rules n no_rule 0 h

pub lefts_long : (rules : List (Rule ℕ)) → length (lefts rules) ≡ length rules
lefts_long rules = length-map rules (λ r. r.left)

pub lefts_below : (rules : List (Rule ℕ)) (count : ℕ) → AreInRange count rules → AreBelow count (lefts rules)
lefts_below rules count range i h =
    let b : i < length rules = omega (arith, lefts_long rules) in
    subst (λ q. q < count) (sym (lefts_at rules i b)) (range i b).0

-- the first rule of a state, and one more rule
pub follows_none : (rules : List (Rule ℕ)) (live : List Bool) (p n : ℕ) → IsNext (lefts rules) p 0 n → (q : ℕ) → Follows rules live p n q → ⊥
follows_none rules live p n next q f = next.none_between f.rule (omega arith) f.before (lefts_at rules f.rule f.below ∙ f.left)

pub follows_more :
    (rules : List (Rule ℕ)) (live : List Bool) (p n m : ℕ) (a b c : List Bool) (s t u : List ℕ) → n < length rules → (rule_at rules n).left ≡ p → IsNext (lefts rules) p (n + 1) m →
    Marks (Follows rules live p n) a b s t → Marks (λ q. IsMarked live n × Has (holes_of (rule_at rules n).right) q) b c t u → Marks (Follows rules live p m) a c s u
follows_more rules live p n m a b c s t u h own next one two =
    marks_then (Follows rules live p n) (λ q. IsMarked live n × Has (holes_of (rule_at rules n).right) q) (Follows rules live p m) a b c s t u
    (λ q k. elim k [
      | inl f ↦ record { rule = f.rule; before = omega (arith, f.before, next.from); below = f.below; left = f.left; is_live = f.is_live; stands = f.stands }
      | inr w ↦ record { rule = n; before = omega (arith, next.from); below = h; left = own; is_live = w.0; stands = w.1 }
    ])
    (λ q f. elim (place f.rule n) [
      | inl k ↦ inl (record { rule = f.rule; before = k; below = f.below; left = f.left; is_live = f.is_live; stands = f.stands })
      | inr k ↦ elim k [
        | inl e ↦ inr (subst (IsMarked live) e f.is_live, subst (λ i. Has (holes_of (rule_at rules i).right) q) e f.stands)
        | inr l ↦ absurd (next.none_between f.rule (omega arith) f.before (lefts_at rules f.rule f.below ∙ f.left))
      ]
    ]) one two
  where
    place : (i n : ℕ) → (i < n) ⊎ ((i ≡ n) ⊎ (n < i))
    place i n = grind arith

pub follows_step :
    (rules : List (Rule ℕ)) (live : List Bool) (p n m : ℕ) (a b c : List Bool) (s t u : List ℕ) (r : Rule ℕ) (d : Bool) → n < length rules → length live ≡ length rules → r ≡ rule_at rules n →
    (rule_at rules n).left ≡ p → IsNext (lefts rules) p (n + 1) m → Marks (Follows rules live p n) a b s t → Marks (λ q. (get_or live n d ≡ true) × Has (holes_of r.right) q) b c t u →
    Marks (Follows rules live p m) a c s u
follows_step rules live p n m a b c s t u r d h long at own next one two =
    let same : get_or live n d ≡ get_or live n false = get_or_default live n d false (omega arith) in
    let holes_are : holes_of r.right ≡ holes_of (rule_at rules n).right = ap (λ (x : Rule ℕ). holes_of x.right) at in
    follows_more rules live p n m a b c s t u h own next one
    (marks_same (λ q. (get_or live n d ≡ true) × Has (holes_of r.right) q) (λ q. IsMarked live n × Has (holes_of (rule_at rules n).right) q) b c t u
    (λ q k. (sym same ∙ k.0, subst (λ qs. Has qs q) holes_are k.1)) (λ q k. (same ∙ k.0, subst (λ qs. Has qs q) (sym holes_are) k.1)) two)

-- one state fewer on the stack
pub reach_on :
    (rules : List (Rule ℕ)) (live old new : List Bool) (p : ℕ) (stack rest after : List ℕ) → stack ≡ rest ++ p ∷ [] → IsReaching rules live old stack →
    Marks (Follows rules live p (length rules)) old new rest after → IsReaching rules live new after
reach_on rules live old new p stack rest after e r m = record {
  begun = m.kept 0 r.begun;
  only = λ q k. elim (m.only q k) [
    | inl s ↦ r.only q s
    | inr f ↦ below f.rule q f.below f.is_live (subst (IsReached rules live) (sym f.left) (r.only p (r.waiting p (subst (λ xs. Has xs p) (sym e) (has_right rest (p ∷ []) p (inl refl)))))) f.stands
  ];
  waiting = λ q k. elim (m.on_stack q k) [
    | inl s ↦ m.kept q (r.waiting q (subst (λ xs. Has xs q) (sym e) (has_left rest (p ∷ []) q s)))
    | inr s ↦ s
  ];
  closed = λ n q b l k s. elim (m.fresh (rule_at rules n).left k) [
    | inr w ↦ inr w
    | inl o ↦ elim (r.closed n q b l o s) [
      | inl u ↦ inl (m.kept q u)
      | inr u ↦ elim (has_either rest (p ∷ []) (rule_at rules n).left (subst (λ xs. Has xs (rule_at rules n).left) e u)) [
        | inl v ↦ inr (m.waiting (rule_at rules n).left v)
        | inr v ↦ elim v [
          | inl same ↦ inl (m.marked q (record { rule = n; before = b; below = b; left = sym same; is_live = l; stands = s }))
          | inr f ↦ absurd f
        ]
      ]
    ]
  ];
}

pub popped_below : (rules : List (Rule ℕ)) (live kept : List Bool) (p : ℕ) (stack rest : List ℕ) → stack ≡ rest ++ p ∷ [] → IsReaching rules live kept stack → p < length kept
popped_below rules live kept p stack rest e r = in_marks kept p (r.waiting p (subst (λ xs. Has xs p) (sym e) (has_right rest (p ∷ []) p (inl refl))))
  where
    place : (i k : ℕ) → (i < k) ⊎ (k ≤ i)
    place i k = grind arith

    in_marks : (kept : List Bool) (q : ℕ) → IsMarked kept q → q < length kept
    in_marks kept q h = elim (place q (length kept)) [ inl k ↦ k | inr k ↦ let bad : false ≡ true = sym (get_or_past kept q false k) ∙ h in absurd (cc bad) ]

-- in the end
reach_all : (rules : List (Rule ℕ)) (live kept : List Bool) → IsReaching rules live kept [] → (q : ℕ) → IsReached rules live q → IsMarked kept q
reach_all rules live kept r _ start = r.begun
reach_all rules live kept r _ (below n q b l h s) = elim (r.closed n q b l (reach_all rules live kept r (rule_at rules n).left h) s) [ inl k ↦ k | inr f ↦ absurd f ]

pub reach_end : (rules : List (Rule ℕ)) (live kept : List Bool) (stack : List ℕ) → length stack ≡ 0 → IsReaching rules live kept stack → AreReached rules live kept
reach_end rules live kept [] e r = record { only = r.only; all = reach_all rules live kept r }
reach_end rules live kept (x ∷ stack) e r = absurd (omega arith)

-- at the beginning the start alone is marked, and lies on the stack
pub reach_begin : (rules : List (Rule ℕ)) (live : List Bool) (count : ℕ) → 0 < count → IsReaching rules live (slice_set (replicate count false) 0 true) (0 ∷ [])
reach_begin rules live count h =
    let long : 0 < length (replicate count false) = omega (arith, length-replicate count false) in
    let here : get_or (slice_set (replicate count false) 0 true) 0 false ≡ true = get_or-set_same (replicate count false) 0 true false long in
    let only_start : (q : ℕ) → IsMarked (slice_set (replicate count false) 0 true) q → q ≡ 0 = λ q k. first count q k in
    record {
      begun = here;
      only = λ q k. subst (IsReached rules live) (sym (only_start q k)) start;
      waiting = λ q k. elim k [ inl e ↦ subst (IsMarked (slice_set (replicate count false) 0 true)) e here | inr f ↦ absurd f ];
      closed = λ n q b l k s. inr (inl (sym (only_start (rule_at rules n).left k)));
    }
  where
    place : (i k : ℕ) → (i < k) ⊎ (k ≤ i)
    place i k = grind arith

    clear : (count q : ℕ) → get_or (replicate count false) q false ≡ false
    clear count q = elim (place q count) [
      | inl k ↦ get_or-replicate count q false false k
      | inr k ↦ get_or_past (replicate count false) q false (omega (arith, length-replicate count false))
    ]

    first : (count q : ℕ) → IsMarked (slice_set (replicate count false) 0 true) q → q ≡ 0
    first count q k = elim (same_or_other q 0) [
      | inl e ↦ e
      | inr e ↦ let bad : false ≡ true = sym (clear count q) ∙ sym (get_or-set_other (replicate count false) 0 q true false e) ∙ k in absurd (cc bad)
    ]
