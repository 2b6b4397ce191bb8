-- What is told place by place.
use Rattle.std.specs.Prelude.{◌≡◌, ◌⊎◌, ℕ, ◌+◌, ◌<◌, ◌≤◌, List, [], ◌∷◌, ◌++◌, length, drop, map, Bool, Option, None, Some, Contains, refl}
use Rattle.std.proofs.Common.{zero, suc, arith, ap, sym, ◌∙◌, subst, inl, inr, get_or, length-append}
use Rattle.std.proofs.lemmas.List.{at_drop_more, drop_more, drop_all, get_or-map, get_or_read, length-map}
use Rattle.std.proofs.lemmas.List.Sums.{sum_by-cons}
use Rattle.tib_lex.proofs.Lists.{head_is, tail_is}
use Rattle.tib_grammar.specs.Items.{state_in}
use Rattle.tib_grammar.specs.Range.{AllBelow}
use Rattle.tib_grammar.specs.Sides.{holes_of}
use Rattle.tib_grammar.specs.declared.Item.{Item}
use Rattle.tib_grammar.specs.declared.Rule.{Rule}
use Rattle.tib_cost.specs.Semiring.{ProductLaws}
use Rattle.tib_cost.specs.Least.{times}
use Rattle.tib_cost.proofs.Times.{times_regroups}
use Rattle.tib_inside.specs.Inside.{total}
use Rattle.tib_inside.specs.Settling.{costs_in, HasOrWaits}
use Rattle.tib_normal.specs.Entries.{AddsEntry}
use Rattle.tib_prune.specs.Settling.{without}
use Rattle.tib_prune.specs.Telling.{rests_of, IsToldFrom, IsToldBy, places_of, Adds}

-- the products of the costs of the states from n on, and of those after each
pub total_back : (product : ℕ → ℕ → ℕ) (costs : ℕ → Option ℕ) (qs : List ℕ) (n : ℕ) → n < length qs → total product costs (drop n qs) ≡ times product (costs (get_or qs n 0)) (total product costs (drop (n + 1) qs))
total_back product costs qs n h = at_drop_more (total product costs) qs n 0 h

-- the same for the products after each
pub rests_back : (product : ℕ → ℕ → ℕ) (costs : ℕ → Option ℕ) (qs : List ℕ) (n : ℕ) → n < length qs → rests_of product costs (drop n qs) ≡ rests_of product costs (drop (n + 1) qs) ++ total product costs (drop (n + 1) qs) ∷ []
rests_back product costs qs n h = at_drop_more (rests_of product costs) qs n 0 h

-- the state of an item of a list
pub state_here : (states : List (Item ℕ)) (i q : ℕ) (d : Item ℕ) → i < length states → q ≡ state_in (get_or states i d) → q ≡ get_or (map state_in states) i 0
state_here states i q d h e = e ∙ sym (get_or-map state_in states i d 0 h)

below_at : (n : ℕ) (qs : List ℕ) → AllBelow n qs → (i : ℕ) → i < length qs → get_or qs i 0 < n
below_at n [] a i h = absurd (omega arith)
below_at n (q ∷ qs) a zero h = a.0
below_at n (q ∷ qs) a (suc i) h = below_at n qs a.1 i (omega arith)

-- it is below n where all are
pub state_below : (n : ℕ) (states : List (Item ℕ)) (i q : ℕ) (d : Item ℕ) → AllBelow n (map state_in states) → i < length states → q ≡ state_in (get_or states i d) → q < n
state_below n states i q d a h e = let b = below_at n (map state_in states) a i (omega (arith, h, length-map states state_in)) in omega (arith, b, state_here states i q d h e)

-- after the last item there is no state
pub none_behind : (states : List (Item ℕ)) (n : ℕ) → length states ≤ n → drop n (map state_in states) ≡ []
none_behind states n h = drop_all n (map state_in states) (omega (arith, h, length-map states state_in))

module _ (product : ℕ → ℕ → ℕ) (costs : List (Option ℕ)) (states : List (Item ℕ)) (n i q : ℕ) (d : Item ℕ) (x v : Option ℕ) (n_is : i + 1 ≡ n) (h : i < length states) (a : AllBelow (length costs) (map state_in states))
    (at : q ≡ state_in (get_or states i d)) (is : x ≡ get_or costs q x) (v_is : v ≡ total product (costs_in costs) (drop n (map state_in states))) where
  -- the product of one more state
  pub total_step : (w : Option ℕ) → w ≡ times product x v → w ≡ total product (costs_in costs) (drop i (map state_in states))
  total_step w e =
      e
      ∙ ap (λ y. times product y v) (get_or_read costs q x (state_below (length costs) states i q d a h at) is None ∙ ap (costs_in costs) (state_here states i q d h at))
      ∙ ap (times product (costs_in costs (get_or (map state_in states) i 0))) (v_is ∙ ap (λ m. total product (costs_in costs) (drop m (map state_in states))) (sym n_is))
      ∙ sym (total_back product (costs_in costs) (map state_in states) i (omega (arith, h, length-map states state_in)))

  -- and the product after it, listed last
  pub rests_step : (old new : List (Option ℕ)) → old ≡ rests_of product (costs_in costs) (drop n (map state_in states)) → new ≡ old ++ v ∷ [] → new ≡ rests_of product (costs_in costs) (drop i (map state_in states))
  rests_step old new o e =
      e
      ∙ ap (λ xs. xs ++ v ∷ []) (o ∙ ap (λ m. rests_of product (costs_in costs) (drop m (map state_in states))) (sym n_is))
      ∙ ap (λ y. rests_of product (costs_in costs) (drop (i + 1) (map state_in states)) ++ y ∷ []) (v_is ∙ ap (λ m. total product (costs_in costs) (drop m (map state_in states))) (sym n_is))
      ∙ sym (rests_back product (costs_in costs) (map state_in states) i (omega (arith, h, length-map states state_in)))

-- lists that are the same up to their last element and in it
last_same : {A : Type 0} (xs ys : List A) (x y : A) → xs ++ x ∷ [] ≡ ys ++ y ∷ [] → (xs ≡ ys) × (x ≡ y)
last_same [] [] x y e = (refl, head_is e)
last_same [] (z ∷ ys) x y e = let long = ap length (tail_is e) in absurd (omega (arith, long, length-append ys (y ∷ [])))
last_same (z ∷ xs) [] x y e = let long = ap length (tail_is e) in absurd (omega (arith, long, length-append xs (x ∷ [])))
last_same (z ∷ xs) (w ∷ ys) x y e = let r = last_same xs ys x y (tail_is e) in (ap (λ v. v ∷ xs) (head_is e) ∙ ap (λ vs. w ∷ vs) r.0, r.1)

place : (m n : ℕ) → (m < n) ⊎ (n ≤ m)
place m n = grind arith

-- the product after the next state is taken from the back
pub record IsTakenBack (product : ℕ → ℕ → ℕ) (costs : ℕ → Option ℕ) (qs : List ℕ) (n : ℕ) (rest : Option ℕ) (rests : List (Option ℕ)) : Type 0 where
  pub within : n < length qs
  pub rest_is : rest ≡ total product costs (drop (n + 1) qs)
  pub rests_are : rests ≡ rests_of product costs (drop (n + 1) qs)

-- what is taken from the back is the product after the state n
pub taken_back :
    (product : ℕ → ℕ → ℕ) (costs : ℕ → Option ℕ) (qs : List ℕ) (n : ℕ) (rest : Option ℕ) (rests before : List (Option ℕ)) → before ≡ rests ++ rest ∷ [] → before ≡ rests_of product costs (drop n qs) →
    IsTakenBack product costs qs n rest rests
taken_back product costs qs n rest rests before old e = elim (place n (length qs)) [
  | inl h ↦
      let same = last_same rests (rests_of product costs (drop (n + 1) qs)) rest (total product costs (drop (n + 1) qs)) (sym old ∙ e ∙ rests_back product costs qs n h) in
      record { within = h; rest_is = same.1; rests_are = same.0 }
  | inr h ↦
      let long = ap length (sym old ∙ e ∙ ap (rests_of product costs) (drop_all n qs h)) in
      absurd (omega (arith, long, length-append rests (rest ∷ [])))
]

-- where nothing is left to take, all states are done
pub none_left : (product : ℕ → ℕ → ℕ) (costs : ℕ → Option ℕ) (qs : List ℕ) (n : ℕ) (rests : List (Option ℕ)) → rests ≡ [] → rests ≡ rests_of product costs (drop n qs) → drop n qs ≡ []
none_left product costs qs n rests empty e = elim (place n (length qs)) [
  | inl h ↦
      let long = ap length (sym empty ∙ e ∙ rests_back product costs qs n h) in
      absurd (omega (arith, long, length-append (rests_of product costs (drop (n + 1) qs)) (total product costs (drop (n + 1) qs) ∷ [])))
  | inr h ↦ drop_all n qs h
]

module _ (outsides : ℕ → Option ℕ) where
  -- what waits still does among more entries
  waits_on : (q c : ℕ) (before after : List (ℕ × ℕ)) → ((e : ℕ × ℕ) → Contains before e → Contains after e) → HasOrWaits outsides before q c → HasOrWaits outsides after q c
  waits_on q c before after kept (inl s) = inl s
  waits_on q c before after kept (inr w) = inr (record { cost = w.cost; held = kept (w.cost, q) w.held; small = w.small })

  -- nothing is added where none that is wanted needs it
  pub adds_none : (IsWanted : ℕ × ℕ → Type 0) (many : ℕ) (entries : List (ℕ × ℕ)) → ((e : ℕ × ℕ) → IsWanted e → HasOrWaits outsides entries e.1 e.0) → Adds outsides IsWanted many entries entries
  adds_none IsWanted many entries none = record { kept = λ e h. h; only = λ e h. inl h; all = none; more = omega arith }

  -- what is added in two steps
  pub adds_both :
      (First Second Both : ℕ × ℕ → Type 0) (m n many : ℕ) (before mid after : List (ℕ × ℕ)) → ((e : ℕ × ℕ) → First e → Both e) → ((e : ℕ × ℕ) → Second e → Both e) →
      ((e : ℕ × ℕ) → Both e → First e ⊎ Second e) → m + n ≤ many → Adds outsides First m before mid → Adds outsides Second n mid after → Adds outsides Both many before after
  adds_both First Second Both m n many before mid after first second either enough a b = record {
    kept = λ e h. b.kept e (a.kept e h);
    only = λ e h. elim (b.only e h) [ inl k ↦ elim (a.only e k) [ inl l ↦ inl l | inr l ↦ inr (first e l) ] | inr k ↦ inr (second e k) ];
    all = λ e h. elim (either e h) [ inl k ↦ waits_on e.1 e.0 mid after b.kept (a.all e k) | inr k ↦ b.all e k ];
    more = omega (arith, a.more, b.more, enough);
  }

  -- one entry is added
  pub adds_one : (told : Option ℕ) (q c : ℕ) (before after : List (ℕ × ℕ)) → told ≡ Some c → AddsEntry before (c, q) after → Adds outsides (λ e. (q ≡ e.1) × (told ≡ Some e.0)) 1 before after
  adds_one told q c before after e a = record {
    kept = a.kept;
    only = λ x h. elim (a.only x h) [ inl s ↦ inr (ap (λ (y : ℕ × ℕ). y.1) (sym s), e ∙ ap (λ (y : ℕ × ℕ). Some y.0) (sym s)) | inr k ↦ inl k ];
    all = λ x h.
        let same : c ≡ x.0 = some_same c x.0 (sym e ∙ h.1) in
        inr (record { cost = c; held = subst (λ p. Contains after (c, p)) h.0 a.new_one; small = omega (arith, same) });
    more = omega (arith, a.long);
  }
    where
      some_same : (a b : ℕ) → Some a ≡ Some b → a ≡ b
      some_same a b e = cc

  module _ (product : ℕ → ℕ → ℕ) (costs : ℕ → Option ℕ) where
    -- one more state is told, and then those after it
    pub told_next :
        (v w : Option ℕ) (qs : List ℕ) (n q : ℕ) (told : Option ℕ) (before mid after : List (ℕ × ℕ)) → n < length qs → q ≡ get_or qs n 0 → told ≡ times product v (total product costs (drop (n + 1) qs)) →
        w ≡ times product v (costs q) → Adds outsides (λ e. (q ≡ e.1) × (told ≡ Some e.0)) 1 before mid →
        Adds outsides (IsToldFrom product costs w (drop (n + 1) qs)) (length (drop (n + 1) qs)) mid after → Adds outsides (IsToldFrom product costs v (drop n qs)) (length (drop n qs)) before after
    told_next v w qs n q told before mid after h at told_is w_is one more =
        let next : w ≡ times product v (costs (get_or qs n 0)) = w_is ∙ ap (λ p. times product v (costs p)) at in
        let parts : drop n qs ≡ get_or qs n 0 ∷ drop (n + 1) qs = drop_more qs n 0 h in
        let long = ap length parts in
        adds_both (λ e. (q ≡ e.1) × (told ≡ Some e.0)) (IsToldFrom product costs w (drop (n + 1) qs)) (IsToldFrom product costs v (drop n qs)) 1 (length (drop (n + 1) qs)) (length (drop n qs)) before mid after
        (λ e k. subst (λ xs. IsToldFrom product costs v xs e) (sym parts) (inl (sym at ∙ k.0, sym told_is ∙ k.1)))
        (λ e k. subst (λ xs. IsToldFrom product costs v xs e) (sym parts) (inr (subst (λ u. IsToldFrom product costs u (drop (n + 1) qs) e) next k)))
        (λ e k. elim (subst (λ xs. IsToldFrom product costs v xs e) parts k) [
          | inl l ↦ inl (at ∙ l.0, told_is ∙ l.1)
          | inr l ↦ inr (subst (λ u. IsToldFrom product costs u (drop (n + 1) qs) e) (sym next) l)
        ])
        (omega (arith, long))
        one
        more

    -- one more rule tells its states, and then those after it
    pub told_more :
        (d : ℕ) (rules : List (Rule ℕ)) (n : ℕ) (r : Rule ℕ) (default : Rule ℕ) (before mid after : List (ℕ × ℕ)) → n < length rules → r ≡ get_or rules n default →
        Adds outsides (IsToldFrom product costs (times product (Some d) (Some r.cost)) (holes_of r.right)) (length (holes_of r.right)) before mid →
        Adds outsides (IsToldBy product costs d (drop (n + 1) rules)) (places_of (drop (n + 1) rules)) mid after → Adds outsides (IsToldBy product costs d (drop n rules)) (places_of (drop n rules)) before after
    told_more d rules n r default before mid after h at one more =
        let parts : drop n rules ≡ r ∷ drop (n + 1) rules = drop_more rules n default h ∙ ap (λ (s : Rule ℕ). s ∷ drop (n + 1) rules) (sym at) in
        let long = ap places_of parts ∙ sum_by-cons (λ (s : Rule ℕ). length (holes_of s.right)) r (drop (n + 1) rules) in
        adds_both (IsToldFrom product costs (times product (Some d) (Some r.cost)) (holes_of r.right)) (IsToldBy product costs d (drop (n + 1) rules)) (IsToldBy product costs d (drop n rules))
        (length (holes_of r.right)) (places_of (drop (n + 1) rules)) (places_of (drop n rules)) before mid after
        (λ e k. subst (λ xs. IsToldBy product costs d xs e) (sym parts) (inl k))
        (λ e k. subst (λ xs. IsToldBy product costs d xs e) (sym parts) (inr k))
        (λ e k. subst (λ xs. IsToldBy product costs d xs e) parts k)
        (omega (arith, long))
        one
        more

    -- where all states, or all rules, are done, nothing more is told
    pub told_last : (v : Option ℕ) (qs : List ℕ) (entries : List (ℕ × ℕ)) → qs ≡ [] → Adds outsides (IsToldFrom product costs v qs) (length qs) entries entries
    told_last v qs entries e = adds_none (IsToldFrom product costs v qs) (length qs) entries (λ x h. absurd (subst (λ xs. IsToldFrom product costs v xs x) e h))

    -- the same for rules
    pub told_end : (d : ℕ) (rules : List (Rule ℕ)) (entries : List (ℕ × ℕ)) → rules ≡ [] → Adds outsides (IsToldBy product costs d rules) (places_of rules) entries entries
    told_end d rules entries e = adds_none (IsToldBy product costs d rules) (places_of rules) entries (λ x h. absurd (subst (λ xs. IsToldBy product costs d xs x) e h))

-- the place of the state that is told
pub record IsToldAt (product : ℕ → ℕ → ℕ) (costs : ℕ → Option ℕ) (v : Option ℕ) (qs : List ℕ) (e : ℕ × ℕ) : Type 0 where
  pub place : ℕ
  pub within : place < length qs
  pub state : get_or qs place 0 ≡ e.1
  pub cost : times product v (total product costs (without place qs)) ≡ Some e.0

module _ {levelled weighted : Bool} {product : ℕ → ℕ → ℕ} (laws : ProductLaws levelled weighted product) (costs : ℕ → Option ℕ) where
  -- what is told from the front is told at a place
  pub told_at : (v : Option ℕ) (qs : List ℕ) (e : ℕ × ℕ) → IsToldFrom product costs v qs e → IsToldAt product costs v qs e
  told_at v [] e h = absurd h
  told_at v (q ∷ qs) e (inl h) = record { place = 0; within = omega arith; state = h.0; cost = h.1 }
  told_at v (q ∷ qs) e (inr h) =
      let t = told_at (times product v (costs q)) qs e h in
      record {
        place = suc t.place;
        within = omega (arith, t.within);
        state = t.state;
        cost = sym (times_regroups laws v (costs q) (total product costs (without t.place qs))) ∙ t.cost;
      }

  -- and the other way round
  pub at_told : (v : Option ℕ) (qs : List ℕ) (e : ℕ × ℕ) (i : ℕ) → i < length qs → get_or qs i 0 ≡ e.1 → times product v (total product costs (without i qs)) ≡ Some e.0 → IsToldFrom product costs v qs e
  at_told v [] e i h s c = absurd (omega arith)
  at_told v (q ∷ qs) e zero h s c = inl (s, c)
  at_told v (q ∷ qs) e (suc i) h s c = inr (at_told (times product v (costs q)) qs e i (omega arith) s (times_regroups laws v (costs q) (total product costs (without i qs)) ∙ c))

-- a number that is at most 0 is 0
pub same_from : (n : ℕ) → n ≤ 0 → n ≡ 0
same_from n h = omega arith

-- there are as many items as states
pub places_left : (states : List (Item ℕ)) (n : ℕ) → n < length (map state_in states) → n < length states
places_left states n h = omega (arith, h, length-map states state_in)

-- a list of length 0 is empty
pub nil_of : {A : Type 0} (xs : List A) → length xs ≡ 0 → xs ≡ []
nil_of [] e = refl
nil_of (x ∷ xs) e = absurd (omega (arith, e))
