-- The origins that are tried for a position are those of its edges, each once.
use Rattle.std.specs.Prelude.{◌≡◌, ◌⊎◌, ℕ, ◌+◌, ◌<◌, ◌≤◌, nat_eq, List, [], ◌∷◌, length, map, refl}
use Rattle.std.proofs.Common.{zero, suc, arith, ap, sym, ◌∙◌, subst, get_or, inl, inr}
use Rattle.std.proofs.lemmas.List.{ext_get_or}
use Rattle.tib_lex.specs.Lists.{Has, Each, Distinct}
use Rattle.tib_lex.proofs.Lists.{has_mapped, mapped_has}
use Rattle.tib_lex.proofs.Members.{has_either, has_left, has_right, has_at, at_has, each_of, each_has}
use Rattle.tib_lex.proofs.Numbers.{nat_eq-true, nat_eq-itself, nat_three, below_suc_cases}
use Rattle.tib_grammar.specs.declared.Rule.{Rule}
use Rattle.tib_expand.proofs.Members.{distinct_append}
use Rattle.tib_key_edges.proofs.Places.{place_is, is_place, places_once}
use Rattle.tib_difference.specs.Difference.{KeyOf, key_at, keys_at, states_of}
use Rattle.tib_difference.specs.Tries.{choices_at, completions, states_in, tries_at, places_with, users_of, tries_all, tries}
use Rattle.tib_difference.proofs.Completions.{mapped_once, completions_has, has_completions, completions_once, chosen_at, all_chosen}
use Rattle.tib_difference.proofs.Positions.{last_of, IsChoice, choice_is, is_choice, choices_once}

-- the users of a state
module _ (one : List (Rule ℕ)) (q : ℕ) where
  -- a rule with a place of the state
  record IsUser (k : ℕ) (u : ℕ × ℕ) : Type 0 where
    pub rule : u.0 < k
    pub place : u.1 < length (states_in one u.0)
    pub state : get_or (states_in one u.0) u.1 0 ≡ q

  users_are : (k : ℕ) (u : ℕ × ℕ) → Has (users_of one q k) u → IsUser k u
  users_are zero u h = absurd h
  users_are (suc k) u h = elim (has_either (users_of one q k) (map (λ j. (k, j)) (places_with q (states_in one k))) u h) [
    | inl m ↦ let r = users_are k u m in record { rule = (let l = r.rule in omega (arith, l)); place = r.place; state = r.state }
    | inr m ↦
        let g = has_mapped (λ j. (k, j)) (places_with q (states_in one k)) u m in
        let p = place_is (λ s. nat_eq s q) (states_in one k) g.0 0 g.1 in
        subst (λ (v : ℕ × ℕ). IsUser (suc k) v) g.2 (record { rule = omega arith; place = p.0; state = nat_eq-true (get_or (states_in one k) g.0 0) q p.1 })
  ]

  are_users : (k r j : ℕ) → r < k → j < length (states_in one r) → get_or (states_in one r) j 0 ≡ q → Has {A = ℕ × ℕ} (users_of one q k) (r, j)
  are_users zero r j low in_place same = absurd (omega arith)
  are_users (suc k) r j low in_place same = elim (below_suc_cases r k low) [
    | inl l ↦ has_left (users_of one q k) (map (λ i. (k, i)) (places_with q (states_in one k))) (r, j) (are_users k r j l in_place same)
    | inr e ↦
        has_right (users_of one q k) (map (λ i. (k, i)) (places_with q (states_in one k))) (r, j)
        (subst (λ m. Has {A = ℕ × ℕ} (map (λ i. (m, i)) (places_with q (states_in one m))) (r, j)) e
        (mapped_has (λ i. (r, i)) (places_with q (states_in one r)) j
        (is_place (λ s. nat_eq s q) (states_in one r) j 0 in_place (ap (λ s. nat_eq s q) same ∙ nat_eq-itself q))))
  ]

  users_once : (k : ℕ) → Distinct (users_of one q k)
  users_once zero = tt
  users_once (suc k) =
      distinct_append (users_of one q k) (map (λ j. (k, j)) (places_with q (states_in one k))) (users_once k)
      (mapped_once (λ j. (k, j)) (λ i j e. ap (λ (u : ℕ × ℕ). u.1) e) (places_with q (states_in one k)) (places_once (λ s. nat_eq s q) (states_in one k) 0))
      (λ u h m.
      let l = (users_are k u h).rule in
      let g = has_mapped (λ j. (k, j)) (places_with q (states_in one k)) u m in
      let e = ap (λ (v : ℕ × ℕ). v.0) g.2 in
      omega (arith, l, e))

module _ (one : List (Rule ℕ)) (order : List KeyOf) (n : ℕ) where
  tries_are : (us : List (ℕ × ℕ)) (o : ℕ × List ℕ) → Has (tries_all one order n us) o → (u : ℕ × ℕ) × Has us u × Has (tries_at one order n u.0 u.1) o
  tries_are [] o h = absurd h
  tries_are (u ∷ us) o h = elim (has_either (tries_at one order n u.0 u.1) (tries_all one order n us) o h) [
    | inl m ↦ (u, inl refl, m)
    | inr m ↦ let r = tries_are us o m in (r.0, inr r.1, r.2)
  ]

  are_tries : (us : List (ℕ × ℕ)) (u : ℕ × ℕ) (o : ℕ × List ℕ) → Has us u → Has (tries_at one order n u.0 u.1) o → Has (tries_all one order n us) o
  are_tries [] u o h m = absurd h
  are_tries (v ∷ us) u o h m = elim h [
    | inl e ↦ has_left (tries_at one order n v.0 v.1) (tries_all one order n us) o (subst (λ (w : ℕ × ℕ). Has (tries_at one order n w.0 w.1) o) (sym e) m)
    | inr k ↦ has_right (tries_at one order n v.0 v.1) (tries_all one order n us) o (are_tries us u o k m)
  ]

  module _ (low : n < length order) where
    -- a list that is tried for a rule and a place
    record IsTry (r j : ℕ) (o : ℕ × List ℕ) : Type 0 where
      pub rule : o.0 ≡ r
      pub long : length o.1 ≡ length (states_in one r)
      pub each : (i : ℕ) → i < length o.1 → IsChoice (states_in one r) order n j i (get_or o.1 i 0)

    try_is : (r j : ℕ) (o : ℕ × List ℕ) → Has (tries_at one order n r j) o → IsTry r j o
    try_is r j o h =
        let at : ℕ → List ℕ = choices_at (states_in one r) order n j in
        let g = has_mapped (λ (ps : List ℕ). (r, ps)) (completions at (length (states_in one r)) []) o h in
        let c = completions_has at (length (states_in one r)) [] g.0 g.1 in
        let same : g.0 ≡ c.rest = c.is in
        subst (λ (x : ℕ × List ℕ). IsTry r j x) (ap (λ (ps : List ℕ). (r, ps)) (sym same) ∙ g.2) (record {
          rule = refl;
          long = c.long;
          each = λ i l. let e : 0 + i ≡ i = omega arith in choice_is (states_in one r) order n j low i (get_or c.rest i 0) (subst (λ m. Has (at m) (get_or c.rest i 0)) e (chosen_at at 0 c.rest c.chosen i l));
        })

    is_try : (r j : ℕ) (ps : List ℕ) → length ps ≡ length (states_in one r) → ((i : ℕ) → i < length ps → IsChoice (states_in one r) order n j i (get_or ps i 0)) → Has {A = ℕ × List ℕ} (tries_at one order n r j) (r, ps)
    is_try r j ps long each =
        let at : ℕ → List ℕ = choices_at (states_in one r) order n j in
        mapped_has (λ (xs : List ℕ). (r, xs)) (completions at (length (states_in one r)) []) ps
        (has_completions at (length (states_in one r)) [] ps long
        (all_chosen at 0 ps (λ i l. let e : i ≡ 0 + i = omega arith in subst (λ m. Has (at m) (get_or ps i 0)) e (is_choice (states_in one r) order n j low i (get_or ps i 0) (each i l)))))

    -- n is at its place, and not behind
    at_place : (r j : ℕ) (o : ℕ × List ℕ) → IsTry r j o → j < length (states_in one r) → get_or o.1 j 0 ≡ n
    at_place r j o t h = elim (t.each j (let l = t.long in omega (arith, l, h))) [ inl b ↦ absurd (b.0 refl) | inr b ↦ b.1 ]

    behind_place : (r j : ℕ) (o : ℕ × List ℕ) → IsTry r j o → (i : ℕ) → j < i → i < length (states_in one r) → get_or o.1 i 0 < n
    behind_place r j o t i up h = elim (t.each i (let l = t.long in omega (arith, l, h))) [ inl b ↦ b.1 | inr b ↦ (let l = b.0 in absurd (omega (arith, l, up))) ]

    -- a list is tried for one place
    one_place : (r i j : ℕ) (o : ℕ × List ℕ) → i < length (states_in one r) → j < length (states_in one r) → IsTry r i o → IsTry r j o → i ≡ j
    one_place r i j o h k a b = elim (nat_three i j) [
      | inl l ↦ (let x = behind_place r i o a j l k in let y = at_place r j o b k in absurd (omega (arith, x, y)))
      | inr e ↦ elim e [
        | inl same ↦ same
        | inr l ↦ (let x = behind_place r j o b i l h in let y = at_place r i o a h in absurd (omega (arith, x, y)))
      ]
    ]

    one_user : (q k : ℕ) (u v : ℕ × ℕ) (o : ℕ × List ℕ) → IsUser one q k u → IsUser one q k v → Has (tries_at one order n u.0 u.1) o → Has (tries_at one order n v.0 v.1) o → u ≡ v
    one_user q k u v o a b h m =
        let x = try_is u.0 u.1 o h in
        let y = try_is v.0 v.1 o m in
        let rules : v.0 ≡ u.0 = sym y.rule ∙ x.rule in
        let places : u.1 ≡ v.1 = one_place u.0 u.1 v.1 o a.place (subst (λ r. v.1 < length (states_in one r)) rules b.place) x (subst (λ r. IsTry r v.1 o) rules y) in
        ap (λ r. (r, u.1)) (sym rules) ∙ ap (λ j. (v.0, j)) places

    all_once : (q k : ℕ) (us : List (ℕ × ℕ)) → Each (IsUser one q k) us → Distinct us → Distinct (tries_all one order n us)
    all_once q k [] are d = tt
    all_once q k (u ∷ us) are d =
        distinct_append (tries_at one order n u.0 u.1) (tries_all one order n us)
        (mapped_once (λ (ps : List ℕ). (u.0, ps)) (λ xs ys e. ap (λ (o : ℕ × List ℕ). o.1) e) (completions (choices_at (states_in one u.0) order n u.1) (length (states_in one u.0)) [])
        (completions_once (choices_at (states_in one u.0) order n u.1) (choices_once (states_in one u.0) order n u.1 low) (length (states_in one u.0)) []))
        (all_once q k us are.1 d.1)
        (λ o h m.
        let t = tries_are us o m in
        d.0 (subst (λ (w : ℕ × ℕ). Has us w) (sym (one_user q k u t.0 o are.0 (each_has (IsUser one q k) us t.0 are.1 t.1) h t.2)) t.1))

    -- each is tried once
    pub tries_once : Distinct (tries one order n)
    tries_once =
        let q : ℕ = (key_at order n).0 in
        let k : ℕ = length one in
        all_once q k (users_of one q k) (each_of (IsUser one q k) (users_of one q k) (λ u h. users_are one q k u h)) (users_once one q k)

    -- what is tried is an origin of the position
    pub record IsOrigin (o : ℕ × List ℕ) : Type 0 where
      pub below : o.0 < length one
      pub states : states_in one o.0 ≡ states_of (keys_at order o.1)
      pub up_to : Each (λ p. p ≤ n) o.1
      pub stands : Has o.1 n

    choice_up_to : (states : List ℕ) (j i p : ℕ) → IsChoice states order n j i p → p ≤ n
    choice_up_to states j i p c = elim c [ inl b ↦ (let l = b.1 in omega (arith, l)) | inr b ↦ (let e = b.1 in omega (arith, e)) ]

    choice_state : (states : List ℕ) (j i p : ℕ) → get_or states j 0 ≡ (key_at order n).0 → IsChoice states order n j i p → get_or states i 0 ≡ (key_at order p).0
    choice_state states j i p at c = elim c [ inl b ↦ sym b.2 | inr b ↦ b.2 ∙ at ∙ ap (λ m. (key_at order m).0) (sym b.1) ]

    state_at : (ps : List ℕ) (i : ℕ) → i < length ps → get_or (states_of (keys_at order ps)) i 0 ≡ (key_at order (get_or ps i 0)).0
    state_at [] i h = absurd (omega arith)
    state_at (p ∷ ps) zero h = refl
    state_at (p ∷ ps) (suc i) h = state_at ps i (omega arith)

    states_long : (ps : List ℕ) → length (states_of (keys_at order ps)) ≡ length ps
    states_long [] = refl
    states_long (p ∷ ps) = ap suc (states_long ps)

    pub tried_is : (o : ℕ × List ℕ) → Has (tries one order n) o → IsOrigin o
    tried_is o h =
        let q : ℕ = (key_at order n).0 in
        let t = tries_are (users_of one q (length one)) o h in
        let u = users_are one q (length one) t.0 t.1 in
        let y = try_is t.0.0 t.0.1 o t.2 in
        let states : states_in one t.0.0 ≡ states_of (keys_at order o.1) = ext_get_or 0 (states_in one t.0.0) (states_of (keys_at order o.1)) (sym y.long ∙ sym (states_long o.1))
        (λ i l.
        let k : i < length o.1 = (let e = y.long in omega (arith, e, l)) in
        choice_state (states_in one t.0.0) t.0.1 i (get_or o.1 i 0) u.state (y.each i k) ∙ sym (state_at o.1 i k)) in
        record {
          below = subst (λ r. r < length one) (sym y.rule) u.rule;
          states = ap (λ r. states_in one r) y.rule ∙ states;
          up_to = each_of (λ p. p ≤ n) o.1 (λ p m.
              let a = at_has o.1 p 0 m in
              subst (λ x. x ≤ n) a.2 (choice_up_to (states_in one t.0.0) t.0.1 a.0 (get_or o.1 a.0 0) (y.each a.0 a.1)));
          stands = subst (λ x. Has o.1 x) (at_place t.0.0 t.0.1 o y u.place) (has_at o.1 t.0.1 0 (let e = y.long in let l = u.place in omega (arith, e, l)));
        }

    -- and each origin is tried
    pub is_tried : (o : ℕ × List ℕ) → IsOrigin o → Has (tries one order n) o
    is_tried o is =
        let q : ℕ = (key_at order n).0 in
        let l = last_of n o.1 is.stands in
        let j : ℕ = l.0 in
        let states : List ℕ = states_in one o.0 in
        let long : length o.1 ≡ length states = sym (states_long o.1) ∙ sym (ap length is.states) in
        let at : (i : ℕ) → i < length o.1 → get_or states i 0 ≡ (key_at order (get_or o.1 i 0)).0 = λ i h. ap (λ (xs : List ℕ). get_or xs i 0) is.states ∙ state_at o.1 i h in
        let here : get_or states j 0 ≡ q = at j l.1.below ∙ ap (λ p. (key_at order p).0) l.1.is in
        are_tries (users_of one q (length one)) (o.0, j) o (are_users one q (length one) o.0 j is.below (let b = l.1.below in omega (arith, long, b)) here)
        (is_try o.0 j o.1 long (λ i h. choose states j i (get_or o.1 i 0) here (at i h) (each_has (λ p. p ≤ n) o.1 (get_or o.1 i 0) is.up_to (has_at o.1 i 0 h))
        (λ e. ap (λ m. get_or o.1 m 0) e ∙ l.1.is) (λ up e. l.1.behind i up h e)))
      where
        n_or_below : (p : ℕ) → p ≤ n → (p ≡ n) ⊎ (p < n)
        n_or_below p h = grind arith

        up_or_not : (i j : ℕ) → (i ≤ j) ⊎ (j < i)
        up_or_not i j = grind arith

        choose : (states : List ℕ) (j i p : ℕ) → get_or states j 0 ≡ (key_at order n).0 → get_or states i 0 ≡ (key_at order p).0 → p ≤ n → (i ≡ j → p ≡ n) → (j < i → p ≡ n → ⊥) → IsChoice states order n j i p
        choose states j i p here at up same behind = elim (n_or_below p up) [
          | inl e ↦ elim (up_or_not i j) [
            | inl l ↦ inr (l, e, at ∙ ap (λ m. (key_at order m).0) e ∙ sym here)
            | inr l ↦ absurd (behind l e)
          ]
          | inr b ↦ inl ((λ e. let s = same e in omega (arith, s, b)), b, sym at)
        ]
