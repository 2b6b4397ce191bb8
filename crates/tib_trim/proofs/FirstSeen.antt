-- The states of some rules, each where it first is, as they are listed.
use Rattle.std.specs.Prelude.{◌≡◌, ◌⊎◌, ℕ, ◌+◌, ◌<◌, ◌≤◌, List, [], ◌∷◌, ◌++◌, length, map, filter, nat_eq, not, take, true, false, cond, refl}
use Rattle.std.proofs.Common.{arith, ap, sym, ◌∙◌, subst, inl, inr, get_or}
use Rattle.std.proofs.lemmas.List.{get_or-map, length-map, take_all, map_more, length-take}
use Rattle.std.proofs.lemmas.List.Elements.{filter-append}
use Rattle.tib_lex.specs.Lists.{Has, Distinct}
use Rattle.tib_lex.proofs.Lists.{append_nil}
use Rattle.tib_lex.proofs.Members.{has_at, at_has}
use Rattle.tib_lex.proofs.Numbers.{nat_eq_cases, same_or_other}
use Rattle.tib_grammar.specs.Range.{AreBelow, AreInRange, IsLeftIn}
use Rattle.tib_grammar.specs.Run.{no_rule}
use Rattle.tib_grammar.specs.declared.Rule.{Rule}
use Rattle.tib_prune.proofs.Kept.{filter_few}
use Rattle.tib_trim.specs.FirstSeen.{firsts, states_of, IsSeen}

abbrev others : ℕ → List ℕ → List ℕ
others q xs = filter (λ p. not (nat_eq q p)) xs

-- whether p stays where q is taken out
kept_one : (q p : ℕ) → (q ≡ p → ⊥) → not (nat_eq q p) ≡ true
kept_one q p h = elim (nat_eq_cases q p) [ inl k ↦ absurd (h k.0) | inr k ↦ ap not k.1 ]

dropped_one : (q p : ℕ) → q ≡ p → not (nat_eq q p) ≡ false
dropped_one q p e = elim (nat_eq_cases q p) [ inl k ↦ ap not k.1 | inr k ↦ absurd (k.0 e) ]

-- what is among the others is in the list, and is not q
others_has : (q : ℕ) (xs : List ℕ) (p : ℕ) → Has (others q xs) p → Has xs p × (q ≡ p → ⊥)
others_has q [] p h = absurd h
others_has q (x ∷ xs) p h = elim (same_or_other q x) [
  | inl e ↦
      let r = others_has q xs p (subst (λ b. Has (cond b (x ∷ others q xs) (others q xs)) p) (dropped_one q x e) h) in
      (inr r.0, r.1)
  | inr d ↦ elim (subst (λ b. Has (cond b (x ∷ others q xs) (others q xs)) p) (kept_one q x d) h) [
    | inl e ↦ (inl e, λ s. d (s ∙ sym e))
    | inr k ↦ let r = others_has q xs p k in (inr r.0, r.1)
  ]
]

-- and the other way round
has_others : (q : ℕ) (xs : List ℕ) (p : ℕ) → Has xs p → (q ≡ p → ⊥) → Has (others q xs) p
has_others q [] p h d = absurd h
has_others q (x ∷ xs) p h d = elim (same_or_other q x) [
  | inl e ↦ subst (λ b. Has (cond b (x ∷ others q xs) (others q xs)) p) (sym (dropped_one q x e)) (elim h [ inl k ↦ absurd (d (e ∙ k)) | inr k ↦ has_others q xs p k d ])
  | inr o ↦ subst (λ b. Has (cond b (x ∷ others q xs) (others q xs)) p) (sym (kept_one q x o)) (elim h [ inl k ↦ inl k | inr k ↦ inr (has_others q xs p k d) ])
]

-- a list without repetition stays one
others_distinct : (q : ℕ) (xs : List ℕ) → Distinct xs → Distinct (others q xs)
others_distinct q [] d = tt
others_distinct q (x ∷ xs) d = elim (same_or_other q x) [
  | inl e ↦ subst (λ b. Distinct (cond b (x ∷ others q xs) (others q xs))) (sym (dropped_one q x e)) (others_distinct q xs d.1)
  | inr o ↦ subst (λ b. Distinct (cond b (x ∷ others q xs) (others q xs))) (sym (kept_one q x o)) (λ h. d.0 (others_has q xs x h).0, others_distinct q xs d.1)
]

-- the same numbers are in both
pub firsts_has : (xs : List ℕ) (p : ℕ) → Has (firsts xs) p → Has xs p
firsts_has [] p h = absurd h
firsts_has (x ∷ xs) p h = elim h [ inl e ↦ inl e | inr k ↦ inr (firsts_has xs p (others_has x (firsts xs) p k).0) ]

pub has_firsts : (xs : List ℕ) (p : ℕ) → Has xs p → Has (firsts xs) p
has_firsts [] p h = absurd h
has_firsts (x ∷ xs) p h = elim (same_or_other x p) [
  | inl e ↦ inl e
  | inr d ↦ elim h [ inl e ↦ inl e | inr k ↦ inr (has_others x (firsts xs) p (has_firsts xs p k) d) ]
]

-- and each once
pub firsts_distinct : (xs : List ℕ) → Distinct (firsts xs)
firsts_distinct [] = tt
firsts_distinct (x ∷ xs) = (λ h. (others_has x (firsts xs) x h).1 refl, others_distinct x (firsts xs) (firsts_distinct xs))

pub firsts_few : (xs : List ℕ) → length (firsts xs) ≤ length xs
firsts_few [] = omega arith
firsts_few (x ∷ xs) = omega (arith, filter_few (λ p. not (nat_eq x p)) (firsts xs), firsts_few xs)

-- whether a number is in a list
pub seen_or_new : (xs : List ℕ) (q : ℕ) → Has xs q ⊎ (Has xs q → ⊥)
seen_or_new [] q = inr (λ h. h)
seen_or_new (x ∷ xs) q = elim (same_or_other x q) [
  | inl e ↦ inl (inl e)
  | inr d ↦ elim (seen_or_new xs q) [ inl k ↦ inl (inr k) | inr n ↦ inr (λ h. elim h [ inl e ↦ d e | inr k ↦ n k ]) ]
]

-- the last of a list stays, or it is taken out
last_stays : (x q : ℕ) (ys : List ℕ) → (x ≡ q → ⊥) → others x (ys ++ q ∷ []) ≡ others x ys ++ q ∷ []
last_stays x q ys d =
    filter-append (λ p. not (nat_eq x p)) ys (q ∷ []) ∙ ap (λ b. others x ys ++ cond b (q ∷ []) []) (kept_one x q d)

last_goes : (x q : ℕ) (ys : List ℕ) → x ≡ q → others x (ys ++ q ∷ []) ≡ others x ys
last_goes x q ys e =
    filter-append (λ p. not (nat_eq x p)) ys (q ∷ []) ∙ ap (λ b. others x ys ++ cond b (q ∷ []) []) (dropped_one x q e) ∙ append_nil (others x ys)

-- one more number that was not there
pub firsts_more : (xs : List ℕ) (q : ℕ) → (Has xs q → ⊥) → firsts (xs ++ q ∷ []) ≡ firsts xs ++ q ∷ []
firsts_more [] q d = refl
firsts_more (x ∷ xs) q d =
    ap (λ ys. x ∷ others x ys) (firsts_more xs q (λ h. d (inr h))) ∙ ap (λ ys. x ∷ ys) (last_stays x q (firsts xs) (λ e. d (inl e)))

-- and one more that was there
pub firsts_same : (xs : List ℕ) (q : ℕ) → Has xs q → firsts (xs ++ q ∷ []) ≡ firsts xs
firsts_same [] q h = absurd h
firsts_same (x ∷ xs) q h = elim (seen_or_new xs q) [
  | inl k ↦ ap (λ ys. x ∷ others x ys) (firsts_same xs q k)
  | inr d ↦ elim h [
    | inl e ↦ ap (λ ys. x ∷ others x ys) (firsts_more xs q d) ∙ ap (λ ys. x ∷ ys) (last_goes x q (firsts xs) e)
    | inr k ↦ absurd (d k)
  ]
]

seen_step : (xs old new : List ℕ) (q : ℕ) → old ≡ firsts xs → IsSeen old q new → new ≡ firsts (xs ++ q ∷ [])
seen_step xs old new q e (inl s) = s.1 ∙ e ∙ sym (firsts_same xs q (firsts_has xs q (subst (λ ys. Has ys q) e s.0)))
seen_step xs old new q e (inr s) =
    s.1 ∙ ap (λ ys. ys ++ q ∷ []) e ∙ sym (firsts_more xs q (λ h. s.0 (subst (λ ys. Has ys q) (sym e) (has_firsts xs q h))))

-- one more rule
pub states_more :
    (rules : List (Rule ℕ)) (i : ℕ) (r d : Rule ℕ) (old new : List ℕ) → i < length rules → r ≡ get_or rules i d → old ≡ states_of (take i rules) → IsSeen old r.left new →
    new ≡ states_of (take (i + 1) rules)
states_more rules i r d old new h at e s =
    seen_step (0 ∷ map (λ (x : Rule ℕ). x.left) (take i rules)) old new r.left e s
    ∙ ap (λ q. firsts (0 ∷ (map (λ (x : Rule ℕ). x.left) (take i rules) ++ q ∷ []))) (ap (λ (x : Rule ℕ). x.left) at)
    ∙ ap (λ qs. firsts (0 ∷ qs)) (sym (map_more (λ (x : Rule ℕ). x.left) rules i d h))

-- after the last one these are the states of all
pub states_all : (rules : List (Rule ℕ)) (i : ℕ) (states : List ℕ) → length rules ≤ i → states ≡ states_of (take i rules) → states ≡ states_of rules
states_all rules i states h e = e ∙ ap states_of (take_all i rules h)

-- there are no more than rules and the start
pub states_few : (rules : List (Rule ℕ)) (i : ℕ) (states : List ℕ) → i ≤ length rules → states ≡ states_of (take i rules) → length states ≤ i + 1
states_few rules i states h e =
    omega (
      arith,
      ap length e,
      firsts_few (0 ∷ map (λ (x : Rule ℕ). x.left) (take i rules)),
      length-map (take i rules) (λ (x : Rule ℕ). x.left),
      length-take i rules,
    )

-- each is the start or a left state
pub states_has : (rules : List (Rule ℕ)) (q : ℕ) → Has (states_of rules) q → (q ≡ 0) ⊎ IsLeftIn rules q
states_has rules q h = elim (firsts_has (0 ∷ map (λ (r : Rule ℕ). r.left) rules) q h) [
  | inl e ↦ inl (sym e)
  | inr k ↦
      let at = at_has (map (λ (r : Rule ℕ). r.left) rules) q 0 k in
      let below : at.0 < length rules = omega (arith, at.1, length-map rules (λ (r : Rule ℕ). r.left)) in
      inr (at.0, below, sym (get_or-map (λ (r : Rule ℕ). r.left) rules at.0 no_rule 0 below) ∙ at.2)
]

-- and the other way round
pub has_states : (rules : List (Rule ℕ)) (q : ℕ) → IsLeftIn rules q → Has (states_of rules) q
has_states rules q l =
    let h : Has (map (λ (r : Rule ℕ). r.left) rules) (get_or (map (λ (r : Rule ℕ). r.left) rules) l.0 0) =
    has_at (map (λ (r : Rule ℕ). r.left) rules) l.0 0 (omega (arith, l.1, length-map rules (λ (r : Rule ℕ). r.left)))
    in
    has_firsts (0 ∷ map (λ (r : Rule ℕ). r.left) rules) q
    (inr (subst (Has (map (λ (r : Rule ℕ). r.left) rules)) (get_or-map (λ (r : Rule ℕ). r.left) rules l.0 no_rule 0 l.1 ∙ l.2) h))

pub states_distinct : (rules : List (Rule ℕ)) → Distinct (states_of rules)
states_distinct rules = firsts_distinct (0 ∷ map (λ (r : Rule ℕ). r.left) rules)

-- all are in range where the rules are
pub states_below : (count : ℕ) (rules : List (Rule ℕ)) → 0 < count → AreInRange count rules → AreBelow count (states_of rules)
states_below count rules some range i h = elim (states_has rules (get_or (states_of rules) i 0) (has_at (states_of rules) i 0 h)) [
  | inl e ↦ omega (arith, e, some)
  | inr l ↦ subst (λ q. q < count) l.2 (range l.0 l.1).0
]
