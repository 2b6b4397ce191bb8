-- Positions of rules of other states give nothing.
use Rattle.tib_match.proofs.Placing.{last_turned}
use Rattle.std.specs.Prelude.{Some, reverse, slice_get, ◌≡◌, ◌⊎◌, ℕ, ◌+◌, ◌-◌, ◌<◌, ◌≤◌, nat_eq, false, List, [], ◌∷◌, ◌++◌, length, take, drop, refl}
use Rattle.std.proofs.Common.{zero, suc, arith, ap, sym, ◌∙◌, subst, get_or, inl, inr, append_assoc}
use Rattle.std.proofs.lemmas.Bool.Decides.{nat_tests}
use Rattle.tib_lex.specs.Lists.{Each}
use Rattle.tib_grammar.specs.Run.{rule_at}
use Rattle.tib_grammar.specs.declared.Rule.{Rule}
use Rattle.tib_grammar.proofs.Members.{each_has, has_at}
use Rattle.tib_match.specs.PartialMatches.{Partial}
use Rattle.tib_match.specs.Leading.{placed, placed_at, all_placed}
use Rattle.tib_match.specs.Narrowing.{LeftsAscend}

unequal : (a b : ℕ) → (a ≡ b → ⊥) → nat_eq a b ≡ false
unequal a b h = grind (arith, nat_tests)

same_order : (m n : ℕ) → m ≤ n → (m ≡ n) ⊎ (m < n)
same_order m n h = grind arith

-- the rule at position n of a list is for another state
abbrev IsOther : List (Rule ℕ) → ℕ → ℕ → Type 0
IsOther rules state n = state ≡ (rule_at rules n).left → ⊥

module _ (product : ℕ → ℕ → ℕ) (rules : List (Rule ℕ)) (p : Partial) (state : ℕ) (others : List ℕ) (waits : p.waiting ≡ state ∷ others) where
  nothing : (n : ℕ) → IsOther rules state n → placed product (rule_at rules n) p ≡ []
  nothing n h = ap (placed_at product (rule_at rules n) p.cost p.states) waits ∙ rw (unequal state (rule_at rules n).left h) refl

  all_nothing : (ns : List ℕ) → Each (IsOther rules state) ns → all_placed product rules p ns ≡ []
  all_nothing [] h = refl
  all_nothing (n ∷ ns) h = ap (λ ps. ps ++ all_placed product rules p ns) (nothing n h.0) ∙ all_nothing ns h.1

  placed_append : (ms ns : List ℕ) → all_placed product rules p (ms ++ ns) ≡ all_placed product rules p ms ++ all_placed product rules p ns
  placed_append [] ns = refl
  placed_append (m ∷ ms) ns = ap (λ ps. placed product (rule_at rules m) p ++ ps) (placed_append ms ns) ∙ sym (append_assoc (placed product (rule_at rules m) p) (all_placed product rules p ms) (all_placed product rules p ns))

each_by_place : (P : ℕ → Type 0) (xs : List ℕ) → ((i : ℕ) → i < length xs → P (get_or xs i 0)) → Each P xs
each_by_place P [] f = tt
each_by_place P (x ∷ xs) f = (f 0 (omega arith), each_by_place P xs (λ i h. f (suc i) (omega arith)))

take_drop : (n : ℕ) (xs : List ℕ) → take n xs ++ drop n xs ≡ xs
take_drop zero xs = refl
take_drop (suc n) [] = refl
take_drop (suc n) (x ∷ xs) = ap (λ ys. x ∷ ys) (take_drop n xs)

at_take : (n : ℕ) (xs : List ℕ) (i : ℕ) → i < length (take n xs) → (i < n) × (i < length xs) × (get_or (take n xs) i 0 ≡ get_or xs i 0)
at_take zero xs i h = absurd (omega arith)
at_take (suc n) [] i h = absurd (omega arith)
at_take (suc n) (x ∷ xs) zero h = (omega arith, omega arith, refl)
at_take (suc n) (x ∷ xs) (suc i) h = let r = at_take n xs i (omega arith) in (omega (arith, r.0), omega (arith, r.1), r.2)

at_drop : (n : ℕ) (xs : List ℕ) (i : ℕ) → i < length (drop n xs) → (n + i < length xs) × (get_or (drop n xs) i 0 ≡ get_or xs (n + i) 0)
at_drop zero xs i h = let z : 0 + i ≡ i = omega arith in (omega arith, ap (λ j. get_or xs j 0) (sym z))
at_drop (suc n) [] i h = absurd (omega arith)
at_drop (suc n) (x ∷ xs) i h =
    let r = at_drop n xs i h in
    let s : suc n + i ≡ suc (n + i) = omega arith in
    (omega (arith, r.0), r.1 ∙ ap (λ j. get_or (x ∷ xs) j 0) (sym s))

each_take : (P : ℕ → Type 0) (n : ℕ) (xs : List ℕ) → Each P xs → Each P (take n xs)
each_take P zero xs e = tt
each_take P (suc n) [] e = tt
each_take P (suc n) (x ∷ xs) e = (e.0, each_take P n xs e.1)

each_drop : (P : ℕ → Type 0) (n : ℕ) (xs : List ℕ) → Each P xs → Each P (drop n xs)
each_drop P zero xs e = e
each_drop P (suc n) [] e = tt
each_drop P (suc n) (x ∷ xs) e = each_drop P n xs e.1

pub each_between : (P : ℕ → Type 0) (a b : ℕ) (xs : List ℕ) → Each P xs → Each P (take (b - a) (drop a xs))
each_between P a b xs e = each_take P (b - a) (drop a xs) (each_drop P a xs e)

module _
    (rules : List (Rule ℕ)) (positions : List ℕ) (state a b : ℕ) (a_before : (i : ℕ) → i < a → (rule_at rules (get_or positions i 0)).left < state)
    (b_behind : (i : ℕ) → b ≤ i → i < length positions → state + 1 ≤ (rule_at rules (get_or positions i 0)).left) where
  front_others : Each (IsOther rules state) (take a positions)
  front_others =
      each_by_place (IsOther rules state) (take a positions)
      (λ i h e. let t = at_take a positions i h in let low = a_before i t.0 in let same : (rule_at rules (get_or (take a positions) i 0)).left ≡ (rule_at rules (get_or positions i 0)).left = ap (λ n. (rule_at rules n).left) t.2 in omega arith)

  back_others : (n : ℕ) → b ≤ n → Each (IsOther rules state) (drop n positions)
  back_others n k =
      each_by_place (IsOther rules state) (drop n positions)
      (λ i h e. let t = at_drop n positions i h in let high = b_behind (n + i) (omega arith) t.0 in let same : (rule_at rules (get_or (drop n positions) i 0)).left ≡ (rule_at rules (get_or positions (n + i) 0)).left = ap (λ m. (rule_at rules m).left) t.1 in omega arith)

  module _ (product : ℕ → ℕ → ℕ) (p : Partial) (others : List ℕ) (waits : p.waiting ≡ state ∷ others) where
    -- the positions before a and from b on give nothing
    pub between : a ≤ b → all_placed product rules p (take (b - a) (drop a positions)) ≡ all_placed product rules p positions
    between h =
        let mid : List ℕ = take (b - a) (drop a positions) in
        let rest : List ℕ = drop (b - a) (drop a positions) in
        let none_front : all_placed product rules p (take a positions) ≡ [] = all_nothing product rules p state others waits (take a positions) front_others in
        let same : drop b positions ≡ rest = sym (drop_drop (b - a) a positions b (omega arith)) in
        let none_rest : all_placed product rules p rest ≡ [] =
        all_nothing product rules p state others waits rest (subst (Each (IsOther rules state)) same (back_others b (omega arith)))
        in
        sym (ap (all_placed product rules p) (sym (take_drop a positions)) ∙ placed_append product rules p state others waits (take a positions) (drop a positions)
        ∙ ap (λ ps. ps ++ all_placed product rules p (drop a positions)) none_front
        ∙ ap (all_placed product rules p) (sym (take_drop (b - a) (drop a positions))) ∙ placed_append product rules p state others waits mid rest
        ∙ ap (λ ps. all_placed product rules p mid ++ ps) none_rest ∙ append_nothing (all_placed product rules p mid))
      where
        append_nothing : (ps : List Partial) → ps ++ [] ≡ ps
        append_nothing [] = refl
        append_nothing (q ∷ ps) = ap (λ qs. q ∷ qs) (append_nothing ps)

        drop_drop : (n m : ℕ) (xs : List ℕ) (k : ℕ) → m + n ≡ k → drop n (drop m xs) ≡ drop k xs
        drop_drop n zero xs k e = let s : n ≡ k = omega (arith, e) in ap (λ j. drop j xs) s
        drop_drop zero (suc m) [] k e = drop_none k
          where
            drop_none : (k : ℕ) → (let xs : List ℕ = [] in xs ≡ drop k xs)
            drop_none zero = refl
            drop_none (suc k) = refl
        drop_drop (suc n) (suc m) [] k e = drop_none k
          where
            drop_none : (k : ℕ) → (let xs : List ℕ = [] in xs ≡ drop k xs)
            drop_none zero = refl
            drop_none (suc k) = refl
        drop_drop n (suc m) (x ∷ xs) zero e = absurd (omega (arith, e))
        drop_drop n (suc m) (x ∷ xs) (suc k) e = drop_drop n m xs k (omega (arith, e))

    -- where they meet there is nothing at all
    pub nowhere : b ≤ a → a ≤ length positions → all_placed product rules p [] ≡ all_placed product rules p positions
    nowhere h k =
        sym (ap (all_placed product rules p) (sym (take_drop a positions)) ∙ placed_append product rules p state others waits (take a positions) (drop a positions)
        ∙ ap (λ ps. ps ++ all_placed product rules p (drop a positions)) (all_nothing product rules p state others waits (take a positions) front_others)
        ∙ all_nothing product rules p state others waits (drop a positions) (back_others a h))

module _ (rules : List (Rule ℕ)) (positions : List ℕ) (ascend : LeftsAscend rules positions) (state middle : ℕ) (inside : middle < length positions) where
  pub all_up_to : (rule_at rules (get_or positions middle 0)).left < state → (i : ℕ) → i < middle + 1 → (rule_at rules (get_or positions i 0)).left < state
  all_up_to h i k = elim (same_order i middle (omega arith)) [
    | inl e ↦ subst (λ j. (rule_at rules (get_or positions j 0)).left < state) (sym e) h
    | inr l ↦ let a = ascend i middle l inside in omega arith
  ]

  pub all_from : state ≤ (rule_at rules (get_or positions middle 0)).left → (i : ℕ) → middle ≤ i → i < length positions → state ≤ (rule_at rules (get_or positions i 0)).left
  all_from h i k l = elim (same_order middle i k) [
    | inl e ↦ subst (λ j. state ≤ (rule_at rules (get_or positions j 0)).left) e h
    | inr m ↦ let a = ascend middle i m l in omega arith
  ]

pub below_at : (n : ℕ) (xs : List ℕ) (i : ℕ) → Each (λ x. x < n) xs → i < length xs → get_or xs i 0 < n
below_at n xs i e h = each_has (λ x. x < n) xs (get_or xs i 0) e (has_at xs i 0 h)

-- where nothing waits no rule makes anything
pub nothing_led : (product : ℕ → ℕ → ℕ) (rules : List (Rule ℕ)) (p : Partial) (ns : List ℕ) → p.waiting ≡ [] → all_placed product rules p ns ≡ []
nothing_led product rules p [] e = refl
nothing_led product rules p (n ∷ ns) e =
    ap (λ ps. ps ++ all_placed product rules p ns) (ap (placed_at product (rule_at rules n) p.cost p.states) e) ∙ nothing_led product rules p ns e

pub none_waits : (xs : List ℕ) → length xs ≡ 0 → reverse xs ≡ []
none_waits [] e = refl
none_waits (x ∷ xs) e = absurd (omega arith)

last_at : (xs : List ℕ) (n : ℕ) → length xs ≡ suc n → slice_get xs n ≡ Some (get_or xs n 0)
last_at [] n e = absurd (omega arith)
last_at (x ∷ xs) zero e = refl
last_at (x ∷ []) (suc n) e = absurd (omega arith)
last_at (x ∷ y ∷ xs) (suc n) e = last_at (y ∷ xs) n (omega arith)

pub waits_last : (xs : List ℕ) → 0 < length xs → reverse xs ≡ get_or xs (length xs - 1) 0 ∷ reverse (take (length xs - 1) xs)
waits_last xs h = last_turned xs (get_or xs (length xs - 1) 0) (last_at xs (length xs - 1) (omega arith))
