-- The positions of the rules with one label and rank, rule by rule.
use Rattle.std.specs.Prelude.{◌≡◌, ℕ, ◌+◌, ◌<◌, Bool, true, false, List, [], ◌∷◌, ◌++◌, length, take, if◌then◌else◌, refl}
use Rattle.std.proofs.Common.{zero, suc, ap, sym, ◌∙◌, arith, add-zero, add-one}
use Rattle.tib_grammar.specs.declared.Rule.{Rule}
use Rattle.tib_grammar.specs.Run.{rule_at}
use Rattle.tib_normal.specs.Rules.{is_over, positions_from}

-- one more rule
pub positions-more :
    (rules : List (Rule ℕ)) (k f n i : ℕ) → i < length rules →
    positions_from k f n (take (suc i) rules) ≡ (if is_over f n (rule_at rules i) then positions_from k f n (take i rules) ++ (k + i) ∷ [] else positions_from k f n (take i rules))
positions-more [] k f n i h = absurd (omega arith)
positions-more (r ∷ rules) k f n zero h = rw (add-zero k) (by_case (is_over f n r))
  where
    by_case : (b : Bool) → (if b then k ∷ [] else []) ≡ (if b then [] ++ k ∷ [] else [])
    by_case true = refl
    by_case false = refl
positions-more (r ∷ rules) k f n (suc i) h =
    let e : suc k + i ≡ k + suc i = omega arith in
    rw (← e, positions-more rules (suc k) f n i (omega arith)) (by_case (is_over f n r) (is_over f n (rule_at rules i)) (positions_from (suc k) f n (take i rules)))
  where
    by_case :
        (b a : Bool) (xs : List ℕ) →
        (if b then k ∷ (if a then xs ++ (suc k + i) ∷ [] else xs) else (if a then xs ++ (suc k + i) ∷ [] else xs))
        ≡ (if a then (if b then k ∷ xs else xs) ++ (suc k + i) ∷ [] else (if b then k ∷ xs else xs))
    by_case true true xs = refl
    by_case true false xs = refl
    by_case false true xs = refl
    by_case false false xs = refl

-- a list that had those of the first rules, and has one more position where the next rule is one
pub positions-one :
    (rules : List (Rule ℕ)) (f n i : ℕ) → i < length rules → (b : Bool) (r : Rule ℕ) → r ≡ rule_at rules i → is_over f n r ≡ b → (before after : List ℕ) →
    before ≡ positions_from 0 f n (take i rules) → after ≡ (if b then before ++ i ∷ [] else before) → after ≡ positions_from 0 f n (take (i + 1) rules)
positions-one rules f n i h b r at over before after e k =
    let same : is_over f n (rule_at rules i) ≡ b = ap (is_over f n) (sym at) ∙ over in
    let zero_first : 0 + i ≡ i = omega arith in
    k ∙ rw (e, ← same) (ap (λ j. if is_over f n (rule_at rules i) then positions_from 0 f n (take i rules) ++ j ∷ [] else positions_from 0 f n (take i rules)) (sym zero_first))
    ∙ sym (positions-more rules 0 f n i h) ∙ ap (λ j. positions_from 0 f n (take j rules)) (sym (add-one i))
