-- The positions of the rules of a label and a rank.
use Rattle.std.specs.Prelude.{◌≡◌, ℕ, ◌<◌, ◌≤◌, List, [], ◌∷◌, length, refl}
use Rattle.std.proofs.Common.{zero, suc, ◌∙◌, arith, get_or, subst}
use Rattle.tib_lex.specs.Lists.{Ascends}
use Rattle.tib_grammar.specs.declared.Rule.{Rule}
use Rattle.tib_grammar.specs.Run.{rule_at, no_rule}
use Rattle.tib_normal.specs.Rules.{positions_with}
use Rattle.tib_normal.proofs.Pairwise.{Ascends-at}
use Rattle.tib_normal.proofs.RulePlaces.{place_at}
pub use Rattle.tib_normal.proofs.RulePlaces.{places_ascend}

-- of two such rules the later one has no lesser left state
pub lefts_ascend :
    (rules : List (Rule ℕ)) (f n i j : ℕ) → Ascends (λ r s. r.left ≤ s.left) rules → i < j → j < length (positions_with f n rules) →
    (rule_at rules (get_or (positions_with f n rules) i 0)).left ≤ (rule_at rules (get_or (positions_with f n rules) j 0)).left
lefts_ascend rules f n i j a h l =
    let at = place_at rules 0 f n j l in
    let b : get_or (positions_with f n rules) j 0 < length rules = omega (arith, at.below) in
    Ascends-at (λ r s. r.left ≤ s.left) rules no_rule a (get_or (positions_with f n rules) i 0) (get_or (positions_with f n rules) j 0) (places_ascend rules 0 f n i j h l) b

pub rule_here : (rules : List (Rule ℕ)) (p : ℕ) (r : Rule ℕ) → p < length rules → r ≡ get_or rules p r → r ≡ rule_at rules p
rule_here rules p r h e = e ∙ any rules p r no_rule h
  where
    any : (xs : List (Rule ℕ)) (i : ℕ) (d d' : Rule ℕ) → i < length xs → get_or xs i d ≡ get_or xs i d'
    any [] i d d' h = absurd (omega arith)
    any (x ∷ xs) zero d d' h = refl
    any (x ∷ xs) (suc i) d d' h = any xs i d d' (omega arith)

pub later_left :
    (rules : List (Rule ℕ)) (ps : List ℕ) (f n i j : ℕ) → ps ≡ positions_with f n rules → Ascends (λ r s. r.left ≤ s.left) rules → i < j → j < length ps →
    (rule_at rules (get_or ps i 0)).left ≤ (rule_at rules (get_or ps j 0)).left
later_left rules ps f n i j e a h l = rw e (lefts_ascend rules f n i j a h (subst (λ (xs : List ℕ). j < length xs) e l))
