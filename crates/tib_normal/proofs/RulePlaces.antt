-- The places of the rules of one label and rank, as positions that were listed.
use Rattle.std.specs.Prelude.{◌≡◌, ℕ, ◌+◌, ◌-◌, ◌<◌, ◌≤◌, true, List, length, ◌∷◌, Bool, false, if◌then◌else◌, [], refl, nat_eq}
use Rattle.std.proofs.Common.{get_or, suc, arith, zero, inr, inl, subst}
use Rattle.std.proofs.lemmas.Bool.Decides.{nat_tests}
use Rattle.tib_lex.specs.Lists.{Has}
use Rattle.tib_lex.proofs.Booleans.{and-true}
use Rattle.tib_lex.proofs.Numbers.{nat_eq-true}
use Rattle.tib_lex.proofs.Members.{at_has}
use Rattle.tib_tree.specs.Trees.{count}
use Rattle.tib_grammar.specs.declared.Rule.{Rule}
use Rattle.tib_grammar.specs.Run.{no_rule, rule_at}
use Rattle.tib_grammar.specs.Sides.{label, is_label}
use Rattle.tib_grammar.proofs.Sides.{is_label-true, is_label_cases}
use Rattle.tib_normal.specs.Rules.{is_over, positions_from, positions_with}
use Rattle.tib_normal.specs.RulePlaces.{IsRulePlace}

-- p is the position, counted from k, of a rule of the label f over n states
pub record IsPlace (rules : List (Rule ℕ)) (k f n p : ℕ) : Type 0 where
  pub from : k ≤ p
  pub below : p < k + length rules
  pub over : is_over f n (get_or rules (p - k) no_rule) ≡ true

shift : (r : Rule ℕ) (rules : List (Rule ℕ)) (k f n p : ℕ) → IsPlace rules (suc k) f n p → IsPlace (r ∷ rules) k f n p
shift r rules k f n p h =
    let e : p - k ≡ suc (p - suc k) = omega (arith, h.from) in
    record {
      from = omega (arith, h.from);
      below = omega (arith, h.below);
      over = rw e h.over;
    }

place_step :
    (r : Rule ℕ) (rules : List (Rule ℕ)) (k f n : ℕ) (ps : List ℕ) → ((j : ℕ) → j < length ps → IsPlace rules (suc k) f n (get_or ps j 0)) →
    (b : Bool) → is_over f n r ≡ b → (j : ℕ) → j < length (if b then k ∷ ps else ps) → IsPlace (r ∷ rules) k f n (get_or (if b then k ∷ ps else ps) j 0)
place_step r rules k f n ps ih true e zero h =
    let z : k - k ≡ 0 = omega arith in
    record { from = omega arith; below = omega arith; over = rw z e }
place_step r rules k f n ps ih true e (suc j) h = shift r rules k f n (get_or ps j 0) (ih j (omega arith))
place_step r rules k f n ps ih false e j h = shift r rules k f n (get_or ps j 0) (ih j h)

-- what is at a place of the positions is such a position
pub place_at : (rules : List (Rule ℕ)) (k f n j : ℕ) → j < length (positions_from k f n rules) → IsPlace rules k f n (get_or (positions_from k f n rules) j 0)
place_at [] k f n j h = absurd (omega arith)
place_at (r ∷ rules) k f n j h = place_step r rules k f n (positions_from (suc k) f n rules) (place_at rules (suc k) f n) (is_over f n r) refl j h

ascend_step :
    (k : ℕ) (ps : List ℕ) → ((i j : ℕ) → i < j → j < length ps → get_or ps i 0 < get_or ps j 0) → ((j : ℕ) → j < length ps → k < get_or ps j 0) →
    (b : Bool) → (i j : ℕ) → i < j → j < length (if b then k ∷ ps else ps) → get_or (if b then k ∷ ps else ps) i 0 < get_or (if b then k ∷ ps else ps) j 0
ascend_step k ps ih above true i zero h l = absurd (omega arith)
ascend_step k ps ih above true zero (suc j) h l = above j (omega arith)
ascend_step k ps ih above true (suc i) (suc j) h l = ih i j (omega arith) (omega arith)
ascend_step k ps ih above false i j h l = ih i j h l

-- these positions ascend
pub places_ascend : (rules : List (Rule ℕ)) (k f n i j : ℕ) → i < j → j < length (positions_from k f n rules) → get_or (positions_from k f n rules) i 0 < get_or (positions_from k f n rules) j 0
places_ascend [] k f n i j h l = absurd (omega arith)
places_ascend (r ∷ rules) k f n i j h l =
    ascend_step k (positions_from (suc k) f n rules) (places_ascend rules (suc k) f n)
    (λ m b. omega (arith, (place_at rules (suc k) f n m b).from)) (is_over f n r) i j h l

has_step : (k p : ℕ) (ps : List ℕ) (b : Bool) → Has ps p → Has (if b then k ∷ ps else ps) p
has_step k p ps true h = inr h
has_step k p ps false h = h

-- and each such position is there
pub has_place : (rules : List (Rule ℕ)) (k f n m : ℕ) → m < length rules → is_over f n (get_or rules m no_rule) ≡ true → Has (positions_from k f n rules) (k + m)
has_place [] k f n m h e = absurd (omega arith)
has_place (r ∷ rules) k f n zero h e =
    let z : k ≡ k + 0 = omega arith in
    rw e (inl z)
has_place (r ∷ rules) k f n (suc m) h e =
    let s : suc k + m ≡ k + suc m = omega arith in
    has_step k (k + suc m) (positions_from (suc k) f n rules) (is_over f n r) (subst (Has (positions_from (suc k) f n rules)) s (has_place rules (suc k) f n m (omega arith) e))

below_step : (k p m : ℕ) (ps : List ℕ) → (Has ps p → p < m) → k < m → (b : Bool) → Has (if b then k ∷ ps else ps) p → p < m
below_step k p m ps ih l true (inl e) = omega arith
below_step k p m ps ih l true (inr h) = ih h
below_step k p m ps ih l false h = ih h

-- positions are within the rules
pub places_below : (rules : List (Rule ℕ)) (k f n p : ℕ) → Has (positions_from k f n rules) p → p < k + length rules
places_below [] k f n p h = absurd h
places_below (r ∷ rules) k f n p h =
    let e : suc k + length rules ≡ k + suc (length rules) = omega arith in
    below_step k p (k + suc (length rules)) (positions_from (suc k) f n rules) (λ x. omega (arith, places_below rules (suc k) f n p x)) (omega arith) (is_over f n r) h

-- a position that was listed is the place of a rule of the label and rank
pub rule_place : (rules : List (Rule ℕ)) (ps : List ℕ) (f n i : ℕ) → ps ≡ positions_with f n rules → i < length ps → IsRulePlace rules f n (get_or ps i 0)
rule_place rules ps f n i e h =
    rw e (from_place (place_at rules 0 f n i (subst (λ (xs : List ℕ). i < length xs) e h)))
  where
    from_place : {p : ℕ} → IsPlace rules 0 f n p → IsRulePlace rules f n p
    from_place {p} at =
        let z : p - 0 ≡ p = omega arith in
        let over : is_over f n (rule_at rules p) ≡ true = subst (λ j. is_over f n (get_or rules j no_rule) ≡ true) z at.over in
        let both = and-true _ _ over in
        record {
          below = omega (arith, at.below);
          root = is_label-true f (rule_at rules p).right.label both.0;
          many = nat_eq-true (count (rule_at rules p).right.kids) n both.1;
        }

is_over-same : (r : Rule ℕ) (f k : ℕ) → r.right.label ≡ label f → count r.right.kids ≡ k → is_over f k r ≡ true
is_over-same r f k root many =
    let same : nat_eq (count r.right.kids) k ≡ true = grind (arith, nat_tests) in
    let root_same : is_label f r.right.label ≡ true =
    elim (is_label_cases r.right.label f) [ inl y ↦ y.1 | inr n ↦ absurd (n.0 root) ]
    in
    rw (root_same, same) refl

-- each such place is listed
pub place_has : (rules : List (Rule ℕ)) (f n p : ℕ) → IsRulePlace rules f n p → Has (positions_with f n rules) p
place_has rules f n p at =
    let z : 0 + p ≡ p = omega arith in
    subst (Has (positions_with f n rules)) z (has_place rules 0 f n p at.below (is_over-same (rule_at rules p) f n at.root at.many))

-- and what is listed is such a place
pub has_rule_place : (rules : List (Rule ℕ)) (f n p : ℕ) → Has (positions_with f n rules) p → IsRulePlace rules f n p
has_rule_place rules f n p h =
    let at = at_has (positions_with f n rules) p 0 h in
    subst (IsRulePlace rules f n) at.2 (rule_place rules (positions_with f n rules) f n at.0 refl at.1)
