-- The marked rules are moved one by one.
use Rattle.std.specs.Prelude.{◌≡◌, ℕ, ◌+◌, ◌<◌, ◌⊎◌, List, [], ◌∷◌, ◌++◌, length, map, Bool, true, false, refl, if◌then◌else◌}
use Rattle.std.proofs.Common.{suc, arith, ap, sym, ◌∙◌, subst, inl, inr, get_or, length-append}
use Rattle.std.proofs.lemmas.List.{map-append, get_or_at}
use Rattle.tib_tree.specs.Trees.{only}
use Rattle.tib_grammar.specs.Sides.{HolesAreLeaves}
use Rattle.tib_grammar.specs.Run.{rule_at, no_rule}
use Rattle.tib_grammar.specs.Range.{IsInRange, AreInRange}
use Rattle.tib_grammar.specs.GrammarOf.{named_rule}
use Rattle.tib_grammar.specs.Renaming.{number_in}
use Rattle.tib_grammar.specs.declared.Rule.{Rule}
use Rattle.tib_inside.specs.Reaching.{chosen, AreMoved}

-- the rules that were taken from a list, those that are left, and what was moved
pub record IsMoving (rules : List (Rule ℕ)) (marks : List Bool) (numbers : List ℕ) (taken rest : List (Rule ℕ)) (place : ℕ) (moved : List (Rule ℕ)) : Type 0 where
  pub whole : rules ≡ taken ++ rest
  pub counted : length taken ≡ place
  pub are_moved : AreMoved rules marks numbers place moved

pub nothing_moved : (rules : List (Rule ℕ)) (marks : List Bool) (numbers : List ℕ) → IsMoving rules marks numbers [] rules 0 []
nothing_moved rules marks numbers = record {
  whole = refl;
  counted = refl;
  are_moved = record { are = refl; leaves = λ n h. absurd (omega arith) };
}

last : (n k : ℕ) → n < k + 1 → (n < k) ⊎ (n ≡ k)
last n k h = grind arith

append_one : {A : Type 0} (xs : List A) (x : A) (ys : List A) → xs ++ x ∷ ys ≡ (xs ++ x ∷ []) ++ ys
append_one [] x ys = refl
append_one (y ∷ xs) x ys = ap (λ zs. y ∷ zs) (append_one xs x ys)

chosen_next : (test : ℕ → Bool) (k : ℕ) → chosen test (k + 1) ≡ (if test k then chosen test k ++ k ∷ [] else chosen test k)
chosen_next test k = let e : k + 1 ≡ suc k = omega arith in ap (chosen test) e

module _
    (rules : List (Rule ℕ)) (marks : List Bool) (numbers : List ℕ) (taken rest : List (Rule ℕ)) (place : ℕ) (moved : List (Rule ℕ)) (now : IsMoving rules marks numbers taken rest place moved) (r : Rule ℕ)
    (others : List (Rule ℕ)) (next : rest ≡ r ∷ others) where
  parts : rules ≡ taken ++ r ∷ others
  parts = now.whole ∙ ap (λ xs. taken ++ xs) next

  pub place_below : place < length rules
  place_below = omega (arith, now.counted, ap length parts, length-append taken (r ∷ others))

  pub rule_here : rule_at rules place ≡ r
  rule_here = ap (λ xs. rule_at xs place) parts ∙ get_or_at taken r others no_rule place now.counted

  pub here_in_range : (n : ℕ) → AreInRange n rules → IsInRange n r
  here_in_range n range = subst (IsInRange n) rule_here (range place place_below)

  whole_on : rules ≡ (taken ++ r ∷ []) ++ others
  whole_on = parts ∙ append_one taken r others

  counted_on : length (taken ++ r ∷ []) ≡ place + 1
  counted_on = omega (arith, length-append taken (r ∷ []), now.counted)

  -- a marked rule is moved
  pub moved_on : get_or marks place false ≡ true → HolesAreLeaves (only r.right) → IsMoving rules marks numbers (taken ++ r ∷ []) others (place + 1) (moved ++ named_rule (number_in numbers) r ∷ [])
  moved_on m l = record {
    whole = whole_on;
    counted = counted_on;
    are_moved = record {
      are = ap (λ xs. xs ++ named_rule (number_in numbers) r ∷ []) now.are_moved.are
          ∙ ap (λ s. map (λ n. named_rule (number_in numbers) (rule_at rules n)) (chosen (λ i. get_or marks i false) place) ++ named_rule (number_in numbers) s ∷ []) (sym rule_here)
          ∙ sym (map-append (λ n. named_rule (number_in numbers) (rule_at rules n)) (chosen (λ i. get_or marks i false) place) (place ∷ []))
          ∙ ap (λ b. map (λ n. named_rule (number_in numbers) (rule_at rules n)) (if b then chosen (λ i. get_or marks i false) place ++ place ∷ [] else chosen (λ i. get_or marks i false) place)) (sym m)
          ∙ ap (map (λ n. named_rule (number_in numbers) (rule_at rules n))) (sym (chosen_next (λ i. get_or marks i false) place));
      leaves = λ n h k. elim (last n place h) [
        | inl b ↦ now.are_moved.leaves n b k
        | inr e ↦ subst (λ (s : Rule ℕ). HolesAreLeaves (only s.right)) (sym rule_here ∙ ap (rule_at rules) (sym e)) l
      ];
    };
  }

  -- one that is not marked is left out
  pub left_out : get_or marks place false ≡ false → IsMoving rules marks numbers (taken ++ r ∷ []) others (place + 1) moved
  left_out m = record {
    whole = whole_on;
    counted = counted_on;
    are_moved = record {
      are = now.are_moved.are
          ∙ ap (λ b. map (λ n. named_rule (number_in numbers) (rule_at rules n)) (if b then chosen (λ i. get_or marks i false) place ++ place ∷ [] else chosen (λ i. get_or marks i false) place)) (sym m)
          ∙ ap (map (λ n. named_rule (number_in numbers) (rule_at rules n))) (sym (chosen_next (λ i. get_or marks i false) place));
      leaves = λ n h k. elim (last n place h) [
        | inl b ↦ now.are_moved.leaves n b k
        | inr e ↦ let bad : true ≡ false = sym k ∙ ap (λ i. get_or marks i false) e ∙ m in absurd (cc bad)
      ];
    };
  }

-- all rules were taken
pub all_moved :
    (rules : List (Rule ℕ)) (marks : List Bool) (numbers : List ℕ) (taken rest : List (Rule ℕ)) (place : ℕ) (moved : List (Rule ℕ)) → IsMoving rules marks numbers taken rest place moved → rest ≡ [] →
    AreMoved rules marks numbers (length rules) moved
all_moved rules marks numbers taken rest place moved now none =
    let long : place ≡ length rules = omega (arith, now.counted, ap length now.whole, length-append taken rest, ap length none) in
    subst (λ n. AreMoved rules marks numbers n moved) long now.are_moved
