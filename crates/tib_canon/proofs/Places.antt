-- Rules taken from their places.
use Rattle.std.proofs.Common.{◌≡◌, ℕ, ◌+◌, ◌<◌, ◌≤◌, List, [], ◌∷◌, ◌++◌, length, map, take, set, get_or, refl, ap, sym, ◌∙◌, subst, arith, zero, suc, Option}
use Rattle.std.specs.Prelude.{Some, None}
use Rattle.std.proofs.lemmas.List.{length-map, get_or-map, get_or-set_other}
use Rattle.tib_lex.specs.Lists.{Each, Distinct}
use Rattle.tib_grammar.specs.Run.{rule_at, no_rule}
use Rattle.tib_grammar.specs.declared.Rule.{Rule}
use Rattle.tib_canon.proofs.Permuting.{distinct_at}
use Rattle.tib_canon.proofs.Pieces.{mapped_more}
use Rattle.tib_canon.specs.declared.lines.Line.{Line}
use Rattle.tib_lex.proofs.Members.{has_at, each_has}

module _ (rules : List (Rule ℕ)) (lines : List Line) where
  abbrev pub position_at : Line → ℕ → ℕ
  position_at spare i = (get_or lines i spare).position

  -- the rules of the lines from a place on are in their places
  abbrev pub AreThere : List (Option (Rule ℕ)) → ℕ → Type 0
  AreThere places k = (i : ℕ) (spare : Line) → k ≤ i → i < length lines → get_or places (position_at spare i) None ≡ Some (rule_at rules (position_at spare i))

-- what is at a place does not depend on what is past the end
pub any_spare : {A : Type 0} (xs : List A) (k : ℕ) (a b : A) → k < length xs → get_or xs k a ≡ get_or xs k b
any_spare [] k a b h = absurd (omega arith)
any_spare (x ∷ xs) zero a b h = refl
any_spare (x ∷ xs) (suc k) a b h = any_spare xs k a b (omega arith)

module _ (rules : List (Rule ℕ)) (lines : List Line) (below : Each (λ (l : Line). l.position < length rules) lines) (apart : Distinct (map (λ (l : Line). l.position) lines)) where
  pub all_there : (places : List (Option (Rule ℕ))) → places ≡ map (λ (r : Rule ℕ). Some r) rules → AreThere rules lines places 0
  all_there places e i spare low h =
      let within : (get_or lines i spare).position < length rules = each_has (λ (l : Line). l.position < length rules) lines (get_or lines i spare) below (has_at lines i spare h) in
      ap (λ (ps : List (Option (Rule ℕ))). get_or ps (get_or lines i spare).position None) e ∙ get_or-map (λ (r : Rule ℕ). Some r) rules (get_or lines i spare).position no_rule None within

  -- the position of the line at a place
  abbrev pub IsNext : ℕ → ℕ → Type 0
  IsNext k p = (spare : Line) → p ≡ (get_or lines k spare).position

  pub others_there :
      (places now : List (Option (Rule ℕ))) (k p : ℕ) → AreThere rules lines places k → k < length lines → IsNext k p → now ≡ set places p None → AreThere rules lines now (k + 1)
  others_there places now k p there h is e i spare low within =
      let other : (get_or lines i spare).position ≡ p → ⊥ = λ same.
      distinct_at (map (λ (l : Line). l.position) lines) 0 k i apart (omega arith) (omega (arith, length-map lines (λ (l : Line). l.position)))
      (get_or-map (λ (l : Line). l.position) lines k spare 0 h ∙ sym (is spare) ∙ sym same ∙ sym (get_or-map (λ (l : Line). l.position) lines i spare 0 within)) in
      ap (λ (ps : List (Option (Rule ℕ))). get_or ps (get_or lines i spare).position None) e
      ∙ get_or-set_other places p (get_or lines i spare).position None None other
      ∙ there i spare (omega arith) within

  -- the rule that is taken is that of the next line
  pub taken_on :
      (places : List (Option (Rule ℕ))) (k p : ℕ) (taken now : List (Rule ℕ)) (rule : Rule ℕ) → AreThere rules lines places k → k < length lines → IsNext k p → taken ≡ map (λ (l : Line). rule_at rules l.position) (take k lines) →
      get_or places p None ≡ Some rule → now ≡ taken ++ rule ∷ [] → now ≡ map (λ (l : Line). rule_at rules l.position) (take (k + 1) lines)
  taken_on places k p taken now rule there h is before out e =
      let spare : Line = some_line k lines h in
      let line : Line = get_or lines k spare in
      let stood : get_or places p None ≡ Some (rule_at rules p) = subst (λ (q : ℕ). get_or places q None ≡ Some (rule_at rules q)) (sym (is spare)) (there k spare (omega arith) h) in
      let same : rule ≡ rule_at rules line.position = same_some rule (rule_at rules p) (sym out ∙ stood) ∙ ap (rule_at rules) (is spare) in
      e ∙ ap (λ (rs : List (Rule ℕ)). rs ++ rule ∷ []) before ∙ ap (λ (r : Rule ℕ). map (λ (l : Line). rule_at rules l.position) (take k lines) ++ r ∷ []) same
      ∙ sym (mapped_more (λ (l : Line). rule_at rules l.position) lines spare k h)
    where
      some_line : (k : ℕ) (ls : List Line) → k < length ls → Line
      some_line k [] h = absurd (omega (arith, h))
      some_line k (l ∷ ls) h = l

      same_some : (r s : Rule ℕ) → Some r ≡ Some s → r ≡ s
      same_some r s e = cc
