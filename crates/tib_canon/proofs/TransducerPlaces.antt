-- Rules taken from their places.
use Rattle.std.proofs.Common.{◌≡◌, ℕ, ◌+◌, ◌<◌, ◌≤◌, List, [], ◌∷◌, ◌++◌, length, map, take, set, get_or, ap, sym, ◌∙◌, arith, Option}
use Rattle.std.specs.Prelude.{Some, None}
use Rattle.std.proofs.lemmas.List.{ext_get_or, get_or-map, get_or-set_other, length-map}
use Rattle.tib_lex.specs.Lists.{Distinct}
use Rattle.tib_transducer.specs.Rules.{transducer_rule, no_rule}
use Rattle.tib_transducer.specs.declared.TransducerRule.{TransducerRule}
use Rattle.tib_canon.proofs.Permuting.{distinct_at}
use Rattle.tib_canon.proofs.Pieces.{mapped_more}

-- the rules of the positions from a place on are in their places
abbrev pub AreThere : List (TransducerRule ℕ) → List ℕ → List (Option (TransducerRule ℕ)) → ℕ → Type 0
AreThere rules positions places k = (i : ℕ) → k ≤ i → i < length positions → get_or places (get_or positions i 0) None ≡ Some (transducer_rule rules (get_or positions i 0))

module _ (rules : List (TransducerRule ℕ)) (positions : List ℕ) (below : (i : ℕ) → i < length positions → get_or positions i 0 < length rules) (apart : Distinct positions) where
  pub all_there : (places : List (Option (TransducerRule ℕ))) → places ≡ map (λ (r : TransducerRule ℕ). Some r) rules → AreThere rules positions places 0
  all_there places e i low h =
      ap (λ (ps : List (Option (TransducerRule ℕ))). get_or ps (get_or positions i 0) None) e ∙ get_or-map (λ (r : TransducerRule ℕ). Some r) rules (get_or positions i 0) no_rule None (below i h)

  pub others_there :
      (places now : List (Option (TransducerRule ℕ))) (k : ℕ) → AreThere rules positions places k → k < length positions → now ≡ set places (get_or positions k 0) None → AreThere rules positions now (k + 1)
  others_there places now k there h e i low within =
      let other : get_or positions i 0 ≡ get_or positions k 0 → ⊥ = λ same. distinct_at positions 0 k i apart (omega arith) within (sym same) in
      ap (λ (ps : List (Option (TransducerRule ℕ))). get_or ps (get_or positions i 0) None) e
      ∙ get_or-set_other places (get_or positions k 0) (get_or positions i 0) None None other
      ∙ there i (omega arith) within

  -- the rule that is taken is that of the next position
  pub taken_on :
      (places : List (Option (TransducerRule ℕ))) (k : ℕ) (taken now : List (TransducerRule ℕ)) (rule : TransducerRule ℕ) → AreThere rules positions places k → k < length positions →
      taken ≡ map (transducer_rule rules) (take k positions) → get_or places (get_or positions k 0) None ≡ Some rule → now ≡ taken ++ rule ∷ [] → now ≡ map (transducer_rule rules) (take (k + 1) positions)
  taken_on places k taken now rule there h before out e =
      let same : rule ≡ transducer_rule rules (get_or positions k 0) = same_some rule (transducer_rule rules (get_or positions k 0)) (sym out ∙ there k (omega arith) h) in
      e ∙ ap (λ (rs : List (TransducerRule ℕ)). rs ++ rule ∷ []) before ∙ ap (λ (r : TransducerRule ℕ). map (transducer_rule rules) (take k positions) ++ r ∷ []) same
      ∙ sym (mapped_more (transducer_rule rules) positions 0 k h)
    where
      same_some : (r s : TransducerRule ℕ) → Some r ≡ Some s → r ≡ s
      same_some r s e = cc

  -- and there is one
  pub never_none : (places : List (Option (TransducerRule ℕ))) (k : ℕ) (o : Option (TransducerRule ℕ)) → AreThere rules positions places k → k < length positions → o ≡ get_or places (get_or positions k 0) None → o ≡ None → ⊥
  never_none places k o there h e n = let bad : None ≡ Some (transducer_rule rules (get_or positions k 0)) = sym n ∙ e ∙ there k (omega arith) h in cc

-- rules whose positions are the first ones, each in its place, are taken unchanged
pub in_place :
    (rules : List (TransducerRule ℕ)) (positions : List ℕ) → length positions ≡ length rules → ((i : ℕ) → i < length rules → get_or positions i 0 ≡ i) →
    rules ≡ map (transducer_rule rules) positions
in_place rules positions many each =
    ext_get_or no_rule rules (map (transducer_rule rules) positions) (omega (arith, many, length-map positions (transducer_rule rules)))
    (λ i h. sym (get_or-map (transducer_rule rules) positions i 0 no_rule (omega (arith, many, h)) ∙ ap (transducer_rule rules) (each i h)))
