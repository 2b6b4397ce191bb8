-- The rules that have through costs, as they are taken one by one.
use Rattle.std.specs.Prelude.{◌≡◌, ℕ, List, [], ◌∷◌, ◌++◌, map, Option, None, Some}
use Rattle.std.specs.Option.{is_some}
use Rattle.std.proofs.Common.{ap, sym, ◌∙◌}
use Rattle.std.proofs.lemmas.List.{map-append}
use Rattle.tib_grammar.specs.declared.Rule.{Rule}
use Rattle.tib_inside.specs.Settling.{costs_in}
use Rattle.tib_prune.specs.Outside.{through}
use Rattle.tib_prune.proofs.Kept.{kept_on, left_out, all_taken}
use Rattle.tib_trim.specs.Keeping.{AreFiltered}

module _ (product : ℕ → ℕ → ℕ) (insides outsides : List (Option ℕ)) where
  abbrev cost_of : Rule ℕ → Option ℕ
  cost_of r = through product (costs_in insides) (costs_in outsides) r

  -- at first none is taken
  pub filtered_none : (kept : List (Rule ℕ)) (costs : List ℕ) → kept ≡ [] → costs ≡ [] → AreFiltered product insides outsides [] kept costs
  filtered_none kept costs k c = record { are_rules = k; are_costs = ap (map Some) c ∙ ap (map cost_of) (sym k) }

  -- one more has a through cost
  pub filtered_more :
      (taken kept new : List (Rule ℕ)) (costs more : List ℕ) (r : Rule ℕ) (c : ℕ) → AreFiltered product insides outsides taken kept costs → Some c ≡ cost_of r → new ≡ kept ++ r ∷ [] → more ≡ costs ++ c ∷ [] →
      AreFiltered product insides outsides (taken ++ r ∷ []) new more
  filtered_more taken kept new costs more r c f e n m = record {
    are_rules = kept_on (λ x. is_some (cost_of x)) taken r kept new f.are_rules (ap is_some (sym e)) n;
    are_costs = ap (map Some) m
        ∙ map-append Some costs (c ∷ [])
        ∙ ap (λ xs. xs ++ Some c ∷ []) f.are_costs
        ∙ ap (λ x. map cost_of kept ++ x ∷ []) e
        ∙ sym (map-append cost_of kept (r ∷ []))
        ∙ ap (map cost_of) (sym n);
  }

  -- or it has none
  pub filtered_out : (taken kept : List (Rule ℕ)) (costs : List ℕ) (r : Rule ℕ) → AreFiltered product insides outsides taken kept costs → None ≡ cost_of r → AreFiltered product insides outsides (taken ++ r ∷ []) kept costs
  filtered_out taken kept costs r f e = record {
    are_rules = left_out (λ x. is_some (cost_of x)) taken r kept f.are_rules (ap is_some (sym e));
    are_costs = f.are_costs;
  }

  -- where none is left, all were taken
  pub filtered_all :
      (rules taken rest kept : List (Rule ℕ)) (costs : List ℕ) → rules ≡ taken ++ rest → rest ≡ [] → AreFiltered product insides outsides taken kept costs → AreFiltered product insides outsides rules kept costs
  filtered_all rules taken rest kept costs whole empty f = record {
    are_rules = all_taken (λ x. is_some (cost_of x)) rules taken rest kept whole empty f.are_rules;
    are_costs = f.are_costs;
  }
