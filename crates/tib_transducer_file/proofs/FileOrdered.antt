-- A transducer whose states come in order is read back unchanged.
use Rattle.tib_cost.specs.declared.Scale.{Scale}
use Rattle.std.proofs.Common.{◌≡◌, ℕ, ◌+◌, ◌<◌, ◌≤◌, inl, inr, List, [], ◌∷◌, ◌++◌, length, get_or, take, refl, ap, sym, ◌∙◌, subst, arith, suc}
use Rattle.std.specs.Prelude.{map, Contains}
use Rattle.std.proofs.lemmas.List.{take_more, take_all}
use Rattle.tib_lex.specs.Lists.{Has, Each, Distinct}
use Rattle.tib_tree.specs.Grows.{AddsAll}
use Rattle.tib_grammar.specs.Range.{AllBelow}
use Rattle.tib_grammar.proofs.Below.{below_append}
use Rattle.tib_grammar_file.proofs.PrintedSorted.{names_own, held, is_new}
use Rattle.tib_transducer.specs.Rules.{states_in}
use Rattle.tib_transducer.specs.declared.TransducerRule.{TransducerRule}
use Rattle.tib_transducer_file.specs.TransducerText.{TransducerText}
use Rattle.tib_transducer_file.specs.ByName.{states_of, ComeInOrder, OrderedPrintsBack}
use Rattle.tib_transducer_file.specs.Printed.{transducer_text}
use Rattle.tib_transducer_file.proofs.Fitting.{IsGood, are_good}
use Rattle.tib_transducer_file.proofs.FileBack.{prints_as}
use Rattle.tib_transducer_file.proofs.RulesBack.{rules_own}

-- The first k names have been seen, and each later one is among the states that follow.
record IsSeen (names : List (List ℕ)) (qs : List ℕ) (k : ℕ) : Type 0 where
  few : k ≤ length names
  range : AllBelow (length names) qs
  all : (q : ℕ) → k ≤ q → q < length names → Has qs q

later : (p : ℕ) (qs : List ℕ) (q : ℕ) → (p ≡ q → ⊥) → Has (p ∷ qs) q → Has qs q
later p qs q other (inl e) = absurd (other e)
later p qs q other (inr h) = h

module _ (names : List (List ℕ)) (apart : Distinct names) where
  all_seen : (k : ℕ) → IsSeen names [] k → names ≡ take k names
  all_seen k s = sym (take_all k names (full k (length names) (λ h. s.all k (omega arith) h)))
    where
      full : (k n : ℕ) → (k < n → ⊥) → n ≤ k
      full k n h = grind arith

  added : (qs : List ℕ) (k : ℕ) → ComeInOrder k qs → IsSeen names qs k → AddsAll (take k names) (map (λ q. get_or names q []) qs) names
  added [] k o s = all_seen k s
  added (q ∷ qs) k (inl (low, o)) s = (
    take k names,
    inl (held names q k low s.few, refl),
    added qs k o (record { few = s.few; range = s.range.1; all = λ p h b. later q qs p (λ e. omega arith) (s.all p h b) }),
  )
  added (q ∷ qs) k (inr (e, o)) s =
      let within : k < length names = omega (arith, s.range.0, e) in
      let grown : take (suc k) names ≡ take k names ++ get_or names q [] ∷ [] =
      ap (λ (n : ℕ). take n names) (next k) ∙ take_more names k [] within ∙ ap (λ (p : ℕ). take k names ++ get_or names p [] ∷ []) (sym e) in (
        take (suc k) names,
        inr (λ c. is_new names apart k within (subst (λ (p : ℕ). Contains (take k names) (get_or names p [])) e c), grown),
        added qs (suc k) o (record { few = omega arith; range = s.range.1; all = λ p h b. later q qs p (λ f. omega (arith, e, f, h)) (s.all p (omega arith) b) }),
      )
    where
      next : (n : ℕ) → suc n ≡ n + 1
      next n = omega arith

  all_added : (qs : List ℕ) → 0 < length names → ComeInOrder 1 qs → IsSeen names qs 1 → AddsAll [] (get_or names 0 [] ∷ map (λ q. get_or names q []) qs) names
  all_added qs some o s = (take 1 names, inr (λ c. omega (arith, c.1), take_more names 0 [] some), added qs 1 o s)

states_below : (scale : Scale) (names labels : List (List ℕ)) (rules : List (TransducerRule ℕ)) → Each (IsGood scale names labels) rules → AllBelow (length names) (states_of rules)
states_below scale names labels [] g = tt
states_below scale names labels (r ∷ rules) g = (g.0.within.0, below_append (length names) (states_in r.right) (states_of rules) g.0.within.1 (states_below scale names labels rules g.1))

pub reads_ordered : OrderedPrintsBack
reads_ordered scale labels t h o =
    let seen : IsSeen t.names (states_of t.rules) 1 = record {
      few = omega (arith, h.start);
      range = states_below scale t.names labels t.rules (are_good scale labels t h);
      all = λ q low b. h.stand q (omega arith) b;
    } in
    subst (λ (rs : List (TransducerRule ℕ)). TransducerText scale labels (transducer_text scale labels t) (record { names = t.names; rules = rs })) (rules_own t.rules)
    (prints_as scale labels t t.names (λ q. q) h (all_added t.names h.names.distinct (states_of t.rules) h.start o seen) (names_own t.names))
