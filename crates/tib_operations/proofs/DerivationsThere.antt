-- A table that has the labels of the rules of a grammar, and the transducer of its derivations over
-- that table: neither is made where the text is printed.
use Rattle.std.specs.Prelude.{◌≡◌, ℕ, ◌+◌, ◌<◌, List, [], ◌∷◌, length, refl}
use Rattle.std.proofs.Common.{zero, suc, arith, ap, ◌∙◌, subst, inl, inr}
use Rattle.tib_lex.specs.Lists.{Has}
use Rattle.tib_tree.specs.Grows.{Grows, AddsAll, AreDistinct}
use Rattle.tib_grammar.specs.GrammarOf.{GrammarOf}
use Rattle.tib_grammar.specs.Run.{rule_at}
use Rattle.tib_grammar.specs.declared.Rule.{Rule}
use Rattle.tib_grammar_file.proofs.PrintedStates.{place, placed, gathered, all_added}
use Rattle.tib_strings.proofs.OverTables.{added_grows}
use Rattle.tib_transducer.specs.Rules.{transducer_rule}
use Rattle.tib_transducer.specs.TransducerOf.{TransducerOf}
use Rattle.tib_transducer.specs.declared.TransducerRule.{TransducerRule}
use Rattle.tib_transducer_file.proofs.OneByText.{all_added as stays_distinct}
use Rattle.tib_rulewise.specs.Derivations.{rule_text, rule_texts, derivation_rule, AreDerivationRules, IsDerivations}

texts_has : (n many i : ℕ) → i < many → Has (rule_texts n many) (rule_text (n + i))
texts_has n zero i b = absurd (omega (arith, b))
texts_has n (suc many) zero b = let e : n ≡ n + 0 = omega arith in inl (ap rule_text e)
texts_has n (suc many) (suc i) b =
    let e : suc n + i ≡ n + suc i = omega arith in
    inr (subst (λ (m : ℕ). Has (rule_texts (suc n) many) (rule_text m)) e (texts_has (suc n) many i (omega (arith, b))))

-- the rules of the derivations, over a table that has the labels of rules
module _ (all : List (List ℕ)) where
  abbrev derived_from : ℕ → List (Rule ℕ) → List (TransducerRule ℕ)
  derived_from n [] = []
  derived_from n (r ∷ rules) = derivation_rule (place all (rule_text n)) r ∷ derived_from (suc n) rules

  derived_long : (n : ℕ) (rules : List (Rule ℕ)) → length (derived_from n rules) ≡ length rules
  derived_long n [] = refl
  derived_long n (r ∷ rules) = ap suc (derived_long (suc n) rules)

  derived_at : (n : ℕ) (rules : List (Rule ℕ)) (i : ℕ) → i < length rules → transducer_rule (derived_from n rules) i ≡ derivation_rule (place all (rule_text (n + i))) (rule_at rules i)
  derived_at n [] i b = absurd (omega (arith, b))
  derived_at n (r ∷ rules) zero b = let e : n ≡ n + 0 = omega arith in ap (λ (m : ℕ). derivation_rule (place all (rule_text m)) r) e
  derived_at n (r ∷ rules) (suc i) b =
      let e : suc n + i ≡ n + suc i = omega arith in
      derived_at (suc n) rules i (omega (arith, b)) ∙ ap (λ (m : ℕ). derivation_rule (place all (rule_text m)) (rule_at rules i)) e

  are_derived : (rules : List (Rule ℕ)) → ((i : ℕ) → i < length rules → Has all (rule_text (suc i))) → AreDerivationRules all rules (derived_from 1 rules)
  are_derived rules has = record {
    many = derived_long 1 rules;
    each = λ i b.
        let e : 1 + i ≡ suc i = omega arith in
        record {
          root = place all (rule_text (suc i));
          named = placed all (rule_text (suc i)) (has i b);
          is = derived_at 1 rules i b ∙ ap (λ (m : ℕ). derivation_rule (place all (rule_text m)) (rule_at rules i)) e;
        };
  }

pub record AreThere (labels : List (List ℕ)) (g : GrammarOf) : Type 0 where
  pub all : List (List ℕ)
  pub transducer : TransducerOf
  pub grows : Grows labels all
  pub distinct : AreDistinct all
  pub adds : AddsAll labels (rule_texts 1 (length g.rules)) all
  pub derivations : IsDerivations all g transducer

pub are_there : (labels : List (List ℕ)) (g : GrammarOf) → AreDistinct labels → AreThere labels g
are_there labels g distinct =
    let texts : List (List ℕ) = rule_texts 1 (length g.rules) in
    let table = gathered labels (rule_texts 1 (length g.rules)) in
    let has : (i : ℕ) → i < length g.rules → Has table.0 (rule_text (suc i)) =
    λ i b.
    let e : 1 + i ≡ suc i = omega arith in
    all_added labels texts table.0 table.1 (rule_text (suc i)) (subst (λ (m : ℕ). Has (rule_texts 1 (length g.rules)) (rule_text m)) e (texts_has 1 (length g.rules) i b))
    in
    record {
      all = table.0;
      transducer = record { names = g.names; rules = derived_from table.0 1 g.rules };
      grows = added_grows labels texts table.0 table.1;
      distinct = stays_distinct labels texts table.0 table.1 distinct;
      adds = table.1;
      derivations = record { names = refl; rules = are_derived table.0 g.rules has };
    }
