use Rattle.std.proofs.Common.{◌≡◌, ℕ, List, ◌<◌, arith, ◌∙◌, length, refl, sym, ap, subst}
use Rattle.tib_tree.specs.Grows.{AddsAll}
use Rattle.tib_grammar.specs.Range.{AreInRange}
use Rattle.tib_grammar.specs.declared.Rule.{Rule}
use Rattle.tib_rulewise.specs.Derivations.{rule_texts, AreDerivationRules}
use Rattle.tib_rulewise.proofs.DerivedRules.{all_shaped, all_within}
use Rattle.tib_rulewise.proofs.from_grammar.derivations_of.Goals as goal

pub derivation_rules-requires : goal.derivation_rules-requires
derivation_rules-requires g c = omega (arith, ap length (c.deref.ensures.value ∙ c.into_parts-names.ensures.rules), c.is_sound.ensures.few_rules)

pub new-requires : goal.new-requires
new-requires g c = omega (arith, c.in_ok-derived.ensures.rules.many, ap length (c.deref.ensures.value ∙ c.into_parts-names.ensures.rules), c.is_sound.ensures.few_rules)

pub unreachable-requires : goal.unreachable-requires
unreachable-requires g c =
    let same : c.deref.result.now ≡ c.args.grammar.rules = c.deref.ensures.value ∙ c.into_parts-names.ensures.rules in
    let names = c.into_parts-names.ensures.names in
    let range = subst (λ (rs : List (Rule ℕ)). AreInRange (length c.args.grammar.names) rs) (sym same) c.is_sound.ensures.range in
    c.in-None.ensures.none refl (subst (λ (ns : List (List ℕ)). 0 < length ns) (sym names) c.is_sound.ensures.start)
    (all_within c.derivation_rules.new.labels c.deref.result.now c.in_ok-derived.derived.items c.in_ok-derived.ensures.rules (length c.into_parts-names.result.0)
    (subst (λ (ns : List (List ℕ)). AreInRange (length ns) c.deref.result.now) (sym names) range))
    (all_shaped c.derivation_rules.new.labels c.deref.result.now c.in_ok-derived.derived.items c.in_ok-derived.ensures.rules)

pub returns-clause-derivations : goal.returns-clause-derivations
returns-clause-derivations g c = record {
  names = c.in-Some.ensures.names ∙ c.into_parts-names.ensures.names;
  rules = subst (AreDerivationRules c.derivation_rules.new.labels c.args.grammar.rules) (sym c.in-Some.ensures.rules)
      (subst (λ (rs : List (Rule ℕ)). AreDerivationRules c.derivation_rules.new.labels rs c.in_ok-derived.derived.items) (c.deref.ensures.value ∙ c.into_parts-names.ensures.rules) c.in_ok-derived.ensures.rules);
}

pub returns-clause-adds : goal.returns-clause-adds
returns-clause-adds g c =
    subst (λ (rs : List (Rule ℕ)). AddsAll c.args.labels.now (rule_texts 1 (length rs)) c.derivation_rules.new.labels) (c.deref.ensures.value ∙ c.into_parts-names.ensures.rules) c.in_ok-derived.ensures.adds
