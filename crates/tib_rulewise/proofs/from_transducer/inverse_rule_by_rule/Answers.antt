use Rattle.std.proofs.Common.{◌≡◌, ℕ, List, ◌<◌, arith, ◌∙◌, length, map, refl, sym, ap, subst}
use Rattle.std.proofs.lemmas.List.{length-map}
use Rattle.tib_transducer.specs.Range.{AreShaped, AreWithin}
use Rattle.tib_transducer.specs.declared.TransducerRule.{TransducerRule}
use Rattle.tib_rulewise.specs.Inverse.{inverse_rule}
use Rattle.tib_rulewise.specs.Invertible.{AreInvertible}
use Rattle.tib_rulewise.proofs.Inverting.{inverse_is, inverses_shaped, inverses_within}
use Rattle.tib_rulewise.proofs.from_transducer.inverse_rule_by_rule.Goals as goal

pub inverse_rules-requires : goal.inverse_rules-requires
inverse_rules-requires g c =
    let same : c.deref.result.now ≡ c.args.transducer.rules = c.deref.ensures.value ∙ c.into_parts-names.ensures.rules in
    record {
      shaped = subst (λ (rs : List (TransducerRule ℕ)). AreShaped rs) (sym same) c.is_sound.ensures.shaped;
      invertible = subst (λ (rs : List (TransducerRule ℕ)). AreInvertible rs) (sym same) c.requires;
    }

pub new-requires : goal.new-requires
new-requires g c =
    omega (arith, ap length c.in_ok-inverses.ensures, length-map c.deref.result.now inverse_rule, ap length (c.deref.ensures.value ∙ c.into_parts-names.ensures.rules), c.is_sound.ensures.few_rules)

pub unreachable-requires : goal.unreachable-requires
unreachable-requires g c =
    let made : c.in_ok-inverses.inverses.items ≡ map inverse_rule c.args.transducer.rules = c.in_ok-inverses.ensures ∙ ap (map inverse_rule) (c.deref.ensures.value ∙ c.into_parts-names.ensures.rules) in
    let names = c.into_parts-names.ensures.names in
    c.in-None.ensures.none refl (subst (λ (ns : List (List ℕ)). 0 < length ns) (sym names) c.is_sound.ensures.start)
    (subst (λ (ns : List (List ℕ)). AreWithin (length ns) c.in_ok-inverses.inverses.items) (sym names)
    (subst (λ (rs : List (TransducerRule ℕ)). AreWithin (length c.args.transducer.names) rs) (sym made)
    (inverses_within c.args.transducer.rules c.is_sound.ensures.shaped c.requires (length c.args.transducer.names) c.is_sound.ensures.range)))
    (subst (λ (rs : List (TransducerRule ℕ)). AreShaped rs) (sym made) (inverses_shaped c.args.transducer.rules c.is_sound.ensures.shaped c.requires))

pub returns-clause-inverse : goal.returns-clause-inverse
returns-clause-inverse g c =
    inverse_is c.args.transducer c.in-Some.inverse (c.in-Some.ensures.names ∙ c.into_parts-names.ensures.names)
    (c.in-Some.ensures.rules ∙ c.in_ok-inverses.ensures ∙ ap (map inverse_rule) (c.deref.ensures.value ∙ c.into_parts-names.ensures.rules))
