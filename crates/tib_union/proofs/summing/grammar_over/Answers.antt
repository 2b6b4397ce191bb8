use Rattle.std.proofs.Common.{◌≡◌, ◌<◌, ℕ, length, ap, sym, ◌∙◌, subst, refl}
use Rattle.tib_canon.proofs.StateNames.{length-names_of}
use Rattle.tib_grammar.specs.Range.{AreInRange}
use Rattle.tib_union.proofs.summing.grammar_over.Goals as goal

pub unreachable-requires : goal.unreachable-requires
unreachable-requires g c =
    let long : length c.in_ok-names.names ≡ c.args.states = ap length c.in_ok-names.ensures ∙ length-names_of c.args.states in
    c.in-None.ensures.none refl (subst (λ (n : ℕ). 0 < n) (sym long) c.requires.some) (subst (λ (n : ℕ). AreInRange n c.args.rules.items) (sym long) c.requires.range)
