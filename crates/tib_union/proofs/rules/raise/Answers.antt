use Rattle.std.proofs.Common.{◌≡◌, ◌+◌, ℕ, List, length, ap, sym, ◌∙◌, subst}
use Rattle.tib_grammar.specs.Range.{AreInRange}
use Rattle.tib_grammar.specs.Renaming.{number_in}
use Rattle.tib_union.proofs.Raised.{raised_by}
use Rattle.tib_union.proofs.rules.raise.Goals as goal

pub rename_rules-requires : goal.rename_rules-requires
rename_rules-requires c = subst (λ (n : ℕ). AreInRange n c.args.rules.now) (sym (ap length c.deref.ensures.value ∙ c.in_ok-numbers.ensures.long)) c.requires.range

pub returns : goal.returns
returns c =
    c.rename_rules.ensures
    ∙ raised_by c.args.by c.args.states c.deref.result.now (λ q h. subst (λ (ns : List ℕ). number_in ns q ≡ c.args.by + q) (sym c.deref.ensures.value) (c.in_ok-numbers.ensures.each q h)) c.args.rules.now c.requires.range c.requires.leaves
