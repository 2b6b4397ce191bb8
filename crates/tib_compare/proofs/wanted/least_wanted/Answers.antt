use Rattle.std.specs.Prelude.{◌≡◌, ◌+◌, List, ℕ, length}
use Rattle.std.proofs.Common.{arith, ap, sym, ◌∙◌, subst}
use Rattle.tib_grammar.specs.Forms.{AreNormal}
use Rattle.tib_grammar.specs.Range.{AreInRange}
use Rattle.tib_grammar.specs.declared.Rule.{Rule}
use Rattle.tib_grammar_file.specs.Printed.{AreLabelled}
use Rattle.tib_compare.specs.Wanted.{ArePriced, wanted}
use Rattle.tib_compare.proofs.Wanting.{wanted_normal, wanted_priced}
use Rattle.tib_compare.proofs.Labelling.{wanted_labelled, wanted_range, wanted_few}
use Rattle.tib_compare.proofs.Together.{can_raise}
use Rattle.tib_compare.proofs.wanted.least_wanted.Goals as goal

pub wanted_rules-requires-clause-raised : goal.wanted_rules-requires-clause-raised
wanted_rules-requires-clause-raised c = can_raise 1 (length c.args.marks.now) c.args.rules.now c.requires.normal c.requires.range (omega (arith, c.requires.many))

pub best_wanted-requires-clause-few : goal.best_wanted-requires-clause-few
best_wanted-requires-clause-few c =
    let e : c.deref.result.now ≡ wanted c.args.marks.now c.args.rules.now = c.deref.ensures.value ∙ c.in_ok-all.ensures in
    omega (arith, ap (λ (rs : List (Rule ℕ)). length rs) e, wanted_few c.args.marks.now c.args.rules.now c.requires.normal, c.requires.few)

pub best_wanted-requires-clause-normal : goal.best_wanted-requires-clause-normal
best_wanted-requires-clause-normal c =
    let e : c.deref.result.now ≡ wanted c.args.marks.now c.args.rules.now = c.deref.ensures.value ∙ c.in_ok-all.ensures in
    subst (λ (rs : List (Rule ℕ)). AreNormal rs) (sym e) (wanted_normal c.args.marks.now c.args.rules.now c.requires.normal)

pub best_wanted-requires-clause-range : goal.best_wanted-requires-clause-range
best_wanted-requires-clause-range c =
    let e : c.deref.result.now ≡ wanted c.args.marks.now c.args.rules.now = c.deref.ensures.value ∙ c.in_ok-all.ensures in
    subst (λ (rs : List (Rule ℕ)). AreInRange (length c.args.marks.now + 1) rs) (sym e)
    (wanted_range c.args.marks.now c.args.rules.now c.requires.normal (length c.args.marks.now) c.requires.range)

pub best_wanted-requires-clause-labelled : goal.best_wanted-requires-clause-labelled
best_wanted-requires-clause-labelled c =
    let e : c.deref.result.now ≡ wanted c.args.marks.now c.args.rules.now = c.deref.ensures.value ∙ c.in_ok-all.ensures in
    subst (λ (rs : List (Rule ℕ)). AreLabelled (length c.args.labels.now) rs) (sym e)
    (wanted_labelled c.args.marks.now c.args.rules.now c.requires.normal (length c.args.labels.now) c.requires.labelled)

pub best_wanted-requires-clause-priced : goal.best_wanted-requires-clause-priced
best_wanted-requires-clause-priced c =
    let e : c.deref.result.now ≡ wanted c.args.marks.now c.args.rules.now = c.deref.ensures.value ∙ c.in_ok-all.ensures in
    subst (λ (rs : List (Rule ℕ)). ArePriced rs) (sym e) (wanted_priced c.args.marks.now c.args.rules.now c.requires.normal)
