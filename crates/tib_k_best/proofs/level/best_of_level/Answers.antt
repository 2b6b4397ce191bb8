use Rattle.std.specs.Prelude.{ℕ, List, length}
use Rattle.std.proofs.Common.{arith, ap, sym, subst}
use Rattle.tib_grammar.specs.Forms.{AreNormal}
use Rattle.tib_grammar.specs.Range.{AreInRange}
use Rattle.tib_grammar.specs.declared.Rule.{Rule}
use Rattle.tib_grammar_file.specs.Printed.{AreLabelled}
use Rattle.tib_ranked_trees.specs.Levels.{IsOrderly}
use Rattle.tib_k_best.proofs.Levelled.{level_few, level_labelled, level_normal, level_orderly, level_range}
use Rattle.tib_k_best.proofs.level.best_of_level.Goals as goal

pub best_of_useful-requires-clause-few : goal.best_of_useful-requires-clause-few
best_of_useful-requires-clause-few g c = omega (arith, c.requires.few, level_few c.args.cost c.args.rules.now, ap (λ (rs : List (Rule ℕ)). length rs) c.in-Ok.ensures)

pub best_of_useful-requires-clause-normal : goal.best_of_useful-requires-clause-normal
best_of_useful-requires-clause-normal g c = subst AreNormal (sym c.in-Ok.ensures) (level_normal c.args.cost c.args.rules.now c.requires.normal)

pub best_of_useful-requires-clause-range : goal.best_of_useful-requires-clause-range
best_of_useful-requires-clause-range g c = subst (AreInRange c.args.states) (sym c.in-Ok.ensures) (level_range c.args.cost c.args.rules.now c.args.states c.requires.range)

pub best_of_useful-requires-clause-labelled : goal.best_of_useful-requires-clause-labelled
best_of_useful-requires-clause-labelled g c =
    subst (AreLabelled (length c.args.labels.now)) (sym c.in-Ok.ensures) (level_labelled c.args.cost c.args.rules.now (length c.args.labels.now) c.requires.labelled)

pub best_of_useful-requires-clause-orderly : goal.best_of_useful-requires-clause-orderly
best_of_useful-requires-clause-orderly g c = subst (IsOrderly g.S.Semiring.product) (sym c.in-Ok.ensures) (level_orderly g.S.Semiring.product c.args.cost c.args.rules.now)
