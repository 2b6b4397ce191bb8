use Rattle.std.specs.Prelude.{◌∷◌, ◌++◌, [], refl}
use Rattle.std.proofs.Common.{arith, ap, ◌∙◌}
use Rattle.std.proofs.lemmas.Fmt.{decimal_step, decimal_digit}
use Rattle.tib_tree.specs.Trees.{none, tree}
use Rattle.tib_rulewise.proofs.examples.derivations_compute.Goals as goal

pub returns-clause-text : goal.returns-clause-text
returns-clause-text c = ap (λ ds. 114 ∷ ds) (decimal_step 12 (omega arith) (omega arith) ∙ ap (λ ds. ds ++ 50 ∷ []) (decimal_digit 1 (omega arith)))

pub returns-clause-cost : goal.returns-clause-cost
returns-clause-cost c = record {
  run = tree 0 (tree 1 (tree 2 none none) none) none;
  is_run = (omega arith, refl, (omega arith, refl, (omega arith, refl, tt, tt), tt), tt);
  spells = refl;
  yielded = refl;
  costs = refl;
}
