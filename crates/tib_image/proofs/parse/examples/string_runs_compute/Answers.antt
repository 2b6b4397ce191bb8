use Rattle.std.specs.Prelude.{refl}
use Rattle.tib_tree.specs.Trees.{none, tree}
use Rattle.tib_image.proofs.parse.examples.string_runs_compute.Goals as goal

pub returns-clause-reads : goal.returns-clause-reads
returns-clause-reads c = (
  record {
    args = tree 1 none (tree 2 none none);
    bound = (tt, (tt, tt));
    filled = refl;
    below = (
      record { args = none; bound = tt; filled = refl; below = tt },
      (record { args = none; bound = tt; filled = refl; below = tt }, tt),
    );
  },
  tt,
)
