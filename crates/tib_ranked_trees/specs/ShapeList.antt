-- A set of shapes as the list of them.
use Rattle.std.specs.Prelude.{ℕ, ◌<◌, List, map, length}
use Rattle.tib_tree.specs.Grows.{AreDistinct}
use Rattle.tib_ranked_trees.specs.declared.shape_set.ShapeSet.TheInside.{Inside}

abbrev pub shapes_of : Inside → List (List ℕ)
shapes_of l = map (λ t. t.items) l.shapes.keys

-- no shape is there twice, and each has a number of 32 bits
pub record IsShapeSet (l : Inside) : Type 0 where
  pub few : length l.shapes.keys < 4294967296
  pub distinct : AreDistinct (shapes_of l)
