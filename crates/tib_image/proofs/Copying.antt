-- The items of a side are not refused.
use Rattle.std.specs.Prelude.{◌≡◌}
use Rattle.std.proofs.Common.{Err}
use Rattle.std.specs.declared.result.Result.{Result}
use Rattle.tib_tree.specs.declared.preorder.ShapeError.{ShapeError}
use Rattle.tib_tree.specs.declared.preorder.ShapeError.TheVariants.{NotATree, OutOfMemory}

pub no_fault :
    {T S : Type 0} (r : Result T ShapeError) (Is : S → Type 0) (e : ShapeError) → r ≡ Err e → (r ≡ Err NotATree → (s : S) → Is s → ⊥) → (r ≡ Err OutOfMemory → ⊥) → (s : S) → Is s → ⊥
no_fault r Is NotATree at not_a_tree no_memory s is = not_a_tree at s is
no_fault r Is OutOfMemory at not_a_tree no_memory s is = no_memory at
