use Rattle.std.proofs.Common.{arith}
use Rattle.tib_normal.proofs.Forming.{form_same}
use Rattle.tib_normal.proofs.laws.parts_are_one.Goals as goal

pub returns : goal.returns
returns g c states rules m xs n ys f h =
    omega (arith, form_same g.S.Semiring.product states rules m n xs ys f h, form_same g.S.Semiring.product states rules n m ys xs h f)
