-- Laws of results.
use Rattle.std.specs.Prelude.{◌≡◌, Err, Result, IfOk}
use Rattle.std.proofs.Common.{Ok}

-- where two facts hold of a value that is there, so does what follows from both
pub ok_both : {T E : Type 0} (r : Result T E) (P Q R : T → Type 0) → ((x : T) → P x → Q x → R x) → IfOk r P → IfOk r Q → IfOk r R
ok_both (Ok x) P Q R f h k = f x h k
ok_both (Err e) P Q R f h k = tt

-- errors are the same where the results with them are
pub err_same : {T E : Type 0} (f g : E) → ◌≡◌ {A = Result T E} (Err f) (Err g) → f ≡ g
err_same f g e = cc
