-- What a call returns, handed on by the function that returns it as it is.
use Rattle.std.specs.Prelude.{Err, Result, IfOk}
use Rattle.std.proofs.Common.{Ok}

-- where four facts hold of a value that is there, so does what follows from all of them
pub ok_four : {T E : Type 0} (r : Result T E) (P Q R S Z : T → Type 0) → ((x : T) → P x → Q x → R x → S x → Z x) → IfOk r P → IfOk r Q → IfOk r R → IfOk r S → IfOk r Z
ok_four (Ok x) P Q R S Z f p q r s = f x p q r s
ok_four (Err e) P Q R S Z f p q r s = tt
