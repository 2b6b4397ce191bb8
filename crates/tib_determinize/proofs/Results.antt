-- Facts of results.
use Rattle.std.specs.Prelude.{OnOk, IfSome}
use Rattle.std.proofs.Common.{◌≡◌, ap, ◌∙◌, subst, Result, Ok, Err, Option, Some}

-- a weaker fact on Ok
pub on_ok : {A E : Type 0} (r : Result A E) (P Q : Type 0) → OnOk r P → (P → Q) → OnOk r Q
on_ok (Ok a) P Q h f = f h
on_ok (Err e) P Q h f = tt

err_same : {A E : Type 0} (a b : E) → ◌≡◌ {A = Result A E} (Err a) (Err b) → a ≡ b
err_same a b e = cc

-- an error that is passed on
pub err_is : {A B E : Type 0} (r : Result B E) (fault other : E) → r ≡ Err fault → ◌≡◌ {A = Result A E} (Err fault) (Err other) → r ≡ Err other
err_is r fault other is e = is ∙ ap Err (err_same fault other e)

-- what holds of a value that is there
pub if_some : {A : Type 0} (o : Option A) (P : A → Type 0) → IfSome o P → (a : A) → o ≡ Some a → P a
if_some o P h a e = subst (λ x. IfSome x P) e h
