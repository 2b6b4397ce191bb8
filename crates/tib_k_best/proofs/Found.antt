-- What was found, or that nothing was.
use Rattle.std.specs.Prelude.{◌≡◌, Option, Some, None, IfSome, IfNone}
use Rattle.std.proofs.Common.{subst}

pub found_is : {A : Type 0} (P : A → Type 0) (o : Option A) (x : A) → o ≡ Some x → IfSome o P → P x
found_is P o x e h = subst (λ p. IfSome p P) e h

pub none_is : {A : Type 0} (P : Type 0) (o : Option A) → o ≡ None → IfNone o P → P
none_is P o e h = subst (λ p. IfNone p P) e h
