-- What holds of two lists place by place, and what follows from it.
use Rattle.std.specs.Prelude.{List, [], ◌∷◌}
use Rattle.std.specs.List.{AllZip}

-- where one fact follows from another, it holds of the places at which the other does
pub follows : {A B : Type 0} (P Q : A → B → Type 0) (xs : List A) (ys : List B) → ((x : A) (y : B) → P x y → Q x y) → AllZip P xs ys → AllZip Q xs ys
follows P Q [] [] f a = tt
follows P Q [] (y ∷ ys) f a = absurd a
follows P Q (x ∷ xs) [] f a = absurd a
follows P Q (x ∷ xs) (y ∷ ys) f a = (f x y a.0, follows P Q xs ys f a.1)
