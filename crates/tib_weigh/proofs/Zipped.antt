-- Lists that agree place by place.
use Rattle.std.specs.Prelude.{List, [], ◌∷◌, ◌++◌, Result, Ok, Err, IfOk}
use Rattle.std.specs.List.{AllZip}

pub zip_more : {A B : Type 0} (R : A → B → Type 0) (xs : List A) (ys : List B) (x : A) (y : B) → AllZip R xs ys → R x y → AllZip R (xs ++ x ∷ []) (ys ++ y ∷ [])
zip_more R [] [] x y h r = (r, tt)
zip_more R [] (z ∷ ys) x y h r = absurd h
zip_more R (z ∷ xs) [] x y h r = absurd h
zip_more R (w ∷ xs) (z ∷ ys) x y h r = (h.0, zip_more R xs ys x y h.1 r)

pub ok_then : {A E : Type 0} (P Q : A → Type 0) (r : Result A E) → IfOk r P → ((a : A) → P a → Q a) → IfOk r Q
ok_then P Q (Ok a) h f = f a h
ok_then P Q (Err e) h f = tt

pub zip_append : {A B : Type 0} (R : A → B → Type 0) (xs : List A) (ys : List B) (us : List A) (vs : List B) → AllZip R xs ys → AllZip R us vs → AllZip R (xs ++ us) (ys ++ vs)
zip_append R [] [] us vs h k = k
zip_append R [] (y ∷ ys) us vs h k = absurd h
zip_append R (x ∷ xs) [] us vs h k = absurd h
zip_append R (x ∷ xs) (y ∷ ys) us vs h k = (h.0, zip_append R xs ys us vs h.1 k)

pub ok_two : {A E : Type 0} (P Q T : A → Type 0) (r : Result A E) → IfOk r P → IfOk r Q → ((a : A) → P a → Q a → T a) → IfOk r T
ok_two P Q T (Ok a) h k f = f a h k
ok_two P Q T (Err e) h k f = tt
