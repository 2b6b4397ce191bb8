-- Lists that agree element by element.
use Rattle.std.proofs.Common.{◌≡◌, List, [], ◌∷◌, ◌++◌, length, take, drop, refl, ap, suc}
use Rattle.tib_lex.specs.Lists.{Along}

pub along_changes : {X Y : Type 0} (R S : X → Y → Type 0) (xs : List X) (ys : List Y) → ((x : X) (y : Y) → R x y → S x y) → Along R xs ys → Along S xs ys
along_changes R S [] [] f h = tt
along_changes R S [] (y ∷ ys) f h = absurd h
along_changes R S (x ∷ xs) [] f h = absurd h
along_changes R S (x ∷ xs) (y ∷ ys) f h = (f x y h.0, along_changes R S xs ys f h.1)

pub along_long : {X Y : Type 0} (R : X → Y → Type 0) (xs : List X) (ys : List Y) → Along R xs ys → length xs ≡ length ys
along_long R [] [] h = refl
along_long R [] (y ∷ ys) h = absurd h
along_long R (x ∷ xs) [] h = absurd h
along_long R (x ∷ xs) (y ∷ ys) h = ap suc (along_long R xs ys h.1)

-- what agrees with two lists, one after the other, can be split
pub along_front : {X Y : Type 0} (R : X → Y → Type 0) (xs : List X) (ys zs : List Y) → Along R xs (ys ++ zs) → Along R (take (length ys) xs) ys
along_front R xs [] zs h = tt
along_front R [] (y ∷ ys) zs h = absurd h
along_front R (x ∷ xs) (y ∷ ys) zs h = (h.0, along_front R xs ys zs h.1)

pub along_back : {X Y : Type 0} (R : X → Y → Type 0) (xs : List X) (ys zs : List Y) → Along R xs (ys ++ zs) → Along R (drop (length ys) xs) zs
along_back R xs [] zs h = h
along_back R [] (y ∷ ys) zs h = absurd h
along_back R (x ∷ xs) (y ∷ ys) zs h = along_back R xs ys zs h.1

-- the last of the one list agrees with a last one of the other
pub along_last : {X Y : Type 0} (R : X → Y → Type 0) (xs : List X) (x : X) (ys : List Y) → Along R (xs ++ x ∷ []) ys → (zs : List Y) × (z : Y) × (ys ≡ zs ++ z ∷ []) × Along R xs zs × R x z
along_last R [] x [] h = absurd h
along_last R [] x (y ∷ []) h = ([], y, refl, tt, h.0)
along_last R [] x (y ∷ (z ∷ ys)) h = absurd h.1
along_last R (w ∷ xs) x [] h = absurd h
along_last R (w ∷ xs) x (y ∷ ys) h =
    let l = along_last R xs x ys h.1 in
    (y ∷ l.0, l.1, ap (λ (vs : List _). y ∷ vs) l.2, (h.0, l.3), l.4)
