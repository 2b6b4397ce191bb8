-- The lines of trees, one more at a time.
use Rattle.std.specs.Prelude.{◌≡◌, ℕ, ◌+◌, ◌<◌, List, [], ◌∷◌, ◌++◌, length, take, Option}
use Rattle.std.specs.List.{AllZip}
use Rattle.std.specs.Prelude.{slice_get, Some}
use Rattle.std.proofs.Common.{zero, suc, refl, arith, ap, sym, ◌∙◌, get_or, append_assoc, subst}
use Rattle.tib_lex.specs.Lists.{Each}
use Rattle.std.proofs.lemmas.List.{take_more}
use Rattle.tib_operations.specs.Text.{lines_of_all}

append_one : {A : Type 0} (line : A → Option ℕ → List ℕ) (xs : List A) (cs : List (Option ℕ)) (x : A) (c : Option ℕ) → length xs ≡ length cs →
    lines_of_all line (xs ++ x ∷ []) (cs ++ c ∷ []) ≡ lines_of_all line xs cs ++ line x c
append_one line [] [] x c e = append_none (line x c)
  where
    append_none : (ys : List ℕ) → ys ++ [] ≡ ys
    append_none [] = refl
    append_none (y ∷ ys) = ap (λ z. y ∷ z) (append_none ys)
append_one line [] (d ∷ cs) x c e = absurd (omega arith)
append_one line (u ∷ xs) [] x c e = absurd (omega arith)
append_one line (u ∷ xs) (d ∷ cs) x c e = ap (λ z. line u d ++ z) (append_one line xs cs x c (omega arith)) ∙ sym (append_assoc (line u d) (lines_of_all line xs cs) (line x c))

take_long : {A : Type 0} (xs : List A) (i : ℕ) → i < length xs → length (take i xs) ≡ i
take_long [] i h = absurd (omega arith)
take_long (x ∷ xs) zero h = refl
take_long (x ∷ xs) (suc i) h = ap suc (take_long xs i (omega arith))

-- the lines of one more thing
pub lines_more : {A : Type 0} (line : A → Option ℕ → List ℕ) (xs : List A) (cs : List (Option ℕ)) (i : ℕ) (x : A) (c : Option ℕ) → i < length xs → length cs ≡ length xs →
    x ≡ get_or xs i x → c ≡ get_or cs i c → lines_of_all line (take (i + 1) xs) (take (i + 1) cs) ≡ lines_of_all line (take i xs) (take i cs) ++ line x c
lines_more line xs cs i x c h e at there =
    let long : length (take i xs) ≡ length (take i cs) = take_long xs i h ∙ sym (take_long cs i (omega arith)) in
    rw (take_more xs i x h, take_more cs i c (omega arith), ← at, ← there) (append_one line (take i xs) (take i cs) x c long)

-- the lines of the things of two lists
pub lines_append : {A : Type 0} (line : A → Option ℕ → List ℕ) (xs ys : List A) (cs ds : List (Option ℕ)) → length cs ≡ length xs →
    lines_of_all line xs cs ++ lines_of_all line ys ds ≡ lines_of_all line (xs ++ ys) (cs ++ ds)
lines_append line [] ys [] ds e = refl
lines_append line [] ys (c ∷ cs) ds e = absurd (omega arith)
lines_append line (x ∷ xs) ys [] ds e = absurd (omega arith)
lines_append line (x ∷ xs) ys (c ∷ cs) ds e =
    append_assoc (line x c) (lines_of_all line xs cs) (lines_of_all line ys ds) ∙ ap (λ z. line x c ++ z) (lines_append line xs ys cs ds (omega arith))

-- an element by its place
pub got : {A : Type 0} (xs : List A) (i : ℕ) (x : A) → slice_get xs i ≡ Some x → x ≡ get_or xs i x
got [] i x e = absurd (cc e)
got (y ∷ ys) zero x e = cc e
got (y ∷ ys) (suc i) x e = got ys i x e

pub zip_long : {A B : Type 0} (R : A → B → Type 0) (xs : List A) (ys : List B) → AllZip R xs ys → length ys ≡ length xs
zip_long R [] [] h = refl
zip_long R [] (y ∷ ys) h = absurd h
zip_long R (x ∷ xs) [] h = absurd h
zip_long R (x ∷ xs) (y ∷ ys) h = ap suc (zip_long R xs ys h.1)

-- what holds of each holds of the one at a place
pub each_at : {A : Type 0} (P : A → Type 0) (xs : List A) (i : ℕ) (x : A) → Each P xs → i < length xs → x ≡ get_or xs i x → P x
each_at P [] i x h l e = absurd (omega arith)
each_at P (y ∷ ys) zero x h l e = subst P (sym e) h.0
each_at P (y ∷ ys) (suc i) x h l e = each_at P ys i x h.1 (omega arith) e

-- four pieces that went into an empty text, one after the other
pub four_pieces :
    (start first second third last a b c d : List ℕ) → start ≡ [] → first ≡ start ++ a → second ≡ first ++ b → third ≡ second ++ c → last ≡ third ++ d →
    last ≡ a ++ (b ++ (c ++ d))
four_pieces start first second third last a b c d empty one two three four =
    four
    ∙ ap (λ (x : List ℕ). x ++ d) three
    ∙ ap (λ (x : List ℕ). (x ++ c) ++ d) two
    ∙ ap (λ (x : List ℕ). ((x ++ b) ++ c) ++ d) one
    ∙ ap (λ (x : List ℕ). (((x ++ a) ++ b) ++ c) ++ d) empty
    ∙ append_assoc (a ++ b) c d
    ∙ append_assoc a b (c ++ d)
