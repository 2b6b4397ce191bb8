-- Members of lists to which one was added last, and members by their places.
use Rattle.std.specs.Prelude.{◌≡◌, ◌⊎◌, List, [], ◌∷◌, ◌++◌, refl}
use Rattle.std.proofs.Common.{zero, suc, arith, inl, inr, Contains}
use Rattle.tib_lex.specs.Lists.{Has}
use Rattle.tib_lex.proofs.Members.{has_left, has_right, has_either}

-- what is contained is a member
pub contains_has : {A : Type 0} (xs : List A) (x : A) → Contains xs x → Has xs x
contains_has [] x (k, l, e) = absurd (omega arith)
contains_has (y ∷ ys) x (zero, l, e) = inl e
contains_has (y ∷ ys) x (suc k, l, e) = inr (contains_has ys x (k, omega arith, e))

-- a member stays one where another is put last
pub has_first : {A : Type 0} (ps : List A) (m n : A) → Has ps n → Has (ps ++ m ∷ []) n
has_first ps m n h = has_left ps (m ∷ []) n h

-- what is put last is a member
pub has_last : {A : Type 0} (ps : List A) (m : A) → Has (ps ++ m ∷ []) m
has_last ps m = has_right ps (m ∷ []) m (inl refl)

-- a member was one before, or is the last
pub has_or_last : {A : Type 0} (ps : List A) (m n : A) → Has (ps ++ m ∷ []) n → Has ps n ⊎ (m ≡ n)
has_or_last ps m n h = elim (has_either ps (m ∷ []) n h) [
  | inl a ↦ inl a
  | inr b ↦ elim b [ inl e ↦ inr e | inr a ↦ absurd a ]
]
