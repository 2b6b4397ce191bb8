-- Lists in which no value occurs twice, and numbers of members of sets.
use Rattle.std.specs.Prelude.{◌≡◌, ◌⊎◌, ℕ, ◌+◌, List, [], ◌∷◌, ◌++◌, length, map, refl}
use Rattle.std.proofs.Common.{◌∙◌, ap, subst, inl, inr, length-append}
use Rattle.tib_lex.specs.Lists.{Has, Distinct}
use Rattle.tib_lex.proofs.Lists.{has_mapped, mapped_has, length_map}
use Rattle.tib_lex.proofs.Members.{has_left, has_right, has_either}
use Rattle.tib_count.specs.Counts.{HasMembers}

-- two lists one after the other, without a common member
pub distinct_append : {A : Type 0} (xs ys : List A) → Distinct xs → Distinct ys →
    ((x : A) → Has xs x → Has ys x → ⊥) → Distinct (xs ++ ys)
distinct_append [] ys d e apart = e
distinct_append (x ∷ xs) ys d e apart = (
  λ h. elim (has_either xs ys x h) [ inl k ↦ d.0 k | inr k ↦ apart x (inl refl) k ],
  distinct_append xs ys d.1 e (λ y h k. apart y (inr h) k),
)

-- values that a function keeps apart
pub distinct_mapped : {A B : Type 0} (f : A → B) (xs : List A) →
    ((x y : A) → Has xs x → Has xs y → f x ≡ f y → x ≡ y) → Distinct xs → Distinct (map f xs)
distinct_mapped f [] apart d = tt
distinct_mapped f (x ∷ xs) apart d = (
  λ h. let from = has_mapped f xs (f x) h in
      d.0 (subst (Has xs) (apart from.0 x (inr from.1) (inl refl) from.2) from.1),
  distinct_mapped f xs (λ y z h k e. apart y z (inr h) (inr k) e) d.1,
)

-- the same set under other names
pub has_members_same : {A : Type 0} (P Q : A → Type 0) (n : ℕ) → ((x : A) → P x → Q x) →
    ((x : A) → Q x → P x) → HasMembers P n → HasMembers Q n
has_members_same P Q n to from h = record {
  members = h.members;
  are_members = record {
    once = h.are_members.once;
    are = λ x. (λ k. to x ((h.are_members.are x).0 k), λ q. (h.are_members.are x).1 (from x q));
  };
  many = h.many;
}

-- a set without members
pub has_members_none : {A : Type 0} (P : A → Type 0) → ((x : A) → P x → ⊥) → HasMembers P 0
has_members_none P empty = record {
  members = [];
  are_members = record { once = tt; are = λ x. (λ h. absurd h, λ p. empty x p) };
  many = refl;
}

-- a set of one member
pub has_members_one : {A : Type 0} (P : A → Type 0) (x : A) → P x → ((y : A) → P y → x ≡ y) →
    HasMembers P 1
has_members_one P x own only = record {
  members = x ∷ [];
  are_members = record {
    once = (λ h. h, tt);
    are = λ y. (λ h. elim h [ inl e ↦ subst P e own | inr a ↦ absurd a ], λ p. inl (only y p));
  };
  many = refl;
}

-- two sets without a common member
pub has_members_either : {A : Type 0} (P Q : A → Type 0) (m n : ℕ) → ((x : A) → P x → Q x → ⊥) →
    HasMembers P m → HasMembers Q n → HasMembers (λ x. P x ⊎ Q x) (m + n)
has_members_either P Q m n apart h k = record {
  members = h.members ++ k.members;
  are_members = record {
    once = distinct_append h.members k.members h.are_members.once k.are_members.once
        (λ x a b. apart x ((h.are_members.are x).0 a) ((k.are_members.are x).0 b));
    are = λ x. (
      λ a. elim (has_either h.members k.members x a) [
        | inl b ↦ inl ((h.are_members.are x).0 b)
        | inr b ↦ inr ((k.are_members.are x).0 b)
      ],
      λ p. elim p [
        | inl b ↦ has_left h.members k.members x ((h.are_members.are x).1 b)
        | inr b ↦ has_right h.members k.members x ((k.are_members.are x).1 b)
      ],
    );
  };
  many = length-append h.members k.members ∙ ap (λ a. a + length k.members) h.many ∙ ap (λ b. m + b) k.many;
}

-- what comes of the members of a set by a function that keeps them apart
pub record IsFrom {A B : Type 0} (f : A → B) (P : A → Type 0) (y : B) : Type 0 where
  pub of : A
  pub is_member : P of
  pub same : f of ≡ y

pub has_members_mapped : {A B : Type 0} (f : A → B) (P : A → Type 0) (n : ℕ) →
    ((x y : A) → P x → P y → f x ≡ f y → x ≡ y) → HasMembers P n → HasMembers (IsFrom f P) n
has_members_mapped f P n apart h = record {
  members = map f h.members;
  are_members = record {
    once = distinct_mapped f h.members (λ x y a b e. apart x y ((h.are_members.are x).0 a) ((h.are_members.are y).0 b) e) h.are_members.once;
    are = λ y. (
      λ a. let from = has_mapped f h.members y a in record { of = from.0; is_member = (h.are_members.are from.0).0 from.1; same = from.2 },
      λ (p : IsFrom f P y). subst (Has (map f h.members)) p.same (mapped_has f h.members p.of ((h.are_members.are p.of).1 p.is_member)),
    );
  };
  many = length_map f h.members ∙ h.many;
}
