-- Lists without their doubles, where it can be decided whether two values are the same.
use Rattle.std.specs.Prelude.{◌≡◌, ◌⊎◌, ◌↔◌, ℕ, List, [], ◌∷◌, refl}
use Rattle.std.proofs.Common.{ap, ◌∙◌, subst, inl, inr}
use Rattle.tib_lex.specs.Lists.{Has, Distinct}
use Rattle.tib_lex.proofs.Numbers.{same_or_other}
use Rattle.tib_tree.specs.Trees.{Tree, Trees, none, tree}

-- two values are the same or differ
abbrev pub AreDecided : Type 0 → Type 0
AreDecided A = (x y : A) → (x ≡ y) ⊎ (x ≡ y → ⊥)

pub trees_decided : AreDecided (Trees ℕ)
trees_decided none none = inl refl
trees_decided none (tree g ls more) = inr (λ e. cc)
trees_decided (tree f ks rest) none = inr (λ e. cc)
trees_decided (tree f ks rest) (tree g ls more) = elim (same_or_other f g) [
  | inr n ↦ inr (λ e. n (cc e))
  | inl a ↦ elim (trees_decided ks ls) [
    | inr n ↦ inr (λ e. n (cc e))
    | inl b ↦ elim (trees_decided rest more) [
      | inr n ↦ inr (λ e. n (cc e))
      | inl c ↦ inl (cc (a, b, c))
    ]
  ]
]

pub tree_decided : AreDecided (Tree ℕ)
tree_decided s t = elim (same_or_other s.label t.label) [
  | inr n ↦ inr (λ e. n (ap (λ (u : Tree ℕ). u.label) e))
  | inl a ↦ elim (trees_decided s.kids t.kids) [
    | inr n ↦ inr (λ e. n (ap (λ (u : Tree ℕ). u.kids) e))
    | inl b ↦ inl (same_tree s t a b)
  ]
]
  where
    same_tree : (s t : Tree ℕ) → s.label ≡ t.label → s.kids ≡ t.kids → s ≡ t
    same_tree s t f k = ap (λ (l : ℕ). record { label = l; kids = s.kids }) f ∙ ap (λ (ks : Trees ℕ). record { label = t.label; kids = ks }) k

-- the members of a list, each once
pub record HasOnce {A : Type 0} (xs : List A) : Type 0 where
  pub members : List A
  pub once : Distinct members
  pub are : (x : A) → Has members x ↔ Has xs x

module _ {A : Type 0} (decided : AreDecided A) where
  -- so it can be decided whether a value is in a list
  pub is_member : (xs : List A) (x : A) → Has xs x ⊎ (Has xs x → ⊥)
  is_member [] x = inr (λ h. h)
  is_member (y ∷ ys) x = elim (decided y x) [
    | inl e ↦ inl (inl e)
    | inr n ↦ elim (is_member ys x) [ inl h ↦ inl (inr h) | inr m ↦ inr (λ h. elim h [ inl e ↦ n e | inr k ↦ m k ]) ]
  ]

  pub once_each : (xs : List A) → HasOnce xs
  once_each [] = record { members = []; once = tt; are = λ x. (λ h. h, λ h. h) }
  once_each (x ∷ xs) =
      let rest = once_each xs in
      elim (is_member xs x) [
        | inl h ↦ record {
          members = rest.members;
          once = rest.once;
          are = λ y. (
            λ k. inr ((rest.are y).0 k),
            λ k. elim k [ inl e ↦ (rest.are y).1 (subst (Has xs) e h) | inr m ↦ (rest.are y).1 m ],
          );
        }
        | inr n ↦ record {
          members = x ∷ rest.members;
          once = (λ h. n ((rest.are x).0 h), rest.once);
          are = λ y. (
            λ k. elim k [ inl e ↦ inl e | inr m ↦ inr ((rest.are y).0 m) ],
            λ k. elim k [ inl e ↦ inl e | inr m ↦ inr ((rest.are y).1 m) ],
          );
        }
      ]
