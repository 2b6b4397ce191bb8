-- Labels that are gathered one after another are each label once, where it is first.
use Rattle.std.specs.Prelude.{◌≡◌, ◌⊎◌, ℕ, Bool, true, false, nat_eq, ◌||◌, List, [], ◌∷◌, ◌++◌, if◌then◌else◌, refl}
use Rattle.std.proofs.Common.{zero, suc, get_or, drop, length, ◌+◌, ◌<◌, arith, ap, sym, ◌∙◌, inl, inr, append_assoc, append-nil}
use Rattle.std.proofs.lemmas.Bool.Decides.{nat_tests}
use Rattle.std.specs.List.{list_any}
use Rattle.indexmap.specs.IndexSet.{insert_key}
use Rattle.tib_tree.specs.Trees.{preorder_of}
use Rattle.tib_grammar.specs.Sides.{holes_of}
use Rattle.tib_grammar.specs.Items.{pairs_of, holes_in}
use Rattle.tib_grammar.specs.declared.Item.{Item}
use Rattle.tib_grammar.proofs.Holes.{holes_of_items}
use Rattle.tib_transducer.specs.declared.Variable.{Variable}
use Rattle.tib_transducer.specs.declared.TransducerRule.{TransducerRule}
use Rattle.tib_apply.specs.Restrictions.{without, once, all_labels, labels_of}
use Rattle.tib_apply.specs.Gathering.{gathered}

pub gathered_append : (labels xs ys : List ℕ) → gathered labels (xs ++ ys) ≡ gathered (gathered labels xs) ys
gathered_append labels [] ys = refl
gathered_append labels (x ∷ xs) ys = gathered_append (insert_key nat_eq labels x) xs ys

-- those that are not among others
abbrev beyond : List ℕ → List ℕ → List ℕ
beyond labels [] = []
beyond labels (f ∷ fs) = if list_any (nat_eq f) labels then beyond labels fs else f ∷ beyond labels fs

number_cases : (g f : ℕ) → ((g ≡ f) × (nat_eq g f ≡ true)) ⊎ ((g ≡ f → ⊥) × (nat_eq g f ≡ false))
number_cases g f = grind (arith, nat_tests)

truth : (b : Bool) → (b ≡ true) ⊎ (b ≡ false)
truth true = inl refl
truth false = inr refl

any_append : (f : ℕ) (labels : List ℕ) (g : ℕ) → list_any (nat_eq f) (labels ++ g ∷ []) ≡ (list_any (nat_eq f) labels || nat_eq f g)
any_append f [] g = by (nat_eq f g)
  where
    by : (b : Bool) → (b || false) ≡ b
    by true = refl
    by false = refl
any_append f (x ∷ labels) g = ap (λ b. nat_eq f x || b) (any_append f labels g) ∙ regroup (nat_eq f x) (list_any (nat_eq f) labels) (nat_eq f g)
  where
    regroup : (a b c : Bool) → (a || (b || c)) ≡ ((a || b) || c)
    regroup true b c = refl
    regroup false b c = refl

without_yes : (f x : ℕ) (xs : List ℕ) → nat_eq x f ≡ true → without f (x ∷ xs) ≡ without f xs
without_yes f x xs e = rw e refl

without_other : (f x : ℕ) (xs : List ℕ) → nat_eq x f ≡ false → without f (x ∷ xs) ≡ x ∷ without f xs
without_other f x xs e = rw e refl

beyond_yes : (labels : List ℕ) (f : ℕ) (fs : List ℕ) → list_any (nat_eq f) labels ≡ true → beyond labels (f ∷ fs) ≡ beyond labels fs
beyond_yes labels f fs e = rw e refl

beyond_other : (labels : List ℕ) (f : ℕ) (fs : List ℕ) → list_any (nat_eq f) labels ≡ false → beyond labels (f ∷ fs) ≡ f ∷ beyond labels fs
beyond_other labels f fs e = rw e refl

-- those beyond one more are those beyond without it
beyond_more : (labels : List ℕ) (g : ℕ) (fs : List ℕ) → beyond (labels ++ g ∷ []) fs ≡ without g (beyond labels fs)
beyond_more labels g [] = refl
beyond_more labels g (f ∷ fs) = elim (truth (list_any (nat_eq f) labels)) [
  | inl e ↦
      beyond_yes (labels ++ g ∷ []) f fs (any_append f labels g ∙ ap (λ b. b || nat_eq f g) e) ∙ beyond_more labels g fs ∙ ap (without g) (sym (beyond_yes labels f fs e))
  | inr e ↦
      let here : list_any (nat_eq f) (labels ++ g ∷ []) ≡ nat_eq f g = any_append f labels g ∙ ap (λ b. b || nat_eq f g) e in
      let there : without g (beyond labels (f ∷ fs)) ≡ without g (f ∷ beyond labels fs) = ap (without g) (beyond_other labels f fs e) in
      elim (truth (nat_eq f g)) [
        | inl k ↦ beyond_yes (labels ++ g ∷ []) f fs (here ∙ k) ∙ beyond_more labels g fs ∙ sym (there ∙ without_yes g f (beyond labels fs) k)
        | inr k ↦ beyond_other (labels ++ g ∷ []) f fs (here ∙ k) ∙ ap (λ xs. f ∷ xs) (beyond_more labels g fs) ∙ sym (there ∙ without_other g f (beyond labels fs) k)
      ]
]

without_twice : (f : ℕ) (xs : List ℕ) → without f (without f xs) ≡ without f xs
without_twice f [] = refl
without_twice f (x ∷ xs) = elim (truth (nat_eq x f)) [
  | inl e ↦ ap (without f) (without_yes f x xs e) ∙ without_twice f xs ∙ sym (without_yes f x xs e)
  | inr e ↦ ap (without f) (without_other f x xs e) ∙ without_other f x (without f xs) e ∙ ap (λ ys. x ∷ ys) (without_twice f xs) ∙ sym (without_other f x xs e)
]

without_swap : (f g : ℕ) (xs : List ℕ) → without f (without g xs) ≡ without g (without f xs)
without_swap f g [] = refl
without_swap f g (x ∷ xs) = elim (truth (nat_eq x f)) [
  | inl e ↦ elim (truth (nat_eq x g)) [
    | inl k ↦ ap (without f) (without_yes g x xs k) ∙ without_swap f g xs ∙ ap (without g) (sym (without_yes f x xs e))
    | inr k ↦ ap (without f) (without_other g x xs k) ∙ without_yes f x (without g xs) e ∙ without_swap f g xs ∙ ap (without g) (sym (without_yes f x xs e))
  ]
  | inr e ↦ elim (truth (nat_eq x g)) [
    | inl k ↦ ap (without f) (without_yes g x xs k) ∙ without_swap f g xs ∙ sym (ap (without g) (without_other f x xs e) ∙ without_yes g x (without f xs) k)
    | inr k ↦
        ap (without f) (without_other g x xs k) ∙ without_other f x (without g xs) e ∙ ap (λ ys. x ∷ ys) (without_swap f g xs)
        ∙ sym (ap (without g) (without_other f x xs e) ∙ without_other g x (without f xs) k)
  ]
]

-- a label may be left out before or after
once_without : (f : ℕ) (xs : List ℕ) → without f (once xs) ≡ once (without f xs)
once_without f [] = refl
once_without f (x ∷ xs) = elim (number_cases x f) [
  | inl e ↦
      without_yes f x (without x (once xs)) e.1 ∙ ap (λ y. without f (without y (once xs))) e.0 ∙ without_twice f (once xs) ∙ once_without f xs ∙ ap once (sym (without_yes f x xs e.1))
  | inr e ↦
      without_other f x (without x (once xs)) e.1 ∙ ap (λ ys. x ∷ ys) (without_swap f x (once xs) ∙ ap (without x) (once_without f xs)) ∙ ap once (sym (without_other f x xs e.1))
]

insert_there : (labels : List ℕ) (f : ℕ) → list_any (nat_eq f) labels ≡ true → insert_key nat_eq labels f ≡ labels
insert_there labels f e = rw e refl

insert_new : (labels : List ℕ) (f : ℕ) → list_any (nat_eq f) labels ≡ false → insert_key nat_eq labels f ≡ labels ++ f ∷ []
insert_new labels f e = rw e refl

gathered_are : (labels fs : List ℕ) → gathered labels fs ≡ labels ++ once (beyond labels fs)
gathered_are labels [] = sym (append-nil labels)
gathered_are labels (f ∷ fs) = elim (truth (list_any (nat_eq f) labels)) [
  | inl e ↦ ap (λ ks. gathered ks fs) (insert_there labels f e) ∙ gathered_are labels fs ∙ ap (λ xs. labels ++ once xs) (sym (beyond_yes labels f fs e))
  | inr e ↦
      ap (λ ks. gathered ks fs) (insert_new labels f e) ∙ gathered_are (labels ++ f ∷ []) fs ∙ append_assoc labels (f ∷ []) (once (beyond (labels ++ f ∷ []) fs))
      ∙ ap (λ xs. labels ++ f ∷ once xs) (beyond_more labels f fs) ∙ ap (λ xs. labels ++ f ∷ xs) (sym (once_without f (beyond labels fs)))
      ∙ ap (λ xs. labels ++ once xs) (sym (beyond_other labels f fs e))
]

beyond_none : (fs : List ℕ) → beyond [] fs ≡ fs
beyond_none [] = refl
beyond_none (f ∷ fs) = ap (λ xs. f ∷ xs) (beyond_none fs)

pub gathered_once : (fs : List ℕ) → gathered [] fs ≡ once fs
gathered_once fs = gathered_are [] fs ∙ ap once (beyond_none fs)

next_rule : (rules : List (TransducerRule ℕ)) (i : ℕ) (rule : TransducerRule ℕ) → i < length rules → rule ≡ get_or rules i rule → drop i rules ≡ rule ∷ drop (suc i) rules
next_rule [] i rule h e = absurd (omega arith)
next_rule (r ∷ rules) zero rule h e = ap (λ y. y ∷ rules) (sym e)
next_rule (r ∷ rules) (suc i) rule h e = next_rule rules i rule (omega arith) e

-- one more rule
pub rule_gathered :
    (rules : List (TransducerRule ℕ)) (i : ℕ) (rule : TransducerRule ℕ) → i < length rules → rule ≡ get_or rules i rule → (items : List (Item Variable)) → pairs_of items ≡ preorder_of rule.left →
    (old new all : List ℕ) → new ≡ gathered old (labels_of (holes_in items)) → gathered old (all_labels (drop i rules)) ≡ all → gathered new (all_labels (drop (i + 1) rules)) ≡ all
rule_gathered rules i rule h e items same old new all made before =
    let one : i + 1 ≡ suc i = omega arith in
    let holes : holes_of rule.left ≡ holes_in items = holes_of_items items rule.left same in
    ap (λ j. gathered new (all_labels (drop j rules))) one ∙ ap (λ ks. gathered ks (all_labels (drop (suc i) rules))) (made ∙ ap (λ xs. gathered old (labels_of xs)) (sym holes))
    ∙ sym (gathered_append old (labels_of (holes_of rule.left)) (all_labels (drop (suc i) rules)))
    ∙ ap (λ rs. gathered old (all_labels rs)) (sym (next_rule rules i rule h e)) ∙ before
