-- Right-hand sides that are noted one after another, and are different.
use Rattle.std.specs.Prelude.{◌≡◌, ℕ, ◌+◌, ◌<◌, ◌≤◌, ◌⊎◌, Bool, true, false, List, [], ◌∷◌, ◌++◌, length, nat_eq, refl}
use Rattle.std.specs.List.{list_any}
use Rattle.std.proofs.Common.{arith, ap, sym, ◌∙◌, subst, inl, inr}
use Rattle.tib_lex.specs.Lists.{Has}
use Rattle.tib_lex.proofs.Members.{has_left, has_right}
use Rattle.tib_lex.proofs.Booleans.{or-neither}
use Rattle.tib_lex.proofs.Numbers.{nat_eq-true}
use Rattle.tib_tree.specs.Trees.{preorder_of}
use Rattle.tib_tree.proofs.Orderings.{three_ways}
use Rattle.tib_grammar.specs.Forms.{StandsInSide}
use Rattle.tib_grammar.proofs.Holes.{pairs_same}
use Rattle.tib_grammar.specs.Items.{pairs_of}
use Rattle.tib_grammar.specs.Run.{rule_at}
use Rattle.tib_grammar.specs.declared.Item.{Item}
use Rattle.tib_grammar.specs.declared.Rule.{Rule}
use Rattle.tib_ranked_trees.specs.Below.{IsDeterministicBelow, IsOuter}
use Rattle.tib_k_best.specs.Apart.{AreApart, AreNoted}

pub last : (k n : ℕ) → k < n + 1 → (k < n) ⊎ (k ≡ n)
last k n h = grind arith

either : (b : Bool) → (b ≡ true) ⊎ (b ≡ false)
either true = inl refl
either false = inr refl

-- where no member of a list passes a test, none does
pub any_false : (p : ℕ → Bool) (xs : List ℕ) → list_any p xs ≡ false → (x : ℕ) → Has xs x → p x ≡ false
any_false p [] e x h = absurd h
any_false p (y ∷ ys) e x h =
    let parts = or-neither (p y) (list_any p ys) e in
    elim h [ inl same ↦ subst (λ z. p z ≡ false) same parts.0 | inr m ↦ any_false p ys parts.1 x m ]

module _ (rules : List (Rule ℕ)) (of_start : Bool) (lists : List (List (Item ℕ))) (n : ℕ) (noted : AreNoted rules of_start lists n) where
  -- rule n is passed over
  pub noted_past : (nat_eq (rule_at rules n).left 0 ≡ of_start → ⊥) → AreNoted rules of_start lists (n + 1)
  noted_past out = record {
    held = λ k h e. elim (last k n h) [ inl l ↦ noted.held k l e | inr z ↦ absurd (out (subst (λ i. nat_eq (rule_at rules i).left 0 ≡ of_start) z e)) ];
    apart = λ j k h l e d r. elim (last k n l) [ inl b ↦ noted.apart j k h b e d r | inr z ↦ absurd (out (subst (λ i. nat_eq (rule_at rules i).left 0 ≡ of_start) z d)) ];
  }

  -- the items of its right-hand side are new
  pub noted_more : (items : List (Item ℕ)) → pairs_of items ≡ preorder_of (rule_at rules n).right → (Has lists items → ⊥) → (now : List (List (Item ℕ))) → now ≡ lists ++ items ∷ [] → AreNoted rules of_start now (n + 1)
  noted_more items is new now e = record {
    held = λ k h o. elim (last k n h) [
      | inl l ↦ let f = noted.held k l o in (f.0, subst (λ ls. Has ls f.0) (sym e) (has_left lists (items ∷ []) f.0 f.1), f.2)
      | inr z ↦ (items, subst (λ ls. Has ls items) (sym e) (has_right lists (items ∷ []) items (inl refl)), is ∙ ap (λ i. preorder_of (rule_at rules i).right) (sym z))
    ];
    apart = λ j k h l o d r. elim (last k n l) [
      | inl b ↦ noted.apart j k h b o d r
      | inr z ↦
          let f = noted.held j (omega (arith, h, z)) o in
          new (subst (Has lists) (pairs_same f.0 items (f.2 ∙ ap preorder_of r ∙ ap (λ i. preorder_of (rule_at rules i).right) z ∙ sym is)) f.1)
    ];
  }

-- when all rules were looked at, no two of them have the same right-hand side
pub apart_of_noted : (rules : List (Rule ℕ)) (of_start : Bool) (lists : List (List (Item ℕ))) (n : ℕ) → length rules ≤ n → AreNoted rules of_start lists n → AreApart rules of_start
apart_of_noted rules of_start lists n all noted m k h l o d r = elim (three_ways m k) [
  | inl b ↦ absurd (noted.apart m k b (omega (arith, l, all)) o d r)
  | inr w ↦ elim w [ inl e ↦ e | inr b ↦ absurd (noted.apart k m b (omega (arith, h, all)) d o (sym r)) ]
]

-- rules of the start apart, those of other states apart, and the start in no right-hand side
pub below_of_apart : (rules : List (Rule ℕ)) → (StandsInSide rules 0 → ⊥) → AreApart rules true → AreApart rules false → IsDeterministicBelow rules
below_of_apart rules outer own others = record {
  once = λ m n h k left right. elim (either (nat_eq (rule_at rules m).left 0)) [
    | inl t ↦ own m n h k t (ap (λ q. nat_eq q 0) (sym left) ∙ t) right
    | inr f ↦ others m n h k f (ap (λ q. nat_eq q 0) (sym left) ∙ f) right
  ];
  apart = λ m n h k right. elim (either (nat_eq (rule_at rules m).left 0)) [
    | inl t ↦ inr (inl (subst (IsOuter rules) (sym (nat_eq-true (rule_at rules m).left 0 t)) outer))
    | inr f ↦ elim (either (nat_eq (rule_at rules n).left 0)) [
      | inl t ↦ inr (inr (subst (IsOuter rules) (sym (nat_eq-true (rule_at rules n).left 0 t)) outer))
      | inr g ↦ inl (others m n h k f g right)
    ]
  ];
}
