-- Sides by their items.
use Rattle.std.specs.Prelude.{◌≡◌, ℕ, ◌<◌, List, [], ◌∷◌, length, refl}
use Rattle.std.proofs.Common.{get_or, arith, ap, sym, ◌∙◌}
use Rattle.tib_tree.specs.Trees.{Trees, none, tree, count, preorder_of}
use Rattle.tib_grammar.specs.Sides.{Symbol, hole, Side as SideFor, Lone}
use Rattle.tib_grammar.specs.Items.{pairs_of, pair_of}
use Rattle.tib_grammar.specs.declared.Item.{Item}
use Rattle.tib_grammar.specs.declared.Item.TheVariants.{Label, Hole}

-- the symbol and the rank of the root
pub root_of : (items : List (Item ℕ)) (s : SideFor ℕ ℕ) (d : Item ℕ) → pairs_of items ≡ preorder_of s → (0 < length items) × (pair_of (get_or items 0 d) ≡ (s.label, count s.kids))
root_of [] s d e = absurd (cc)
root_of (x ∷ items) s d e = (omega arith, head e)
  where
    head : {A : Type 0} {x y : A} {xs ys : List A} → x ∷ xs ≡ y ∷ ys → x ≡ y
    head e = cc

no_kids : (k : Trees (Symbol ℕ ℕ)) → 0 ≡ count k → k ≡ none
no_kids none e = refl
no_kids (tree s ks rest) e = absurd (omega arith)

-- a side whose first item is a hole is a lone state
pub lone_of_hole : (items : List (Item ℕ)) (s : SideFor ℕ ℕ) (q : ℕ) → pairs_of items ≡ preorder_of s → get_or items 0 (Label 0 0) ≡ Hole q → s ≡ Lone q
lone_of_hole items s q e at =
    let root = (root_of items s (Label 0 0) e).1 in
    let pair : ◌≡◌ {A = Symbol ℕ ℕ × ℕ} (hole q, 0) (s.label, count s.kids) = ap pair_of (sym at) ∙ root in
    made (sym (ap (λ p. p.0) pair)) (no_kids s.kids (ap (λ p. p.1) pair))
  where
    made : {a b : Symbol ℕ ℕ} {k l : Trees (Symbol ℕ ℕ)} → a ≡ b → k ≡ l → ◌≡◌ {A = SideFor ℕ ℕ} (record { label = a; kids = k }) (record { label = b; kids = l })
    made e k = rw (e, k)
