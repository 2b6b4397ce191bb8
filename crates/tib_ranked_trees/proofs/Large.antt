-- A large tree among the k least is in their list.
use Rattle.std.specs.Prelude.{◌≡◌, ℕ, ◌≤◌, Some, List, [], ◌∷◌, length}
use Rattle.std.proofs.Common.{arith, ap, sym, ◌∙◌, subst, inl, inr}
use Rattle.tib_lex.specs.Lists.{Has, Each, Ascends}
use Rattle.tib_tree.specs.Trees.{Tree}
use Rattle.tib_cost.proofs.Least.{IsLeast-unique}
use Rattle.tib_grammar.specs.declared.Rule.{Rule}
use Rattle.tib_lex.proofs.Members.{each_has, each_of}
use Rattle.tib_ranked_trees.specs.First.{IsFirst}
use Rattle.tib_ranked_trees.specs.Best.{Cheaper, IsTreeAt, HasLarge, LargeIsListed}
use Rattle.tib_ranked_trees.specs.Pass.{HasTree}
use Rattle.tib_ranked_trees.proofs.Fronts.{not_itself}
use Rattle.tib_ranked_trees.proofs.Ranks.{cheaper_strict}
use Rattle.tib_ranked_trees.proofs.Telling.{has_or, AreApart, no_fewer}

module _ (product : ℕ → ℕ → ℕ) (labels : List (List ℕ)) (rules : List (Rule ℕ)) (q : ℕ) where
  apart_trees : (xs : List (Tree ℕ × ℕ)) → Ascends (Cheaper labels) xs → Each (IsTreeAt product rules q) xs → AreApart (λ (x : Tree ℕ × ℕ). x.0) xs
  apart_trees [] a m = tt
  apart_trees (x ∷ xs) a m = (
    each_of (λ (y : Tree ℕ × ℕ). x.0 ≡ y.0 → ⊥) xs (λ y h e.
        let s : Some x.1 ≡ Some y.1 = IsLeast-unique m.0 (subst (λ t. IsTreeAt product rules q (t, y.1)) (sym e) (each_has (IsTreeAt product rules q) xs y m.1 h)) in
        let c : x.1 ≡ y.1 = cc in
        let same : x ≡ y = ap (λ t. (t, x.1)) e ∙ ap (λ d. (y.0, d)) c in
        not_itself (cheaper_strict labels) x y same (each_has (Cheaper labels x) xs y a.0 h)),
    apart_trees xs a.1 m.1,
  )

  pub listed : (k : ℕ) (xs : List (Tree ℕ × ℕ)) → IsFirst (IsTreeAt product rules q) (Cheaper labels) k xs → (h : HasLarge product labels rules k q) → Has xs h.tree
  listed k xs first h = elim (has_or xs h.tree) [
    | inl m ↦ m
    | inr n ↦
        let o = first.others h.tree h.next.member n in
        let inside : (x : Tree ℕ × ℕ) → Has xs x → Has h.front x =
        λ x m. elim (has_or h.front x) [
          | inl f ↦ f
          | inr out ↦
              let before : Cheaper labels x h.tree = each_has (λ y. Cheaper labels y h.tree) xs x o.1 m in
              elim (h.next.least x (each_has (IsTreeAt product rules q) xs x first.members m) out) [
                | inl e ↦ absurd (not_itself (cheaper_strict labels) x h.tree (sym e) before)
                | inr after ↦ absurd ((cheaper_strict labels).apart x h.tree before after)
              ]
        ]
        in
        let many : length xs ≤ length h.front =
        no_fewer (λ (x : Tree ℕ × ℕ). x.0) xs h.front (apart_trees xs first.ascends first.members) (each_of (λ (x : Tree ℕ × ℕ). HasTree h.front x.0) xs (λ x m. (x.1, inside x m)))
        in
        absurd (omega (arith, many, o.0, h.few))
  ]

pub large_is_listed : (product : ℕ → ℕ → ℕ) → LargeIsListed product
large_is_listed product = λ labels rules k q xs first h. listed product labels rules q k xs first h
