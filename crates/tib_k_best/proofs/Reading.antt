-- What is read of two lists as one.
use Rattle.std.specs.Prelude.{◌≡◌, ◌⊎◌, ℕ, ◌+◌, ◌-◌, ◌<◌, ◌≤◌, List, [], length, map}
use Rattle.std.proofs.Common.{arith, ap, sym, ◌∙◌, subst, inl, inr, get_or, length-append}
use Rattle.std.proofs.lemmas.List.{get_or_append_left, length-map}
use Rattle.tib_lex.proofs.Lists.{append_nil}
use Rattle.tib_tree.specs.Trees.{most_nodes, size}
use Rattle.tib_ranked_trees.specs.Best.{Costed}
use Rattle.tib_ranked_trees.specs.Pass.{no_entry}
use Rattle.tib_ranked_trees.proofs.Children.{get_or-map}
use Rattle.tib_k_best.specs.RankedOf.{ranked_of, told_at, told_below, AreRanked}
use Rattle.tib_k_best.specs.Weights.{AreNumbered}
use Rattle.tib_k_best.proofs.Lists.{get_right, same_lists}

below_or : (a b : ℕ) → (a < b) ⊎ (b ≤ a)
below_or a b = grind arith

module _ (below at : List Costed) (c : ℕ) (first : List (ℕ × ℕ)) (rest : List ℕ) (xs : List Costed) (seen : ranked_of below at c first rest ≡ xs) where
  long : length xs ≡ length first + length rest
  long =
      ap length (sym seen) ∙ length-append (map (told_below below) first) (map (told_at at c) rest)
      ∙ ap (λ n. n + length (map (told_at at c) rest)) (length-map first (told_below below)) ∙ ap (λ n. length first + n) (length-map rest (told_at at c))

  first_at : (i : ℕ) → i < length first → get_or xs i no_entry ≡ told_below below (get_or first i (0, 0))
  first_at i h =
      ap (λ ys. get_or ys i no_entry) (sym seen) ∙ get_or_append_left (map (told_below below) first) (map (told_at at c) rest) no_entry i (omega (arith, h, length-map first (told_below below)))
      ∙ get_or-map (told_below below) first i (0, 0) no_entry h

  rest_at : (i n : ℕ) → i ≡ length first + n → n < length rest → get_or xs i no_entry ≡ told_at at c (get_or rest n 0)
  rest_at i n e h =
      ap (λ ys. get_or ys i no_entry) (sym seen) ∙ get_right (map (told_below below) first) (map (told_at at c) rest) i n no_entry (omega (arith, e, length-map first (told_below below)))
      ∙ get_or-map (told_at at c) rest n 0 no_entry h

  -- after the first trees each costs the same
  pub rest_cost : (i : ℕ) → i < length xs → (i < length first → ⊥) → c ≡ (get_or xs i no_entry).1
  rest_cost i h n = elim (below_or i (length first)) [
    | inl l ↦ absurd (n l)
    | inr l ↦
        let e : i ≡ length first + (i - length first) = omega (arith, l) in
        sym (ap (λ (y : Costed). y.1) (rest_at i (i - length first) e (omega (arith, h, e, long))))
  ]

  -- the trees are small where those of both lists are
  pub ranked_small :
      AreRanked below at first rest → ((i : ℕ) → i < length below → size (get_or below i no_entry).0 ≤ most_nodes) → ((i : ℕ) → i < length at → size (get_or at i no_entry).0 ≤ most_nodes) → (i : ℕ) → i < length xs →
      size (get_or xs i no_entry).0 ≤ most_nodes
  ranked_small are small_below small_at i h = elim (below_or i (length first)) [
    | inl l ↦ subst (λ (y : Costed). size y.0 ≤ most_nodes) (sym (first_at i l)) (small_below (get_or first i (0, 0)).1 (are.below_has i l))
    | inr l ↦
        let e : i ≡ length first + (i - length first) = omega (arith, l) in
        let b : i - length first < length rest = omega (arith, h, e, long) in
        subst (λ (y : Costed). size y.0 ≤ most_nodes) (sym (rest_at i (i - length first) e b)) (small_at (get_or rest (i - length first) 0) (are.at_has (i - length first) b))
  ]

-- all trees of one list, in order
module _ (xs : List Costed) (ws : List ℕ) (long : length ws ≡ length xs) (each : (i : ℕ) → i < length ws → get_or ws i 0 ≡ (get_or xs i no_entry).1) (ps : List (ℕ × ℕ)) (n : AreNumbered ws (length ws) ps) where
  pub flat_is : (at : List Costed) (c : ℕ) → ranked_of xs at c ps [] ≡ xs
  flat_is at c =
      append_nil (map (told_below xs) ps)
      ∙ same_lists (map (told_below xs) ps) xs no_entry (length-map ps (told_below xs) ∙ n.long ∙ long) (λ i h.
      let b : i < length ps = omega (arith, h, length-map ps (told_below xs)) in
      let w : i < length ws = omega (arith, b, n.long) in
      get_or-map (told_below xs) ps i (0, 0) no_entry b ∙ ap (told_below xs) (n.each i w) ∙ ap (λ m. ((get_or xs i no_entry).0, m)) (each i w))

  pub flat_ranked : (at : List Costed) → length xs < 4294967296 → AreRanked xs at ps []
  flat_ranked at few = record {
    few = omega (arith, few, long, n.long);
    below_has = λ i h.
        let w : i < length ws = omega (arith, h, n.long) in
        let e : (get_or ps i (0, 0)).1 ≡ i = ap (λ (p : ℕ × ℕ). p.1) (n.each i w) in
        omega (arith, e, w, long);
    at_has = λ i h. absurd (omega (arith, h));
  }
