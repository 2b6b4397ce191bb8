-- Counting the nodes of trees, up to the greatest number.
use Rattle.std.proofs.Common.{◌≡◌, ◌⊎◌, ◌≤◌, ◌<◌, ◌+◌, ◌-◌, ◌^◌, ℕ, List, length, take, get_or, min, ap, sym, ◌∙◌, arith, suc, inl, inr, ◌*◌}
use Rattle.std.proofs.lemmas.List.{take_more, length-map}
use Rattle.std.proofs.lemmas.Bool.{cases_lt}
use Rattle.std.proofs.Math.Pow.{pow_mono}
use Rattle.tib_lex.specs.Lists.{total}
use Rattle.tib_lex.proofs.Lists.{total_more}
use Rattle.tib_tree.specs.Trees.{Tree, size, preorder_of}
use Rattle.tib_tree.specs.Pairs.{pair_of, pairs_of}
use Rattle.tib_tree.specs.declared.preorder.Node.{Node}
use Rattle.tib_tree.proofs.Counts.{length-preorder}

-- a tree has as many nodes as its preorder has pairs
pub many_nodes : (t : Tree ℕ) (ns : List Node) → pairs_of ns ≡ preorder_of t → length ns ≡ size t
many_nodes t ns e = sym (length-map ns pair_of) ∙ ap length e ∙ ap (λ (n : ℕ). suc n) (length-preorder t.kids)

-- a sum that is cut at the greatest number, also before the last addition, is the whole sum cut
cut_once : (a b m : ℕ) → min (min a m + b) m ≡ min (a + b) m
cut_once a b m = omega arith

-- the nodes of one more tree among the first ones
pub one_more : (ts : List (Tree ℕ)) (n so_far more : ℕ) (d : Tree ℕ) → n < length ts →
    so_far ≡ min (total size (take n ts)) (2 ^ 64 - 1) → more ≡ size (get_or ts n d) →
    min (so_far + more) (2 ^ 64 - 1) ≡ min (total size (take (n + 1) ts)) (2 ^ 64 - 1)
one_more ts n so_far more d lt counted is =
    let all : total size (take (n + 1) ts) ≡ total size (take n ts) + more =
    ap (total size) (take_more ts n d lt) ∙ total_more size (take n ts) (get_or ts n d) ∙ ap (λ k. total size (take n ts) + k) (sym is)
    in
    ap (λ k. min (k + more) (2 ^ 64 - 1)) counted ∙ cut_once (total size (take n ts)) more (2 ^ 64 - 1) ∙ ap (λ k. min k (2 ^ 64 - 1)) (sym all)

-- what is below a number when it is cut is below it
pub below_uncut : (a m n : ℕ) → min a m < n → n ≤ m → a < n
below_uncut a m n lt le = omega (arith, lt, le)

-- what is not below a number when it is cut is not below it
pub above_uncut : (a m n : ℕ) → n ≤ min a m → n ≤ a
above_uncut a m n le = omega (arith, le)

-- of a number from 4 to 128 the logarithm is from 2 to 7
pub within_log : (x r : ℕ) → 4 ≤ x → x ≤ 128 → 2 ^ r ≤ x → x < 2 * 2 ^ r → (2 ≤ r) × (r ≤ 7)
within_log x r low high le lt = (at_least (cases_lt r 2), at_most (cases_lt 7 r))
  where
    at_least : (r < 2) ⊎ (2 ≤ r) → 2 ≤ r
    at_least (inl few) = absurd (small (pow_mono {i = r} {j = 1} (omega (arith, few))))
      where
        small : 2 ^ r ≤ 2 → ⊥
        small p = omega (arith, p, low, lt)
    at_least (inr many) = many

    at_most : (7 < r) ⊎ (r ≤ 7) → r ≤ 7
    at_most (inl many) = absurd (large (pow_mono {i = 8} {j = r} many))
      where
        large : 256 ≤ 2 ^ r → ⊥
        large p = omega (arith, p, high, le)
    at_most (inr few) = few

-- four for each processor, up to 32 of these
pub pieces_within : (p few four : ℕ) → 0 < p → few ≡ min p 32 → four ≡ min (few * 4) (2 ^ 64 - 1) → (4 ≤ four) × (four ≤ 128)
pieces_within p few four some a b = (omega (arith, some, a, b), omega (arith, some, a, b))
