-- States with sets of states as keys: when two are the same, their order, and the shelf of each.
use Rattle.std.specs.Prelude.{◌≡◌, ℕ, ◌+◌, ◌-◌, ◌*◌, ◌%◌, ◌<◌, ◌&&◌, nat_eq, Bool, true, List, length, Some, refl}
use Rattle.std.proofs.Common.{arith, ap, ◌∙◌, get_or, mod-lt}
use Rattle.std.specs.Ordering.{nat_cmp, eq_by_cmp}
use Rattle.std.specs.Cmp.{IsEquivalence, IsPartialOrder, IsTotalOrder, and_equiv, on_equiv, on_total, then_total, both_tied, nat_eq_equiv, nat_cmp_total, unsigned_ties, unsigned_Decides, first_so, second_so, partial_order_from_agreeing_total}
use Rattle.std.specs.Cmp.Lexicographic.{pointwise, pointwise_decides, lists_equiv, lists_total, lists_ties, slice_cmp}
use Rattle.tib_difference.specs.Difference.{KeyOf, key_cmp}

-- whether two sets are the same
abbrev pub same_subset : List ℕ → List ℕ → Bool
same_subset v w = pointwise nat_eq v w

-- whether two keys are the same
abbrev pub same_key : ℕ × List ℕ → ℕ × List ℕ → Bool
same_key k l = nat_eq k.0 l.0 && same_subset k.1 l.1

-- the test is an equivalence
pub same_equiv : IsEquivalence same_key
same_equiv = and_equiv (on_equiv (λ (k : KeyOf). k.0) nat_eq_equiv) (on_equiv (λ (k : KeyOf). k.1) (lists_equiv nat_eq_equiv))

-- keys have a total order
pub keys_total : IsTotalOrder (λ k l. key_cmp k l)
keys_total = then_total (on_total (λ (k : KeyOf). k.0) nat_cmp_total) (on_total (λ (k : KeyOf). k.1) (lists_total nat_cmp_total))

-- the test and the order agree
pub keys_tie : (k l : KeyOf) → same_key k l ≡ eq_by_cmp (λ k l. key_cmp k l) k l
keys_tie k l =
    both_tied (nat_eq k.0 l.0) (same_subset k.1 l.1) (nat_cmp k.0 l.0) (slice_cmp nat_cmp k.1 l.1) (unsigned_ties k.0 l.0)
    (lists_ties nat_cmp (λ x y. unsigned_ties x y) k.1 l.1)

-- and so do the test and the order as a partial one
pub keys_po : IsPartialOrder same_key (λ k l. Some (key_cmp k l))
keys_po = partial_order_from_agreeing_total (λ k l. key_cmp k l) keys_total (λ k l. refl) keys_tie

-- keys that the test finds the same are the same
pub is_same : (k l : KeyOf) → same_key k l ≡ true → k ≡ l
is_same k l e =
    ap (λ a. (a, k.1)) ((unsigned_Decides k.0 l.0).0 (first_so (nat_eq k.0 l.0) (same_subset k.1 l.1) e))
    ∙ ap (λ b. (l.0, b)) ((pointwise_decides (λ x y. unsigned_Decides x y) k.1 l.1).0 (second_so (nat_eq k.0 l.0) (same_subset k.1 l.1) e))

-- what the state adds to the choice of a shelf, and what the set adds
abbrev pub key_digit : KeyOf → ℕ
key_digit k = k.0 % 16 + 3 * (length k.1 % 16) + 5 * (get_or k.1 0 0 % 16) + 7 * (get_or k.1 (length k.1 - 1) 0 % 16)

-- a key's shelf goes by its state, the length of its set, and the first and the last member of it
abbrev pub key_shelf : KeyOf → ℕ
key_shelf k = key_digit k % 16

pub shelf_low : (k : KeyOf) → key_shelf k < 16
shelf_low k = mod-lt (key_digit k) (omega arith)
