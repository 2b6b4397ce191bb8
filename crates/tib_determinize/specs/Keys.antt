-- Vectors as keys: when two are the same, their order, and the shelf of each.
use Rattle.std.specs.Prelude.{◌≡◌, ℕ, ◌+◌, ◌-◌, ◌*◌, ◌%◌, ◌<◌, ◌&&◌, nat_eq, Bool, true, List, length, Some, refl}
use Rattle.std.proofs.Common.{arith, ap, sym, ◌∙◌, get_or, mod-lt}
use Rattle.std.specs.Ordering.{nat_cmp, eq_by_cmp}
use Rattle.std.specs.Cmp.{IsEquivalence, IsPartialOrder, IsTotalOrder, and_equiv, on_equiv, on_total, then_total, both_tied, nat_eq_equiv, nat_cmp_total, unsigned_ties, unsigned_Decides, first_so, second_so, partial_order_from_agreeing_total}
use Rattle.std.specs.Cmp.Lexicographic.{pointwise, pointwise_decides, lists_equiv, lists_total, lists_ties}
use Rattle.tib_lex.specs.PairOrder.{pair_cmp}
use Rattle.tib_determinize.specs.Vectors.{VectorOf}
use Rattle.tib_determinize.specs.Determinization.{vector_cmp}

-- whether two entries are the same
abbrev pub same_entry : ℕ × ℕ → ℕ × ℕ → Bool
same_entry x y = nat_eq x.0 y.0 && nat_eq x.1 y.1

-- whether two vectors are the same
abbrev pub same_vector : List (ℕ × ℕ) → List (ℕ × ℕ) → Bool
same_vector v w = pointwise same_entry v w

-- the test is an equivalence
pub same_equiv : IsEquivalence same_vector
same_equiv = lists_equiv (and_equiv (on_equiv (λ (t : ℕ × ℕ). t.0) nat_eq_equiv) (on_equiv (λ (t : ℕ × ℕ). t.1) nat_eq_equiv))

-- vectors have a total order
pub keys_total : IsTotalOrder vector_cmp
keys_total = lists_total (then_total (on_total (λ (t : ℕ × ℕ). t.0) nat_cmp_total) (on_total (λ (t : ℕ × ℕ). t.1) nat_cmp_total))

-- the test and the order agree
pub keys_tie : (v w : VectorOf) → same_vector v w ≡ eq_by_cmp vector_cmp v w
keys_tie = lists_ties pair_cmp (λ x y. both_tied (nat_eq x.0 y.0) (nat_eq x.1 y.1) (nat_cmp x.0 y.0) (nat_cmp x.1 y.1) (unsigned_ties x.0 y.0) (unsigned_ties x.1 y.1))

-- and so do the test and the order as a partial one
pub keys_po : IsPartialOrder same_vector (λ v w. Some (vector_cmp v w))
keys_po = partial_order_from_agreeing_total vector_cmp keys_total (λ v w. refl) keys_tie

-- entries that the test finds the same are the same
pub entry_is : (x y : ℕ × ℕ) → same_entry x y ≡ true → x ≡ y
entry_is x y e =
    ap (λ a. (a, x.1)) ((unsigned_Decides x.0 y.0).0 (first_so (nat_eq x.0 y.0) (nat_eq x.1 y.1) e))
    ∙ ap (λ b. (y.0, b)) ((unsigned_Decides x.1 y.1).0 (second_so (nat_eq x.0 y.0) (nat_eq x.1 y.1) e))

-- and the other way round
pub is_entry : (x y : ℕ × ℕ) → x ≡ y → same_entry x y ≡ true
is_entry x y e = ap (same_entry x) (sym e) ∙ same_equiv_entry x
  where
    same_equiv_entry : (z : ℕ × ℕ) → same_entry z z ≡ true
    same_equiv_entry z = (and_equiv (on_equiv (λ (t : ℕ × ℕ). t.0) nat_eq_equiv) (on_equiv (λ (t : ℕ × ℕ). t.1) nat_eq_equiv)).refl z

-- vectors that the test finds the same are the same
pub is_same : (v w : VectorOf) → same_vector v w ≡ true → v ≡ w
is_same v w e = (pointwise_decides (λ x y. (entry_is x y, is_entry x y)) v w).0 e

-- what an entry adds to the choice of a shelf
abbrev pub entry_digit : ℕ × ℕ → ℕ
entry_digit x = x.0 % 16 + 3 * (x.1 % 16)

-- a vector's shelf goes by its length, its first and its last entry
abbrev pub vector_shelf : List (ℕ × ℕ) → ℕ
vector_shelf v = (length v % 16 + 5 * entry_digit (get_or v 0 (0, 0)) + 7 * entry_digit (get_or v (length v - 1) (0, 0))) % 16

pub shelf_low : (v : List (ℕ × ℕ)) → vector_shelf v < 16
shelf_low v = mod-lt (length v % 16 + 5 * entry_digit (get_or v 0 (0, 0)) + 7 * entry_digit (get_or v (length v - 1) (0, 0))) (omega arith)
