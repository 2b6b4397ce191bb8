-- The order of lines: by their left states, then by their texts, byte by byte, and last by their
-- positions.
use Rattle.std.specs.Prelude.{◌≡◌, ◌&&◌, nat_eq, Bool, Some, refl}
use Rattle.std.specs.Ordering.{nat_cmp, eq_by_cmp, ordering_then}
use Rattle.std.specs.Cmp.{IsEquivalence, IsPartialOrder, IsTotalOrder, and_equiv, on_equiv, on_total, then_total, both_tied, nat_eq_equiv, nat_cmp_total, unsigned_ties, partial_order_from_agreeing_total}
use Rattle.std.specs.Cmp.Lexicographic.{pointwise, lists_equiv, lists_total, lists_ties, slice_cmp}
use Rattle.std.specs.declared.cmp.Ordering.{Ordering}
use Rattle.tib_canon.specs.declared.lines.Line.{Line}

-- lines by their left states and texts
abbrev pub text_cmp : Line → Line → Ordering
text_cmp x y = ordering_then (nat_cmp x.left y.left) (slice_cmp nat_cmp x.text.now y.text.now)

-- and last by their positions
abbrev pub line_cmp : Line → Line → Ordering
line_cmp x y = ordering_then (nat_cmp x.left y.left) (ordering_then (slice_cmp nat_cmp x.text.now y.text.now) (nat_cmp x.position y.position))

-- whether two lines are the same
abbrev pub same_line : Line → Line → Bool
same_line x y = nat_eq x.left y.left && (pointwise nat_eq x.text.now y.text.now && nat_eq x.position y.position)

-- the test is an equivalence
pub same_equiv : IsEquivalence same_line
same_equiv =
    and_equiv (on_equiv (λ (x : Line). x.left) nat_eq_equiv)
    (and_equiv (on_equiv (λ (x : Line). x.text.now) (lists_equiv nat_eq_equiv)) (on_equiv (λ (x : Line). x.position) nat_eq_equiv))

-- lines have a total order
pub lines_total_order : IsTotalOrder (λ x y. line_cmp x y)
lines_total_order =
    then_total (on_total (λ (x : Line). x.left) nat_cmp_total)
    (then_total (on_total (λ (x : Line). x.text.now) (lists_total nat_cmp_total)) (on_total (λ (x : Line). x.position) nat_cmp_total))

-- the test and the order agree
pub lines_tie : (x y : Line) → same_line x y ≡ eq_by_cmp (λ x y. line_cmp x y) x y
lines_tie x y =
    both_tied (nat_eq x.left y.left) (pointwise nat_eq x.text.now y.text.now && nat_eq x.position y.position)
    (nat_cmp x.left y.left) (ordering_then (slice_cmp nat_cmp x.text.now y.text.now) (nat_cmp x.position y.position))
    (unsigned_ties x.left y.left)
    (both_tied (pointwise nat_eq x.text.now y.text.now) (nat_eq x.position y.position) (slice_cmp nat_cmp x.text.now y.text.now) (nat_cmp x.position y.position)
    (lists_ties nat_cmp (λ x y. unsigned_ties x y) x.text.now y.text.now) (unsigned_ties x.position y.position))

-- and so do the test and the order as a partial one
pub lines_partial_order : IsPartialOrder same_line (λ x y. Some (line_cmp x y))
lines_partial_order = partial_order_from_agreeing_total (λ x y. line_cmp x y) lines_total_order (λ x y. refl) lines_tie
