use Rattle.std.proofs.Common.{◌≡◌, ℕ, ◌+◌, ◌-◌, ◌/◌, ◌<◌, ◌≤◌, length, arith, sym, subst, ◌∙◌, get_or}
use Rattle.std.proofs.lemmas.List.{get_or_read}
use Rattle.tib_determinize.proofs.LookedUp.{before_more, behind_all}
use Rattle.tib_determinize.proofs.vector.count_below.Goals as goal

pub loop-low-preserved-then-entries-middle : goal.loop-low-preserved-then-entries-middle
loop-low-preserved-then-entries-middle c =
    let v = c.args.entries.now in
    let kept = c.loop-low.invariant in
    let test = c.loop-low-test.true in
    let middle = c.loop-low.low + (c.loop-low.high - c.loop-low.low) / 2 in
    let most = kept.1 in
    let low : middle < length v = omega (arith, test, most) in
    let at = get_or_read v middle c.index-entries-middle.result low c.index-entries-middle.is in
    let is : get_or v middle c.index-entries-middle.result ≡ get_or v middle (0, 0) = sym (at c.index-entries-middle.result) ∙ at (0, 0) in
    let less : (get_or v middle (0, 0)).0 < c.args.state = subst (λ (x : ℕ × ℕ). x.0 < c.args.state) is c.if-entries-middle.true in
    (omega (arith, test), most, before_more v middle c.args.state c.requires low less, kept.3)

pub loop-low-preserved : goal.loop-low-preserved
loop-low-preserved c =
    let v = c.args.entries.now in
    let kept = c.loop-low.invariant in
    let test = c.loop-low-test.true in
    let middle = c.loop-low.low + (c.loop-low.high - c.loop-low.low) / 2 in
    let most = kept.1 in
    let low : middle < length v = omega (arith, test, most) in
    let at = get_or_read v middle c.index-entries-middle.result low c.index-entries-middle.is in
    let is : get_or v middle c.index-entries-middle.result ≡ get_or v middle (0, 0) = sym (at c.index-entries-middle.result) ∙ at (0, 0) in
    let least : c.args.state ≤ (get_or v middle (0, 0)).0 = subst (λ (x : ℕ × ℕ). c.args.state ≤ x.0) is c.if-entries-middle.false in
    (omega arith, omega (arith, low), kept.2, behind_all v middle c.args.state c.requires least)
