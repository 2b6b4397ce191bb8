use Rattle.std.proofs.Common.{arith, ◌-◌, refl}
use Rattle.std.proofs.lemmas.List.{length-drop}
use Rattle.tib_tree.proofs.Keys.{key_small, key_more}
use Rattle.tib_tree.proofs.recent.key_of.Goals as goal

pub overflow_mul-key : goal.overflow_mul-key
overflow_mul-key c =
    let small = key_small c.args.text.now c.loop-i.i c.loop-i.key (omega (arith, length-drop c.loop-i.i c.args.text.now, c.if-text-gt-LONGEST.false)) c.loop-i.invariant.1 in
    omega (arith, small)

pub overflow_add-key : goal.overflow_add-key
overflow_add-key c =
    let small = key_small c.args.text.now c.loop-i.i c.loop-i.key (omega (arith, length-drop c.loop-i.i c.args.text.now, c.if-text-gt-LONGEST.false)) c.loop-i.invariant.1 in
    let byte = c.type_inv.text (c.loop-i.i - 1) in
    omega (arith, small, c.from.ensures, byte)

pub loop-i-preserved : goal.loop-i-preserved
loop-i-preserved c =
    (omega arith, key_more c.args.text.now c.loop-i.i 0 c.loop-i.key _ c.from.result c.loop-i-test.true c.loop-i.invariant.0 c.from.ensures (omega (arith, c.from.ensures, c.type_inv.text (c.loop-i.i - 1))) c.loop-i.invariant.1 refl)
