use Rattle.std.proofs.Common.{arith, ap, sym, ◌∙◌, length}
use Rattle.tib_normal.specs.Rows.{side_of}
use Rattle.tib_normal.proofs.Rowing.{key-full, key-short, rule-same}
use Rattle.tib_normal.proofs.rows.make_rule.Goals as goal

pub make_side-requires-clause-full : goal.make_side-requires-clause-full
make_side-requires-clause-full c =
    omega (arith, ap length c.deref.ensures.value, key-full c.args.sides.now.table.keys c.args.row.now.side c.in-Some.key.now c.requires.full (sym c.in-Some.ensures.key))

pub make_side-requires-clause-short : goal.make_side-requires-clause-short
make_side-requires-clause-short c =
    omega (arith, ap length c.deref.ensures.value, key-short c.args.sides.now.table.keys c.args.row.now.side c.args.row.now.cost c.args.row.now.state 4294967296 c.in-Some.key.now c.requires.full (sym c.in-Some.ensures.key) c.requires.few)

pub returns : goal.returns
returns c = rule-same c.args.sides.now.table.keys c.args.row.now c.in-Some.key.now c.in_ok-right.right (sym c.in-Some.ensures.key) (c.in_ok-right.ensures ∙ ap side_of c.deref.ensures.value)
