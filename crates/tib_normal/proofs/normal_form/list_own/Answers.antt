use Rattle.std.proofs.Common.{ℕ, arith, sym, subst, length, []}
use Rattle.std.specs.Global.{Vec}
use Rattle.std.proofs.lemmas.List.{length-map}
use Rattle.tib_lex.specs.Lists.{Has}
use Rattle.tib_grammar.specs.ShapeBuckets.{lists_of}
use Rattle.tib_normal.specs.Arranging.{AreArranged}
use Rattle.tib_normal.specs.Gathered.{HaveMoreParts}
use Rattle.tib_normal.specs.Rows.{AreTooMany}
use Rattle.tib_normal.proofs.Forming.{if_many}
use Rattle.tib_normal.proofs.Rowing.{own-many, own-made, own-parts, parts-within}
use Rattle.tib_normal.proofs.normal_form.list_own.Goals as goal

pub returns-in-Err-clause-many : goal.returns-in-Err-clause-many
returns-in-Err-clause-many g c =
    if_many c.in-Err.error c.args.limit
    (HaveMoreParts g.S.Semiring.product c.args.rules.now c.args.sides.now.numbers.items (length c.args.sides.now.table.keys) c.args.states (lists_of c.args.sides.now.table.keys) [] c.args.parts c.args.limit) (AreTooMany g.S.Semiring.product c.args.states c.args.rules.now c.args.parts c.args.limit)
    (own-many g.S.Semiring.product c.args.states c.args.rules.now (lists_of c.args.sides.now.table.keys) c.args.sides.now.numbers.items c.requires.sides (length c.args.sides.now.table.keys) (sym (length-map c.args.sides.now.table.keys (λ (b : Vec ℕ). b.items))) c.args.parts c.args.limit)
    c.in-Err.ensures.many

pub arrange-requires-clause-ready : goal.arrange-requires-clause-ready
arrange-requires-clause-ready g c x h =
    let held : Has c.gather.new.made.rows.items x = subst (λ xs. Has xs x) c.deref-2.ensures.value h in (
      c.in-Ok.ensures.gathered.are.side_below x held,
      omega (
        arith,
        parts-within (lists_of c.args.sides.now.table.keys) c.gather.new.made.rows.items x held,
        c.in-Ok.ensures.parts,
        c.gather.new.made.within,
        c.gather.new.made.small,
      ),
    )

pub returns-clause-own : goal.returns-clause-own
returns-clause-own g c =
    own-made g.S.Semiring.product c.args.states c.args.rules.now (lists_of c.args.sides.now.table.keys) c.args.sides.now.numbers.items c.requires.sides (length c.args.sides.now.table.keys) (sym (length-map c.args.sides.now.table.keys (λ (b : Vec ℕ). b.items)))
    c.gather.new.made.rows.items c.in_ok-arrange.field-0.items c.in-Ok.ensures.gathered
    (subst (λ xs. AreArranged (lists_of c.args.sides.now.table.keys) xs c.args.states c.in_ok-arrange.field-0.items) c.deref-2.ensures.value c.in_ok-arrange.ensures)

pub returns-clause-within : goal.returns-clause-within
returns-clause-within g c =
    let fewer = own-parts g.S.Semiring.product c.args.states c.args.rules.now (lists_of c.args.sides.now.table.keys) c.args.sides.now.numbers.items c.requires.sides (length c.args.sides.now.table.keys) (sym (length-map c.args.sides.now.table.keys (λ (b : Vec ℕ). b.items)))
    c.gather.new.made.rows.items c.in_ok-arrange.field-0.items c.in-Ok.ensures.gathered
    (subst (λ xs. AreArranged (lists_of c.args.sides.now.table.keys) xs c.args.states c.in_ok-arrange.field-0.items) c.deref-2.ensures.value c.in_ok-arrange.ensures)
    in
    omega (arith, fewer, c.in-Ok.ensures.parts, c.in-Ok.ensures.limit, c.gather.new.made.within)
