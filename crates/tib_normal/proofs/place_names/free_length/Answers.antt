use Rattle.std.proofs.Common.{◌≡◌, Some, None, position, not, sym, ◌∙◌, ap}
use Rattle.tib_normal.proofs.Lengths.{one_is_free, first_is_free}
use Rattle.tib_normal.proofs.place_names.free_length.Goals as goal

pub unreachable-requires : goal.unreachable-requires
unreachable-requires c =
    let none : position not c.in_ok-taken.taken.items ≡ None = ap (position not) (sym c.deref.ensures.value) ∙ sym c.first_free.ensures ∙ c.in-None.is in
    one_is_free c.args.names.now c.in_ok-taken.taken.items c.in_ok-taken.ensures none

pub returns-clause-free : goal.returns-clause-free
returns-clause-free c =
    let at : position not c.in_ok-taken.taken.items ≡ Some c.in-Some.beyond = ap (position not) (sym c.deref.ensures.value) ∙ sym c.first_free.ensures ∙ c.in-Some.is in
    first_is_free c.args.names.now c.in_ok-taken.taken.items c.in-Some.beyond c.in_ok-taken.ensures at
