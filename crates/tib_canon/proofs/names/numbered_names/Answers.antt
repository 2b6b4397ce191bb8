use Rattle.std.proofs.Common.{arith, sym, subst}
use Rattle.tib_grammar.specs.StateName.{AreStateNames}
use Rattle.tib_canon.proofs.StateNames.{are_state_names, length-texts}
use Rattle.tib_canon.proofs.names.numbered_names.Goals as goal

pub from_list-requires : goal.from_list-requires
from_list-requires c = omega (arith, length-texts c.loop-number.texts.items c.loop-number.number c.loop-number.invariant)

pub unreachable-requires : goal.unreachable-requires
unreachable-requires c = c.in_ok-names.ensures.none c.in-None.is (subst AreStateNames (sym c.loop-number.invariant) (are_state_names c.loop-number.number (omega arith)))
