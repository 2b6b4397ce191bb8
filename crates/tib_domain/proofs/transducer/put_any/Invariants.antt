use Rattle.std.proofs.Common.{◌≡◌, ◌++◌, map, drop}
use Rattle.tib_domain.specs.Reading.{any_rule}
use Rattle.tib_domain.proofs.transducer.put_any.Given as goal

abbrev pub invariant-loop-label : goal.invariant-loop-label
invariant-loop-label g l = l.moves.items ++ map (any_rule l.any) (drop l.label-index l.symbols) ≡ l.initial.moves.items ++ map (any_rule l.any) l.symbols
