use Rattle.std.proofs.Common.{◌≡◌, map}
use Rattle.tib_canon.specs.Canonical.{names_of}
use Rattle.tib_canon.proofs.names.numbered_names.Given as goal

abbrev pub invariant-loop-number : goal.invariant-loop-number
invariant-loop-number l = map (λ t. t.items) l.texts.items ≡ names_of l.number
