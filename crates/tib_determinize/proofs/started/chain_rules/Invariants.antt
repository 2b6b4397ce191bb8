use Rattle.std.proofs.Common.{◌≡◌, take, map}
use Rattle.tib_determinize.specs.Started.{chain_to}
use Rattle.tib_determinize.proofs.started.chain_rules.Given as goal

abbrev pub invariant-loop-i : goal.invariant-loop-i
invariant-loop-i l = l.rules.items ≡ map chain_to (take l.i l.finals)
