use Rattle.std.proofs.Common.{◌≡◌, take, map}
use Rattle.tib_canon.specs.Keys.{chain_in}
use Rattle.tib_canon.proofs.begin.chain_rules.Given as goal

abbrev pub invariant-loop-position : goal.invariant-loop-position
invariant-loop-position l = l.rules.items ≡ map (chain_in l.numbers) (take l.position-index l.finals)
