use Rattle.std.proofs.Common.{map}
use Rattle.tib_canon.specs.TransducerMerging.{IsChoosing}
use Rattle.tib_canon.proofs.transducer_merging.cheapest.Given as goal

abbrev pub invariant-loop-n : goal.invariant-loop-n
invariant-loop-n l = IsChoosing l.rules l.n (map (λ k. (k.0, k.1.now, k.2.now)) l.sides.keys) l.best.items
