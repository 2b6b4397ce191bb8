use Rattle.std.proofs.Common.{ℕ, ◌<◌, get_or}
use Rattle.tib_lex.specs.Lists.{Has}
use Rattle.tib_determinize.specs.declared.occurrences.Occurrence.{Occurrence}
use Rattle.tib_determinize.specs.Holders.{held}
use Rattle.tib_determinize.proofs.occurrences.Occurrences.standing.Given as goal

abbrev pub invariant-loop-i : goal.invariant-loop-i
invariant-loop-i l = (m : ℕ) (o : Occurrence) → m < l.i → Has (held l.self.lists.items (get_or l.entries m (0, 0)).0) o → Has (held l.found.items o.bucket) o
