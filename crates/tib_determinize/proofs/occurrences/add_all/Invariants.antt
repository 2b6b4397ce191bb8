use Rattle.std.proofs.Common.{take}
use Rattle.tib_lex.specs.Lists.{Has}
use Rattle.tib_determinize.specs.declared.occurrences.Occurrence.{Occurrence}
use Rattle.tib_determinize.specs.Holders.{HoldMore, held}
use Rattle.tib_determinize.proofs.occurrences.add_all.Given as goal

abbrev pub invariant-loop-one : goal.invariant-loop-one
invariant-loop-one l = record {
  more : HoldMore l.initial.found.items l.found.items;
  own : (o : Occurrence) → Has (take l.one-index l.places) o → Has (held l.found.items o.bucket) o;
}
