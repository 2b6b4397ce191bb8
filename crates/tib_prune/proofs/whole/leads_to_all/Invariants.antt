use Rattle.std.proofs.Common.{◌≡◌, length}
use Rattle.tib_prune.proofs.Untrimmed.{Leads}
use Rattle.tib_prune.proofs.whole.leads_to_all.Given as goal

abbrev pub invariant-loop-rule : goal.invariant-loop-rule
invariant-loop-rule l = record {
  long : length l.marks.items ≡ l.states;
  leads : Leads l.rules l.marks.items;
}
