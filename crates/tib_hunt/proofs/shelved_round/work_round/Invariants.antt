use Rattle.std.proofs.Common.{◌≡◌, ◌≤◌, ◌+◌}
use Rattle.tib_expand.specs.Keys.{key_parts}
use Rattle.tib_hunt.specs.Shelved.{all_on, IsUnderway}
use Rattle.tib_lex.specs.Lists.{total}
use Rattle.tib_hunt.proofs.shelved_round.work_round.Given as goal

abbrev pub invariant-loop : goal.invariant-loop
invariant-loop g l = record {
  about : l.round.about ≡ (l.terms.problem.now, l.order, l.first);
  underway : IsUnderway (g.E.Expand.hunted l.terms.problem.now) g.E.Expand.reading g.E.Key.PartialEq.eq g.E.Key.TableKey.shelf_of l.order l.first l.counter l.round.core l.work.rows.items l.parts l.work.parts l.terms.limit;
  drawn : l.first + l.round.core.drawn ≡ l.counter;
  counted : l.work.seen ≡ total (key_parts g.E.Key.TableKey.entries_of) (all_on l.round.core.shelves);
  few : l.work.seen ≤ l.terms.limit;
}
