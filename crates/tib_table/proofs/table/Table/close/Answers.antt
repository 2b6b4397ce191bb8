use Rattle.std.proofs.Common.{List, map, sym, ap, subst}
use Rattle.tib_table.specs.Kept.{keys_of}
use Rattle.tib_table.specs.Known.{Knowledge, GoOn, AreShelves}
use Rattle.tib_table.proofs.Passes.{is_about}
use Rattle.tib_table.proofs.Closing.{closed_length, closed_shelves, closed_more, names_kept, numbering_kept, seated_out}
use Rattle.tib_table.proofs.table.Table.close.Goals as goal

pub close_locks-requires-clause-outside : goal.close_locks-requires-clause-outside
close_locks-requires-clause-outside g c = seated_out (g.P.Problem.about c.seats.inside.problem) 0 c.seats.inside.passes.items c.seats.invariant.1

pub from_list-requires : goal.from_list-requires
from_list-requires g c = closed_length (g.P.Problem.about c.seats.inside.problem) g.P.Problem.may_hold g.P.Key.TableKey.shelf_of g.P.Key.PartialEq.eq g.met.P.Key.Eq.laws.refl c.seats.inside.passes.items c.close_locks.result.items c.close_locks.ensures c.seats.invariant.1 c.seats.invariant.0

pub returns-clause-more : goal.returns-clause-more
returns-clause-more g c =
    let known = ap (λ (k : Knowledge g.row.P-Data.Denot g.row.P-Key.Denot). k.known) c.seats.view_is in
    subst (λ (l : List (List g.row.P-Key.Denot)). GoOn c.args.seats.known l) (sym c.from_list.ensures)
    (subst (λ (l : List (List g.row.P-Key.Denot)). GoOn l (map keys_of c.close_locks.result.items)) known (closed_more (g.P.Problem.about c.seats.inside.problem) g.P.Problem.may_hold g.P.Key.TableKey.shelf_of g.P.Key.PartialEq.eq g.met.P.Key.Eq.laws.refl c.seats.inside.passes.items c.close_locks.result.items c.close_locks.ensures c.seats.invariant.1 c.seats.invariant.0))

pub returns-clause-known : goal.returns-clause-known
returns-clause-known g c = names_kept c.args.seats.known c.from_list.result (returns-clause-more g c)

pub returns-clause-shelves : goal.returns-clause-shelves
returns-clause-shelves g c =
    let about = is_about c.args.seats c.args.self (g.P.Problem.about c.seats.inside.problem) (g.P.Problem.about c.self.inside.problem) c.self.inside.locks.items c.seats.inside.passes.items c.self.view_is c.seats.view_is c.requires.table in
    subst (λ (l : List (List g.row.P-Key.Denot)). AreShelves (g.P.Problem.may_hold c.args.self.about) g.P.Key.TableKey.shelf_of l) (sym c.from_list.ensures)
    (subst (λ (x : g.row.P-Data.Denot). AreShelves (g.P.Problem.may_hold x) g.P.Key.TableKey.shelf_of (map keys_of c.close_locks.result.items)) (sym about) (closed_shelves (g.P.Problem.about c.seats.inside.problem) g.P.Problem.may_hold g.P.Key.TableKey.shelf_of g.P.Key.PartialEq.eq g.met.P.Key.Eq.laws.refl c.seats.inside.passes.items c.close_locks.result.items c.close_locks.ensures c.seats.invariant.1 c.seats.invariant.0))

pub returns-clause-numbering : goal.returns-clause-numbering
returns-clause-numbering g c = numbering_kept c.args.seats.known c.from_list.result (returns-clause-more g c) (returns-clause-shelves g c).numbering
