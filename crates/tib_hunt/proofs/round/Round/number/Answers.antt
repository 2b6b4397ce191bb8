use Rattle.std.proofs.Common.{arith, ap, refl}
use Rattle.tib_hunt.specs.Answers.{RoundState}
use Rattle.tib_hunt.proofs.Rounds.{core_numbered, named_there}
use Rattle.tib_hunt.proofs.round.Round.number.Goals as goal

pub returns-clause-after : goal.returns-clause-after
returns-clause-after g c =
    core_numbered c.self.inside.shelves.items c.shelf-shelf.result c.index_mut.result.now c.number.new.self c.index_mut.ensures.value (let l = c.shelf-shelf.ensures.below in let m = c.self.invariant.0 in omega arith)
    g.P.Key.PartialEq.eq g.P.Key.TableKey.shelf_of c.args.key c.self.inside.drawn c.self.inside.filed.items c.args.self.now.core
    (ap (λ (s : RoundState g.row.P-Data.Denot g.row.P-Key.Denot). s.core) c.self.view_is) c.shelf-shelf.ensures.named c.in-Ok.ensures.keys

pub returns-clause-answer : goal.returns-clause-answer
returns-clause-answer g c = (
  _,
  refl,
  c.shelf-shelf.ensures.named,
  named_there c.self.inside.shelves.items c.shelf-shelf.result c.index_mut.result.now c.number.new.self c.index_mut.ensures.value (let l = c.shelf-shelf.ensures.below in let m = c.self.invariant.0 in omega arith)
      c.in-Ok.place c.args.key c.in-Ok.ensures.named,
)
