use Rattle.tib_difference.proofs.Holding.{value_set}
use Rattle.tib_difference.proofs.lists.add.Goals as goal

pub returns : goal.returns
returns g c =
    value_set c.args.lists.now.items c.make_room.new.lists.items c.args.number c.args.value c.push.new.self c.index_mut.result.now c.in_ok-make_room.ensures.same c.in_ok-make_room.ensures.room c.index_mut.ensures.value
    c.in_ok-push.ensures.items
