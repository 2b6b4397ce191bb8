use Rattle.tib_determinize.proofs.Holding.{position_set}
use Rattle.tib_determinize.proofs.holders.add_position.Goals as goal

pub returns : goal.returns
returns c =
    position_set c.args.lists.now.items c.make_room.new.lists.items c.args.state c.args.position c.push.new.self c.index_mut.result.now c.in_ok-make_room.ensures.same c.in_ok-make_room.ensures.room c.index_mut.ensures.value
    c.in_ok-push.ensures.items
