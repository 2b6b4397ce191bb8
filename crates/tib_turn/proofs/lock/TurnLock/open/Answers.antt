use Rattle.std.proofs.Common.{◌++◌, ◌∙◌, ap, List, Option, Some, [], ◌∷◌}
use Rattle.tib_turn.proofs.lock.TurnLock.open.Goals as goal
use Rattle.tib_turn.proofs.Opening.{opens_as}

pub new-requires : goal.new-requires
new-requires g c = opens_as g.V.Grows.log c.args.value c.of-about.result.value c.push_reserved.new.self.items (c.push_reserved.ensures.items ∙ ap (λ (l : List (Option g.row.V.Denot)). l ++ Some c.args.value ∷ []) c.in-Ok.ensures.items) c.of-about.ensures
