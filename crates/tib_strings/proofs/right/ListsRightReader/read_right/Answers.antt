use Rattle.std.proofs.lemmas.Result.{IfOk-weaker}
use Rattle.tib_strings.proofs.right.ListsRightReader.read_right.Goals as goal

pub returns-clause-lie : goal.returns-clause-lie
returns-clause-lie c = IfOk-weaker c.read_places.result _ _ (λ ok lie yes. lie) c.read_places.ensures.lie

pub returns-clause-right : goal.returns-clause-right
returns-clause-right c = IfOk-weaker c.read_places.result _ _ (λ ok leaves yes. (tt, leaves)) c.read_places.ensures.leaves
