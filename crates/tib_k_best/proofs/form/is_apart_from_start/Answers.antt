use Rattle.std.proofs.lemmas.Result.{IfOk-weaker}
use Rattle.tib_k_best.proofs.NotedSides.{below_of_apart}
use Rattle.tib_k_best.proofs.form.is_apart_from_start.Goals as goal

pub returns : goal.returns
returns c =
    IfOk-weaker c.are_apart-2.result _ _
    (λ b others t. below_of_apart c.args.rules.now (c.in_ok-is_start_used.ensures c.if-branch.false) (c.in_ok-are_apart.ensures c.if-not-branch.false) (others t)) c.are_apart-2.ensures
