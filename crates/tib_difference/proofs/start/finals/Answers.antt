use Rattle.std.proofs.Common.{◌∙◌}
use Rattle.tib_lex.proofs.Results.{ok_both}
use Rattle.tib_difference.proofs.Ends.{finals_are}
use Rattle.tib_difference.proofs.start.finals.Goals as goal

pub returns : goal.returns
returns c = ok_both c.list_finals.result _ _ _ (λ x h k. h ∙ finals_are 0 c.args.order.now) c.list_finals.ensures c.list_finals.ensures
