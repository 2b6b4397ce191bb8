use Rattle.std.proofs.Common.{◌∙◌}
use Rattle.std.proofs.lemmas.Result.{IfOk-weaker}
use Rattle.indexmap.proofs.CallerLemmas.{Drains-YieldsInOrder}
use Rattle.tib_domain.proofs.alphabet.list_keys.Goals as goal

pub returns : goal.returns
returns c = IfOk-weaker c.from_iter.result _ _ (λ v ran. ran.4.0 ∙ Drains-YieldsInOrder _ _ ran.0 ran.1 ran.2.2 ((ran.3.2 tt).0, (ran.3.0, ran.3.1, (ran.3.2 tt).1)) ∙ ran.2.0) c.from_iter.ensures.ran
