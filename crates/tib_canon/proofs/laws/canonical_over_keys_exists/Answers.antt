use Rattle.std.proofs.Common.{ap, ◌∙◌, is_eq}
use Rattle.tib_canon.proofs.OverKeysExist.{begun_keys_there}
use Rattle.tib_canon.proofs.laws.canonical_over_keys_exists.Goals as goal

pub returns : goal.returns
returns g c = begun_keys_there g.met.S.Semiring.laws g.K.Ord.cmp g.met.K.Ord.total (λ x y e. g.met.K.TableKey.same x y (g.met.K.Ord.matches_eq x y ∙ ap is_eq e))
