use Rattle.std.proofs.Common.{arith, ap, ◌∙◌, is_eq}
use Rattle.tib_canon.proofs.OverKeysExist.{some_key}
use Rattle.tib_canon.proofs.TransducerExists.{transducer_there}
use Rattle.tib_canon.proofs.transducer_laws.canonical_transducers_exist.Goals as goal

pub returns : goal.returns
returns g c scale labels order rules start few within once apart moves =
    transducer_there g.K.Ord.cmp g.met.K.Ord.total (λ x y e. g.met.K.TableKey.same x y (g.met.K.Ord.matches_eq x y ∙ ap is_eq e)) order once (some_key order start within) start within scale labels rules (omega arith) apart moves
