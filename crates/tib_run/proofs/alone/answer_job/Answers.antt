use Rattle.tib_command.specs.Jobs.{meaning}
use Rattle.tib_job.proofs.Runs.{ended, performed}
use Rattle.tib_run.proofs.alone.answer_job.Goals as goal

pub returns-in-Err : goal.returns-in-Err
returns-in-Err g c = ended c.files_have_no_fault.ensures c.within_or_too_many.ensures.apart _ _ _ _ c.in-Err.status c.in-Err.ensures.status c.in-Err.ensures.files

pub returns : goal.returns
returns g c =
    performed c.files_have_no_fault.ensures c.within_or_too_many.ensures.apart (meaning c.args.job.now) g.S.Semiring.SCALE g.S.Semiring.LEVELLED g.S.Semiring.product c.requires.mode c.requires.levelled
    c.requires.product _ _ _ _ c.values_of.new.labels c.in-Ok.values c.in-Ok.ensures.texts c.in-Ok.ensures.files c.text_of.result c.text_of.ensures c.write_outcome.result c.write_outcome.ensures
