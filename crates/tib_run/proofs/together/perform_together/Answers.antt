use Rattle.std.proofs.Common.{Option, subst, sym, arith}
use Rattle.tib_command.specs.Jobs.{Asked}
use Rattle.tib_job.specs.Run.{IsRunOf, files_seen}
use Rattle.tib_job.proofs.Runs.{no_command, no_memory}
use Rattle.tib_run.proofs.together.perform_together.Goals as goal

pub returns-in-Ok : goal.returns-in-Ok
returns-in-Ok g c =
    subst (λ (job : Option Asked).
    IsRunOf job (files_seen g.F.Files.held g.F.Files.sure g.F.Files.faults c.args.files.now) (files_seen g.F.Files.held g.F.Files.sure g.F.Files.faults c.perform_job_together.new.files)
    (g.O.Sink.seen c.args.out.now) (g.O.Sink.seen c.perform_job_together.new.out) c.perform_job_together.result)
    (sym c.in-Ok.ensures.ok) c.perform_job_together.ensures

pub returns-in-Err-Usage : goal.returns-in-Err-Usage
returns-in-Err-Usage g c = no_command c.files_have_no_fault.ensures c.within_or_too_many.ensures.apart _ _ _ (c.in-Err-Usage.ensures.err c.in-Err-Usage.field-0-is)

pub returns-in-Err-OutOfMemory : goal.returns-in-Err-OutOfMemory
returns-in-Err-OutOfMemory g c = no_memory c.files_have_no_fault.ensures c.within_or_too_many.ensures.apart _ _ _

pub perform_job_together-requires-clause-job : goal.perform_job_together-requires-clause-job
perform_job_together-requires-clause-job g c κs lives = record {
  files = c.in-Ok.ensures.files;
  workers = c.in-Ok.ensures.workers;
  limit = c.in-Ok.ensures.limit;
  beam = c.in-Ok.ensures.beam;
  some = omega (arith, c.in-Ok.ensures.k);
  least = c.in-Ok.ensures.demo;
  most = c.in-Ok.ensures.most;
}
