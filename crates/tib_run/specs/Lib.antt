pub mod Jobs
pub mod Log
pub use Rattle.tib_job.specs.Kinds
pub use Rattle.tib_job.specs.Causes
pub use Rattle.tib_job.specs.Answers
pub use Rattle.tib_job.specs.Run
pub use Rattle.tib_job.specs.Laws
