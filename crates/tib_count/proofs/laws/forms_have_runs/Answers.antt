use Rattle.tib_count.proofs.CanonicalRuns.{trimmed_form_has_runs, canonical_has_runs}
use Rattle.tib_count.proofs.UsefulRuns.{trimmed_have_runs}
use Rattle.tib_count.proofs.laws.forms_have_runs.Goals as goal

pub returns-clause-trimmed : goal.returns-clause-trimmed
returns-clause-trimmed g c = λ n m count range trimmed. trimmed_have_runs g.met.S.Semiring.laws n m trimmed count range

pub returns-clause-form : goal.returns-clause-form
returns-clause-form g c = trimmed_form_has_runs g.met.S.Semiring.laws

pub returns-clause-canonical : goal.returns-clause-canonical
returns-clause-canonical g c = λ scale labels n m count range canonical. canonical_has_runs g.met.S.Semiring.laws scale labels n m canonical count range
