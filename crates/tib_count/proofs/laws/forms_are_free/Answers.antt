use Rattle.std.specs.Prelude.{max}
use Rattle.tib_count.proofs.CanonicalRuns.{trimmed_form_free, canonical_free}
use Rattle.tib_count.proofs.FreeForms.{form_free}
use Rattle.tib_count.proofs.UsefulRuns.{trimmed_free}
use Rattle.tib_count.proofs.laws.forms_are_free.Goals as goal

pub returns-clause-normal : goal.returns-clause-normal
returns-clause-normal c = λ states rules more new free form. form_free rules free states more new form

pub returns-clause-trimmed : goal.returns-clause-trimmed
returns-clause-trimmed c = λ n m free trimmed. trimmed_free max n m trimmed free

pub returns-clause-form : goal.returns-clause-form
returns-clause-form c = trimmed_form_free

pub returns-clause-canonical : goal.returns-clause-canonical
returns-clause-canonical c = canonical_free
