use Rattle.std.proofs.Common.{subst, sym, List, ℕ}
use Rattle.tib_transducer_file.specs.FileHeld.{FileReadBy}
use Rattle.tib_transducer_file.specs.Value.{IsRuleBy}
use Rattle.tib_transducer_file.proofs.AddedLabels.{file_added}
use Rattle.tib_transducer_file.proofs.FileHeld.{file_read, names_sound, begun_fault, rules_fault}
use Rattle.tib_transducer_file.proofs.file.read_file.Goals as goal

pub state_names-requires-clause-sound : goal.state_names-requires-clause-sound
state_names-requires-clause-sound g c =
    names_sound g.met.R.RightReader.format (IsRuleBy g.R.RightReader.view) g.S.Semiring.SCALE c.args.bytes.now c.read_rules.new.names c.read_rules.new.labels c.in-Ok-read_rules.rules.items
    (file_read g.met.R.RightReader.format (IsRuleBy g.R.RightReader.view) g.S.Semiring.SCALE _ c.args.bytes.now c.new-names.result c.find_start.new.names c.read_rules.new.names _ c.read_rules.new.labels c.in-Ok.begun c.in-Ok-read_rules.rules c.SCALE.ensures c.new-names.ensures c.in-Ok.ensures c.in-Ok-read_rules.ensures.rules)

pub returns-in-Ok-state_names-clause-file : goal.returns-in-Ok-state_names-clause-file
returns-in-Ok-state_names-clause-file g c =
    subst (λ (names : List (List ℕ)). FileReadBy g.R.RightReader.spells (IsRuleBy g.R.RightReader.view) g.S.Semiring.SCALE c.args.bytes.now names c.read_rules.new.labels c.in-Ok-read_rules.rules.items) (sym c.in-Ok-state_names.ensures)
    (file_read g.met.R.RightReader.format (IsRuleBy g.R.RightReader.view) g.S.Semiring.SCALE _ c.args.bytes.now c.new-names.result c.find_start.new.names c.read_rules.new.names _ c.read_rules.new.labels c.in-Ok.begun c.in-Ok-read_rules.rules c.SCALE.ensures c.new-names.ensures c.in-Ok.ensures c.in-Ok-read_rules.ensures.rules)

pub returns-in-Err-clause-fault : goal.returns-in-Err-clause-fault
returns-in-Err-clause-fault g c = begun_fault g.met.R.RightReader.format g.S.Semiring.SCALE c.args.bytes.now c.new-names.result c.find_start.new.names c.in-Err.error c.in-Err.ensures

pub returns-clause-fault : goal.returns-clause-fault
returns-clause-fault g c = rules_fault g.met.R.RightReader.format (IsRuleBy g.R.RightReader.view) g.S.Semiring.SCALE _ c.args.bytes.now c.new-names.result c.find_start.new.names c.read_rules.new.names c.args.labels.now c.read_rules.new.labels c.in-Ok.begun c.in-Err-read_rules.error c.SCALE.ensures c.in-Ok.ensures c.in-Err-read_rules.ensures.rules

pub returns-in-Ok-state_names-clause-added : goal.returns-in-Ok-state_names-clause-added
returns-in-Ok-state_names-clause-added g c = file_added g.R.RightReader.view c.find_start.new.names c.read_rules.new.names c.args.labels.now c.read_rules.new.labels c.in-Ok-read_rules.rules _ c.in-Ok-read_rules.ensures.rules
