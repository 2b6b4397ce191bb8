-- The command of this crate as clap sees it, and the rows that items give.
use Rattle.std.proofs.Common.{◌≡◌, codes, true, false, refl, List, [], ◌∷◌, Option}
use Rattle.clap.specs.Walk.{Held, Row, Rule, used}
use Rattle.clap.specs.Simple.{is_simple, Shape, built, filled, with_index}
use Rattle.clap.specs.Kinds.{Kinds}
use Rattle.clap.specs.Faults.{settle_fault, is_simple_and_free}
use Rattle.tib_command.specs.Command.{letter_rule, limit_rule, beam_rule, place_rule, app}
use Rattle.tib_command.specs.Words.{Text, Part, mode, depth, workers, limit, beam, place, Item}

abbrev pub top : Shape
top = (built app).top

abbrev pub rules : List Rule
rules = top.rules

pub simple : is_simple_and_free app ≡ true
simple = refl

pub plain : is_simple app ≡ true
plain = refl

abbrev pub held_at : List Row → Option (Text × List Text) → Held
held_at rows pending = record { rows = rows; pending = pending; skip = 0 }

abbrev pub rule_at : Part → Rule
rule_at mode = filled (letter_rule (codes "m") 109)
rule_at depth = filled (letter_rule (codes "k") 107)
rule_at workers = filled (letter_rule (codes "w") 119)
rule_at limit = filled limit_rule
rule_at beam = filled beam_rule
rule_at place = with_index 1 (filled place_rule)

-- the rows after a use of a part with one value
abbrev pub used_with : Part → Text → List Row → List Row
used_with p v rows = used (rule_at p) (v ∷ []) rows

abbrev pub run : List Row → List Item → List Row
run rows [] = rows
run rows (i ∷ items) = run (used_with i.0 i.1 rows) items

abbrev pub quiet : Held → Kinds
quiet h = settle_fault rules false h
