-- The defaults and the checks of clap, of which this command has none.
use Rattle.std.proofs.Common.{◌≡◌, ◌∙◌, ◌||◌, Bool, cond, codes, true, false, refl, ap, List, [], ◌∷◌, map, Option, Some, None, is_some}
use Rattle.std.specs.Prelude.{fold}
use Rattle.clap.specs.Walk.{finished, has_row, with_default, Row, Walk, idle}
use Rattle.clap.specs.Simple.{entered, matches_of, built}
use Rattle.clap.specs.Kinds.{Kinds, or_else}
use Rattle.clap.specs.Faults.{entered_fault, check_fault, default_fault, defaults_fault, walk_fault, fault_of}
use Rattle.tib_command.specs.Command.{app, takes}
use Rattle.tib_command.specs.Words.{Text, Part, mode, depth, workers, limit, beam, place}
use Rattle.tib_command.proofs.Setting.{top, rules, held_at, rule_at, quiet}
use Rattle.tib_command.proofs.Places.{at}
use Rattle.tib_command.proofs.Walks.{end_of, total, last_rows, Agrees, AllUtf8, carried, agree}

pub either_way : {X : Type 0} (b : Bool) (x : X) → cond b x x ≡ x
either_way true x = refl
either_way false x = refl

pub no_default_fault : (p : Part) (rows : List Row) → default_fault rows (rule_at p) ≡ []
no_default_fault mode rows = either_way (has_row (codes "m") rows || true) []
no_default_fault depth rows = either_way (has_row (codes "k") rows || true) []
no_default_fault workers rows = either_way (has_row (codes "w") rows || true) []
no_default_fault limit rows = either_way (has_row (codes "limit") rows || true) []
no_default_fault beam rows = either_way (has_row (codes "beam") rows || true) []
no_default_fault place rows = either_way (has_row (codes "places") rows || true) []

pub no_default : (p : Part) (rows : List Row) → with_default rows (rule_at p) ≡ rows
no_default mode rows = either_way (has_row (codes "m") rows) rows
no_default depth rows = either_way (has_row (codes "k") rows) rows
no_default workers rows = either_way (has_row (codes "w") rows) rows
no_default limit rows = either_way (has_row (codes "limit") rows) rows
no_default beam rows = either_way (has_row (codes "beam") rows) rows
no_default place rows = either_way (has_row (codes "places") rows) rows

pub no_default_faults : (ps : List Part) (rows : List Row) → defaults_fault rows (map rule_at ps) ≡ []
unfolding defaults_fault
no_default_faults [] rows = refl
no_default_faults (p ∷ ps) rows = (λ i. or_else (no_default_fault p rows i) (defaults_fault (no_default p rows i) (map rule_at ps))) ∙ no_default_faults ps rows

pub no_defaults : (ps : List Part) (rows : List Row) → fold with_default rows (map rule_at ps) ≡ rows
no_defaults [] rows = refl
no_defaults (p ∷ ps) rows = ap (λ r. fold with_default r (map rule_at ps)) (no_default p rows) ∙ no_defaults ps rows

abbrev pub parts : List Part
parts = mode ∷ depth ∷ workers ∷ limit ∷ beam ∷ place ∷ []

abbrev pub start : Walk
start = at idle false (held_at [] None)

pub rows_are : (words : List Text) → matches_of app words ≡ last_rows start words
rows_are words = no_defaults parts (last_rows start words)

pub or_none : (s : Kinds) → or_else s [] ≡ s
or_none [] = refl
or_none (k ∷ ks) = refl

pub checked : (w s : Kinds) (rows : List Row) → or_else w (or_else s (or_else (defaults_fault rows rules) [])) ≡ or_else w s
checked w s rows = ap (λ d. or_else w (or_else s (or_else d []))) (no_default_faults parts rows) ∙ ap (or_else w) (or_none s)

pub no_checks : (w : Kinds) (s : Kinds) (rows : List Row) (stop : Option (Text × List Text))
    → or_else w (or_else (entered_fault (built app) stop) (or_else s (or_else (defaults_fault rows rules) (check_fault top (finished rules (held_at rows None)) (is_some (entered (built app) stop)))))) ≡ or_else w s
no_checks w s rows None = checked w s rows
no_checks w s rows (Some p) = checked w s rows

pub fault_is : (words : List Text) → fault_of app words ≡ total start words
fault_is words = no_checks (walk_fault top [] start words) (quiet (end_of start words).held) (last_rows start words) (end_of start words).stopped

-- clap refuses the words exactly where `takes` does, and else its rows are those of the items
pub clap_agrees : (words : List Text) → AllUtf8 words → Agrees (takes words None) [] (fault_of app words) (matches_of app words)
clap_agrees words u = carried _ _ _ _ _ _ _ _ refl refl (fault_is words) (rows_are words) (agree words u None false [] None refl)
