-- What is pending while clap walks over the words.
use Rattle.std.proofs.Common.{◌≡◌, ◌&&◌, Bool, true, false, refl, ap, List, [], ◌∷◌, Some}
use Rattle.clap.specs.Walk.{Row, settled}
use Rattle.clap.specs.Kinds.{Kinds, or_else}
use Rattle.tib_command.specs.Command.{id_of}
use Rattle.tib_command.specs.Words.{Text, Part, mode, depth, workers, limit, beam, place}
use Rattle.tib_command.proofs.Setting.{rules, held_at, used_with, quiet}

pub settles_one : (p : Part) (v : Text) (rows : List Row) → quiet (held_at rows (Some (id_of p, v ∷ []))) ≡ []
settles_one mode v rows = refl
settles_one depth v rows = refl
settles_one workers v rows = refl
settles_one limit v rows = refl
settles_one beam v rows = refl
settles_one place v rows = refl

pub settled_one : (p : Part) (v : Text) (rows : List Row) → (settled rules (held_at rows (Some (id_of p, v ∷ [])))).rows ≡ used_with p v rows
settled_one mode v rows = refl
settled_one depth v rows = refl
settled_one workers v rows = refl
settled_one limit v rows = refl
settled_one beam v rows = refl
settled_one place v rows = refl

pub fails_empty : (p : Part) (rows : List Row) → quiet (held_at rows (Some (id_of p, []))) ≡ [] → ⊥
fails_empty mode rows e = cc
fails_empty depth rows e = cc
fails_empty workers rows e = cc
fails_empty limit rows e = cc
fails_empty beam rows e = cc
fails_empty place rows e = cc

pub left_none : (a b : Kinds) → or_else a b ≡ [] → a ≡ []
left_none [] b e = refl
left_none (k ∷ ks) b e = e

pub past : (a b : Kinds) → a ≡ [] → or_else a b ≡ b
past a b e = ap (λ x. or_else x b) e

pub and_false : (b : Bool) → (b && false) ≡ false
and_false true = refl
and_false false = refl
