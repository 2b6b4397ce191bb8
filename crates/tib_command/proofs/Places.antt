-- Where the walk is, and a word that goes to the positional words.
use Rattle.std.proofs.Common.{◌≡◌, ◌∙◌, Bool, cond, codes, true, false, refl, ap, List, [], ◌∷◌, Option, Some, None}
use Rattle.clap.specs.Walk.{Held, Row, Waiting, Walk, walked, idle, positional, option, settled, subcommand_met, word_met, value, pushed, after_step, is_pending}
use Rattle.clap.specs.Kinds.{or_else}
use Rattle.clap.specs.Faults.{turn_fault, word_fault, step_fault}
use Rattle.tib_command.specs.Words.{Text, place}
use Rattle.tib_command.proofs.Setting.{top, rules, held_at, rule_at, quiet}
use Rattle.tib_command.proofs.Pending.{and_false}

abbrev pub at : Waiting → Bool → Held → Walk
at wt t h = record { held = h; waiting = wt; position = 1; is_trailing = t; stopped = None }

pub no_subcommand : (wt : Waiting) (word : Text) → subcommand_met [] wt word ≡ None
no_subcommand idle word = refl
no_subcommand positional word = refl
no_subcommand (option id) word = refl

-- a word that goes to the positional words
module _ (word : Text) (rows : List Row) (pending : Option (Text × List Text)) where
  abbrev pub here : Held
  here = held_at rows pending

  abbrev pub placed : Held
  placed = held_at (settled rules here).rows (Some (codes "places", word ∷ []))

  pub place_fault : (t : Bool) (wt : Waiting) → word_fault top [] t wt word here ≡ [] → word_met rules [] t wt 1 word here ≡ (here, value) → quiet here ≡ []
      → turn_fault top [] (at wt t here) word ≡ []
  place_fault t wt wf met q =
      (λ i. or_else (wf i) (step_fault top 1 (met i).0 (met i).1))
      ∙ ap (λ x. cond x [] (quiet here)) (and_false (is_pending (rule_at place) pending))
      ∙ q

  pub place_walk : (t : Bool) (wt : Waiting) → word_met rules [] t wt 1 word here ≡ (here, value)
      → walked rules [] (at wt t here) word ≡ at positional t placed
  unfolding walked
  place_walk true wt met =
      (λ i. after_step rules word (at wt true here) (met i).0 (met i).1)
      ∙ ap (λ x. at positional true (pushed (codes "places") word (cond x here (settled rules here)))) (and_false (is_pending (rule_at place) pending))
  place_walk false wt met =
      (λ i. after_step rules word (at wt false here) (met i).0 (met i).1)
      ∙ ap (λ x. at positional false (pushed (codes "places") word (cond x here (settled rules here)))) (and_false (is_pending (rule_at place) pending))
