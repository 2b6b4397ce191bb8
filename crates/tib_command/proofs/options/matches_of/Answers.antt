use Rattle.std.proofs.Common.{ap, sym, refl, ◌≡◌, ◌∙◌, ◌⊎◌, ⊎_elim, subst, map, List, [], Option, Some, None}
use Rattle.std.specs.String.{string_bytes}
use Rattle.clap.specs.Words.{app_of, fault_of, found_of, rows_of, Row}
use Rattle.clap.specs.Kinds.{Kinds, IsAmong, HasKind}
use Rattle.clap.specs.Values.{kind_of}
use Rattle.clap.specs.declared.error.kind.ErrorKind.{ErrorKind}
use Rattle.clap.specs.declared.error.kind.ErrorKind.TheVariants.{OutOfMemory}
use Rattle.clap.specs.Faults.{is_simple_and_free}
use Rattle.clap.specs.Simple.{is_simple, matches_of}
use Rattle.tib_command.specs.Words.{Item, Part, Text, values_of}
use Rattle.tib_command.specs.Command.{all_values, app, id_of, takes}
use Rattle.std.specs.Prelude.{option_and_then}
use Rattle.tib_command.specs.Jobs.{asked_by}
use Rattle.tib_command.proofs.Hyphens.{job_same}
use Rattle.tib_command.proofs.Setting.{simple, plain}
use Rattle.tib_command.proofs.PartValues.{ReadsTo, clap_reads, strings_utf8}
use Rattle.tib_command.proofs.options.matches_of.Goals as goal

accepted : (o : Option (List Item)) (kinds : Kinds) (rows : List Row) → ReadsTo o kinds rows → kinds ≡ []
    → (items : List Item) × (o ≡ Some items) × ((p : Part) → all_values (id_of p) rows ≡ values_of p items)
accepted None kinds rows h e = absurd (h e)
accepted (Some items) kinds rows h e = (items, refl, h.1)

-- an error other than out of memory comes only where the words are refused
refused_by : (o : Option (List Item)) (kinds : Kinds) (rows : List Row) (k : ErrorKind) → ReadsTo o kinds rows → (k ≡ OutOfMemory → ⊥) → (k ≡ OutOfMemory) ⊎ IsAmong k kinds → o ≡ None
refused_by None kinds rows k h other e = refl
refused_by (Some items) kinds rows k h other e =
    let none : (k ≡ OutOfMemory) ⊎ IsAmong k [] = subst (λ ks. (k ≡ OutOfMemory) ⊎ IsAmong k ks) h.0 e in
    absurd (⊎_elim (λ m. other m) (λ x. x) none)

pub returns-in-Ok-clause-ok : goal.returns-in-Ok-clause-ok
returns-in-Ok-clause-ok c =
    let words : List Text = map (λ s. string_bytes s) c.args.words.now in
    let same : app_of c.in_ok-command.command ≡ app = c.in_ok-command.ensures in
    let none : fault_of app words ≡ [] = ap (λ a. fault_of a words) (sym same) ∙ c.in-Ok.ensures.kinds (ap is_simple_and_free same ∙ simple) in
    let rows : rows_of (found_of c.in-Ok.matches) ≡ matches_of app words = (c.in-Ok.ensures.matches (ap is_simple same ∙ plain)).0 ∙ ap (λ a. matches_of a words) same in
    let found = accepted (takes words None) _ _ (clap_reads words (strings_utf8 c.args.words.now)) none in
    (found.0, found.1, λ p. ap (all_values (id_of p)) rows ∙ found.2 p)

pub returns : goal.returns
returns c =
    let words : List Text = map (λ s. string_bytes s) c.args.words.now in
    let same : app_of c.in_ok-command.command ≡ app = c.in_ok-command.ensures in
    let among = c.in-Err.ensures.kinds (ap is_simple_and_free same ∙ simple) in
    record {
      ok = tt;
      err = λ _. job_same words (strings_utf8 c.args.words.now) ∙ ap (option_and_then asked_by) (refused_by (takes words None) _ _ (kind_of c.in-Err.error) (clap_reads words (strings_utf8 c.args.words.now)) (λ m. c.in_default.not-OutOfMemory (c.kind.ensures ∙ m)) (subst (λ a. HasKind (fault_of a words) c.in-Err.error) same among));
    }
