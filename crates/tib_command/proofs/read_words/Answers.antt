use Rattle.std.proofs.Common.{◌≡◌, ◌∙◌, sym, refl, ap, None, Some, List, [], map, ℕ, option_map, Option, codes, Bor}
use Rattle.std.specs.Prelude.{option_and_then, unwrap_or}
use Rattle.clap.specs.Words.{found_of, rows_of, matched_of, raw_values}
use Rattle.clap.specs.declared.parser.matches.Found.{Found}
use Rattle.clap.proofs.WalkLemmas.{raw_values-rows}
use Rattle.tib_command.specs.declared.job.Mode.{Mode}
use Rattle.tib_command.specs.declared.job.Mode.TheVariants.{MinPlus}
use Rattle.tib_command.specs.Words.{Item, Part, Text, values_of, mode, depth, workers, limit, beam, place}
use Rattle.tib_command.specs.Command.{all_values, id_of, takes}
use Rattle.tib_command.specs.Jobs.{most_parts, most_trees, most_workers, AskedFor, asked_by, beam_in, count_in, job_of, mode_in, once, task_in, task_meaning, texts_of}
use Rattle.tib_command.proofs.Hyphens.{asked_from, job_same}
use Rattle.tib_command.proofs.Walks.{AllUtf8}
use Rattle.tib_command.proofs.PartValues.{strings_utf8}
use Rattle.tib_command.proofs.read_words.Goals as goal

texts_are : (f : Found) (id : Text) (r : Option (Bor (List (Bor Text)))) → option_map (λ s. map (λ v. v.now) s.now) r ≡ option_map raw_values (matched_of f id) → texts_of r ≡ all_values id (rows_of f)
texts_are f id r e = ap (λ o. unwrap_or o []) (e ∙ raw_values-rows f id)

abbrev Reads : List Text → Found → Type 0
Reads words f = (items : List Item) × (takes words None ≡ Some items) × ((p : Part) → all_values (id_of p) (rows_of f) ≡ values_of p items)

module _ (words : List Text) (u : AllUtf8 words) (f : Found) (ok : Reads words f) where
  abbrev at : Text → List Text
  at id = all_values id (rows_of f)

  job_from : (md : Option Mode) (k w l b : Option ℕ) (t : Option AskedFor) → once MinPlus mode_in (at (codes "m")) ≡ md → once 1 (count_in most_trees) (at (codes "k")) ≡ k
      → once 1 (count_in most_workers) (at (codes "w")) ≡ w → once most_parts (count_in most_parts) (at (codes "limit")) ≡ l → once 0 beam_in (at (codes "beam")) ≡ b
      → task_in (at (codes "places")) ≡ t → job_of words ≡ asked_from md k w l b t
  job_from md k w l m t a b c d e f =
      job_same words u ∙ ap (option_and_then asked_by) ok.1
      ∙ sym (λ i. asked_from (once MinPlus mode_in (ok.2 mode i)) (once 1 (count_in most_trees) (ok.2 depth i)) (once 1 (count_in most_workers) (ok.2 workers i)) (once most_parts (count_in most_parts) (ok.2 limit i)) (once 0 beam_in (ok.2 beam i)) (task_in (ok.2 place i)))
      ∙ (λ i. asked_from (a i) (b i) (c i) (d i) (e i) (f i))

pub returns-in_default-clause-err : goal.returns-in_default-clause-err
returns-in_default-clause-err c =
    let f = found_of c.in_ok-matches.matches in
    let md = sym (ap (once MinPlus mode_in) (texts_are f (codes "m") c.get_strs.result c.get_strs.ensures)) ∙ sym c.mode_once.ensures ∙ c.in_default.is in
    λ _. job_from _ (strings_utf8 c.args.words.now) f c.in_ok-matches.ensures.ok None _ _ _ _ _ md refl refl refl refl refl

pub returns-in_default-number_once-clause-err : goal.returns-in_default-number_once-clause-err
returns-in_default-number_once-clause-err c =
    let f = found_of c.in_ok-matches.matches in
    let md = sym (ap (once MinPlus mode_in) (texts_are f (codes "m") c.get_strs.result c.get_strs.ensures)) ∙ sym c.mode_once.ensures ∙ c.in-Some.is in
    let k = sym (ap (once 1 (count_in most_trees)) (texts_are f (codes "k") c.get_strs-2.result c.get_strs-2.ensures)) ∙ sym c.number_once.ensures.value ∙ c.in_default-number_once.is in
    λ _. job_from _ (strings_utf8 c.args.words.now) f c.in_ok-matches.ensures.ok _ None _ _ _ _ md k refl refl refl refl

pub returns-in_default-number_once-2-clause-err : goal.returns-in_default-number_once-2-clause-err
returns-in_default-number_once-2-clause-err c =
    let f = found_of c.in_ok-matches.matches in
    let md = sym (ap (once MinPlus mode_in) (texts_are f (codes "m") c.get_strs.result c.get_strs.ensures)) ∙ sym c.mode_once.ensures ∙ c.in-Some.is in
    let k = sym (ap (once 1 (count_in most_trees)) (texts_are f (codes "k") c.get_strs-2.result c.get_strs-2.ensures)) ∙ sym c.number_once.ensures.value ∙ c.in-Some-number_once.is in
    let w = sym (ap (once 1 (count_in most_workers)) (texts_are f (codes "w") c.get_strs-3.result c.get_strs-3.ensures)) ∙ sym c.number_once-2.ensures.value ∙ c.in_default-number_once-2.is in
    λ _. job_from _ (strings_utf8 c.args.words.now) f c.in_ok-matches.ensures.ok _ _ None _ _ _ md k w refl refl refl

pub returns-in_default-number_once-3-clause-err : goal.returns-in_default-number_once-3-clause-err
returns-in_default-number_once-3-clause-err c =
    let f = found_of c.in_ok-matches.matches in
    let md = sym (ap (once MinPlus mode_in) (texts_are f (codes "m") c.get_strs.result c.get_strs.ensures)) ∙ sym c.mode_once.ensures ∙ c.in-Some.is in
    let k = sym (ap (once 1 (count_in most_trees)) (texts_are f (codes "k") c.get_strs-2.result c.get_strs-2.ensures)) ∙ sym c.number_once.ensures.value ∙ c.in-Some-number_once.is in
    let w = sym (ap (once 1 (count_in most_workers)) (texts_are f (codes "w") c.get_strs-3.result c.get_strs-3.ensures)) ∙ sym c.number_once-2.ensures.value ∙ c.in-Some-number_once-2.is in
    let l = sym (ap (once most_parts (count_in most_parts)) (texts_are f (codes "limit") c.get_strs-4.result c.get_strs-4.ensures)) ∙ sym c.number_once-3.ensures.value ∙ c.in_default-number_once-3.is in
    λ _. job_from _ (strings_utf8 c.args.words.now) f c.in_ok-matches.ensures.ok _ _ _ None _ _ md k w l refl refl

pub returns-in_default-beam_once-clause-err : goal.returns-in_default-beam_once-clause-err
returns-in_default-beam_once-clause-err c =
    let f = found_of c.in_ok-matches.matches in
    let md = sym (ap (once MinPlus mode_in) (texts_are f (codes "m") c.get_strs.result c.get_strs.ensures)) ∙ sym c.mode_once.ensures ∙ c.in-Some.is in
    let k = sym (ap (once 1 (count_in most_trees)) (texts_are f (codes "k") c.get_strs-2.result c.get_strs-2.ensures)) ∙ sym c.number_once.ensures.value ∙ c.in-Some-number_once.is in
    let w = sym (ap (once 1 (count_in most_workers)) (texts_are f (codes "w") c.get_strs-3.result c.get_strs-3.ensures)) ∙ sym c.number_once-2.ensures.value ∙ c.in-Some-number_once-2.is in
    let l = sym (ap (once most_parts (count_in most_parts)) (texts_are f (codes "limit") c.get_strs-4.result c.get_strs-4.ensures)) ∙ sym c.number_once-3.ensures.value ∙ c.in-Some-number_once-3.is in
    let b = sym (ap (once 0 beam_in) (texts_are f (codes "beam") c.get_strs-5.result c.get_strs-5.ensures)) ∙ sym c.beam_once.ensures.value ∙ c.in_default-beam_once.is in
    λ _. job_from _ (strings_utf8 c.args.words.now) f c.in_ok-matches.ensures.ok _ _ _ _ None _ md k w l b refl

pub returns-in_default-2-clause-err : goal.returns-in_default-2-clause-err
returns-in_default-2-clause-err c =
    let f = found_of c.in_ok-matches.matches in
    let md = sym (ap (once MinPlus mode_in) (texts_are f (codes "m") c.get_strs.result c.get_strs.ensures)) ∙ sym c.mode_once.ensures ∙ c.in-Some.is in
    let k = sym (ap (once 1 (count_in most_trees)) (texts_are f (codes "k") c.get_strs-2.result c.get_strs-2.ensures)) ∙ sym c.number_once.ensures.value ∙ c.in-Some-number_once.is in
    let w = sym (ap (once 1 (count_in most_workers)) (texts_are f (codes "w") c.get_strs-3.result c.get_strs-3.ensures)) ∙ sym c.number_once-2.ensures.value ∙ c.in-Some-number_once-2.is in
    let l = sym (ap (once most_parts (count_in most_parts)) (texts_are f (codes "limit") c.get_strs-4.result c.get_strs-4.ensures)) ∙ sym c.number_once-3.ensures.value ∙ c.in-Some-number_once-3.is in
    let b = sym (ap (once 0 beam_in) (texts_are f (codes "beam") c.get_strs-5.result c.get_strs-5.ensures)) ∙ sym c.beam_once.ensures.value ∙ c.in-Some-beam_once.is in
    let t = sym (ap task_in (texts_are f (codes "places") c.get_strs-6.result c.get_strs-6.ensures)) ∙ sym c.in_ok-task.ensures.task ∙ ap (option_map task_meaning) c.in_default-2.is in
    λ _. job_from _ (strings_utf8 c.args.words.now) f c.in_ok-matches.ensures.ok _ _ _ _ _ None md k w l b t

pub returns-clause-ok : goal.returns-clause-ok
returns-clause-ok c =
    let f = found_of c.in_ok-matches.matches in
    let md = sym (ap (once MinPlus mode_in) (texts_are f (codes "m") c.get_strs.result c.get_strs.ensures)) ∙ sym c.mode_once.ensures ∙ c.in-Some.is in
    let k = sym (ap (once 1 (count_in most_trees)) (texts_are f (codes "k") c.get_strs-2.result c.get_strs-2.ensures)) ∙ sym c.number_once.ensures.value ∙ c.in-Some-number_once.is in
    let w = sym (ap (once 1 (count_in most_workers)) (texts_are f (codes "w") c.get_strs-3.result c.get_strs-3.ensures)) ∙ sym c.number_once-2.ensures.value ∙ c.in-Some-number_once-2.is in
    let l = sym (ap (once most_parts (count_in most_parts)) (texts_are f (codes "limit") c.get_strs-4.result c.get_strs-4.ensures)) ∙ sym c.number_once-3.ensures.value ∙ c.in-Some-number_once-3.is in
    let b = sym (ap (once 0 beam_in) (texts_are f (codes "beam") c.get_strs-5.result c.get_strs-5.ensures)) ∙ sym c.beam_once.ensures.value ∙ c.in-Some-beam_once.is in
    let t = sym (ap task_in (texts_are f (codes "places") c.get_strs-6.result c.get_strs-6.ensures)) ∙ sym c.in_ok-task.ensures.task ∙ ap (option_map task_meaning) c.in-Some-2.is in
    job_from _ (strings_utf8 c.args.words.now) f c.in_ok-matches.ensures.ok _ _ _ _ _ _ md k w l b t ∙ refl
