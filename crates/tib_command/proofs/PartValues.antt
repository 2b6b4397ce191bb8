-- The values of each part in the rows, and the agreement of clap with the word language.
use Rattle.std.proofs.Common.{append_assoc, append-nil, ◌≡◌, ◌∙◌, Bool, cond, true, false, refl, sym, ap, List, [], ◌∷◌, ◌++◌, map, Option, Some, None, true≢false}
use Rattle.std.proofs.lemmas.Slice.Eq.{bytes_eq-Decides}
use Rattle.clap.specs.declared.parser.matches.ValueSource.TheVariants.{CommandLine}
use Rattle.clap.specs.declared.builder.value_parser.Reading.{Reading}
use Rattle.clap.specs.declared.builder.value_parser.Reading.TheVariants as reading
use Rattle.std.specs.Prelude.{String}
use Rattle.std.specs.String.{string_bytes}
use Rattle.std.proofs.lemmas.Str.{IsUtf8-string_bytes}
use Rattle.std.specs.Str.{bytes_eq}
use Rattle.clap.specs.Walk.{with_values, Row}
use Rattle.clap.specs.Simple.{matches_of}
use Rattle.clap.specs.Kinds.{Kinds}
use Rattle.clap.specs.Faults.{fault_of}
use Rattle.tib_command.specs.Command.{app, id_of, all_values, takes}
use Rattle.tib_command.specs.Words.{Text, Part, mode, depth, workers, limit, beam, place, Item, values_of, same_part}
use Rattle.tib_command.proofs.Setting.{used_with, run}
use Rattle.tib_command.proofs.Walks.{Agrees, AllUtf8}
use Rattle.tib_command.proofs.Checks.{clap_agrees}

module _ (id : Text) (how : Reading) (v : Text) where
  abbrev pub more : List Row → List Row
  more rows = with_values id how CommandLine (v ∷ []) rows

  -- the row of another id is as before
  pub more_other : (other : Text) → bytes_eq id other ≡ false → (rows : List Row) → all_values other (more rows) ≡ all_values other rows
  more_other other d [] = rw d refl
  more_other other d (r ∷ rows) = go (more_other other d rows) (bytes_eq r.id id) refl (bytes_eq r.id other) refl
    where
      go : all_values other (more rows) ≡ all_values other rows → (b : Bool) → bytes_eq r.id id ≡ b → (c : Bool) → bytes_eq r.id other ≡ c → all_values other (more (r ∷ rows)) ≡ all_values other (r ∷ rows)
      go h true e true f =
          let a : r.id ≡ id = (bytes_eq-Decides r.id id).0 e in
          let b : r.id ≡ other = (bytes_eq-Decides r.id other).0 f in
          absurd (true≢false (sym ((bytes_eq-Decides id other).1 (sym a ∙ b)) ∙ d))
      go h true e false f = rw (e, f) refl
      go h false e true f = rw (e, f) refl
      go h false e false f = rw (e, f) h

  pub more_same : bytes_eq id id ≡ true → (rows : List Row) → all_values id (more rows) ≡ all_values id rows ++ v ∷ []
  more_same d [] = rw d refl
  more_same d (r ∷ rows) = go (more_same d rows) (bytes_eq r.id id) refl
    where
      go : all_values id (more rows) ≡ all_values id rows ++ v ∷ [] → (b : Bool) → bytes_eq r.id id ≡ b → all_values id (more (r ∷ rows)) ≡ all_values id (r ∷ rows) ++ v ∷ []
      go h true e = rw (e, e) refl
      go h false e = rw (e, e) h

pub used_is : (q : Part) (v : Text) (rows : List Row) → used_with q v rows ≡ more (id_of q) reading.AsWritten v rows
used_is mode v rows = refl
used_is depth v rows = refl
used_is workers v rows = refl
used_is limit v rows = refl
used_is beam v rows = refl
used_is place v rows = refl

pub ids_tell : (q p : Part) → bytes_eq (id_of q) (id_of p) ≡ same_part q p
ids_tell mode mode = refl
ids_tell mode depth = refl
ids_tell mode workers = refl
ids_tell mode limit = refl
ids_tell mode beam = refl
ids_tell mode place = refl
ids_tell depth mode = refl
ids_tell depth depth = refl
ids_tell depth workers = refl
ids_tell depth limit = refl
ids_tell depth beam = refl
ids_tell depth place = refl
ids_tell workers mode = refl
ids_tell workers depth = refl
ids_tell workers workers = refl
ids_tell workers limit = refl
ids_tell workers beam = refl
ids_tell workers place = refl
ids_tell limit mode = refl
ids_tell limit depth = refl
ids_tell limit workers = refl
ids_tell limit limit = refl
ids_tell limit beam = refl
ids_tell limit place = refl
ids_tell beam mode = refl
ids_tell beam depth = refl
ids_tell beam workers = refl
ids_tell beam limit = refl
ids_tell beam beam = refl
ids_tell beam place = refl
ids_tell place mode = refl
ids_tell place depth = refl
ids_tell place workers = refl
ids_tell place limit = refl
ids_tell place beam = refl
ids_tell place place = refl

pub part_step : (p q : Part) (v : Text) (rows : List Row) (vs : List Text) → all_values (id_of p) (used_with q v rows) ++ vs ≡ all_values (id_of p) rows ++ cond (same_part q p) (v ∷ vs) vs
part_step p q v rows vs = ap (λ r. all_values (id_of p) r ++ vs) (used_is q v rows) ∙ go (same_part q p) (ids_tell q p)
  where
    go : (b : Bool) → bytes_eq (id_of q) (id_of p) ≡ b → all_values (id_of p) (more (id_of q) reading.AsWritten v rows) ++ vs ≡ all_values (id_of p) rows ++ cond b (v ∷ vs) vs
    go true e =
        let same : id_of q ≡ id_of p = (bytes_eq-Decides (id_of q) (id_of p)).0 e in
        ap (λ i. all_values (id_of p) (more i reading.AsWritten v rows) ++ vs) same
        ∙ ap (λ x. x ++ vs) (more_same (id_of p) reading.AsWritten v ((bytes_eq-Decides (id_of p) (id_of p)).1 refl) rows)
        ∙ append_assoc (all_values (id_of p) rows) (v ∷ []) vs
    go false e = ap (λ x. x ++ vs) (more_other (id_of q) reading.AsWritten v (id_of p) e rows)

pub run_values : (p : Part) (items : List Item) (rows : List Row) → all_values (id_of p) (run rows items) ≡ all_values (id_of p) rows ++ values_of p items
run_values p [] rows = sym (append-nil (all_values (id_of p) rows))
run_values p (i ∷ items) rows = run_values p items (used_with i.0 i.1 rows) ∙ part_step p i.0 i.1 rows (values_of p items)

-- clap refuses exactly the words that `takes` refuses, and else gives each part the values that
-- `takes` gives it
abbrev pub ReadsTo : Option (List Item) → Kinds → List Row → Type 0
ReadsTo None kinds rows = kinds ≡ [] → ⊥
ReadsTo (Some items) kinds rows = (kinds ≡ []) × ((p : Part) → all_values (id_of p) rows ≡ values_of p items)

pub reads_from : (o : Option (List Item)) (kinds : Kinds) (rows : List Row) → Agrees o [] kinds rows → ReadsTo o kinds rows
reads_from None kinds rows h = h
reads_from (Some items) kinds rows h = (h.0, λ p. ap (all_values (id_of p)) h.1 ∙ run_values p items [])

pub clap_reads : (words : List Text) → AllUtf8 words → ReadsTo (takes words None) (fault_of app words) (matches_of app words)
clap_reads words u = reads_from (takes words None) _ _ (clap_agrees words u)

pub strings_utf8 : {Z : Type 0} (ws : List (String Z)) → AllUtf8 (map (λ s. string_bytes s) ws)
strings_utf8 [] = tt
strings_utf8 (w ∷ ws) = (IsUtf8-string_bytes w, strings_utf8 ws)
