use Rattle.std.proofs.Common.{refl, inl, inr}
use Rattle.std.proofs.lemmas.Result.{IfOk-weaker, IfErr-weaker}
use Rattle.tib_expand.specs.Reached.{IsBeyond}
use Rattle.tib_canon.specs.TrimmedForms.{IsTrimmedForm}
use Rattle.tib_determinize.specs.Determinization.{determinization}
use Rattle.tib_operations.specs.Determinize.{determinizing, determinize_makes}
use Rattle.tib_operations.specs.Made.{normal_form}
use Rattle.tib_hunted_texts.proofs.Handed.{ok_four}
use Rattle.tib_operations.proofs.MadeParts.{made_weaker, canonical_within}
use Rattle.tib_operations.proofs.OfDeterminize.{determinization_of_form}
use Rattle.tib_operations.proofs.VectorsByText.{more_vectors}
use Rattle.tib_hunted_texts.proofs.determinize.determinization_of.Goals as goal

pub canonical_of_vectors-requires-clause-form : goal.canonical_of_vectors-requires-clause-form
canonical_of_vectors-requires-clause-form g c = c.in-Ok.ensures.printable c.args.labels.now c.requires.grammar

pub returns-clause-grammar : goal.returns-clause-grammar
returns-clause-grammar g c =
    ok_four c.canonical_of_vectors.result _ _ _ _ _ (λ h canonical means are read. (
      record {
        h = h.grammar;
        canonical = record { from = c.in-Ok.form; is_made = c.in-Ok.ensures.form; canonical = canonical };
        series = determinization_of_form g.S.Semiring.product c.args.grammar.now c.in-Ok.form h.grammar.rules c.in-Ok.ensures.series means;
        are = are;
        read = read;
      },
      refl,
    )) c.canonical_of_vectors.ensures.canonical c.canonical_of_vectors.ensures.means c.canonical_of_vectors.ensures.text c.canonical_of_vectors.ensures.read

pub returns-clause-text : goal.returns-clause-text
returns-clause-text g c = IfOk-weaker c.canonical_of_vectors.result _ _ (λ h is. is.0) (returns-clause-grammar g c)

pub returns-clause-within : goal.returns-clause-within
returns-clause-within g c =
    IfOk-weaker c.canonical_of_vectors.result _ _ (λ h canonical. (
      c.in-Ok.ensures.within,
      canonical_within g.S.Semiring.product g.S.Semiring.SCALE c.args.labels.now c.args.limit (IsTrimmedForm g.S.Semiring.product c.args.grammar.now) (determinizing g.S.Semiring.product) h.grammar c.in-Ok.form c.in-Ok.ensures.form canonical,
    )) c.canonical_of_vectors.ensures.canonical

pub returns-in-Err-clause-err : goal.returns-in-Err-clause-err
returns-in-Err-clause-err g c =
    made_weaker (normal_form g.S.Semiring.product c.args.limit c.args.grammar.now).more c.args.limit (determinize_makes g.S.Semiring.product c.args.limit c.args.grammar.now).more (λ m. inl m) c.in-Err.status c.in-Err.ensures.err

pub returns-clause-err : goal.returns-clause-err
returns-clause-err g c =
    IfErr-weaker c.canonical_of_vectors.result _ _ (λ status told.
    made_weaker (IsBeyond (determinization g.S.Semiring.product c.in-Ok.form.rules) c.args.limit) c.args.limit (determinize_makes g.S.Semiring.product c.args.limit c.args.grammar.now).more
    (λ beyond. inr (more_vectors g.S.Semiring.product c.args.limit c.args.grammar.now c.in-Ok.form (λ h m n. c.trimmed_forms_have_the_same_rules.ensures g.S.Semiring.product h m n) c.in-Ok.ensures.form beyond)) status told) c.canonical_of_vectors.ensures.err
