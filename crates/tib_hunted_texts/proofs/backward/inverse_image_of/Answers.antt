use Rattle.std.proofs.Common.{refl, inl, inr}
use Rattle.std.proofs.lemmas.Result.{IfOk-weaker, IfErr-weaker}
use Rattle.tib_expand.specs.Reached.{IsBeyond}
use Rattle.tib_canon.specs.TrimmedForms.{IsTrimmedForm}
use Rattle.tib_operations.specs.Backward.{inverting, backward_makes}
use Rattle.tib_operations.specs.Made.{normal_form}
use Rattle.tib_operations.proofs.AppliedByText.{more_backward}
use Rattle.tib_operations.proofs.AppliedSeries.{backward_of_form}
use Rattle.tib_hunted_texts.proofs.Handed.{ok_four}
use Rattle.tib_operations.proofs.MadeParts.{made_weaker, canonical_within}
use Rattle.tib_hunted_texts.proofs.backward.inverse_image_of.Goals as goal

pub canonical_of_inverse_image-requires-clause-grammar : goal.canonical_of_inverse_image-requires-clause-grammar
canonical_of_inverse_image-requires-clause-grammar g c = c.in-Ok.ensures.printable c.args.labels.now c.requires.grammar

pub returns-clause-grammar : goal.returns-clause-grammar
returns-clause-grammar g c =
    ok_four c.canonical_of_inverse_image.result _ _ _ _ _ (λ h canonical series are read. (
      record {
        h = h.grammar;
        canonical = record { from = c.in-Ok.form; is_made = c.in-Ok.ensures.form; canonical = canonical };
        series = backward_of_form g.met.S.Semiring.laws c.args.transducer.now.rules c.args.grammar.now.rules c.in-Ok.form.rules c.grammar.ensures.normal.normal c.in-Ok.ensures.series h.grammar.rules series;
        are = are;
        read = read;
      },
      refl,
    )) c.canonical_of_inverse_image.ensures.canonical c.canonical_of_inverse_image.ensures.series c.canonical_of_inverse_image.ensures.text c.canonical_of_inverse_image.ensures.read

pub returns-clause-text : goal.returns-clause-text
returns-clause-text g c = IfOk-weaker c.canonical_of_inverse_image.result _ _ (λ h is. is.0) (returns-clause-grammar g c)

pub returns-clause-within : goal.returns-clause-within
returns-clause-within g c =
    IfOk-weaker c.canonical_of_inverse_image.result _ _ (λ h canonical. (
      c.in-Ok.ensures.within,
      canonical_within g.S.Semiring.product g.S.Semiring.SCALE c.args.labels.now c.args.limit (IsTrimmedForm g.S.Semiring.product c.args.grammar.now) (inverting g.S.Semiring.product c.args.transducer.now) h.grammar c.in-Ok.form c.in-Ok.ensures.form canonical,
    )) c.canonical_of_inverse_image.ensures.canonical

pub returns-in-Err-clause-err : goal.returns-in-Err-clause-err
returns-in-Err-clause-err g c =
    made_weaker (normal_form g.S.Semiring.product c.args.limit c.args.grammar.now).more c.args.limit (backward_makes g.S.Semiring.product c.args.limit c.args.transducer.now c.args.grammar.now).more (λ m. inl m) c.in-Err.status c.in-Err.ensures.err

pub returns-clause-err : goal.returns-clause-err
returns-clause-err g c =
    IfErr-weaker c.canonical_of_inverse_image.result _ _ (λ status told.
    made_weaker (IsBeyond (inverting g.S.Semiring.product c.args.transducer.now c.in-Ok.form).problem c.args.limit) c.args.limit (backward_makes g.S.Semiring.product c.args.limit c.args.transducer.now c.args.grammar.now).more
    (λ beyond. inr (λ from made. more_backward g.S.Semiring.product c.args.limit c.args.grammar.now from c.in-Ok.form c.args.transducer.now made c.in-Ok.ensures.form beyond)) status told) c.canonical_of_inverse_image.ensures.err
