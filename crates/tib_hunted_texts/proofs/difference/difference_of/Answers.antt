use Rattle.std.proofs.Common.{max, refl, inl, inr}
use Rattle.std.proofs.lemmas.Result.{IfOk-weaker, IfErr-weaker}
use Rattle.tib_expand.specs.Reached.{IsBeyond}
use Rattle.tib_difference.specs.Difference.{difference}
use Rattle.tib_operations.specs.Difference.{AreTrimmedWithSupport, differing, difference_makes}
use Rattle.tib_operations.specs.Made.{normal_form}
use Rattle.tib_operations.proofs.MadeParts.{made_weaker, canonical_within}
use Rattle.tib_operations.proofs.OfDifference.{difference_of_forms}
use Rattle.tib_operations.proofs.RunsKept.{runs_kept}
use Rattle.tib_hunted_texts.proofs.Differences.{more_differences}
use Rattle.tib_hunted_texts.proofs.Handed.{ok_four}
use Rattle.tib_hunted_texts.proofs.difference.difference_of.Goals as goal

pub canonical_of_differences-requires-clause-one : goal.canonical_of_differences-requires-clause-one
canonical_of_differences-requires-clause-one g c = c.in-Ok.ensures.printable c.args.labels.now c.requires.grammar

pub returns-clause-grammar : goal.returns-clause-grammar
returns-clause-grammar g c =
    ok_four c.canonical_of_differences.result _ _ _ _ _ (λ h canonical series are read. (
      record {
        h = h.grammar;
        canonical = record { from = (c.in-Ok.one, c.in-Ok-trimmed_form.two); is_made = (c.in-Ok.ensures.form, c.in-Ok-trimmed_form.ensures.form); canonical = canonical };
        series =
            difference_of_forms g.S.Semiring.product c.args.grammar.now c.args.support.now c.in-Ok.one c.in-Ok-trimmed_form.two h.grammar.rules c.in-Ok.ensures.series
            (runs_kept c.args.labels.now c.args.support.now c.in-Ok-trimmed_form.two c.requires.support (c.in-Ok-trimmed_form.ensures.printable c.args.labels.now c.requires.support) c.in-Ok-trimmed_form.ensures.series) series;
        are = are;
        read = read;
      },
      refl,
    )) c.canonical_of_differences.ensures.canonical c.canonical_of_differences.ensures.series c.canonical_of_differences.ensures.text c.canonical_of_differences.ensures.read

pub returns-clause-text : goal.returns-clause-text
returns-clause-text g c = IfOk-weaker c.canonical_of_differences.result _ _ (λ h is. is.0) (returns-clause-grammar g c)

pub returns-clause-within : goal.returns-clause-within
returns-clause-within g c =
    IfOk-weaker c.canonical_of_differences.result _ _ (λ h canonical. (
      c.in-Ok.ensures.within,
      (
        c.in-Ok-trimmed_form.ensures.within,
        canonical_within g.S.Semiring.product g.S.Semiring.SCALE c.args.labels.now c.args.limit (AreTrimmedWithSupport g.S.Semiring.product c.args.grammar.now c.args.support.now) differing h.grammar (c.in-Ok.one, c.in-Ok-trimmed_form.two)
            (c.in-Ok.ensures.form, c.in-Ok-trimmed_form.ensures.form) canonical,
      ),
    )) c.canonical_of_differences.ensures.canonical

pub returns-in-Err-clause-err : goal.returns-in-Err-clause-err
returns-in-Err-clause-err g c =
    made_weaker (normal_form g.S.Semiring.product c.args.limit c.args.grammar.now).more c.args.limit (difference_makes g.S.Semiring.product c.args.limit c.args.grammar.now c.args.support.now).more (λ m. inl m) c.in-Err.status c.in-Err.ensures.err

pub returns-in-Err-trimmed_form-clause-err : goal.returns-in-Err-trimmed_form-clause-err
returns-in-Err-trimmed_form-clause-err g c =
    made_weaker (normal_form max c.args.limit c.args.support.now).more c.args.limit (difference_makes g.S.Semiring.product c.args.limit c.args.grammar.now c.args.support.now).more (λ m. inr (inl m))
    c.in-Err-trimmed_form.status c.in-Err-trimmed_form.ensures.err

pub returns-clause-err : goal.returns-clause-err
returns-clause-err g c =
    IfErr-weaker c.canonical_of_differences.result _ _ (λ status told.
    made_weaker (IsBeyond (difference c.in-Ok.one.rules c.in-Ok-trimmed_form.two.rules) c.args.limit) c.args.limit (difference_makes g.S.Semiring.product c.args.limit c.args.grammar.now c.args.support.now).more
    (λ beyond. inr (inr (more_differences g.S.Semiring.product c.args.limit c.args.grammar.now c.args.support.now c.in-Ok.one c.in-Ok-trimmed_form.two c.order_is_free.ensures
    (λ times h m n. c.trimmed_forms_have_the_same_rules.ensures times h m n) c.in-Ok.ensures.form c.in-Ok-trimmed_form.ensures.form beyond))) status told) c.canonical_of_differences.ensures.err
