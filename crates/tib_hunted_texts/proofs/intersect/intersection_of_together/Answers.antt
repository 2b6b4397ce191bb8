use Rattle.std.proofs.Common.{refl, inl, inr}
use Rattle.std.proofs.lemmas.Result.{IfOk-weaker, IfErr-weaker}
use Rattle.tib_expand.specs.Reached.{IsBeyond}
use Rattle.tib_intersect.specs.Intersection.{intersection}
use Rattle.tib_operations.specs.Intersect.{AreTrimmedForms, intersecting, intersect_makes}
use Rattle.tib_operations.specs.Made.{normal_form}
use Rattle.tib_hunted_texts.proofs.Handed.{ok_four}
use Rattle.tib_operations.proofs.MadeParts.{made_weaker, canonical_within}
use Rattle.tib_operations.proofs.OfIntersect.{product_of_forms}
use Rattle.tib_hunted_texts.proofs.Pairs.{more_pairs}
use Rattle.tib_hunted_texts.proofs.intersect.intersection_of_together.Goals as goal

pub canonical_of_pairs-requires-clause-one : goal.canonical_of_pairs-requires-clause-one
canonical_of_pairs-requires-clause-one g c = c.in-Ok.ensures.printable c.args.labels.now c.requires.first

pub canonical_of_pairs-requires-clause-two : goal.canonical_of_pairs-requires-clause-two
canonical_of_pairs-requires-clause-two g c = c.in-Ok-trimmed_form.ensures.printable c.args.labels.now c.requires.second

pub returns-clause-grammar : goal.returns-clause-grammar
returns-clause-grammar g c =
    ok_four c.canonical_of_pairs.result _ _ _ _ _ (λ h canonical series are read. (
      record {
        h = h.grammar;
        canonical = record { from = (c.in-Ok.one, c.in-Ok-trimmed_form.two); is_made = (c.in-Ok.ensures.form, c.in-Ok-trimmed_form.ensures.form); canonical = canonical };
        series = product_of_forms g.S.Semiring.product c.args.first.now c.args.second.now c.in-Ok.one c.in-Ok-trimmed_form.two h.grammar.rules c.in-Ok.ensures.series c.in-Ok-trimmed_form.ensures.series series;
        are = are;
        read = read;
      },
      refl,
    )) c.canonical_of_pairs.ensures.canonical c.canonical_of_pairs.ensures.series c.canonical_of_pairs.ensures.text c.canonical_of_pairs.ensures.read

pub returns-clause-text : goal.returns-clause-text
returns-clause-text g c = IfOk-weaker c.canonical_of_pairs.result _ _ (λ h is. is.0) (returns-clause-grammar g c)

pub returns-clause-within : goal.returns-clause-within
returns-clause-within g c =
    IfOk-weaker c.canonical_of_pairs.result _ _ (λ h canonical. (
      c.in-Ok.ensures.within,
      (
        c.in-Ok-trimmed_form.ensures.within,
        canonical_within g.S.Semiring.product g.S.Semiring.SCALE c.args.labels.now c.args.limit (AreTrimmedForms g.S.Semiring.product c.args.first.now c.args.second.now) (intersecting g.S.Semiring.product) h.grammar (c.in-Ok.one, c.in-Ok-trimmed_form.two)
            (c.in-Ok.ensures.form, c.in-Ok-trimmed_form.ensures.form) canonical,
      ),
    )) c.canonical_of_pairs.ensures.canonical

pub returns-in-Err-clause-err : goal.returns-in-Err-clause-err
returns-in-Err-clause-err g c =
    made_weaker (normal_form g.S.Semiring.product c.args.limit c.args.first.now).more c.args.limit (intersect_makes g.S.Semiring.product c.args.limit c.args.first.now c.args.second.now).more (λ m. inl m) c.in-Err.status c.in-Err.ensures.err

pub returns-in-Err-trimmed_form-clause-err : goal.returns-in-Err-trimmed_form-clause-err
returns-in-Err-trimmed_form-clause-err g c =
    made_weaker (normal_form g.S.Semiring.product c.args.limit c.args.second.now).more c.args.limit (intersect_makes g.S.Semiring.product c.args.limit c.args.first.now c.args.second.now).more (λ m. inr (inl m))
    c.in-Err-trimmed_form.status c.in-Err-trimmed_form.ensures.err

pub returns-clause-err : goal.returns-clause-err
returns-clause-err g c =
    IfErr-weaker c.canonical_of_pairs.result _ _ (λ status told.
    made_weaker (IsBeyond (intersection g.S.Semiring.product c.in-Ok.one.rules c.in-Ok-trimmed_form.two.rules) c.args.limit) c.args.limit (intersect_makes g.S.Semiring.product c.args.limit c.args.first.now c.args.second.now).more
    (λ beyond. inr (inr (more_pairs g.S.Semiring.product c.args.limit c.args.first.now c.args.second.now c.in-Ok.one c.in-Ok-trimmed_form.two c.order_is_free.ensures
    (λ h m n. c.trimmed_forms_have_the_same_rules.ensures g.S.Semiring.product h m n) c.in-Ok.ensures.form c.in-Ok-trimmed_form.ensures.form beyond))) status told) c.canonical_of_pairs.ensures.err
