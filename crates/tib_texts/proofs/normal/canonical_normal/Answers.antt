use Rattle.std.proofs.Common.{ℕ, List, length, subst, sym, ap, arith, refl}
use Rattle.tib_grammar_file.specs.GrammarText.{GrammarText}
use Rattle.tib_canon.specs.Canonical.{IsCanonical}
use Rattle.tib_grammar.specs.GrammarOf.{GrammarOf}
use Rattle.tib_grammar_file.specs.Printed.{AreLabelled}
use Rattle.tib_texts.proofs.FormSeries.{same_by_form}
use Rattle.tib_texts.proofs.normal.canonical_normal.Goals as goal

pub canonical-requires : goal.canonical-requires
canonical-requires g c =
    subst (λ (n : GrammarOf). AreLabelled (length c.args.labels.now) n.rules) (sym c.into_grammar-form.ensures.same)
    (c.printable_is_labelled.ensures g.S.Semiring.SCALE c.args.labels.now c.in-Ok.normal.rules
    (c.normal_forms_are_printable.ensures g.S.Semiring.SCALE c.args.labels.now c.args.grammar.now c.in-Ok.normal c.in-Ok.ensures.form c.requires.printable))

pub returns-in-Ok-canonical-clause-grammar : goal.returns-in-Ok-canonical-clause-grammar
returns-in-Ok-canonical-clause-grammar g c =
    let h : GrammarOf = c.in-Ok-canonical.canonical.grammar in
    let canonical : IsCanonical g.S.Semiring.product g.S.Semiring.SCALE c.args.labels.now c.in-Ok.normal h =
    subst (λ (n : GrammarOf). IsCanonical g.S.Semiring.product g.S.Semiring.SCALE c.args.labels.now n h) c.into_grammar-form.ensures.same c.in-Ok-canonical.ensures.canonical in (
      record {
        h = h;
        canonical = record { normal = c.in-Ok.normal; form = c.in-Ok.ensures.form; within = c.in-Ok.ensures.parts; canonical = canonical };
        series = same_by_form g.S.Semiring.product c.args.grammar.now c.in-Ok.normal c.into_grammar-form.result h c.is_sound.ensures.start c.into_grammar-form.ensures.same c.in-Ok.ensures.series c.in-Ok-canonical.ensures.series;
        are = c.in-Ok-canonical.ensures.text;
        read = subst (λ (text : List ℕ). GrammarText g.S.Semiring.SCALE c.args.labels.now text h) (sym c.in-Ok-canonical.ensures.text)
            (c.normal_texts_are_read.ensures g.S.Semiring.SCALE c.args.labels.now c.args.grammar.now c.in-Ok.normal h c.is_sound.ensures.start
            (omega (arith, c.is_sound-2.ensures.few_names, ap (λ (n : GrammarOf). length n.names) c.into_grammar-form.ensures.same)) c.is_sound.ensures.range c.is_sound.ensures.leaves c.requires.printable c.in-Ok.ensures.form
            canonical);
      },
      refl,
    )

pub returns-in-Ok-canonical-clause-text : goal.returns-in-Ok-canonical-clause-text
returns-in-Ok-canonical-clause-text g c = (returns-in-Ok-canonical-clause-grammar g c).0
