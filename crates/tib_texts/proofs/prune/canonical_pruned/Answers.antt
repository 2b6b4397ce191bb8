use Rattle.std.proofs.Common.{List, ℕ, subst, sym, arith, refl}
use Rattle.tib_grammar.specs.GrammarOf.{GrammarOf}
use Rattle.tib_grammar_file.specs.GrammarText.{GrammarText}
use Rattle.tib_grammar_file.specs.Printable.{ArePrintable}
use Rattle.tib_texts.proofs.prune.canonical_pruned.Goals as goal

pub canonical-requires : goal.canonical-requires
canonical-requires g c =
    c.printable_is_labelled.ensures g.S.Semiring.SCALE c.args.labels.now c.in-Ok.kept.rules (c.in-Ok.ensures.printable c.args.labels.now c.requires.printable)

pub returns-in-Ok-canonical-clause-grammar : goal.returns-in-Ok-canonical-clause-grammar
returns-in-Ok-canonical-clause-grammar g c =
    let k : GrammarOf = c.in-Ok.kept in
    let h : GrammarOf = c.in-Ok-canonical.canonical.grammar in
    let plain : ArePrintable g.S.Semiring.SCALE c.args.labels.now k.rules = c.in-Ok.ensures.printable c.args.labels.now c.requires.printable in (
      record {
        kept = k;
        is_kept = c.in-Ok.ensures.kept;
        keeps = c.in-Ok.ensures.keeps;
        printed = record {
          h = h;
          canonical = c.in-Ok-canonical.ensures.canonical;
          series = c.in-Ok-canonical.ensures.series;
          are = c.in-Ok-canonical.ensures.text;
          read = subst (λ (text : List ℕ). GrammarText g.S.Semiring.SCALE c.args.labels.now text h) (sym c.in-Ok-canonical.ensures.text)
              (c.canonical_texts_are_read.ensures g.S.Semiring.SCALE c.args.labels.now k h c.is_sound.ensures.start (omega (arith, c.is_sound.ensures.few_names)) c.is_sound.ensures.range c.is_sound.ensures.leaves plain
              c.in-Ok-canonical.ensures.canonical);
        };
      },
      refl,
    )

pub returns-in-Ok-canonical-clause-text : goal.returns-in-Ok-canonical-clause-text
returns-in-Ok-canonical-clause-text g c = (returns-in-Ok-canonical-clause-grammar g c).0
