use Rattle.std.proofs.Common.{ℕ, List, refl, arith, subst, sym}
use Rattle.std.proofs.lemmas.Result.{IfOk-at_ok, IfErr-at_err}
use Rattle.tib_grammar_file.specs.GrammarText.{GrammarText}
use Rattle.tib_expand.specs.Reached.{IsBeyond}
use Rattle.tib_image.proofs.ReachedParses.{reached_grammar}
use Rattle.tib_canon.specs.Constructions.{IsCanonicalOf}
use Rattle.tib_canon.specs.declared.begin.Begin.TheVariants.{At}
use Rattle.tib_operations.proofs.MadeParts.{canonical_within}
use Rattle.tib_operations.specs.Parse.{parsing, IsTheString}
use Rattle.tib_operations.proofs.OfParse.{rules_printed, canonical_of, parse_has_series}
use Rattle.tib_hunted_texts.proofs.Telling.{told_class, told_many}
use Rattle.tib_hunted_texts.proofs.parse.canonical_of_parse.Goals as goal

pub to_grammar-requires-clause-distinct : goal.to_grammar-requires-clause-distinct
to_grammar-requires-clause-distinct g c =
    (reached_grammar c.args.transducer.now.rules c.args.string.now c.in-Ok.found.order.items c.in-Ok.found.rules.items (IfOk-at_ok _ c.in-Ok.is c.requires.range) (IfOk-at_ok _ c.in-Ok.is c.requires.reached)).once

pub to_grammar-requires-clause-begin : goal.to_grammar-requires-clause-begin
to_grammar-requires-clause-begin g c =
    (reached_grammar c.args.transducer.now.rules c.args.string.now c.in-Ok.found.order.items c.in-Ok.found.rules.items (IfOk-at_ok _ c.in-Ok.is c.requires.range) (IfOk-at_ok _ c.in-Ok.is c.requires.reached)).long

pub to_grammar-requires-clause-few : goal.to_grammar-requires-clause-few
to_grammar-requires-clause-few g c = omega (arith, IfOk-at_ok _ c.in-Ok.is c.requires.few, c.requires.limit)

pub to_grammar-requires-clause-few_rules : goal.to_grammar-requires-clause-few_rules
to_grammar-requires-clause-few_rules g c = omega (arith, IfOk-at_ok _ c.in-Ok.is c.requires.few_rules, c.requires.limit)

pub to_grammar-requires-clause-range : goal.to_grammar-requires-clause-range
to_grammar-requires-clause-range g c = IfOk-at_ok _ c.in-Ok.is c.requires.range

pub to_grammar-requires-clause-leaves : goal.to_grammar-requires-clause-leaves
to_grammar-requires-clause-leaves g c =
    (rules_printed g.S.Semiring.SCALE c.args.labels.now c.args.transducer.now c.args.string.now c.in-Ok.found.order.items c.in-Ok.found.rules.items c.requires.transducer (IfOk-at_ok _ c.in-Ok.is c.requires.reached)
    (IfOk-at_ok _ c.in-Ok.is c.requires.range)).leaves

pub to_grammar-requires-clause-labelled : goal.to_grammar-requires-clause-labelled
to_grammar-requires-clause-labelled g c =
    c.printable_is_labelled.ensures g.S.Semiring.SCALE c.args.labels.now c.in-Ok.found.rules.items
    (rules_printed g.S.Semiring.SCALE c.args.labels.now c.args.transducer.now c.args.string.now c.in-Ok.found.order.items c.in-Ok.found.rules.items c.requires.transducer (IfOk-at_ok _ c.in-Ok.is c.requires.reached)
    (IfOk-at_ok _ c.in-Ok.is c.requires.range)).printable

pub returns-in-Ok-to_grammar-clause-grammar : goal.returns-in-Ok-to_grammar-clause-grammar
returns-in-Ok-to_grammar-clause-grammar g c =
    let over =
    rules_printed g.S.Semiring.SCALE c.args.labels.now c.args.transducer.now c.args.string.now c.in-Ok.found.order.items c.in-Ok.found.rules.items c.requires.transducer (IfOk-at_ok _ c.in-Ok.is c.requires.reached)
    (IfOk-at_ok _ c.in-Ok.is c.requires.range) in
    let canonical : IsCanonicalOf g.S.Semiring.product g.S.Semiring.SCALE c.args.labels.now c.args.limit (parsing c.args.transducer.now c.args.string.now) c.in-Ok-to_grammar.canonical.grammar =
    canonical_of g.S.Semiring.product g.S.Semiring.SCALE c.args.limit c.args.labels.now c.args.transducer.now c.args.string.now c.in-Ok.found.order.items c.in-Ok.found.rules.items c.in-Ok-to_grammar.canonical.grammar c.requires.transducer
    (IfOk-at_ok _ c.in-Ok.is c.requires.reached) (IfOk-at_ok _ c.in-Ok.is c.requires.range) (omega (arith, (IfOk-at_ok _ c.in-Ok.is c.requires.parts), (IfOk-at_ok _ c.in-Ok.is c.requires.within))) c.in-Ok-to_grammar.ensures.canonical
    in (
      record {
        h = c.in-Ok-to_grammar.canonical.grammar;
        canonical = record { from = c.args.string.now; is_made = refl; canonical = canonical };
        series =
            parse_has_series g.met.S.Semiring.laws g.S.Semiring.SCALE c.args.limit c.args.labels.now c.args.transducer.now c.args.string.now c.in-Ok-to_grammar.canonical.grammar c.is_sound.ensures.shaped
            (IfOk-at_ok _ c.in-Ok.is c.requires.linear) (IfOk-at_ok _ c.in-Ok.is c.requires.nondeleting) canonical;
        are = c.in-Ok-to_grammar.ensures.text;
        read = subst (λ (text : List ℕ). GrammarText g.S.Semiring.SCALE c.args.labels.now text c.in-Ok-to_grammar.canonical.grammar) (sym c.in-Ok-to_grammar.ensures.text)
            (c.over_keys_texts_are_read.ensures g.S.Semiring.SCALE c.args.labels.now c.in-Ok.found.order.items c.in-Ok.found.rules.items (At 0) c.in-Ok-to_grammar.canonical.grammar
            (omega (arith, (IfOk-at_ok _ c.in-Ok.is c.requires.few), c.requires.limit)) over.leaves over.printable c.in-Ok-to_grammar.ensures.canonical);
      },
      refl,
    )

pub returns-in-Ok-to_grammar-clause-text : goal.returns-in-Ok-to_grammar-clause-text
returns-in-Ok-to_grammar-clause-text g c = (returns-in-Ok-to_grammar-clause-grammar g c).0

pub returns-in-Ok-to_grammar-clause-within : goal.returns-in-Ok-to_grammar-clause-within
returns-in-Ok-to_grammar-clause-within g c =
    let text = returns-in-Ok-to_grammar-clause-text g c in
    canonical_within g.S.Semiring.product g.S.Semiring.SCALE c.args.labels.now c.args.limit (IsTheString c.args.string.now) (parsing c.args.transducer.now) text.h text.canonical.from text.canonical.is_made text.canonical.canonical

pub returns-in-Ok-to_grammar-clause-met : goal.returns-in-Ok-to_grammar-clause-met
returns-in-Ok-to_grammar-clause-met g c = (IfOk-at_ok _ c.in-Ok.is c.requires.linear, IfOk-at_ok _ c.in-Ok.is c.requires.nondeleting)

pub returns-in-Err-Class-clause-err : goal.returns-in-Err-Class-clause-err
returns-in-Err-Class-clause-err g c = (
  refl,
  told_class c.args.transducer.now.rules c.args.string.now c.args.limit c.in-Err-Class.field-0 c.in-Err-Class.rule c.in-Err-Class.fault (rw c.in-Err-Class.is at c.in-Err-Class.field-0-is) (IfErr-at_err _ c.in-Err-Class.is c.requires.fault),
)

pub returns-in-Err-TooMany-clause-err : goal.returns-in-Err-TooMany-clause-err
returns-in-Err-TooMany-clause-err g c =
    let told =
    told_many c.args.transducer.now.rules c.args.string.now c.args.limit c.in-Err-TooMany.field-0 c.in-Err-TooMany.field-0-0 (rw c.in-Err-TooMany.is at c.in-Err-TooMany.field-0-is) (IfErr-at_err _ c.in-Err-TooMany.is c.requires.fault)
    in (refl, (told.1, told.2), λ from made. subst (λ (x : List ℕ). IsBeyond (parsing c.args.transducer.now x).problem c.args.limit) (sym made) told.3)
