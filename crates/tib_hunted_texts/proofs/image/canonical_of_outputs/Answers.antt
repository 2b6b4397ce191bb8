use Rattle.std.proofs.Common.{ℕ, List, refl, arith, subst, sym}
use Rattle.std.proofs.lemmas.Result.{IfOk-at_ok, IfErr-at_err}
use Rattle.tib_grammar_file.specs.GrammarText.{GrammarText}
use Rattle.tib_expand.specs.Reached.{IsBeyond}
use Rattle.tib_image.proofs.Reaching.{reached_grammar}
use Rattle.tib_canon.specs.Constructions.{IsCanonicalOf}
use Rattle.tib_canon.specs.declared.begin.Begin.TheVariants.{At}
use Rattle.tib_canon.proofs.ConstructionExists.{found_over}
use Rattle.tib_operations.specs.Image.{imaging, IsTheTree}
use Rattle.tib_operations.proofs.MadeParts.{told_much, canonical_within}
use Rattle.tib_operations.proofs.OfImage.{image_plain, image_has_series}
use Rattle.tib_hunted_texts.proofs.image.canonical_of_outputs.Goals as goal

pub to_grammar-requires-clause-distinct : goal.to_grammar-requires-clause-distinct
to_grammar-requires-clause-distinct g c =
    (reached_grammar c.args.transducer.now.rules c.args.tree.now c.in-Ok.found.order.items c.in-Ok.found.rules.items (IfOk-at_ok _ c.in-Ok.is c.requires.range) (IfOk-at_ok _ c.in-Ok.is c.requires.reached)).once

pub to_grammar-requires-clause-begin : goal.to_grammar-requires-clause-begin
to_grammar-requires-clause-begin g c =
    (reached_grammar c.args.transducer.now.rules c.args.tree.now c.in-Ok.found.order.items c.in-Ok.found.rules.items (IfOk-at_ok _ c.in-Ok.is c.requires.range) (IfOk-at_ok _ c.in-Ok.is c.requires.reached)).long

pub to_grammar-requires-clause-leaves : goal.to_grammar-requires-clause-leaves
to_grammar-requires-clause-leaves g c =
    (found_over g.S.Semiring.SCALE c.args.labels.now (imaging c.args.transducer.now c.args.tree.now)
    (image_plain g.S.Semiring.SCALE c.args.labels.now c.args.transducer.now c.requires.transducer c.is_sound.ensures.leaves c.args.tree.now) c.in-Ok.found.order.items c.in-Ok.found.rules.items (IfOk-at_ok _ c.in-Ok.is c.requires.reached)
    (IfOk-at_ok _ c.in-Ok.is c.requires.range)).leaves

pub to_grammar-requires-clause-labelled : goal.to_grammar-requires-clause-labelled
to_grammar-requires-clause-labelled g c =
    c.printable_is_labelled.ensures g.S.Semiring.SCALE c.args.labels.now c.in-Ok.found.rules.items
    (found_over g.S.Semiring.SCALE c.args.labels.now (imaging c.args.transducer.now c.args.tree.now)
    (image_plain g.S.Semiring.SCALE c.args.labels.now c.args.transducer.now c.requires.transducer c.is_sound.ensures.leaves c.args.tree.now) c.in-Ok.found.order.items c.in-Ok.found.rules.items (IfOk-at_ok _ c.in-Ok.is c.requires.reached)
    (IfOk-at_ok _ c.in-Ok.is c.requires.range)).printable

pub returns-in-Ok-to_grammar-clause-grammar : goal.returns-in-Ok-to_grammar-clause-grammar
returns-in-Ok-to_grammar-clause-grammar g c =
    let over =
    found_over g.S.Semiring.SCALE c.args.labels.now (imaging c.args.transducer.now c.args.tree.now)
    (image_plain g.S.Semiring.SCALE c.args.labels.now c.args.transducer.now c.requires.transducer c.is_sound.ensures.leaves c.args.tree.now) c.in-Ok.found.order.items c.in-Ok.found.rules.items (IfOk-at_ok _ c.in-Ok.is c.requires.reached)
    (IfOk-at_ok _ c.in-Ok.is c.requires.range) in
    let canonical : IsCanonicalOf g.S.Semiring.product g.S.Semiring.SCALE c.args.labels.now c.args.limit (imaging c.args.transducer.now c.args.tree.now) c.in-Ok-to_grammar.canonical.grammar =
    record {
      order = c.in-Ok.found.order.items;
      rules = c.in-Ok.found.rules.items;
      begin = At 0;
      reached = IfOk-at_ok _ c.in-Ok.is c.requires.reached;
      within = omega (arith, (IfOk-at_ok _ c.in-Ok.is c.requires.parts), (IfOk-at_ok _ c.in-Ok.is c.requires.within));
      rules_over = over;
      begun = refl;
      canonical = c.in-Ok-to_grammar.ensures.canonical;
    }
    in (
      record {
        h = c.in-Ok-to_grammar.canonical.grammar;
        canonical = record { from = c.args.tree.now; is_made = refl; canonical = canonical };
        series = image_has_series g.S.Semiring.product g.S.Semiring.SCALE c.args.limit c.args.labels.now c.args.transducer.now c.args.tree.now c.in-Ok-to_grammar.canonical.grammar c.is_sound.ensures.shaped canonical;
        are = c.in-Ok-to_grammar.ensures.text;
        read = subst (λ (text : List ℕ). GrammarText g.S.Semiring.SCALE c.args.labels.now text c.in-Ok-to_grammar.canonical.grammar) (sym c.in-Ok-to_grammar.ensures.text)
            (c.over_keys_texts_are_read.ensures g.S.Semiring.SCALE c.args.labels.now c.in-Ok.found.order.items c.in-Ok.found.rules.items (At 0) c.in-Ok-to_grammar.canonical.grammar
            (omega (arith, (IfOk-at_ok _ c.in-Ok.is c.requires.few), c.requires.limit)) over.leaves over.printable c.in-Ok-to_grammar.ensures.canonical);
      },
      refl,
    )

pub returns-in-Ok-to_grammar-clause-text : goal.returns-in-Ok-to_grammar-clause-text
returns-in-Ok-to_grammar-clause-text g c = (returns-in-Ok-to_grammar-clause-grammar g c).0

pub returns-in-Ok-to_grammar-clause-within : goal.returns-in-Ok-to_grammar-clause-within
returns-in-Ok-to_grammar-clause-within g c =
    let text = returns-in-Ok-to_grammar-clause-text g c in
    canonical_within g.S.Semiring.product g.S.Semiring.SCALE c.args.labels.now c.args.limit (IsTheTree c.args.tree.now) (imaging c.args.transducer.now) text.h text.canonical.from text.canonical.is_made text.canonical.canonical

pub returns-in-Err-TooMany-clause-err : goal.returns-in-Err-TooMany-clause-err
returns-in-Err-TooMany-clause-err g c =
    let beyond : IsBeyond (imaging c.args.transducer.now c.args.tree.now).problem c.args.limit =
    told_much c.args.limit c.in-Err-TooMany.field-0-0 (IsBeyond (imaging c.args.transducer.now c.args.tree.now).problem c.args.limit) c.in-Err-TooMany.field-0 (rw c.in-Err-TooMany.is at c.in-Err-TooMany.field-0-is)
    (IfErr-at_err _ c.in-Err-TooMany.is c.requires.more)
    in (refl, λ from made. subst (λ x. IsBeyond (imaging c.args.transducer.now x).problem c.args.limit) (sym made) beyond)

pub to_grammar-requires-clause-few : goal.to_grammar-requires-clause-few
to_grammar-requires-clause-few g c = omega (arith, IfOk-at_ok _ c.in-Ok.is c.requires.few, c.requires.limit)

pub to_grammar-requires-clause-few_rules : goal.to_grammar-requires-clause-few_rules
to_grammar-requires-clause-few_rules g c = omega (arith, IfOk-at_ok _ c.in-Ok.is c.requires.few_rules, c.requires.limit)

pub to_grammar-requires-clause-range : goal.to_grammar-requires-clause-range
to_grammar-requires-clause-range g c = IfOk-at_ok _ c.in-Ok.is c.requires.range
