use Rattle.std.proofs.Common.{ℕ, List, refl, arith, subst, sym}
use Rattle.std.proofs.lemmas.Result.{IfOk-at_ok}
use Rattle.tib_grammar_file.specs.GrammarText.{GrammarText}
use Rattle.tib_apply.specs.Backward.{IsBackwardEdge}
use Rattle.tib_apply.proofs.Reached.{reached_grammar}
use Rattle.tib_canon.specs.declared.begin.Begin.TheVariants.{At}
use Rattle.tib_canon.proofs.ConstructionExists.{found_over}
use Rattle.tib_operations.specs.Backward.{inverting}
use Rattle.tib_operations.proofs.OfBackward.{backward_series}
use Rattle.tib_operations.proofs.PlainEdges.{backward_plain}
use Rattle.tib_hunted_texts.proofs.backward.canonical_of_inverse_image.Goals as goal

pub to_grammar-requires-clause-distinct : goal.to_grammar-requires-clause-distinct
to_grammar-requires-clause-distinct g c =
    (reached_grammar (IsBackwardEdge g.S.Semiring.product c.args.transducer.now.rules c.args.grammar.now.rules) c.in-Ok.found.order.items c.in-Ok.found.rules.items (IfOk-at_ok _ c.in-Ok.is c.requires.range) (IfOk-at_ok _ c.in-Ok.is c.requires.reached)).once

pub to_grammar-requires-clause-begin : goal.to_grammar-requires-clause-begin
to_grammar-requires-clause-begin g c =
    (reached_grammar (IsBackwardEdge g.S.Semiring.product c.args.transducer.now.rules c.args.grammar.now.rules) c.in-Ok.found.order.items c.in-Ok.found.rules.items (IfOk-at_ok _ c.in-Ok.is c.requires.range) (IfOk-at_ok _ c.in-Ok.is c.requires.reached)).long

pub to_grammar-requires-clause-leaves : goal.to_grammar-requires-clause-leaves
to_grammar-requires-clause-leaves g c =
    (found_over g.S.Semiring.SCALE c.args.labels.now (inverting g.S.Semiring.product c.args.transducer.now c.args.grammar.now)
    (backward_plain g.S.Semiring.product (g.met.S.Semiring.laws.neutral 0) g.S.Semiring.SCALE c.args.labels.now c.args.grammar.now c.args.transducer.now c.requires.grammar c.requires.transducer c.is_sound.ensures.leaves) c.in-Ok.found.order.items c.in-Ok.found.rules.items
    (IfOk-at_ok _ c.in-Ok.is c.requires.reached) (IfOk-at_ok _ c.in-Ok.is c.requires.range)).leaves

pub to_grammar-requires-clause-labelled : goal.to_grammar-requires-clause-labelled
to_grammar-requires-clause-labelled g c =
    c.printable_is_labelled.ensures g.S.Semiring.SCALE c.args.labels.now c.in-Ok.found.rules.items
    (found_over g.S.Semiring.SCALE c.args.labels.now (inverting g.S.Semiring.product c.args.transducer.now c.args.grammar.now)
    (backward_plain g.S.Semiring.product (g.met.S.Semiring.laws.neutral 0) g.S.Semiring.SCALE c.args.labels.now c.args.grammar.now c.args.transducer.now c.requires.grammar c.requires.transducer c.is_sound.ensures.leaves) c.in-Ok.found.order.items c.in-Ok.found.rules.items
    (IfOk-at_ok _ c.in-Ok.is c.requires.reached) (IfOk-at_ok _ c.in-Ok.is c.requires.range)).printable

pub returns-in-Ok-to_grammar-clause-canonical : goal.returns-in-Ok-to_grammar-clause-canonical
returns-in-Ok-to_grammar-clause-canonical g c = record {
  order = c.in-Ok.found.order.items;
  rules = c.in-Ok.found.rules.items;
  begin = At 0;
  reached = IfOk-at_ok _ c.in-Ok.is c.requires.reached;
  within = omega (arith, (IfOk-at_ok _ c.in-Ok.is c.requires.parts), (IfOk-at_ok _ c.in-Ok.is c.requires.within));
  rules_over =
      found_over g.S.Semiring.SCALE c.args.labels.now (inverting g.S.Semiring.product c.args.transducer.now c.args.grammar.now)
      (backward_plain g.S.Semiring.product (g.met.S.Semiring.laws.neutral 0) g.S.Semiring.SCALE c.args.labels.now c.args.grammar.now c.args.transducer.now c.requires.grammar c.requires.transducer c.is_sound.ensures.leaves) c.in-Ok.found.order.items c.in-Ok.found.rules.items
      (IfOk-at_ok _ c.in-Ok.is c.requires.reached) (IfOk-at_ok _ c.in-Ok.is c.requires.range);
  begun = refl;
  canonical = c.in-Ok-to_grammar.ensures.canonical;
}

pub returns-in-Ok-to_grammar-clause-series : goal.returns-in-Ok-to_grammar-clause-series
returns-in-Ok-to_grammar-clause-series g c =
    backward_series g.met.S.Semiring.laws g.S.Semiring.SCALE c.args.limit c.args.labels.now c.args.transducer.now c.args.grammar.now c.in-Ok-to_grammar.canonical.grammar c.grammar.ensures.normal.normal
    c.is_sound.ensures.shaped c.requires.class (returns-in-Ok-to_grammar-clause-canonical g c)

pub returns-in-Ok-to_grammar-clause-read : goal.returns-in-Ok-to_grammar-clause-read
returns-in-Ok-to_grammar-clause-read g c =
    let over =
    found_over g.S.Semiring.SCALE c.args.labels.now (inverting g.S.Semiring.product c.args.transducer.now c.args.grammar.now)
    (backward_plain g.S.Semiring.product (g.met.S.Semiring.laws.neutral 0) g.S.Semiring.SCALE c.args.labels.now c.args.grammar.now c.args.transducer.now c.requires.grammar c.requires.transducer c.is_sound.ensures.leaves) c.in-Ok.found.order.items c.in-Ok.found.rules.items
    (IfOk-at_ok _ c.in-Ok.is c.requires.reached) (IfOk-at_ok _ c.in-Ok.is c.requires.range) in
    subst (λ (text : List ℕ). GrammarText g.S.Semiring.SCALE c.args.labels.now text c.in-Ok-to_grammar.canonical.grammar) (sym c.in-Ok-to_grammar.ensures.text)
    (c.over_keys_texts_are_read.ensures g.S.Semiring.SCALE c.args.labels.now c.in-Ok.found.order.items c.in-Ok.found.rules.items (At 0) c.in-Ok-to_grammar.canonical.grammar
    (omega (arith, (IfOk-at_ok _ c.in-Ok.is c.requires.few), c.requires.limit)) over.leaves over.printable c.in-Ok-to_grammar.ensures.canonical)

pub to_grammar-requires-clause-few : goal.to_grammar-requires-clause-few
to_grammar-requires-clause-few g c = omega (arith, IfOk-at_ok _ c.in-Ok.is c.requires.few, c.requires.limit)

pub to_grammar-requires-clause-few_rules : goal.to_grammar-requires-clause-few_rules
to_grammar-requires-clause-few_rules g c = omega (arith, IfOk-at_ok _ c.in-Ok.is c.requires.few_rules, c.requires.limit)

pub to_grammar-requires-clause-range : goal.to_grammar-requires-clause-range
to_grammar-requires-clause-range g c = IfOk-at_ok _ c.in-Ok.is c.requires.range
