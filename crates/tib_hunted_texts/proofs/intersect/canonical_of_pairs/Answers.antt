use Rattle.std.proofs.Common.{ℕ, List, refl, arith, subst, sym}
use Rattle.std.proofs.lemmas.Result.{IfOk-at_ok, IfErr-at_err}
use Rattle.tib_grammar_file.specs.GrammarText.{GrammarText}
use Rattle.tib_canon.specs.declared.begin.Begin.TheVariants.{At}
use Rattle.tib_expand.specs.Reached.{IsBeyond}
use Rattle.tib_intersect.specs.Intersection.{intersection}
use Rattle.tib_intersect.specs.PairGrammar.{IsPairGrammar}
use Rattle.tib_operations.proofs.MadeParts.{told_much}
use Rattle.tib_operations.proofs.OfIntersect.{pairs_over, pairs_series}
use Rattle.tib_hunted_texts.proofs.intersect.canonical_of_pairs.Goals as goal

pub to_grammar-requires-clause-leaves : goal.to_grammar-requires-clause-leaves
to_grammar-requires-clause-leaves g c =
    let grammar : IsPairGrammar g.S.Semiring.product c.args.one.now.rules c.args.two.now.rules c.in-Ok.found.order.items c.in-Ok.found.rules.items = IfOk-at_ok _ c.in-Ok.is c.requires.grammar in
    (pairs_over g.S.Semiring.product (g.met.S.Semiring.laws.neutral 0) g.S.Semiring.SCALE c.args.labels.now c.args.one.now c.args.two.now c.requires.one c.requires.two c.in-Ok.found.order.items c.in-Ok.found.rules.items
    (IfOk-at_ok _ c.in-Ok.is c.requires.reached) grammar.in_range).leaves

pub to_grammar-requires-clause-labelled : goal.to_grammar-requires-clause-labelled
to_grammar-requires-clause-labelled g c =
    let grammar : IsPairGrammar g.S.Semiring.product c.args.one.now.rules c.args.two.now.rules c.in-Ok.found.order.items c.in-Ok.found.rules.items = IfOk-at_ok _ c.in-Ok.is c.requires.grammar in
    c.printable_is_labelled.ensures g.S.Semiring.SCALE c.args.labels.now c.in-Ok.found.rules.items
    (pairs_over g.S.Semiring.product (g.met.S.Semiring.laws.neutral 0) g.S.Semiring.SCALE c.args.labels.now c.args.one.now c.args.two.now c.requires.one c.requires.two c.in-Ok.found.order.items c.in-Ok.found.rules.items
    (IfOk-at_ok _ c.in-Ok.is c.requires.reached) grammar.in_range).printable

pub returns-in-Ok-to_grammar-clause-canonical : goal.returns-in-Ok-to_grammar-clause-canonical
returns-in-Ok-to_grammar-clause-canonical g c =
    let grammar : IsPairGrammar g.S.Semiring.product c.args.one.now.rules c.args.two.now.rules c.in-Ok.found.order.items c.in-Ok.found.rules.items = IfOk-at_ok _ c.in-Ok.is c.requires.grammar in
    record {
      order = c.in-Ok.found.order.items;
      rules = c.in-Ok.found.rules.items;
      begin = At 0;
      reached = IfOk-at_ok _ c.in-Ok.is c.requires.reached;
      within = omega (arith, IfOk-at_ok _ c.in-Ok.is c.requires.parts, IfOk-at_ok _ c.in-Ok.is c.requires.within);
      rules_over =
          pairs_over g.S.Semiring.product (g.met.S.Semiring.laws.neutral 0) g.S.Semiring.SCALE c.args.labels.now c.args.one.now c.args.two.now c.requires.one c.requires.two c.in-Ok.found.order.items c.in-Ok.found.rules.items
          (IfOk-at_ok _ c.in-Ok.is c.requires.reached) grammar.in_range;
      begun = refl;
      canonical = c.in-Ok-to_grammar.ensures.canonical;
    }

pub returns-in-Ok-to_grammar-clause-series : goal.returns-in-Ok-to_grammar-clause-series
returns-in-Ok-to_grammar-clause-series g c =
    pairs_series g.S.Semiring.product c.args.one.now c.args.two.now g.S.Semiring.SCALE c.args.limit c.args.labels.now c.in-Ok-to_grammar.canonical.grammar c.pairs_mean.ensures c.grammar.ensures.normal.normal
    c.grammar-2.ensures.normal.normal (returns-in-Ok-to_grammar-clause-canonical g c)

pub returns-in-Ok-to_grammar-clause-read : goal.returns-in-Ok-to_grammar-clause-read
returns-in-Ok-to_grammar-clause-read g c =
    let grammar : IsPairGrammar g.S.Semiring.product c.args.one.now.rules c.args.two.now.rules c.in-Ok.found.order.items c.in-Ok.found.rules.items = IfOk-at_ok _ c.in-Ok.is c.requires.grammar in
    let over =
    pairs_over g.S.Semiring.product (g.met.S.Semiring.laws.neutral 0) g.S.Semiring.SCALE c.args.labels.now c.args.one.now c.args.two.now c.requires.one c.requires.two c.in-Ok.found.order.items c.in-Ok.found.rules.items
    (IfOk-at_ok _ c.in-Ok.is c.requires.reached) grammar.in_range in
    subst (λ (text : List ℕ). GrammarText g.S.Semiring.SCALE c.args.labels.now text c.in-Ok-to_grammar.canonical.grammar) (sym c.in-Ok-to_grammar.ensures.text)
    (c.over_keys_texts_are_read.ensures g.S.Semiring.SCALE c.args.labels.now c.in-Ok.found.order.items c.in-Ok.found.rules.items (At 0) c.in-Ok-to_grammar.canonical.grammar
    (omega (arith, IfOk-at_ok _ c.in-Ok.is c.requires.few, c.requires.limit)) over.leaves over.printable c.in-Ok-to_grammar.ensures.canonical)

pub to_grammar-requires-clause-distinct : goal.to_grammar-requires-clause-distinct
to_grammar-requires-clause-distinct g c =
    let grammar : IsPairGrammar g.S.Semiring.product c.args.one.now.rules c.args.two.now.rules c.in-Ok.found.order.items c.in-Ok.found.rules.items = IfOk-at_ok _ c.in-Ok.is c.requires.grammar in
    grammar.once

pub to_grammar-requires-clause-few : goal.to_grammar-requires-clause-few
to_grammar-requires-clause-few g c = omega (arith, IfOk-at_ok _ c.in-Ok.is c.requires.few, c.requires.limit)

pub to_grammar-requires-clause-few_rules : goal.to_grammar-requires-clause-few_rules
to_grammar-requires-clause-few_rules g c = omega (arith, IfOk-at_ok _ c.in-Ok.is c.requires.few_rules, c.requires.limit)

pub to_grammar-requires-clause-begin : goal.to_grammar-requires-clause-begin
to_grammar-requires-clause-begin g c =
    let grammar : IsPairGrammar g.S.Semiring.product c.args.one.now.rules c.args.two.now.rules c.in-Ok.found.order.items c.in-Ok.found.rules.items = IfOk-at_ok _ c.in-Ok.is c.requires.grammar in
    grammar.long

pub to_grammar-requires-clause-range : goal.to_grammar-requires-clause-range
to_grammar-requires-clause-range g c =
    let grammar : IsPairGrammar g.S.Semiring.product c.args.one.now.rules c.args.two.now.rules c.in-Ok.found.order.items c.in-Ok.found.rules.items = IfOk-at_ok _ c.in-Ok.is c.requires.grammar in
    grammar.in_range

pub returns-in-Err-TooMany-clause-err : goal.returns-in-Err-TooMany-clause-err
returns-in-Err-TooMany-clause-err g c = (
  refl,
  told_much c.args.limit c.in-Err-TooMany.field-0-0 (IsBeyond (intersection g.S.Semiring.product c.args.one.now.rules c.args.two.now.rules) c.args.limit) c.in-Err-TooMany.field-0 (rw c.in-Err-TooMany.is at c.in-Err-TooMany.field-0-is)
      (IfErr-at_err _ c.in-Err-TooMany.is c.requires.more),
)
