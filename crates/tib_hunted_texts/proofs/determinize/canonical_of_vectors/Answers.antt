use Rattle.std.proofs.Common.{◌≡◌, ℕ, ◌<◌, ◌≤◌, List, length, arith, ap, sym, ◌∙◌, subst}
use Rattle.std.proofs.lemmas.Result.{IfOk-at_ok}
use Rattle.tib_lex.specs.Lists.{Each}
use Rattle.tib_grammar_file.specs.GrammarText.{GrammarText}
use Rattle.tib_grammar_file.specs.Printable.{IsPlainCost}
use Rattle.tib_canon.specs.declared.begin.Begin.TheVariants.{Fresh}
use Rattle.tib_canon.proofs.Started.{started_long, started_printable}
use Rattle.tib_determinize.specs.Answered.{IsAnswer}
use Rattle.tib_determinize.specs.Started.{finals}
use Rattle.tib_determinize.proofs.Found.{order_once}
use Rattle.tib_operations.proofs.OfDeterminize.{vectors_over, vectors_mean}
use Rattle.tib_operations.proofs.PlainVectors.{finals_few, finals_stand, vectors_plain}
use Rattle.tib_hunted_texts.proofs.determinize.canonical_of_vectors.Goals as goal

pub to_grammar-requires-clause-distinct : goal.to_grammar-requires-clause-distinct
to_grammar-requires-clause-distinct g c =
    let answer : IsAnswer g.S.Semiring.product c.args.form.now.rules c.in-Ok.found = IfOk-at_ok _ c.in-Ok.is c.requires.determinized in
    let reached = answer.reached.0 in
    order_once g.S.Semiring.product c.args.form.now.rules reached.0 reached.1 c.in-Ok.found.order.items reached.2

pub to_grammar-requires-clause-few_rules : goal.to_grammar-requires-clause-few_rules
to_grammar-requires-clause-few_rules g c =
    let order = c.in-Ok.found.order.items in
    let is : c.in-Ok-finals_of.finals ≡ finals 0 order = c.in-Ok-finals_of.ensures ∙ ap (finals 0) c.deref.ensures.value in
    omega (arith, started_long c.in-Ok-finals_of.finals c.in-Ok.found.rules.items, ap length is, finals_few 0 order, IfOk-at_ok _ c.in-Ok.is c.requires.few, IfOk-at_ok _ c.in-Ok.is c.requires.few_rules, c.requires.limit.1)

pub to_grammar-requires-clause-begin : goal.to_grammar-requires-clause-begin
to_grammar-requires-clause-begin g c =
    let order = c.in-Ok.found.order.items in
    let is : c.in-Ok-finals_of.finals ≡ finals 0 order = c.in-Ok-finals_of.ensures ∙ ap (finals 0) c.deref.ensures.value in
    subst (Each (λ (final : ℕ × ℕ). final.0 < length order)) (sym is) (finals_stand order)

pub to_grammar-requires-clause-leaves : goal.to_grammar-requires-clause-leaves
to_grammar-requires-clause-leaves g c =
    let answer : IsAnswer g.S.Semiring.product c.args.form.now.rules c.in-Ok.found = IfOk-at_ok _ c.in-Ok.is c.requires.determinized in
    (vectors_over g.met.S.Semiring.laws g.S.Semiring.SCALE c.args.labels.now c.args.form.now c.requires.form c.in-Ok.found.order.items c.in-Ok.found.rules.items answer).leaves

pub to_grammar-requires-clause-labelled : goal.to_grammar-requires-clause-labelled
to_grammar-requires-clause-labelled g c =
    let answer : IsAnswer g.S.Semiring.product c.args.form.now.rules c.in-Ok.found = IfOk-at_ok _ c.in-Ok.is c.requires.determinized in
    c.printable_is_labelled.ensures g.S.Semiring.SCALE c.args.labels.now c.in-Ok.found.rules.items
    (vectors_over g.met.S.Semiring.laws g.S.Semiring.SCALE c.args.labels.now c.args.form.now c.requires.form c.in-Ok.found.order.items c.in-Ok.found.rules.items answer).printable

pub returns-in-Ok-to_grammar-clause-canonical : goal.returns-in-Ok-to_grammar-clause-canonical
returns-in-Ok-to_grammar-clause-canonical g c =
    let answer : IsAnswer g.S.Semiring.product c.args.form.now.rules c.in-Ok.found = IfOk-at_ok _ c.in-Ok.is c.requires.determinized in
    record {
      order = c.in-Ok.found.order.items;
      rules = c.in-Ok.found.rules.items;
      begin = Fresh c.in-Ok-finals_of.finals;
      reached = answer.reached;
      within = subst (λ (n : ℕ). n ≤ c.args.limit) (IfOk-at_ok _ c.in-Ok.is c.requires.parts) (IfOk-at_ok _ c.in-Ok.is c.requires.within);
      rules_over = vectors_over g.met.S.Semiring.laws g.S.Semiring.SCALE c.args.labels.now c.args.form.now c.requires.form c.in-Ok.found.order.items c.in-Ok.found.rules.items answer;
      begun = ap (λ (fs : List (ℕ × ℕ)). Fresh fs) (c.in-Ok-finals_of.ensures ∙ ap (finals 0) c.deref.ensures.value);
      canonical = c.in-Ok-to_grammar.ensures.canonical;
    }

pub returns-in-Ok-to_grammar-clause-means : goal.returns-in-Ok-to_grammar-clause-means
returns-in-Ok-to_grammar-clause-means g c =
    vectors_mean g.S.Semiring.product c.args.form.now g.S.Semiring.SCALE c.args.limit c.args.labels.now c.in-Ok-to_grammar.canonical.grammar c.same_series.ensures c.started_is_deterministic.ensures c.grammar.ensures.normal.normal
    (returns-in-Ok-to_grammar-clause-canonical g c)

pub returns-in-Ok-to_grammar-clause-read : goal.returns-in-Ok-to_grammar-clause-read
returns-in-Ok-to_grammar-clause-read g c =
    let answer : IsAnswer g.S.Semiring.product c.args.form.now.rules c.in-Ok.found = IfOk-at_ok _ c.in-Ok.is c.requires.determinized in
    let order = c.in-Ok.found.order.items in
    let is : c.in-Ok-finals_of.finals ≡ finals 0 order = c.in-Ok-finals_of.ensures ∙ ap (finals 0) c.deref.ensures.value in
    let over = vectors_over g.met.S.Semiring.laws g.S.Semiring.SCALE c.args.labels.now c.args.form.now c.requires.form order c.in-Ok.found.rules.items answer in
    let costs = (vectors_plain g.met.S.Semiring.laws g.S.Semiring.SCALE c.args.labels.now c.args.form.now c.requires.form).costs order answer.reached.0 in
    let plain : Each (λ (final : ℕ × ℕ). IsPlainCost g.S.Semiring.SCALE final.1) c.in-Ok-finals_of.finals = subst (Each (λ (final : ℕ × ℕ). IsPlainCost g.S.Semiring.SCALE final.1)) (sym is) costs in
    subst (λ (text : List ℕ). GrammarText g.S.Semiring.SCALE c.args.labels.now text c.in-Ok-to_grammar.canonical.grammar) (sym c.in-Ok-to_grammar.ensures.text)
    (c.over_keys_texts_are_read.ensures g.S.Semiring.SCALE c.args.labels.now order c.in-Ok.found.rules.items (Fresh c.in-Ok-finals_of.finals) c.in-Ok-to_grammar.canonical.grammar
    (omega (arith, IfOk-at_ok _ c.in-Ok.is c.requires.few, c.requires.limit.1)) over.leaves (started_printable c.in-Ok-finals_of.finals g.S.Semiring.SCALE c.args.labels.now c.in-Ok.found.rules.items plain over.printable)
    c.in-Ok-to_grammar.ensures.canonical)
