use Rattle.std.specs.Prelude.{◌≡◌, ℕ, length, map}
use Rattle.std.proofs.Common.{ap, sym, ◌∙◌, subst, Some, None}
use Rattle.tib_grammar.specs.GrammarOf.{GrammarOf}
use Rattle.tib_compare.specs.Wanted.{differs, HasMark, HasNoMark}
use Rattle.tib_compare.specs.Answered.{IsLeastTold}
use Rattle.tib_compare.proofs.Glue.{marks_same, none_told, some_told, told_from, named_answer}
use Rattle.tib_compare.proofs.compare.answer.Goals as goal

pub returns-then-not-is_some_marked : goal.returns-then-not-is_some_marked
returns-then-not-is_some_marked c =
    let n : ℕ = length c.args.left.now.names in
    let s : c.states-second.result ≡ n = c.states-second.ensures ∙ ap (λ (x : GrammarOf). length x.names) c.grammar.ensures.same in
    let marks : c.in_ok-marks.marks.items ≡ map (differs n) c.args.found.now.order.items =
    marks_same c.in_ok-marks.marks.items c.states-second.result n c.deref.result.now c.args.found.now.order.items c.in_ok-marks.ensures s c.deref.ensures.value
    in
    none_told n c.args.found.now.order.items c.deref-2.result.now (c.deref-2.ensures.value ∙ marks) (c.is_some_marked.ensures.no c.if-not-is_some_marked.true)

pub returns-in-Some : goal.returns-in-Some
returns-in-Some c =
    let n : ℕ = length c.args.left.now.names in
    let s : c.states-second.result ≡ n = c.states-second.ensures ∙ ap (λ (x : GrammarOf). length x.names) c.grammar.ensures.same in
    let marks : c.in_ok-marks.marks.items ≡ map (differs n) c.args.found.now.order.items =
    marks_same c.in_ok-marks.marks.items c.states-second.result n c.deref.result.now c.args.found.now.order.items c.in_ok-marks.ensures s c.deref.ensures.value
    in
    let told : IsLeastTold c.args.labels.now n c.args.found.now.order.items c.args.found.now.rules.items c.in_ok-tree.field-0 =
    told_from c.args.labels.now n c.args.found.now.order.items c.args.found.now.rules.items c.deref-3.result.now c.deref-4.result.now c.in_ok-tree.field-0 (c.deref-4.ensures.value ∙ marks) c.deref-3.ensures.value c.in_ok-tree.ensures
    in
    named_answer c.args.labels.now n c.args.left.now.rules c.args.found.now.order.items c.args.found.now.rules.items c.in_ok-tree.field-0 told c.in-Some.tree c.in-Some.is c.in_ok-name_of-in-Some.field-0
    c.in_ok-name_of-in-Some.ensures

pub returns : goal.returns
returns c =
    let n : ℕ = length c.args.left.now.names in
    let s : c.states-second.result ≡ n = c.states-second.ensures ∙ ap (λ (x : GrammarOf). length x.names) c.grammar.ensures.same in
    let marks : c.in_ok-marks.marks.items ≡ map (differs n) c.args.found.now.order.items =
    marks_same c.in_ok-marks.marks.items c.states-second.result n c.deref.result.now c.args.found.now.order.items c.in_ok-marks.ensures s c.deref.ensures.value
    in
    let told : IsLeastTold c.args.labels.now n c.args.found.now.order.items c.args.found.now.rules.items c.in_ok-tree.field-0 =
    told_from c.args.labels.now n c.args.found.now.order.items c.args.found.now.rules.items c.deref-3.result.now c.deref-4.result.now c.in_ok-tree.field-0 (c.deref-4.ensures.value ∙ marks) c.deref-3.ensures.value c.in_ok-tree.ensures
    in
    let yes : HasMark c.deref-2.result.now = c.is_some_marked.ensures.yes c.if-not-is_some_marked.false in (
      some_told n c.args.found.now.order.items c.deref-2.result.now (c.deref-2.ensures.value ∙ marks) yes,
      subst (λ o. IsLeastTold c.args.labels.now n c.args.found.now.order.items c.args.found.now.rules.items o) c.in-None.is told,
    )
