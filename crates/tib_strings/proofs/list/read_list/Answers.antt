use Rattle.std.proofs.Common.{sym, ◌∙◌, ap, arith, length, ◌≡◌, ◌<◌, List}
use Rattle.std.proofs.lemmas.Bool.Decides.{nat_tests}
use Rattle.tib_lex.specs.Line.{words_at}
use Rattle.tib_lex.specs.declared.token.Token.{Token}
use Rattle.tib_strings.specs.Listed.{is_entry, is_mark_alone}
use Rattle.std.specs.List.{list_all}
use Rattle.std.specs.Prelude.{nat_lt}
use Rattle.tib_tree.specs.Trees.{most_nodes}
use Rattle.tib_tree.proofs.Steps.{accepted, refused}
use Rattle.tib_strings.proofs.Steps.{bad_list_line, blank_list_line, no_words_line, many_words_line, words_line, mark_line}
use Rattle.tib_strings.proofs.list.read_list.Goals as goal

pub returns-in-Ok-false : goal.returns-in-Ok-false
returns-in-Ok-false c = bad_list_line c.args.line.now (refused c.in-Ok-false.field-0 _ _ c.in-Ok-false.field-0-test c.in-Ok-false.ensures.words)

pub returns-then-is_empty : goal.returns-then-is_empty
returns-then-is_empty c =
    let ts = c.read_tokens.new.tokens in
    let e = c.if-is_empty.ensures in
    let n : length ts.items ≡ 0 = grind (arith, nat_tests, ts.ok.0) in
    blank_list_line c.args.line.now ts.items (accepted c.in-Ok-true.field-0 _ _ c.in-Ok-true.field-0-test c.in-Ok-true.ensures.words) n

pub returns-then-is_mark_alone : goal.returns-then-is_mark_alone
returns-then-is_mark_alone c =
    let ts = c.read_tokens.new.tokens in
    let e = c.if-is_empty.ensures in
    let n : 0 < length ts.items = grind (arith, nat_tests, ts.ok.0) in
    mark_line c.args.line.now ts.items (accepted c.in-Ok-true.field-0 _ _ c.in-Ok-true.field-0-test c.in-Ok-true.ensures.words) c.clear.new.self.items n
    (ap (λ (us : List Token). is_mark_alone (words_at c.args.line.now us)) (sym c.deref.ensures.value) ∙ sym c.is_mark_alone.ensures ∙ c.if-is_mark_alone.true) c.clear.ensures.items

pub returns-then-not-are_entries : goal.returns-then-not-are_entries
returns-then-not-are_entries c =
    let ts = c.read_tokens.new.tokens in
    let e = c.if-is_empty.ensures in
    let n : 0 < length ts.items = grind (arith, nat_tests, ts.ok.0) in
    no_words_line c.args.line.now ts.items (accepted c.in-Ok-true.field-0 _ _ c.in-Ok-true.field-0-test c.in-Ok-true.ensures.words) n
    (ap (λ (us : List Token). is_mark_alone (words_at c.args.line.now us)) (sym c.deref.ensures.value) ∙ sym c.is_mark_alone.ensures ∙ c.if-is_mark_alone.false)
    (ap (λ (us : List Token). list_all is_entry (words_at c.args.line.now us)) (sym c.deref-2.ensures.value) ∙ sym c.are_entries.ensures ∙ c.if-not-are_entries.true)

pub returns-then-is_long : goal.returns-then-is_long
returns-then-is_long c =
    let ts = c.read_tokens.new.tokens in
    let e = c.if-is_empty.ensures in
    let n : 0 < length ts.items = grind (arith, nat_tests, ts.ok.0) in
    many_words_line c.args.line.now ts.items (accepted c.in-Ok-true.field-0 _ _ c.in-Ok-true.field-0-test c.in-Ok-true.ensures.words) n
    (ap (λ (us : List Token). is_mark_alone (words_at c.args.line.now us)) (sym c.deref.ensures.value) ∙ sym c.is_mark_alone.ensures ∙ c.if-is_mark_alone.false)
    (ap (λ (us : List Token). list_all is_entry (words_at c.args.line.now us)) (sym c.deref-2.ensures.value) ∙ sym c.are_entries.ensures ∙ c.if-not-are_entries.false)
    (ap (λ (us : List Token). nat_lt most_nodes (length us)) (sym c.deref-3.ensures.value) ∙ sym c.is_long.ensures ∙ c.if-is_long.true)

pub returns : goal.returns
returns c =
    let ts = c.read_tokens.new.tokens in
    let e = c.if-is_empty.ensures in
    let n : 0 < length ts.items = grind (arith, nat_tests, ts.ok.0) in
    words_line c.args.line.now ts.items (accepted c.in-Ok-true.field-0 _ _ c.in-Ok-true.field-0-test c.in-Ok-true.ensures.words) n
    (ap (λ (us : List Token). is_mark_alone (words_at c.args.line.now us)) (sym c.deref.ensures.value) ∙ sym c.is_mark_alone.ensures ∙ c.if-is_mark_alone.false)
    (ap (λ (us : List Token). list_all is_entry (words_at c.args.line.now us)) (sym c.deref-2.ensures.value) ∙ sym c.are_entries.ensures ∙ c.if-not-are_entries.false)
    (ap (λ (us : List Token). nat_lt most_nodes (length us)) (sym c.deref-3.ensures.value) ∙ sym c.is_long.ensures ∙ c.if-is_long.false) c.in-Ok-true.ensures.within c.in-Ok-true.ensures.few
