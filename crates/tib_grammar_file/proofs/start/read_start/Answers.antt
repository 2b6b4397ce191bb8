use Rattle.std.proofs.Common.{arith, sym, ◌∙◌, ap, refl, ◌≡◌, ◌<◌, length, List, ℕ}
use Rattle.std.proofs.lemmas.Bool.Decides.{nat_tests}
use Rattle.std.specs.Prelude.{Some}
use Rattle.std.proofs.Common.{subst}
use Rattle.tib_lex.specs.Line.{text_of, word_at}
use Rattle.tib_lex.specs.Lines.{HasNoFeed}
use Rattle.tib_lex.proofs.NoFeeds.{text_plain}
use Rattle.tib_tree.specs.Grows.{Adds}
use Rattle.tib_tree.proofs.Steps.{accepted, refused}
use Rattle.tib_grammar_file.specs.Rule.{has_dot}
use Rattle.tib_grammar_file.proofs.Begins.{bad_start, blank_start, some_start, dotted_start, plainly}
use Rattle.tib_grammar_file.proofs.start.read_start.Goals as goal

pub returns-then-not-branch : goal.returns-then-not-branch
returns-then-not-branch c = bad_start c.args.line.now (refused c.in_ok-read_tokens.field-0 _ _ c.if-not-branch.true c.in_ok-read_tokens.ensures.words)

pub returns-then-is_empty : goal.returns-then-is_empty
returns-then-is_empty c =
    let ts = c.read_tokens.new.tokens in
    let e = c.if-is_empty.ensures in
    let n : length ts.items ≡ 0 = grind (arith, nat_tests, ts.ok.0) in
    (blank_start c.args.line.now ts.items (accepted c.in_ok-read_tokens.field-0 _ _ c.if-not-branch.false c.in_ok-read_tokens.ensures.words) n, refl)

pub returns-in-None : goal.returns-in-None
returns-in-None c =
    let ts = c.read_tokens.new.tokens in
    let e = c.if-is_empty.ensures in
    let n : 0 < length ts.items = grind (arith, nat_tests, ts.ok.0) in
    some_start c.args.line.now ts.items c.deref.result.now _ (accepted c.in_ok-read_tokens.field-0 _ _ c.if-not-branch.false c.in_ok-read_tokens.ensures.words) n c.deref.ensures.value (c.in-None.ensures.start c.args.line.now)

pub returns-then-has_dot : goal.returns-then-has_dot
returns-then-has_dot c =
    let ts = c.read_tokens.new.tokens in
    let e = c.if-is_empty.ensures in
    let n : 0 < length ts.items = grind (arith, nat_tests, ts.ok.0) in
    some_start c.args.line.now ts.items c.deref.result.now _ (accepted c.in_ok-read_tokens.field-0 _ _ c.if-not-branch.false c.in_ok-read_tokens.ensures.words) n c.deref.ensures.value (c.in-Some.ensures.start c.args.line.now)
    ∙ dotted_start (text_of (word_at c.args.line.now c.in-Some.token)) (sym (ap has_dot (c.deref-2.ensures.value ∙ c.in_ok-read_text.ensures)) ∙ sym c.if-has_dot.ensures)

pub returns : goal.returns
returns c =
    let ts = c.read_tokens.new.tokens in
    let e = c.if-is_empty.ensures in
    let n : 0 < length ts.items = grind (arith, nat_tests, ts.ok.0) in
    let text : List ℕ = text_of (word_at c.args.line.now c.in-Some.token) in (
      text,
      some_start c.args.line.now ts.items c.deref.result.now (Some text) (accepted c.in_ok-read_tokens.field-0 _ _ c.if-not-branch.false c.in_ok-read_tokens.ensures.words) n c.deref.ensures.value (c.in-Some.ensures.start c.args.line.now)
          ∙ plainly text (sym (ap has_dot (c.deref-2.ensures.value ∙ c.in_ok-read_text.ensures)) ∙ sym c.if-has_dot.ensures),
      subst (λ (t : List ℕ). Adds c.args.names.now t c.intern.new.self) (c.deref-3.ensures.value ∙ c.in_ok-read_text.ensures) c.in_ok-intern.ensures.adds,
    )

pub intern-requires-clause-plain : goal.intern-requires-clause-plain
intern-requires-clause-plain c =
    subst (λ (t : List ℕ). HasNoFeed t) (sym (c.deref-3.ensures.value ∙ c.in_ok-read_text.ensures)) (text_plain c.args.line.now c.in-Some.token c.requires.plain)
