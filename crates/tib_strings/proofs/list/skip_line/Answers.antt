use Rattle.std.proofs.Common.{arith, length, ◌≡◌, ◌<◌}
use Rattle.std.proofs.lemmas.Bool.Decides.{nat_tests}
use Rattle.tib_tree.proofs.Steps.{accepted, refused}
use Rattle.tib_strings.proofs.Steps.{bad_more_line, blank_more_line, more_tokens_line}
use Rattle.tib_strings.proofs.list.skip_line.Goals as goal

pub returns-in-Ok-false : goal.returns-in-Ok-false
returns-in-Ok-false c = bad_more_line c.args.line.now (refused c.in-Ok-false.field-0 _ _ c.in-Ok-false.field-0-test c.in-Ok-false.ensures.words)

pub returns-then-not-is_empty : goal.returns-then-not-is_empty
returns-then-not-is_empty c =
    let ts = c.read_tokens.new.tokens in
    let e = c.if-not-is_empty.ensures in
    let n : 0 < length ts.items = grind (arith, nat_tests, ts.ok.0) in
    more_tokens_line c.args.line.now ts.items (accepted c.in-Ok-true.field-0 _ _ c.in-Ok-true.field-0-test c.in-Ok-true.ensures.words) n

pub returns : goal.returns
returns c =
    let ts = c.read_tokens.new.tokens in
    let e = c.if-not-is_empty.ensures in
    let n : length ts.items ≡ 0 = grind (arith, nat_tests, ts.ok.0) in
    blank_more_line c.args.line.now ts.items (accepted c.in-Ok-true.field-0 _ _ c.in-Ok-true.field-0-test c.in-Ok-true.ensures.words) n
