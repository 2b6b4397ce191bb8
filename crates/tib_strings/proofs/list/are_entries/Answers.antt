use Rattle.std.proofs.Common.{sym, ◌∙◌}
use Rattle.tib_strings.proofs.Steps.{one_fails, all_pass}
use Rattle.tib_strings.proofs.list.are_entries.Goals as goal

pub returns-then-not-is_entry : goal.returns-then-not-is_entry
returns-then-not-is_entry c = one_fails c.args.line.now c.args.tokens.now c.loop-token.token-index _ c.loop-token-test.true (sym c.is_entry.ensures ∙ c.if-not-is_entry.true)

pub returns : goal.returns
returns c = all_pass c.args.line.now c.args.tokens.now c.loop-token.token-index c.loop-token-test.false c.loop-token.invariant
