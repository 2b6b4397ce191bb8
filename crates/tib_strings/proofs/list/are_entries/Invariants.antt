use Rattle.std.proofs.Common.{◌≡◌, take, true}
use Rattle.std.specs.List.{list_all}
use Rattle.tib_lex.specs.Line.{word_at}
use Rattle.tib_strings.specs.Listed.{is_entry}
use Rattle.tib_strings.proofs.list.are_entries.Given as goal

abbrev pub invariant-loop-token : goal.invariant-loop-token
invariant-loop-token l = list_all (λ t. is_entry (word_at l.line t)) (take l.token-index l.tokens) ≡ true
