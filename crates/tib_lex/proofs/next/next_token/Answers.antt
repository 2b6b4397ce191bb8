use Rattle.std.proofs.Common.{drop}
use Rattle.tib_lex.proofs.HasWords.{reads}
use Rattle.tib_lex.proofs.next.next_token.Goals as goal

pub returns-clause-means : goal.returns-clause-means
returns-clause-means c = reads (drop c.args.at c.args.line.now) c.args.at c.token_from.result c.token_from.ensures.next
