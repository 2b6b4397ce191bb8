use Rattle.std.proofs.Common.{sym, ◌∙◌}
use Rattle.tib_lex.proofs.Names.{full_name, no_name}
use Rattle.tib_lex.proofs.bytes.is_full_name.Goals as goal

pub returns : goal.returns
returns c = full_name c.args.text.now c.ne.result c.requires (sym c.count_names.ensures.count ∙ c.if-count_names-text.false) c.ne.ensures

pub returns-then-count_names-text : goal.returns-then-count_names-text
returns-then-count_names-text c = no_name c.args.text.now (λ e. c.if-count_names-text.true (c.count_names.ensures.count ∙ e))
