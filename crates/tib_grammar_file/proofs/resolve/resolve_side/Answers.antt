use Rattle.std.proofs.Common.{ap, ◌∙◌}
use Rattle.std.specs.Prelude.{Err}
use Rattle.tib_grammar_file.proofs.Resolved.{all_texts, is_a_tree}
use Rattle.tib_grammar_file.proofs.resolve.resolve_side.Goals as goal

pub resolve_items-requires-clause-texts : goal.resolve_items-requires-clause-texts
resolve_items-requires-clause-texts c = all_texts c.args.tables.now.texts.now c.args.items.now c.requires.tree.is c.requires.tree.are

pub unreachable-requires : goal.unreachable-requires
unreachable-requires c =
    is_a_tree c.args.tables.now.names.now c.resolve_items.new.labels c.args.tables.now.texts.now c.args.items.now c.in_ok-resolved.resolved.items c.requires.tree c.in_ok-resolved.ensures.items
    (c.from_items.ensures.not_a_tree (c.in-Err-NotATree.is ∙ ap Err c.in-Err-NotATree.field-0-is))
