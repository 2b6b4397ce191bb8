use Rattle.std.proofs.Common.{arith, length, ap, ◌∷◌, [], length-append}
use Rattle.std.proofs.lemmas.List.{take_more}
use Rattle.tib_tree.proofs.Growing.{grows_twice}
use Rattle.tib_grammar_file.proofs.AddedLabels.{side_more}
use Rattle.tib_grammar_file.proofs.Resolved.{resolve_step}
use Rattle.tib_grammar_file.proofs.resolve.resolve_items.Goals as goal

pub loop-item-preserved : goal.loop-item-preserved
loop-item-preserved c =
    let i = c.loop-item.invariant in
    record {
      side = resolve_step c.args.tables.now.names.now c.loop-item.labels c.resolve_item.new.labels c.args.tables.now.texts.now _ _ _ c.loop-item.side.items _ _ (take_more c.args.items.now c.loop-item.item-index _ (omega arith)) c.in_ok-push.ensures.ok c.resolve_item.ensures.grows c.in_ok-resolved.ensures.item i.side;
      long = omega (arith, ap length c.in_ok-push.ensures.ok, length-append c.loop-item.side.items (c.in_ok-resolved.resolved ∷ []), i.long);
      added = side_more c.args.labels.now c.loop-item.labels c.resolve_item.new.labels c.loop-item.side.items c.push.new.self.items c.in_ok-resolved.resolved c.in_ok-push.ensures.ok i.added c.in_ok-resolved.ensures.added;
      few = omega (arith, i.few, c.resolve_item.ensures.few);
      grows = grows_twice _ _ _ i.grows c.resolve_item.ensures.grows;
    }
