use Rattle.std.proofs.Common.{refl, ℕ, [], length}
use Rattle.tib_tree.specs.Trees.{only, preorder_of}
use Rattle.tib_io.specs.declared.files.Failed.{Failed}
use Rattle.tib_grammar_file.specs.TreeText.{symbol_text, side_text}
use Rattle.tib_grammar_file.proofs.Printing.{prints_as, fails_as}
use Rattle.tib_grammar_file.proofs.PrintingTrees.{items_within, side_trees}
use Rattle.tib_grammar_file.proofs.trees.put_side.Goals as goal

pub put_trees-requires-clause-within : goal.put_trees-requires-clause-within
put_trees-requires-clause-within g c = items_within (g.N.Notation.fits c.args.names.now c.args.labels.now) (length c.args.labels.now) c.items.result.now (preorder_of c.args.side.now) c.items.ensures.items c.requires

pub put_trees-requires-clause-trees : goal.put_trees-requires-clause-trees
put_trees-requires-clause-trees g c = (only c.args.side.now, [], side_trees c.items.result.now c.args.side.now c.items.ensures.items, refl)

pub returns-in-Ok : goal.returns-in-Ok
returns-in-Ok g c =
    let text = side_text (symbol_text (g.N.Notation.label_text c.args.names.now) (g.N.Notation.leaf_text c.args.names.now c.args.labels.now) c.args.labels.now) c.args.side.now in
    prints_as ℕ (Unit {0}) Failed (g.W.Sink.seen c.args.out.now) (g.W.Sink.seen c.put_trees.new.out) text text c.in-Ok.field-0 tt refl
    (c.in-Ok.ensures.prints (only c.args.side.now) [] (side_trees c.items.result.now c.args.side.now c.items.ensures.items) refl)

pub returns-in-Err : goal.returns-in-Err
returns-in-Err g c =
    fails_as ℕ (Unit {0}) Failed g.W.Sink.seen c.args.out.now c.put_trees.new.out (side_text (symbol_text (g.N.Notation.label_text c.args.names.now) (g.N.Notation.leaf_text c.args.names.now c.args.labels.now) c.args.labels.now) c.args.side.now) _
    (c.in-Err.ensures.prints (only c.args.side.now) [] (side_trees c.items.result.now c.args.side.now c.items.ensures.items) refl)
