use Rattle.std.proofs.Common.{refl, ℕ, [], length, arith, ap}
use Rattle.std.proofs.lemmas.List.{length-map}
use Rattle.tib_io.specs.declared.files.Failed.{Failed}
use Rattle.tib_tree.specs.Trees.{only, preorder_of}
use Rattle.tib_grammar.specs.Items.{pair_of}
use Rattle.tib_grammar_file.specs.Printed.{IsStateWithin}
use Rattle.tib_grammar_file.proofs.Printing.{prints_as, fails_as}
use Rattle.tib_grammar_file.proofs.PrintingTrees.{items_within, side_trees}
use Rattle.tib_transducer_file.specs.Printed.{pair_text, side_text}
use Rattle.tib_rulewise.specs.Placed.{placed_items, placed_side}
use Rattle.tib_rulewise.specs.Derivations.{read_from}
use Rattle.tib_rulewise.proofs.PlacedItems.{items-placed}
use Rattle.tib_texts.proofs.derived.put_output.Goals as goal

pub put_trees-requires-clause-few : goal.put_trees-requires-clause-few
put_trees-requires-clause-few g c = omega (arith, ap length c.items.ensures.items, length-map c.items.result.now pair_of, c.requires.small)

pub put_trees-requires-clause-within : goal.put_trees-requires-clause-within
put_trees-requires-clause-within g c = items_within (IsStateWithin c.args.names.now c.args.labels.now) (length c.args.labels.now) c.items.result.now (preorder_of c.args.side.now) c.items.ensures.items c.requires.within

pub put_trees-requires-clause-trees : goal.put_trees-requires-clause-trees
put_trees-requires-clause-trees g c =
    let side = placed_side read_from c.args.side.now in
    (only side, [], side_trees (placed_items read_from 0 c.items.result.now) side (items-placed read_from c.items.result.now c.args.side.now c.items.ensures.items c.items.ensures.leaves), refl)

pub returns-in-Ok : goal.returns-in-Ok
returns-in-Ok g c =
    let side = placed_side read_from c.args.side.now in
    let text = side_text (pair_text c.args.names.now c.args.labels.now) c.args.labels.now side in
    prints_as (ℕ × ℕ) (Unit {0}) Failed (g.W.Sink.seen c.args.out.now) (g.W.Sink.seen c.put_trees.new.out) text text _ tt refl
    (c.in-Ok.ensures.prints (only side) [] (side_trees (placed_items read_from 0 c.items.result.now) side (items-placed read_from c.items.result.now c.args.side.now c.items.ensures.items c.items.ensures.leaves)) refl)

pub returns-in-Err : goal.returns-in-Err
returns-in-Err g c =
    let side = placed_side read_from c.args.side.now in
    fails_as (ℕ × ℕ) (Unit {0}) Failed g.W.Sink.seen c.args.out.now c.put_trees.new.out (side_text (pair_text c.args.names.now c.args.labels.now) c.args.labels.now side) _
    (c.in-Err.ensures.prints (only side) [] (side_trees (placed_items read_from 0 c.items.result.now) side (items-placed read_from c.items.result.now c.args.side.now c.items.ensures.items c.items.ensures.leaves)) refl)
