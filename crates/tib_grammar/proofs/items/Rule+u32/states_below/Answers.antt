use Rattle.std.proofs.Common.{map, length, sym, ◌∙◌, ap}
use Rattle.std.proofs.lemmas.List.{take_rest}
use Rattle.std.proofs.Math.ListN.{length-map}
use Rattle.tib_grammar.specs.Items.{state_in}
use Rattle.tib_grammar.proofs.Sides.{length-holes}
use Rattle.tib_grammar.proofs.Holes.{states_below_root}
use Rattle.tib_grammar.proofs.items.Rule+u32.states_below.Goals as goal

pub returns-clause-states : goal.returns-clause-states
returns-clause-states c =
    ap (map state_in) (take_rest c.items.result.now 1)
    ∙ states_below_root c.items.result.now c.args.self.now.right c.items.ensures.items c.requires.are_holes

pub returns-clause-many : goal.returns-clause-many
returns-clause-many c =
    sym (length-map _ state_in) ∙ ap length (returns-clause-states c) ∙ length-holes c.args.self.now.right.kids c.requires.are_holes
