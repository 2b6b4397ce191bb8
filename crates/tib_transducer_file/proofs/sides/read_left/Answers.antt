use Rattle.std.proofs.Common.{refl}
use Rattle.tib_grammar.specs.Items.{pairs_of}
use Rattle.tib_tree.specs.Shape.{items_back}
use Rattle.tib_transducer_file.proofs.VariablesUsed.{root_from}
use Rattle.tib_transducer_file.proofs.AddedLabels.{left_adds}
use Rattle.tib_transducer_file.proofs.SideTrees.{are_one, no_place, left_made, left_few, side_numbered, side_is}
use Rattle.tib_transducer_file.proofs.sides.read_left.Goals as goal

pub left_side-requires-clause-few : goal.left_side-requires-clause-few
left_side-requires-clause-few c =
    left_few c.push_below.new.labels c.args.line.now c.args.places.now c.push_below.new.items.items c.requires.few
    (left_made c.root_item.new.labels c.push_below.new.labels c.args.line.now c.args.places.now c.args.root _ no_place c.in_ok-first.first c.in_ok-items.items.items c.push.new.self.items c.push_below.new.items.items _ c.push_below.ensures.grows (root_from c.args.line.now c.args.places.now c.args.root c.requires.root) refl refl c.in_ok-first.ensures.item c.in_ok-first.ensures.numbered c.in_ok-items.ensures.items c.in_ok-push.ensures.items c.in_ok-push_below.ensures.items)

pub left_side-requires-clause-tree : goal.left_side-requires-clause-tree
left_side-requires-clause-tree c =
    are_one (pairs_of c.push_below.new.items.items) (items_back c.args.line.now c.args.places.now) c.requires.tree
    (left_made c.root_item.new.labels c.push_below.new.labels c.args.line.now c.args.places.now c.args.root _ no_place c.in_ok-first.first c.in_ok-items.items.items c.push.new.self.items c.push_below.new.items.items _ c.push_below.ensures.grows (root_from c.args.line.now c.args.places.now c.args.root c.requires.root) refl refl c.in_ok-first.ensures.item c.in_ok-first.ensures.numbered c.in_ok-items.ensures.items c.in_ok-push.ensures.items c.in_ok-push_below.ensures.items).ranks

pub returns-clause-side : goal.returns-clause-side
returns-clause-side c =
    side_is c.push_below.new.labels c.args.line.now c.args.places.now c.push_below.new.items.items c.left_side.result
    (left_made c.root_item.new.labels c.push_below.new.labels c.args.line.now c.args.places.now c.args.root _ no_place c.in_ok-first.first c.in_ok-items.items.items c.push.new.self.items c.push_below.new.items.items _ c.push_below.ensures.grows (root_from c.args.line.now c.args.places.now c.args.root c.requires.root) refl refl c.in_ok-first.ensures.item c.in_ok-first.ensures.numbered c.in_ok-items.ensures.items c.in_ok-push.ensures.items c.in_ok-push_below.ensures.items)
    c.left_side.ensures

pub returns-clause-numbered : goal.returns-clause-numbered
returns-clause-numbered c =
    side_numbered c.push_below.new.labels c.args.line.now c.args.places.now c.push_below.new.items.items c.left_side.result
    (left_made c.root_item.new.labels c.push_below.new.labels c.args.line.now c.args.places.now c.args.root _ no_place c.in_ok-first.first c.in_ok-items.items.items c.push.new.self.items c.push_below.new.items.items _ c.push_below.ensures.grows (root_from c.args.line.now c.args.places.now c.args.root c.requires.root) refl refl c.in_ok-first.ensures.item c.in_ok-first.ensures.numbered c.in_ok-items.ensures.items c.in_ok-push.ensures.items c.in_ok-push_below.ensures.items)
    c.left_side.ensures

pub returns-clause-texts : goal.returns-clause-texts
returns-clause-texts c =
    left_adds c.args.labels.now c.root_item.new.labels c.push_below.new.labels c.args.line.now c.args.places.now c.args.root no_place _ (root_from c.args.line.now c.args.places.now c.args.root c.requires.root) refl c.in_ok-first.ensures.text c.in_ok-push_below.ensures.texts
