use Rattle.std.proofs.Common.{◌≡◌}
use Rattle.std.proofs.lemmas.List.{get_or_read}
use Rattle.tib_transducer.specs.Rules.{no_rule, transducer_rule}
use Rattle.tib_compose.proofs.Bounded.{reader_bounds}
use Rattle.tib_compose.proofs.FlatEdges.{there}
use Rattle.tib_compose.proofs.composite.Composite.reader_bound.Goals as goal

pub returns : goal.returns
returns g c =
    let two = c.args.self.now.second.now.rules in
    let r = c.index-rule_list-position.result in
    let at : r ≡ transducer_rule two c.args.position = there two c.rule_list.result.now c.args.position r c.rule_list.ensures c.requires.below (λ low d. get_or_read c.rule_list.result.now c.args.position r low c.index-rule_list-position.is no_rule) in
    reader_bounds g.met.S.Semiring.laws two c.args.source.now c.args.node c.args.position r c.items.result.now c.new-pending.result c.push_pieces.new.pending c.bound.result c.product_of.result at c.items.ensures.items
    c.new-pending.ensures.next c.in_ok-push_pieces.ensures.pieces (λ pairs ws h. c.bound.ensures g.S.Semiring.product two pairs ws h) c.product_of.ensures
