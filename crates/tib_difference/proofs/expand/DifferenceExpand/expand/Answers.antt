use Rattle.std.proofs.Common.{ap, ◌∙◌, ◌<◌, length, Err}
use Rattle.tib_lex.specs.Lists.{Ascends}
use Rattle.tib_lex.proofs.Lists.{each_weaker}
use Rattle.tib_difference.specs.Difference.{KeyOf, IsKey}
use Rattle.tib_difference.proofs.Expanding.{position_edges_listed, position_ends, position_exceeds}
use Rattle.tib_difference.proofs.expand.DifferenceExpand.expand.Goals as goal

pub returns-in-Ok-clause-listed : goal.returns-in-Ok-clause-listed
returns-in-Ok-clause-listed g c =
    position_edges_listed c.args.self.now.left.now.rules c.args.self.now.right.now.rules c.args.order.now c.args.n c.requires.position c.in-Ok.listing c.into_edges.result.ends.items c.into_edges.result.rules.items
    c.into_edges.result.parts c.in-Ok.ensures.listed c.in-Ok.ensures.within c.into_edges.ensures.ends c.into_edges.ensures.rules c.into_edges.ensures.parts

pub returns-in-Ok-clause-ends : goal.returns-in-Ok-clause-ends
returns-in-Ok-clause-ends g c =
    position_ends c.args.self.now.left.now.rules c.args.self.now.right.now.rules c.args.order.now c.args.n c.requires.position c.in-Ok.listing c.into_edges.result.ends.items c.in-Ok.ensures.listed c.into_edges.ensures.ends

pub returns-in-Err-clause-more : goal.returns-in-Err-clause-more
returns-in-Err-clause-more g c = λ e.
    position_exceeds c.args.self.now.left.now.rules c.args.self.now.right.now.rules c.args.order.now c.args.n c.requires.position c.args.budget (c.list_position.ensures.more (c.in-Err.is ∙ ap Err e))

pub list_position-requires-clause-ascending : goal.list_position-requires-clause-ascending
list_position-requires-clause-ascending g c =
    each_weaker (IsKey (length c.args.self.now.left.now.names) (length c.args.self.now.right.now.names)) (λ (k : KeyOf). Ascends ◌<◌ k.1) c.args.order.now (λ k is. is.ascends) c.requires.admitted
