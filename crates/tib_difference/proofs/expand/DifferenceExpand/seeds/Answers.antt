use Rattle.std.proofs.Common.{ap, ◌∙◌, Err}
use Rattle.tib_difference.proofs.Seeds.{seed_edges_listed, seed_ends, seeds_exceed}
use Rattle.tib_difference.proofs.expand.DifferenceExpand.seeds.Goals as goal

pub returns-in-Ok-clause-listed : goal.returns-in-Ok-clause-listed
returns-in-Ok-clause-listed g c =
    seed_edges_listed c.args.self.now.left.now.rules c.args.self.now.right.now.rules c.grammar.ensures.normal.normal c.in-Ok.listing c.into_edges.result.ends.items c.into_edges.result.rules.items c.into_edges.result.parts c.in-Ok.ensures.listed
    c.in-Ok.ensures.within c.into_edges.ensures.ends c.into_edges.ensures.rules c.into_edges.ensures.parts

pub returns-in-Ok-clause-ends : goal.returns-in-Ok-clause-ends
returns-in-Ok-clause-ends g c =
    seed_ends c.args.self.now.left.now.rules c.args.self.now.right.now.rules c.grammar.ensures.normal.normal c.in-Ok.listing c.into_edges.result.ends.items c.in-Ok.ensures.listed c.into_edges.ensures.ends

pub returns-in-Err-clause-more : goal.returns-in-Err-clause-more
returns-in-Err-clause-more g c = λ e.
    seeds_exceed c.args.self.now.left.now.rules c.args.self.now.right.now.rules c.grammar.ensures.normal.normal c.args.budget (c.list_seeds.ensures.more (c.in-Err.is ∙ ap Err e))
