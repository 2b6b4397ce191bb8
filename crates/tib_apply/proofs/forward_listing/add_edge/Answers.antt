use Rattle.std.proofs.Common.{◌∙◌, arith, map}
use Rattle.tib_lex.proofs.Lists.{length_map}
use Rattle.tib_match.proofs.BoxSearch.{on_ok}
use Rattle.tib_apply.specs.ForwardPlans.{end_at}
use Rattle.tib_key_edges.proofs.Added.{is_ready, is_added}
use Rattle.tib_apply.proofs.forward_listing.add_edge.Goals as goal

pub add-requires : goal.add-requires
add-requires c =
    let keys = map (end_at c.args.states.now) c.args.planned.now in
    (omega arith, is_ready c.args.right.now keys c.args.listing.now c.push_ends.new.ends c.in-Ok.ensures c.requires.within (length_map (end_at c.args.states.now) c.args.planned.now ∙ c.requires.planned))

pub returns-clause-added : goal.returns-clause-added
returns-clause-added c =
    let keys = map (end_at c.args.states.now) c.args.planned.now in
    on_ok c.add.result _ _
    (λ ruled. is_added c.args.right.now keys c.args.listing.now c.push_ends.new.ends c.in-Ok.ensures c.next_end-first_end.result c.args.cost c.add.new.self c.next_end-first_end.ensures c.add.ensures.ends ruled)
    c.add.ensures.rule
