use Rattle.std.proofs.Common.{◌<◌, ◌++◌, arith, ap, sym, ◌∙◌, subst, length, map}
use Rattle.tib_lex.specs.Lists.{Each}
use Rattle.tib_lex.proofs.Lists.{length_map}
use Rattle.tib_grammar.specs.Sides.{holes_of}
use Rattle.tib_grammar.proofs.Holes.{holes_of_items}
use Rattle.tib_match.proofs.BoxSearch.{on_ok}
use Rattle.tib_image.specs.ParseListing.{variable_key}
use Rattle.tib_key_edges.proofs.Added.{is_ready, is_added}
use Rattle.tib_image.proofs.parse.listing.add_edge.Goals as goal

pub push_ends-requires : goal.push_ends-requires
push_ends-requires c = subst (Each (λ x. x.number < length c.args.spans.now)) (holes_of_items c.items.result.now c.args.left.now c.items.ensures.items) c.requires.known

pub add-requires : goal.add-requires
add-requires c =
    let key = variable_key c.args.restrictions.now c.args.spans.now in
    let same = sym (holes_of_items c.items.result.now c.args.left.now c.items.ensures.items) in
    (omega arith, is_ready c.args.left.now (map key (holes_of c.args.left.now)) c.args.listing.now c.push_ends.new.ends (c.in-Ok.ensures ∙ ap (λ hs. c.args.listing.now.ends.items ++ map key hs) same) c.requires.within (length_map key (holes_of c.args.left.now)))

pub returns-clause-added : goal.returns-clause-added
returns-clause-added c =
    let key = variable_key c.args.restrictions.now c.args.spans.now in
    let same = sym (holes_of_items c.items.result.now c.args.left.now c.items.ensures.items) in
    on_ok c.add.result _ _
    (λ ruled.
    is_added c.args.left.now (map key (holes_of c.args.left.now)) c.args.listing.now c.push_ends.new.ends (c.in-Ok.ensures ∙ ap (λ hs. c.args.listing.now.ends.items ++ map key hs) same)
    c.next_end-first_end.result c.args.cost c.add.new.self c.next_end-first_end.ensures c.add.ensures.ends ruled)
    c.add.ensures.rule
