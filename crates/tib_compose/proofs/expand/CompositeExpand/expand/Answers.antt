use Rattle.std.proofs.Common.{◌≡◌, ◌<◌, Err, ap, sym, ◌∙◌, subst}
use Rattle.std.proofs.lemmas.List.{get_or_read}
use Rattle.tib_lex.specs.Lists.{total}
use Rattle.tib_key_edges.specs.Choices.{edges_of}
use Rattle.tib_key_edges.specs.Composition.{edge_parts}
use Rattle.tib_compose.specs.CompositionListing.{IsListing}
use Rattle.tib_compose.proofs.Expanded.{whole_listed, whole_ends, overruns_exceeds}
use Rattle.tib_expand.specs.declared.place.ExpandError.{ExpandError}
use Rattle.tib_compose.specs.declared.listing.CompositionListing.{CompositionListing}
use Rattle.std.specs.declared.result.Result.{Result}
use Rattle.tib_key_edges.specs.Ends.{key_at}
use Rattle.tib_compose.proofs.expand.CompositeExpand.expand.Goals as goal

fault_is : (f : ExpandError) → f ≡ ExpandError.More → ◌≡◌ {A = Result CompositionListing ExpandError} (Err f) (Err ExpandError.More)
fault_is f e = ap Err e

pub returns-in-Ok-clause-listed : goal.returns-in-Ok-clause-listed
returns-in-Ok-clause-listed g c =
    let order = c.args.order.now in
    let one = c.args.self.now.first.now.rules in
    let two = c.args.self.now.second.now.rules in
    let at = sym (get_or_read order c.args.n c.index-order-n.result c.requires.position c.index-order-n.is (0, 0)) in
    let lists = subst (λ k. IsListing order k (edges_of g.S.Semiring.product one two k) c.in-Ok.listing) (sym at) (c.in-Ok.ensures.listed order c.requires.position at) in
    whole_listed g.S.Semiring.product one two c.is_sound.ensures.shaped order c.args.n c.in-Ok.listing _ _ _ c.into_edges.ensures.ends c.into_edges.ensures.rules c.into_edges.ensures.parts c.in-Ok.ensures.within lists

pub returns-in-Ok-clause-ends : goal.returns-in-Ok-clause-ends
returns-in-Ok-clause-ends g c = λ k.
    let order = c.args.order.now in
    let one = c.args.self.now.first.now.rules in
    let two = c.args.self.now.second.now.rules in
    let at = sym (get_or_read order c.args.n c.index-order-n.result c.requires.position c.index-order-n.is (0, 0)) in
    let lists = subst (λ k. IsListing order k (edges_of g.S.Semiring.product one two k) c.in-Ok.listing) (sym at) (c.in-Ok.ensures.listed order c.requires.position at) in
    whole_ends g.S.Semiring.product one two c.is_sound.ensures.shaped order c.args.n c.in-Ok.listing _ c.into_edges.ensures.ends lists k

pub returns-in-Err-clause-more : goal.returns-in-Err-clause-more
returns-in-Err-clause-more g c = λ e.
    let order = c.args.order.now in
    let one = c.args.self.now.first.now.rules in
    let two = c.args.self.now.second.now.rules in
    let at = sym (get_or_read order c.args.n c.index-order-n.result c.requires.position c.index-order-n.is (0, 0)) in
    overruns_exceeds g.S.Semiring.product one two c.is_sound.ensures.shaped order c.args.n c.args.budget
    (subst (λ k. c.args.budget < total edge_parts (edges_of g.S.Semiring.product one two k)) (sym at) (c.list_edges.ensures.more (c.in-Err.is ∙ fault_is c.in-Err.fault e) order c.requires.position at))
