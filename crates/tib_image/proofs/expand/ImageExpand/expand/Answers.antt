use Rattle.std.proofs.Common.{◌≡◌, Err, ap, sym, ◌∙◌, subst}
use Rattle.std.proofs.lemmas.List.{get_or_read}
use Rattle.tib_image.specs.Image.{IsImageEdge}
use Rattle.tib_image.specs.Laws.{same_edge}
use Rattle.tib_image.specs.Listing.{Listing}
use Rattle.tib_key_edges.specs.Listing.{AreListedFrom, Overruns}
use Rattle.tib_key_edges.proofs.Listed.{whole_listed, whole_ends, overruns_exceeds}
use Rattle.tib_expand.specs.declared.place.ExpandError.{ExpandError}
use Rattle.std.specs.declared.result.Result.{Result}
use Rattle.tib_key_edges.specs.Ends.{key_at}
use Rattle.tib_image.proofs.expand.ImageExpand.expand.Goals as goal

fault_is : (f : ExpandError) → f ≡ ExpandError.More → ◌≡◌ {A = Result Listing ExpandError} (Err f) (Err ExpandError.More)
fault_is f e = ap Err e

pub returns-in-Ok-clause-listed : goal.returns-in-Ok-clause-listed
returns-in-Ok-clause-listed g c =
    let order = c.args.order.now in
    let at = sym (get_or_read order c.args.n c.index-order-n.result c.requires.position c.index-order-n.is (0, 0)) in
    let Edge = IsImageEdge c.args.self.now.transducer.now.rules c.args.self.now.tree.now in
    let from = subst (λ k. AreListedFrom (Edge k) order c.in-Ok.listing) (sym at) (c.in-Ok.ensures.listed order c.requires.position at) in
    whole_listed (Edge (key_at order c.args.n)) order c.in-Ok.listing _ _ _ c.into_edges.ensures.ends c.into_edges.ensures.rules c.into_edges.ensures.parts c.in-Ok.ensures.within from

pub returns-in-Ok-clause-ends : goal.returns-in-Ok-clause-ends
returns-in-Ok-clause-ends g c = λ k.
    let order = c.args.order.now in
    let at = sym (get_or_read order c.args.n c.index-order-n.result c.requires.position c.index-order-n.is (0, 0)) in
    let Edge = IsImageEdge c.args.self.now.transducer.now.rules c.args.self.now.tree.now in
    let from = subst (λ k. AreListedFrom (Edge k) order c.in-Ok.listing) (sym at) (c.in-Ok.ensures.listed order c.requires.position at) in
    whole_ends (Edge (key_at order c.args.n)) order (same_edge c.args.self.now.transducer.now.rules c.args.self.now.tree.now (key_at order c.args.n)) c.in-Ok.listing _ c.into_edges.ensures.ends from k

pub returns-in-Err-clause-more : goal.returns-in-Err-clause-more
returns-in-Err-clause-more g c = λ e.
    let order = c.args.order.now in
    let at = sym (get_or_read order c.args.n c.index-order-n.result c.requires.position c.index-order-n.is (0, 0)) in
    let Edge = IsImageEdge c.args.self.now.transducer.now.rules c.args.self.now.tree.now in
    overruns_exceeds (Edge (key_at order c.args.n)) (same_edge c.args.self.now.transducer.now.rules c.args.self.now.tree.now (key_at order c.args.n)) c.args.budget
    (subst (λ k. Overruns (Edge k) c.args.budget) (sym at) (c.list_edges.ensures.more (c.in-Err.is ∙ fault_is c.in-Err.fault e) order c.requires.position at))
