use Rattle.std.proofs.Common.{◌≡◌, ap, sym, ◌∙◌, Err}
use Rattle.std.specs.declared.result.Result.{Result}
use Rattle.std.proofs.lemmas.List.{get_or_read}
use Rattle.tib_expand.specs.declared.place.ExpandError.{ExpandError}
use Rattle.tib_intersect.specs.declared.listing.PairListing.{PairListing}
use Rattle.tib_intersect.proofs.Whole.{whole_listed, whole_ends, overruns_exceeds}
use Rattle.tib_intersect.proofs.expand.PairsExpand.expand.Goals as goal

fault_is : (f : ExpandError) → f ≡ ExpandError.More → ◌≡◌ {A = Result PairListing ExpandError} (Err f) (Err ExpandError.More)
fault_is f e = ap Err e

pub returns-in-Ok-clause-listed : goal.returns-in-Ok-clause-listed
returns-in-Ok-clause-listed g c =
    let at = sym (get_or_read c.args.order.now c.args.n c.index-order-n.result c.requires.position c.index-order-n.is (0, 0)) in
    whole_listed g.S.Semiring.product c.args.self.now.left.now.rules c.args.self.now.right.now.rules c.args.order.now c.args.n c.in-Ok.listing _ _ _ c.into_edges.ensures.ends c.into_edges.ensures.rules c.into_edges.ensures.parts
    c.in-Ok.ensures.within (c.in-Ok.ensures.listed c.args.order.now c.requires.position at)

pub returns-in-Ok-clause-ends : goal.returns-in-Ok-clause-ends
returns-in-Ok-clause-ends g c k =
    let at = sym (get_or_read c.args.order.now c.args.n c.index-order-n.result c.requires.position c.index-order-n.is (0, 0)) in
    whole_ends g.S.Semiring.product c.args.self.now.left.now.rules c.args.self.now.right.now.rules c.args.order.now c.args.n c.in-Ok.listing _ c.into_edges.ensures.ends (c.in-Ok.ensures.listed c.args.order.now c.requires.position at) k

pub returns-in-Err-clause-more : goal.returns-in-Err-clause-more
returns-in-Err-clause-more g c e =
    let at = sym (get_or_read c.args.order.now c.args.n c.index-order-n.result c.requires.position c.index-order-n.is (0, 0)) in
    overruns_exceeds g.S.Semiring.product c.args.self.now.left.now.rules c.args.self.now.right.now.rules c.args.order.now c.args.n c.args.budget
    (c.list_edges.ensures.more (c.in-Err.is ∙ fault_is c.in-Err.fault e) c.args.order.now c.requires.position at)
