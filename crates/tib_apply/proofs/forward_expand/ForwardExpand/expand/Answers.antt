use Rattle.std.proofs.Common.{◌≡◌, Err, ap, sym, ◌∙◌, subst}
use Rattle.std.proofs.lemmas.List.{get_or_read}
use Rattle.tib_apply.specs.KeyGrammars.{key_at}
use Rattle.tib_apply.specs.ForwardLaws.{same_table_edge}
use Rattle.tib_key_edges.specs.Listing.{AreListedFrom, Overruns}
use Rattle.tib_apply.specs.TableEdges.{IsTableEdge}
use Rattle.tib_key_edges.proofs.Listed.{whole_listed, whole_ends, overruns_exceeds}
use Rattle.tib_expand.specs.declared.place.ExpandError.{ExpandError}
use Rattle.tib_apply.specs.ForwardRules.{ForwardListing}
use Rattle.std.specs.declared.result.Result.{Result}
use Rattle.tib_apply.proofs.forward_expand.ForwardExpand.expand.Goals as goal

fault_is : (f : ExpandError) → f ≡ ExpandError.More → ◌≡◌ {A = Result ForwardListing ExpandError} (Err f) (Err ExpandError.More)
fault_is f e = ap Err e

pub returns-in-Ok-clause-listed : goal.returns-in-Ok-clause-listed
returns-in-Ok-clause-listed g c =
    let order = c.args.order.now in
    let at = sym (get_or_read order c.args.n c.index-order-n.result c.requires.position c.index-order-n.is (0, 0, 0)) in
    let Table = IsTableEdge g.S.Semiring.product c.args.self.now.grammar.now.rules c.args.self.now.transducer.now.rules c.args.self.now.runs in
    let from = subst (λ k. AreListedFrom (Table k) order c.in-Ok.listing) (sym at) (c.in-Ok.ensures.listed order c.requires.position at) in
    whole_listed (Table (key_at order c.args.n)) order c.in-Ok.listing _ _ _ c.into_edges.ensures.ends c.into_edges.ensures.rules c.into_edges.ensures.parts c.in-Ok.ensures.within from

pub returns-in-Ok-clause-ends : goal.returns-in-Ok-clause-ends
returns-in-Ok-clause-ends g c = λ k.
    let order = c.args.order.now in
    let at = sym (get_or_read order c.args.n c.index-order-n.result c.requires.position c.index-order-n.is (0, 0, 0)) in
    let Table = IsTableEdge g.S.Semiring.product c.args.self.now.grammar.now.rules c.args.self.now.transducer.now.rules c.args.self.now.runs in
    let from = subst (λ k. AreListedFrom (Table k) order c.in-Ok.listing) (sym at) (c.in-Ok.ensures.listed order c.requires.position at) in
    whole_ends (Table (key_at order c.args.n)) order
    (same_table_edge g.S.Semiring.product c.args.self.now.grammar.now.rules c.args.self.now.transducer.now.rules c.args.self.now.runs (key_at order c.args.n)) c.in-Ok.listing _ c.into_edges.ensures.ends from k

pub returns-in-Err-clause-more : goal.returns-in-Err-clause-more
returns-in-Err-clause-more g c = λ e.
    let order = c.args.order.now in
    let at = sym (get_or_read order c.args.n c.index-order-n.result c.requires.position c.index-order-n.is (0, 0, 0)) in
    let Table = IsTableEdge g.S.Semiring.product c.args.self.now.grammar.now.rules c.args.self.now.transducer.now.rules c.args.self.now.runs in
    overruns_exceeds (Table (key_at order c.args.n))
    (same_table_edge g.S.Semiring.product c.args.self.now.grammar.now.rules c.args.self.now.transducer.now.rules c.args.self.now.runs (key_at order c.args.n)) c.args.budget
    (subst (λ k. Overruns (Table k) c.args.budget) (sym at) (c.list_edges.ensures.more (c.in-Err.is ∙ fault_is c.in-Err.fault e) order c.requires.position at))
