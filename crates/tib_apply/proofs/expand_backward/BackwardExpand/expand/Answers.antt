use Rattle.std.proofs.Common.{◌≡◌, ◌∙◌, ◌<◌, ap, sym, subst, refl, length, ℕ, Err}
use Rattle.std.specs.declared.result.Result.{Result}
use Rattle.std.proofs.lemmas.List.{get_or_read}
use Rattle.tib_lex.proofs.Members.{each_has, has_at}
use Rattle.tib_expand.specs.declared.place.ExpandError.{ExpandError}
use Rattle.tib_apply.specs.Backward.{IsBackwardEdge}
use Rattle.tib_apply.specs.BackwardLaws.{one_backward_edge}
use Rattle.tib_apply.specs.KeyGrammars.{key_at}
use Rattle.tib_apply.specs.declared.edge_list.EdgeList.{EdgeList}
use Rattle.tib_apply.proofs.ListedEdges.{whole_listed, whole_ends, overruns_exceeds}
use Rattle.tib_apply.proofs.BackwardEdges.{edges_at, overruns_at}
use Rattle.tib_apply.proofs.expand_backward.BackwardExpand.expand.Goals as goal

fault_is : (f : ExpandError) → f ≡ ExpandError.More → ◌≡◌ {A = Result EdgeList ExpandError} (Err f) (Err ExpandError.More)
fault_is f e = ap Err e

pub list_edges-requires-clause-second : goal.list_edges-requires-clause-second
list_edges-requires-clause-second g c =
    let at = get_or_read c.args.order.now c.args.n c.index-order-n.result c.requires.position c.index-order-n.is (0, 0, 0) in
    subst (λ (k : ℕ × ℕ × ℕ). k.1 < length c.args.self.now.grammar.now.names) (sym at)
    (each_has (λ (k : ℕ × ℕ × ℕ). k.1 < length c.args.self.now.grammar.now.names) c.args.order.now (key_at c.args.order.now c.args.n) c.requires.admitted (has_at c.args.order.now c.args.n (0, 0, 0) c.requires.position))

pub returns-in-Ok-clause-listed : goal.returns-in-Ok-clause-listed
returns-in-Ok-clause-listed g c =
    let at = sym (get_or_read c.args.order.now c.args.n c.index-order-n.result c.requires.position c.index-order-n.is (0, 0, 0)) in
    let product = g.S.Semiring.product in
    let moves = c.args.self.now.transducer.now.rules in
    let grammar = c.args.self.now.grammar.now.rules in
    whole_listed (IsBackwardEdge product moves grammar (key_at c.args.order.now c.args.n)) (key_at c.args.order.now c.args.n) c.args.order.now c.args.n c.requires.position refl
    c.in-Ok.list _ _ _ c.into_edges.ensures.ends c.into_edges.ensures.rules c.into_edges.ensures.parts c.in-Ok.ensures.position c.in-Ok.ensures.within
    (edges_at product moves grammar c.index-order-n.result (key_at c.args.order.now c.args.n) at c.in-Ok.list c.in-Ok.ensures.listed)

pub returns-in-Ok-clause-ends : goal.returns-in-Ok-clause-ends
returns-in-Ok-clause-ends g c k =
    let at = sym (get_or_read c.args.order.now c.args.n c.index-order-n.result c.requires.position c.index-order-n.is (0, 0, 0)) in
    let product = g.S.Semiring.product in
    let moves = c.args.self.now.transducer.now.rules in
    let grammar = c.args.self.now.grammar.now.rules in
    let key = key_at c.args.order.now c.args.n in
    whole_ends (IsBackwardEdge product moves grammar key) (one_backward_edge product moves grammar key) key c.in-Ok.list _ c.into_edges.ensures.ends
    (edges_at product moves grammar c.index-order-n.result key at c.in-Ok.list c.in-Ok.ensures.listed) k

pub returns-in-Err-clause-more : goal.returns-in-Err-clause-more
returns-in-Err-clause-more g c e =
    let at = sym (get_or_read c.args.order.now c.args.n c.index-order-n.result c.requires.position c.index-order-n.is (0, 0, 0)) in
    let product = g.S.Semiring.product in
    let moves = c.args.self.now.transducer.now.rules in
    let grammar = c.args.self.now.grammar.now.rules in
    let key = key_at c.args.order.now c.args.n in
    overruns_exceeds (IsBackwardEdge product moves grammar key) (one_backward_edge product moves grammar key) key c.args.budget
    (overruns_at product moves grammar c.index-order-n.result key at c.args.budget (c.list_edges.ensures.more (c.in-Err.is ∙ fault_is c.in-Err.fault e)))
