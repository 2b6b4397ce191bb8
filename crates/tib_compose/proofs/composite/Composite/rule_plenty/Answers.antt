use Rattle.std.proofs.Common.{◌≡◌, ◌≤◌, ap, arith, le_refl, sym, ◌∙◌, subst}
use Rattle.std.proofs.lemmas.List.{get_or_read}
use Rattle.tib_transducer.specs.Rules.{no_rule, transducer_rule}
use Rattle.tib_tree.specs.Trees.{preorder_of}
use Rattle.tib_grammar.specs.Items.{pairs_of}
use Rattle.tib_key_edges.specs.Pieces.{pieces_of}
use Rattle.tib_compose.specs.PieceViews.{kids_there}
use Rattle.tib_compose.specs.Plenties.{AddsPlenty}
use Rattle.tib_compose.proofs.FlatEdges.{there}
use Rattle.tib_compose.proofs.Plenties.{rule_adds}
use Rattle.tib_compose.proofs.Steps.{some_cut}
use Rattle.tib_compose.proofs.Walking.{known_from}
use Rattle.tib_compose.proofs.composite.Composite.rule_plenty.Goals as goal

pub returns : goal.returns
returns g c = λ ready known p f rank low reads.
    let product = g.S.Semiring.product in
    let two = c.args.self.now.second.now.rules in
    let m = c.args.position in
    let r = c.index-rule_list-position.result in
    let at : r ≡ transducer_rule two m = there two c.rule_list.result.now m r c.rule_list.ensures c.requires.below (λ low d. get_or_read c.rule_list.result.now m r low c.index-rule_list-position.is no_rule) in
    let right = c.items.result.now in
    let is : pairs_of right ≡ preorder_of (transducer_rule two m).right = c.items.ensures.items ∙ ap (λ x. preorder_of x.right) at in
    let kids = kids_there (pairs_of c.args.source.now.items.now) c.args.node rank in
    let inner = c.in-Some.inner in
    let adds : AddsPlenty product two (pieces_of (preorder_of (transducer_rule two m).right) kids) inner =
    subst (λ xs. AddsPlenty product two (pieces_of xs kids) inner) is (c.in-Some.ensures two ready known rank (known_from two ready.shaped p f rank m low reads right is))
    in
    let worst : product r.cost inner.worst ≡ c.in-Some-times.worst = some_cut (product r.cost inner.worst) c.in-Some-times.worst (sym c.times.ensures ∙ c.in-Some-times.is) in
    let same : product (transducer_rule two m).cost inner.worst ≤ c.in-Some-times.worst = omega (arith, worst, ap (λ x. product x.cost inner.worst) at) in
    rule_adds g.met.S.Semiring.laws two kids m inner _ adds (le_refl inner.count) (le_refl inner.items) same
