use Rattle.std.proofs.Common.{◌≡◌, Err, refl, sym, ap, ◌∙◌, subst, Some, None, arith, length}
use Rattle.tib_tree.specs.Trees.{IsOneTree}
use Rattle.tib_grammar.specs.Items.{pairs_of}
use Rattle.tib_compose.specs.Branches.{IsAdvanced}
use Rattle.tib_compose.specs.CompositionListing.{IsTooMuch, IsAdded}
use Rattle.tib_compose.specs.Searches.{turn_at}
use Rattle.tib_compose.specs.declared.branch.Branch.{Branch}
use Rattle.tib_compose.specs.declared.search.Search.{Search}
use Rattle.tib_compose.proofs.Steps.{on_to_label, on_to_end, on_to_tree, on_too_far}
use Rattle.tib_compose.proofs.Turns.{more_at, nodes_same}
use Rattle.tib_compose.proofs.translating.go_on.Goals as goal

pub returns-in-Ok-meet-clause-goes : goal.returns-in-Ok-meet-clause-goes
returns-in-Ok-meet-clause-goes c = λ product two ready known order key all h.
    on_to_label c.args.source.now c.args.left.now product two ready known order key all c.args.search.now c.meet.new.self c.advance.new.self c.in-Some.reading c.args.listing.now
    (subst (IsAdvanced c.args.source.now.items.now c.args.search.now.branch c.advance.new.self) c.in-Some.is c.in-Ok.ensures.advanced) c.in-Ok-meet.ensures.meets h

pub returns-in-Ok-meet-clause-turns : goal.returns-in-Ok-meet-clause-turns
returns-in-Ok-meet-clause-turns c =
    let a = subst (IsAdvanced c.args.source.now.items.now c.args.search.now.branch c.advance.new.self) c.in-Some.is c.in-Ok.ensures.advanced in
    let old : Search = record { branch = c.advance.new.self; turns = c.args.search.now.turns } in
    more_at c.args.source.now.items.now c.args.search.now.turns.items c.meet.new.self.turns.items (turn_at c.in-Some.reading old) c.in-Ok-meet.ensures.meets.turns c.requires.turns a.at

pub returns-in-Ok-meet-clause-nodes : goal.returns-in-Ok-meet-clause-nodes
returns-in-Ok-meet-clause-nodes c =
    nodes_same (length c.args.source.now.items.now) c.args.search.now.branch.pending.tasks c.meet.new.self.branch.pending.tasks
    (ap (λ (b : Branch). b.pending.tasks) c.in-Ok-meet.ensures.meets.branch ∙ c.in-Ok.ensures.advanced.puts.tasks) c.requires.nodes

pub returns-in-Ok-add-clause-nodes : goal.returns-in-Ok-add-clause-nodes
returns-in-Ok-add-clause-nodes c =
    nodes_same (length c.args.source.now.items.now) c.args.search.now.branch.pending.tasks c.advance.new.self.pending.tasks c.in-Ok.ensures.advanced.puts.tasks c.requires.nodes

pub returns-in-Ok-add-clause-goes : goal.returns-in-Ok-add-clause-goes
returns-in-Ok-add-clause-goes c = λ product two ready known order key all h.
    let a = subst (IsAdvanced c.args.source.now.items.now c.args.search.now.branch c.advance.new.self) c.in-None.is c.in-Ok.ensures.advanced in
    let new : Search = record { branch = c.advance.new.self; turns = c.args.search.now.turns } in
    on_to_end c.args.source.now c.args.left.now product two ready known order key all c.args.search.now new c.args.listing.now a (omega (arith, c.get.ensures.same, c.get.ensures.within)) h c.add.new.self refl
    (subst (λ d. IsAdded c.args.left.now d c.advance.new.self.cost c.args.listing.now c.add.new.self) c.deref.ensures.value c.in-Ok-add.ensures.added)

pub returns-in-Err-add-clause-more : goal.returns-in-Err-add-clause-more
returns-in-Err-add-clause-more c = λ e product two ready known order key all h.
    let a = subst (IsAdvanced c.args.source.now.items.now c.args.search.now.branch c.advance.new.self) c.in-None.is c.in-Ok.ensures.advanced in
    let new : Search = record { branch = c.advance.new.self; turns = c.args.search.now.turns } in
    on_too_far c.args.source.now c.args.left.now product two ready known order key all c.args.search.now new c.args.listing.now a (omega (arith, c.get.ensures.same, c.get.ensures.within)) h
    (subst (λ d. IsTooMuch c.args.left.now d c.args.listing.now) c.deref.ensures.value (c.add.ensures.more (c.in-Err-add.is ∙ e)))

pub add-requires-clause-tree : goal.add-requires-clause-tree
add-requires-clause-tree c =
    let a = subst (IsAdvanced c.args.source.now.items.now c.args.search.now.branch c.advance.new.self) c.in-None.is c.in-Ok.ensures.advanced in
    let new : Search = record { branch = c.advance.new.self; turns = c.args.search.now.turns } in
    let w = c.requires.come in
    subst (λ d. IsOneTree (pairs_of d)) (sym c.deref.ensures.value)
    (on_to_tree c.args.source.now c.args.left.now w.product w.two w.ready w.known w.order w.key w.all c.args.search.now new c.args.listing.now a (omega (arith, c.get.ensures.same, c.get.ensures.within)) w.branch)
