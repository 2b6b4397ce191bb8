use Rattle.std.proofs.Common.{◌≡◌, ◌++◌, ◌<◌, ap, sym, ◌∙◌, subst}
use Rattle.std.proofs.lemmas.List.{get_or_read}
use Rattle.tib_lex.specs.Lists.{total}
use Rattle.tib_cost.specs.Semiring.{cut}
use Rattle.tib_tree.specs.Trees.{IsOneTree, preorder_of}
use Rattle.tib_grammar.specs.Items.{pairs_of}
use Rattle.tib_transducer.specs.Rules.{no_rule, transducer_rule}
use Rattle.tib_key_edges.specs.Composition.{edge_parts}
use Rattle.tib_compose.specs.FlatSides.{KeptOverruns, ListsKept}
use Rattle.tib_compose.specs.CompositionListing.{IsListing}
use Rattle.tib_compose.specs.Walk.{result_edges}
use Rattle.tib_compose.proofs.FlatEdges.{are_ready, flat_long, flat_tree, reader_kept, there}
use Rattle.tib_compose.proofs.Walking.{known_from}
use Rattle.tib_compose.proofs.composite.Composite.list_reader.Goals as goal

pub put_right-requires-clause-known : goal.put_right-requires-clause-known
put_right-requires-clause-known g c =
    let two = c.args.self.now.second.now.rules in
    let r = c.index-rule_list-position.result in
    let at : r ≡ transducer_rule two c.args.position = there two c.rule_list.result.now c.args.position r c.rule_list.ensures c.requires.below (λ low d. get_or_read c.rule_list.result.now c.args.position r low c.index-rule_list-position.is no_rule) in
    let reads = c.requires.reads in (
      reads.2,
      flat_long c.args.items.now reads.1 reads.2 reads.4 reads.3,
      known_from two c.is_sound.ensures.shaped reads.0 reads.1 reads.2 c.args.position c.requires.below reads.5 c.items.result.now (c.items.ensures.items ∙ ap (λ r. preorder_of r.right) at),
    )

pub list_kept-requires-clause-tree : goal.list_kept-requires-clause-tree
list_kept-requires-clause-tree g c =
    let two = c.args.self.now.second.now.rules in
    let r = c.index-rule_list-position.result in
    let at : r ≡ transducer_rule two c.args.position = there two c.rule_list.result.now c.args.position r c.rule_list.ensures c.requires.below (λ low d. get_or_read c.rule_list.result.now c.args.position r low c.index-rule_list-position.is no_rule) in
    let ready = are_ready g.met.S.Semiring.laws two c.is_sound.ensures.shaped c.is_sound.ensures.leaves in
    subst (λ d. IsOneTree (pairs_of d)) (sym c.deref.ensures.value)
    (flat_tree g.S.Semiring.product two ready c.args.items.now c.items.result.now c.put_right.new.done.items c.args.position c.requires.reads c.requires.below (c.items.ensures.items ∙ ap (λ r. preorder_of r.right) at) c.in-Ok.ensures)

pub returns-in-Ok-list_kept-clause-listed : goal.returns-in-Ok-list_kept-clause-listed
returns-in-Ok-list_kept-clause-listed g c = λ ready p f n flat low reads order key es lists.
    let two = c.args.self.now.second.now.rules in
    let rule = c.args.rule.now in
    let r = c.index-rule_list-position.result in
    let at : r ≡ transducer_rule two c.args.position = there two c.rule_list.result.now c.args.position r c.rule_list.ensures c.requires.below (λ low d. get_or_read c.rule_list.result.now c.args.position r low c.index-rule_list-position.is no_rule) in
    let same = reader_kept g.S.Semiring.product two ready rule c.args.items.now c.items.result.now c.put_right.new.done.items p f n c.args.position flat low reads
    (c.items.ensures.items ∙ ap (λ r. preorder_of r.right) at) c.in-Ok.ensures c.times-cost.result (c.times-cost.ensures ∙ ap (λ r. cut (g.S.Semiring.product rule.cost r.cost)) at)
    in
    let added = subst (λ d. ListsKept rule.left d c.times-cost.result c.args.listing.now c.list_kept.new.listing) c.deref.ensures.value c.in-Ok-list_kept.ensures.listed in
    subst (λ rs. IsListing order key (es ++ result_edges key rule.left rs) c.list_kept.new.listing) (sym same) (added order key es lists)

pub returns-in-Err-clause-more : goal.returns-in-Err-clause-more
returns-in-Err-clause-more g c = λ e ready p f n flat low reads order key es lists.
    let two = c.args.self.now.second.now.rules in
    let rule = c.args.rule.now in
    let r = c.index-rule_list-position.result in
    let at : r ≡ transducer_rule two c.args.position = there two c.rule_list.result.now c.args.position r c.rule_list.ensures c.requires.below (λ low d. get_or_read c.rule_list.result.now c.args.position r low c.index-rule_list-position.is no_rule) in
    let same = reader_kept g.S.Semiring.product two ready rule c.args.items.now c.items.result.now c.put_right.new.done.items p f n c.args.position flat low reads
    (c.items.ensures.items ∙ ap (λ r. preorder_of r.right) at) c.in-Ok.ensures c.times-cost.result (c.times-cost.ensures ∙ ap (λ r. cut (g.S.Semiring.product rule.cost r.cost)) at)
    in
    let over = subst (λ d. KeptOverruns rule.left d c.times-cost.result c.args.listing.now) c.deref.ensures.value (c.list_kept.ensures.more (c.in-Err.is ∙ e)) in
    subst (λ rs. c.args.listing.now.budget < total edge_parts (es ++ result_edges key rule.left rs)) (sym same) (over order key es lists)
