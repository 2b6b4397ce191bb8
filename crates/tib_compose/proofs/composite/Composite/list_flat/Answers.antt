use Rattle.std.proofs.Common.{◌≡◌, ◌+◌, ◌++◌, ◌<◌, append-nil, ap, arith, get_or, length, refl, sym, ◌∙◌, subst, take}
use Rattle.std.proofs.lemmas.List.{get_or_read}
use Rattle.tib_lex.specs.Lists.{Has, total}
use Rattle.tib_tree.specs.Trees.{HasChildren, IsOneTree-preorder_of, preorder_of}
use Rattle.tib_grammar.specs.Items.{pairs_of}
use Rattle.tib_transducer.specs.Rules.{no_rule, transducer_rule}
use Rattle.tib_key_edges.specs.Composition.{edge_parts}
use Rattle.tib_compose.specs.FlatSides.{IsFlatOver, flat_results}
use Rattle.tib_compose.specs.CompositionListing.{IsListing}
use Rattle.tib_compose.specs.Readers.{readers_with}
use Rattle.tib_compose.specs.Searches.{all_of}
use Rattle.tib_compose.specs.Walk.{result_edges}
use Rattle.tib_compose.proofs.FlatEdges.{are_ready, flat_rest, reader_more, readers_all, readers_front, reads_there, there}
use Rattle.tib_compose.proofs.Walking.{has_there, is_reader}
use Rattle.tib_compose.proofs.composite.Composite.list_flat.Goals as goal

pub loop-reader-init : goal.loop-reader-init
loop-reader-init g c = record {
  within = c.requires.within;
  budget = refl;
  listed = λ ready order es lists. subst (λ xs. IsListing order c.args.key xs c.args.listing.now) (sym (append-nil es)) lists;
}

pub list_reader-requires-clause-below : goal.list_reader-requires-clause-below
list_reader-requires-clause-below g c =
    let two = c.args.self.now.second.now.rules in
    let ps = c.find-reader-items.result.now in
    let i = c.loop-reader.reader-index in
    let are : ps ≡ readers_with (c.second.result, c.args.label, c.args.rank) two = c.find-reader-items.ensures ∙ c.args.self.now.indexed (c.second.result, c.args.label, c.args.rank) in
    (is_reader two c.second.result c.args.label c.args.rank (length two) (get_or ps i 0) (omega arith) (subst (λ xs. Has xs (get_or ps i 0)) are (has_there i ps 0 c.loop-reader-test.true))).0

pub list_reader-requires-clause-pairs : goal.list_reader-requires-clause-pairs
list_reader-requires-clause-pairs g c =
    let one = c.args.self.now.first.now.rules in
    let r = c.index-rule_list-position.result in
    let at : r ≡ transducer_rule one c.args.position = there one c.rule_list.result.now c.args.position r c.rule_list.ensures c.requires.below (λ low d. get_or_read c.rule_list.result.now c.args.position r low c.index-rule_list-position.is no_rule) in
    let items = c.items-items.result.now in
    let is : pairs_of items ≡ preorder_of (transducer_rule one c.args.position).right = c.items-items.ensures.items ∙ ap (λ x. preorder_of x.right) at in
    flat_rest items c.args.label c.args.rank (subst (λ xs. IsFlatOver xs c.args.label c.args.rank) (sym is) c.requires.flat)

pub list_reader-requires-clause-reads : goal.list_reader-requires-clause-reads
list_reader-requires-clause-reads g c =
    let one = c.args.self.now.first.now.rules in
    let two = c.args.self.now.second.now.rules in
    let r = c.index-rule_list-position.result in
    let at : r ≡ transducer_rule one c.args.position = there one c.rule_list.result.now c.args.position r c.rule_list.ensures c.requires.below (λ low d. get_or_read c.rule_list.result.now c.args.position r low c.index-rule_list-position.is no_rule) in
    let items = c.items-items.result.now in
    let is : pairs_of items ≡ preorder_of (transducer_rule one c.args.position).right = c.items-items.ensures.items ∙ ap (λ x. preorder_of x.right) at in
    let flat : IsFlatOver (pairs_of items) c.args.label c.args.rank = subst (λ xs. IsFlatOver xs c.args.label c.args.rank) (sym is) c.requires.flat in
    let children : HasChildren (pairs_of items) = subst HasChildren (sym c.items-items.ensures.items) (IsOneTree-preorder_of r.right).nested in
    let ps = c.find-reader-items.result.now in
    let i = c.loop-reader.reader-index in
    let are : ps ≡ readers_with (c.second.result, c.args.label, c.args.rank) two = c.find-reader-items.ensures ∙ c.args.self.now.indexed (c.second.result, c.args.label, c.args.rank) in
    let reads = is_reader two c.second.result c.args.label c.args.rank (length two) (get_or ps i 0) (omega arith) (subst (λ xs. Has xs (get_or ps i 0)) are (has_there i ps 0 c.loop-reader-test.true)) in
    (c.second.result, c.args.label, c.args.rank, flat, children, reads.1)

pub loop-reader-preserved : goal.loop-reader-preserved
loop-reader-preserved g c =
    let one = c.args.self.now.first.now.rules in
    let two = c.args.self.now.second.now.rules in
    let product = g.S.Semiring.product in
    let r = c.index-rule_list-position.result in
    let at : r ≡ transducer_rule one c.args.position = there one c.rule_list.result.now c.args.position r c.rule_list.ensures c.requires.below (λ low d. get_or_read c.rule_list.result.now c.args.position r low c.index-rule_list-position.is no_rule) in
    let items = c.items-items.result.now in
    let is : pairs_of items ≡ preorder_of (transducer_rule one c.args.position).right = c.items-items.ensures.items ∙ ap (λ x. preorder_of x.right) at in
    let flat : IsFlatOver (pairs_of items) c.args.label c.args.rank = subst (λ xs. IsFlatOver xs c.args.label c.args.rank) (sym is) c.requires.flat in
    let children : HasChildren (pairs_of items) = subst HasChildren (sym c.items-items.ensures.items) (IsOneTree-preorder_of r.right).nested in
    let ps = c.find-reader-items.result.now in
    let are : ps ≡ readers_with (c.args.key.1, c.args.label, c.args.rank) two = c.find-reader-items.ensures ∙ c.args.self.now.indexed (c.second.result, c.args.label, c.args.rank) ∙ ap (λ q. readers_with (q, c.args.label, c.args.rank) two) c.second.ensures in
    let i = c.loop-reader.reader-index in
    record {
      within = c.in-Ok.ensures.within;
      budget = c.in-Ok.ensures.budget ∙ c.loop-reader.invariant.budget;
      listed = λ ready order es lists.
          let reads = reads_there product one two c.args.key c.args.position ready r at items is c.args.label c.args.rank flat children ps are i c.loop-reader-test.true in
          subst (λ xs. IsListing order c.args.key xs c.list_reader.new.listing) (reader_more product one two c.args.key c.args.position ready r at items is c.args.label c.args.rank flat children ps are es i c.loop-reader-test.true)
          (c.in-Ok.ensures.listed ready c.args.key.1 c.args.label c.args.rank flat reads.0 reads.1 order c.args.key
          (es ++ result_edges c.args.key r.left (all_of (flat_results product two r items c.args.rank) (take i ps)))
          (c.loop-reader.invariant.listed ready order es lists));
    }

pub returns-in-Err-clause-more : goal.returns-in-Err-clause-more
returns-in-Err-clause-more g c = λ e order es lists.
    let one = c.args.self.now.first.now.rules in
    let two = c.args.self.now.second.now.rules in
    let product = g.S.Semiring.product in
    let r = c.index-rule_list-position.result in
    let at : r ≡ transducer_rule one c.args.position = there one c.rule_list.result.now c.args.position r c.rule_list.ensures c.requires.below (λ low d. get_or_read c.rule_list.result.now c.args.position r low c.index-rule_list-position.is no_rule) in
    let items = c.items-items.result.now in
    let is : pairs_of items ≡ preorder_of (transducer_rule one c.args.position).right = c.items-items.ensures.items ∙ ap (λ x. preorder_of x.right) at in
    let flat : IsFlatOver (pairs_of items) c.args.label c.args.rank = subst (λ xs. IsFlatOver xs c.args.label c.args.rank) (sym is) c.requires.flat in
    let children : HasChildren (pairs_of items) = subst HasChildren (sym c.items-items.ensures.items) (IsOneTree-preorder_of r.right).nested in
    let ps = c.find-reader-items.result.now in
    let are : ps ≡ readers_with (c.args.key.1, c.args.label, c.args.rank) two = c.find-reader-items.ensures ∙ c.args.self.now.indexed (c.second.result, c.args.label, c.args.rank) ∙ ap (λ q. readers_with (q, c.args.label, c.args.rank) two) c.second.ensures in
    let i = c.loop-reader.reader-index in
    let ready = are_ready g.met.S.Semiring.laws two c.is_sound.ensures.shaped c.is_sound.ensures.leaves in
    let reads = reads_there product one two c.args.key c.args.position ready r at items is c.args.label c.args.rank flat children ps are i c.loop-reader-test.true in
    let front = es ++ result_edges c.args.key r.left (all_of (flat_results product two r items c.args.rank) (take i ps)) in
    let over = c.list_reader.ensures.more (c.in-Err.is ∙ e) ready c.args.key.1 c.args.label c.args.rank flat reads.0 reads.1 order c.args.key front (c.loop-reader.invariant.listed ready order es lists) in
    readers_front product one two c.args.key c.args.position ready r at items is c.args.label c.args.rank flat children ps are es (i + 1) c.args.listing.now.budget
    (subst (λ n. n < total edge_parts (es ++ result_edges c.args.key r.left (all_of (flat_results product two r items c.args.rank) (take (i + 1) ps)))) c.loop-reader.invariant.budget
    (subst (λ xs. c.loop-reader.listing.budget < total edge_parts xs) (reader_more product one two c.args.key c.args.position ready r at items is c.args.label c.args.rank flat children ps are es i c.loop-reader-test.true) over))

pub returns-clause-listed : goal.returns-clause-listed
returns-clause-listed g c = λ order es lists.
    let one = c.args.self.now.first.now.rules in
    let two = c.args.self.now.second.now.rules in
    let product = g.S.Semiring.product in
    let r = c.index-rule_list-position.result in
    let at : r ≡ transducer_rule one c.args.position = there one c.rule_list.result.now c.args.position r c.rule_list.ensures c.requires.below (λ low d. get_or_read c.rule_list.result.now c.args.position r low c.index-rule_list-position.is no_rule) in
    let items = c.items-items.result.now in
    let is : pairs_of items ≡ preorder_of (transducer_rule one c.args.position).right = c.items-items.ensures.items ∙ ap (λ x. preorder_of x.right) at in
    let flat : IsFlatOver (pairs_of items) c.args.label c.args.rank = subst (λ xs. IsFlatOver xs c.args.label c.args.rank) (sym is) c.requires.flat in
    let children : HasChildren (pairs_of items) = subst HasChildren (sym c.items-items.ensures.items) (IsOneTree-preorder_of r.right).nested in
    let ps = c.find-reader-items.result.now in
    let are : ps ≡ readers_with (c.args.key.1, c.args.label, c.args.rank) two = c.find-reader-items.ensures ∙ c.args.self.now.indexed (c.second.result, c.args.label, c.args.rank) ∙ ap (λ q. readers_with (q, c.args.label, c.args.rank) two) c.second.ensures in
    let i = c.loop-reader.reader-index in
    let ready = are_ready g.met.S.Semiring.laws two c.is_sound.ensures.shaped c.is_sound.ensures.leaves in
    subst (λ xs. IsListing order c.args.key xs c.loop-reader.listing) (readers_all product one two c.args.key c.args.position ready r at items is c.args.label c.args.rank flat children ps are es i c.loop-reader-test.false)
    (c.loop-reader.invariant.listed ready order es lists)
