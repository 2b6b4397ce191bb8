use Rattle.std.proofs.Common.{◌<◌, ℕ, List, length, map, arith, ap, sym, ◌∙◌, subst, Ok}
use Rattle.std.proofs.lemmas.List.{get_or_read}
use Rattle.tib_lex.specs.Lists.{Each}
use Rattle.tib_grammar.specs.Items.{pairs_of}
use Rattle.tib_grammar.specs.Sides.{holes_of}
use Rattle.tib_transducer.specs.Rules.{no_rule}
use Rattle.tib_apply.proofs.ForwardEdges.{rule_here, on_ok}
use Rattle.tib_image.specs.Image.{pair_key}
use Rattle.tib_key_edges.specs.Listing.{IsAdded}
use Rattle.tib_image.specs.Walk.{walk}
use Rattle.tib_image.proofs.Walking.{nodes_many}
use Rattle.tib_image.proofs.Edging.{known, added, overruns, passed}
use Rattle.tib_image.proofs.operation.Image.list_rule.Goals as goal

pub match_items-requires : goal.match_items-requires
match_items-requires g c = omega (arith, nodes_many c.args.self.now.tree.now c.nodes.result.now c.nodes.ensures.all, c.args.self.now.few)

pub add_edge-requires-clause-known : goal.add_edge-requires-clause-known
add_edge-requires-clause-known g c =
    let moves = c.args.self.now.transducer.now.rules in
    let m = c.args.position in
    let below = subst (λ rs. m < length rs) (sym c.rule_list.ensures) c.requires.below in
    let is = rule_here c.rule_list.result.now moves m c.index-rule_list-position.result c.rule_list.ensures (get_or_read c.rule_list.result.now m c.index-rule_list-position.result below c.index-rule_list-position.is no_rule) in
    let walked = ap (walk (pairs_of c.items.result.now) c.nodes.result.now) (sym c.node.ensures) ∙ c.match_items.ensures.yes (c.in-Ok-true.is ∙ ap Ok c.in-Ok-true.field-0-test) in
    subst (λ (fs : List ℕ). Each (λ x. x.variable < length fs) (holes_of c.index-rule_list-position.result.right)) (sym c.deref.ensures.value)
    (known moves c.args.self.now.tree.now c.args.key m c.requires.below c.requires.state c.requires.node (c.is_sound.ensures.shaped m c.requires.below) (c.is_sound.ensures.leaves m c.requires.below) c.index-rule_list-position.result is
    c.nodes.result.now c.nodes.ensures.all (pairs_of c.items.result.now) c.items.ensures.items c.match_items.new.found.items walked)

pub returns-in-Ok-true-clause-listed : goal.returns-in-Ok-true-clause-listed
returns-in-Ok-true-clause-listed g c =
    let moves = c.args.self.now.transducer.now.rules in
    let m = c.args.position in
    let below = subst (λ rs. m < length rs) (sym c.rule_list.ensures) c.requires.below in
    let is = rule_here c.rule_list.result.now moves m c.index-rule_list-position.result c.rule_list.ensures (get_or_read c.rule_list.result.now m c.index-rule_list-position.result below c.index-rule_list-position.is no_rule) in
    let walked = ap (walk (pairs_of c.items.result.now) c.nodes.result.now) (sym c.node.ensures) ∙ c.match_items.ensures.yes (c.in-Ok-true.is ∙ ap Ok c.in-Ok-true.field-0-test) in
    on_ok c.add_edge.result _ _
    (λ a.
    added moves c.args.self.now.tree.now c.args.key m c.requires.below c.requires.state c.requires.node (c.is_sound.ensures.shaped m c.requires.below) (c.is_sound.ensures.leaves m c.requires.below) c.index-rule_list-position.result is
    c.nodes.result.now c.nodes.ensures.all (pairs_of c.items.result.now) c.items.ensures.items c.match_items.new.found.items walked c.args.listing.now c.add_edge.new.listing
    (subst (λ (fs : List ℕ). IsAdded c.index-rule_list-position.result.right (map (pair_key fs) (holes_of c.index-rule_list-position.result.right)) c.index-rule_list-position.result.cost c.args.listing.now c.add_edge.new.listing)
    c.deref.ensures.value a))
    c.add_edge.ensures.added

pub returns-in-Ok-true-clause-more : goal.returns-in-Ok-true-clause-more
returns-in-Ok-true-clause-more g c = λ e.
    let moves = c.args.self.now.transducer.now.rules in
    let m = c.args.position in
    let below = subst (λ rs. m < length rs) (sym c.rule_list.ensures) c.requires.below in
    let is = rule_here c.rule_list.result.now moves m c.index-rule_list-position.result c.rule_list.ensures (get_or_read c.rule_list.result.now m c.index-rule_list-position.result below c.index-rule_list-position.is no_rule) in
    let walked = ap (walk (pairs_of c.items.result.now) c.nodes.result.now) (sym c.node.ensures) ∙ c.match_items.ensures.yes (c.in-Ok-true.is ∙ ap Ok c.in-Ok-true.field-0-test) in
    overruns moves c.args.self.now.tree.now c.args.key m c.requires.below c.requires.state c.requires.node (c.is_sound.ensures.shaped m c.requires.below) (c.is_sound.ensures.leaves m c.requires.below) c.index-rule_list-position.result is
    c.nodes.result.now c.nodes.ensures.all (pairs_of c.items.result.now) c.items.ensures.items c.match_items.new.found.items walked c.args.listing.now (c.add_edge.ensures.more e)

pub returns-in-Ok-false-clause-listed : goal.returns-in-Ok-false-clause-listed
returns-in-Ok-false-clause-listed g c =
    let moves = c.args.self.now.transducer.now.rules in
    let m = c.args.position in
    let below = subst (λ rs. m < length rs) (sym c.rule_list.ensures) c.requires.below in
    let is = rule_here c.rule_list.result.now moves m c.index-rule_list-position.result c.rule_list.ensures (get_or_read c.rule_list.result.now m c.index-rule_list-position.result below c.index-rule_list-position.is no_rule) in
    let walked = ap (walk (pairs_of c.items.result.now) c.nodes.result.now) (sym c.node.ensures) ∙ c.match_items.ensures.no (c.in-Ok-false.is ∙ ap Ok c.in-Ok-false.field-0-test) in
    passed moves c.args.self.now.tree.now c.args.key m c.requires.below c.requires.state c.requires.node (c.is_sound.ensures.shaped m c.requires.below) (c.is_sound.ensures.leaves m c.requires.below) c.index-rule_list-position.result is
    c.nodes.result.now c.nodes.ensures.all (pairs_of c.items.result.now) c.items.ensures.items walked c.args.listing.now
