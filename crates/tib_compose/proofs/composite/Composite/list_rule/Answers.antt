use Rattle.std.proofs.Common.{◌≡◌, ap, ◌∙◌, subst}
use Rattle.std.proofs.lemmas.List.{get_or_read}
use Rattle.tib_tree.specs.Trees.{preorder_of}
use Rattle.tib_transducer.specs.Rules.{no_rule, transducer_rule}
use Rattle.tib_compose.specs.FlatSides.{IsFlatOver}
use Rattle.tib_compose.proofs.FlatEdges.{there}
use Rattle.tib_compose.proofs.composite.Composite.list_rule.Goals as goal

pub list_flat-requires-clause-flat : goal.list_flat-requires-clause-flat
list_flat-requires-clause-flat g c =
    let one = c.args.self.now.first.now.rules in
    let r = c.index-rule_list-position.result in
    let at : r ≡ transducer_rule one c.args.position = there one c.rule_list.result.now c.args.position r c.rule_list.ensures c.requires.below (λ low d. get_or_read c.rule_list.result.now c.args.position r low c.index-rule_list-position.is no_rule) in
    subst (λ xs. IsFlatOver xs c.in-Some.label c.in-Some.rank) (c.items.ensures.items ∙ ap (λ x. preorder_of x.right) at) c.in-Some.ensures
