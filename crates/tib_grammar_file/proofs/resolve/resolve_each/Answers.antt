use Rattle.std.proofs.Common.{arith, refl, ap, sym, subst, length, List, ℕ}
use Rattle.tib_tree.proofs.Growing.{grows_twice, grows_not}
use Rattle.tib_grammar.specs.declared.Rule.{Rule}
use Rattle.tib_grammar_file.specs.Added.{AddsRules}
use Rattle.tib_grammar_file.proofs.AddedLabels.{list_more}
use Rattle.tib_grammar_file.proofs.Resolved.{part_few, here_at, begins, nodes_within, these_nodes, one_more, a_tree, few_nodes, all_done}
use Rattle.tib_grammar_file.proofs.resolve.resolve_each.Goals as goal

pub loop-rule-init : goal.loop-rule-init
loop-rule-init c = record {
  within = omega arith;
  resolving = λ lines g. begins c.args.tables.now.names.now c.args.tables.now.texts.now c.args.labels.now c.args.raw.now lines c.in_ok-rules.rules.items c.in_ok-rules.ensures.items g;
  added = subst (λ (rs : List (Rule ℕ)). AddsRules c.args.labels.now rs c.args.labels.now) (sym c.in_ok-rules.ensures.items) refl;
  few = omega arith;
  grows = grows_not _ _ refl;
}

pub nodes_at-nodes-requires : goal.nodes_at-nodes-requires
nodes_at-nodes-requires c =
    let i = c.loop-rule.invariant in
    let lines = c.requires.raw.0 in
    let h = here_at c.args.tables.now.names.now c.args.tables.now.texts.now c.args.raw.now lines c.deref-rule-items.result.now c.loop-rule.rule-index c.rule-item.result c.deref-rule-items.ensures.value c.loop-rule-test.true c.rule-item.is c.requires.raw.1 in
    omega (arith, nodes_within c.args.tables.now.names.now c.args.tables.now.texts.now c.loop-rule.labels c.args.raw.now.nodes.items lines c.loop-rule.rule-index c.loop-rule.at c.loop-rule.rules.items c.rule-item.result i.within h (i.resolving lines c.requires.raw.1), ap length c.deref.ensures.value)

pub resolve_rule-requires-clause-tree : goal.resolve_rule-requires-clause-tree
resolve_rule-requires-clause-tree c =
    let i = c.loop-rule.invariant in
    let lines = c.requires.raw.0 in
    let h = here_at c.args.tables.now.names.now c.args.tables.now.texts.now c.args.raw.now lines c.deref-rule-items.result.now c.loop-rule.rule-index c.rule-item.result c.deref-rule-items.ensures.value c.loop-rule-test.true c.rule-item.is c.requires.raw.1 in
    a_tree c.args.tables.now.names.now c.args.tables.now.texts.now lines c.loop-rule.rule-index c.rule-item.result c.nodes_at-nodes.result.now h
    (these_nodes c.args.tables.now.names.now c.args.tables.now.texts.now c.loop-rule.labels c.args.raw.now.nodes.items lines c.loop-rule.rule-index c.loop-rule.at c.loop-rule.rules.items c.rule-item.result c.nodes_at-nodes.result.now c.deref.result.now c.deref.ensures.value c.nodes_at-nodes.ensures h (i.resolving lines c.requires.raw.1))

pub resolve_rule-requires-clause-few : goal.resolve_rule-requires-clause-few
resolve_rule-requires-clause-few c =
    let i = c.loop-rule.invariant in
    let lines = c.requires.raw.0 in
    let h = here_at c.args.tables.now.names.now c.args.tables.now.texts.now c.args.raw.now lines c.deref-rule-items.result.now c.loop-rule.rule-index c.rule-item.result c.deref-rule-items.ensures.value c.loop-rule-test.true c.rule-item.is c.requires.raw.1 in
    few_nodes c.args.tables.now.names.now c.args.tables.now.texts.now lines c.loop-rule.rule-index c.rule-item.result c.nodes_at-nodes.result.now h
    (these_nodes c.args.tables.now.names.now c.args.tables.now.texts.now c.loop-rule.labels c.args.raw.now.nodes.items lines c.loop-rule.rule-index c.loop-rule.at c.loop-rule.rules.items c.rule-item.result c.nodes_at-nodes.result.now c.deref.result.now c.deref.ensures.value c.nodes_at-nodes.ensures h (i.resolving lines c.requires.raw.1))

pub loop-rule-preserved : goal.loop-rule-preserved
loop-rule-preserved c =
    let i = c.loop-rule.invariant in
    let lines = c.requires.raw.0 in
    let h = here_at c.args.tables.now.names.now c.args.tables.now.texts.now c.args.raw.now lines c.deref-rule-items.result.now c.loop-rule.rule-index c.rule-item.result c.deref-rule-items.ensures.value c.loop-rule-test.true c.rule-item.is c.requires.raw.1 in
    record {
      within = nodes_within c.args.tables.now.names.now c.args.tables.now.texts.now c.loop-rule.labels c.args.raw.now.nodes.items lines c.loop-rule.rule-index c.loop-rule.at c.loop-rule.rules.items c.rule-item.result i.within h (i.resolving lines c.requires.raw.1);
      resolving = λ ls g.
          let k = here_at c.args.tables.now.names.now c.args.tables.now.texts.now c.args.raw.now ls c.deref-rule-items.result.now c.loop-rule.rule-index c.rule-item.result c.deref-rule-items.ensures.value c.loop-rule-test.true c.rule-item.is g in
          let these = these_nodes c.args.tables.now.names.now c.args.tables.now.texts.now c.loop-rule.labels c.args.raw.now.nodes.items ls c.loop-rule.rule-index c.loop-rule.at c.loop-rule.rules.items c.rule-item.result c.nodes_at-nodes.result.now c.deref.result.now c.deref.ensures.value c.nodes_at-nodes.ensures k (i.resolving ls g) in
          one_more c.args.tables.now.names.now c.args.tables.now.texts.now c.loop-rule.labels c.resolve_rule.new.labels c.args.raw.now.nodes.items ls c.loop-rule.rule-index c.loop-rule.at c.loop-rule.rules.items c.push.new.self.items c.rule-item.result c.in_ok-resolved.resolved k c.resolve_rule.ensures.grows (c.in_ok-resolved.ensures.rule k.line k.is these) c.in_ok-push.ensures.items (i.resolving ls g);
      added = list_more c.args.labels.now c.loop-rule.labels c.resolve_rule.new.labels c.loop-rule.rules.items c.push.new.self.items c.in_ok-resolved.resolved c.in_ok-push.ensures.items i.added c.in_ok-resolved.ensures.added;
      few = omega (arith, i.few, c.resolve_rule.ensures.few, part_few c.loop-rule.at c.rule-item.result.nodes _ c.nodes_at-nodes.result.now c.nodes_at-nodes.ensures);
      grows = grows_twice _ _ _ i.grows c.resolve_rule.ensures.grows;
    }

pub returns-clause-rules : goal.returns-clause-rules
returns-clause-rules c = λ lines g. all_done c.args.tables.now.names.now c.args.tables.now.texts.now c.loop-rule.labels c.args.raw.now lines c.loop-rule.rule-index c.loop-rule.at c.loop-rule.rules.items c.deref-rule-items.result.now c.deref-rule-items.ensures.value (omega (arith, c.loop-rule-test.false)) g (c.loop-rule.invariant.resolving lines g)

pub resolve_rule-requires-clause-room : goal.resolve_rule-requires-clause-room
resolve_rule-requires-clause-room c =
    let i = c.loop-rule.invariant in
    let lines = c.requires.raw.0 in
    let h = here_at c.args.tables.now.names.now c.args.tables.now.texts.now c.args.raw.now lines c.deref-rule-items.result.now c.loop-rule.rule-index c.rule-item.result c.deref-rule-items.ensures.value c.loop-rule-test.true c.rule-item.is c.requires.raw.1 in
    omega (
      arith,
      i.few,
      c.requires.room,
      part_few c.loop-rule.at c.rule-item.result.nodes _ c.nodes_at-nodes.result.now c.nodes_at-nodes.ensures,
      nodes_within c.args.tables.now.names.now c.args.tables.now.texts.now c.loop-rule.labels c.args.raw.now.nodes.items lines c.loop-rule.rule-index c.loop-rule.at c.loop-rule.rules.items c.rule-item.result i.within h (i.resolving lines c.requires.raw.1),
    )

pub returns-clause-few : goal.returns-clause-few
returns-clause-few c = omega (arith, c.loop-rule.invariant.few, c.loop-rule.invariant.within)
