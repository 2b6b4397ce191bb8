use Rattle.std.proofs.Common.{◌≡◌, ◌∙◌, ap, arith, map}
use Rattle.std.proofs.lemmas.List.{get_or_read}
use Rattle.tib_tree.specs.Trees.{preorder_of}
use Rattle.tib_grammar.specs.Run.{rule_at, no_rule}
use Rattle.tib_k_best.proofs.NotedSides.{noted_more}
use Rattle.tib_k_best.proofs.form.are_apart.Goals as goal

pub loop-rule-preserved : goal.loop-rule-preserved
loop-rule-preserved c =
    let here : c.rule-item.result ≡ rule_at c.args.rules.now c.loop-rule.rule-index = get_or_read c.args.rules.now c.loop-rule.rule-index c.rule-item.result (omega arith) c.rule-item.is no_rule in
    let noted = c.in_ok-note.ensures c.if-not-branch.false in
    noted_more c.args.rules.now c.args.of_start (map (λ s. s.now) c.loop-rule.sides.keys) c.loop-rule.rule-index c.loop-rule.invariant c.items.result.now (c.items.ensures.items ∙ ap (λ r. preorder_of r.right) here) noted.0
    (map (λ s. s.now) c.note.new.sides.keys) noted.1
