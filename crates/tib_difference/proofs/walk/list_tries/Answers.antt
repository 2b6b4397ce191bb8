use Rattle.std.proofs.Common.{rules, ◌≡◌, ℕ, length, ap, sym, ◌∙◌}
use Rattle.std.proofs.lemmas.List.{get_or_read}
use Rattle.tib_tree.specs.Trees.{count}
use Rattle.tib_grammar.specs.Run.{no_rule, rule_at}
use Rattle.tib_grammar.specs.declared.Rule.{Rule}
use Rattle.tib_grammar.proofs.Sides.{length-holes}
use Rattle.tib_difference.specs.Tries.{states_in}
use Rattle.tib_difference.proofs.walk.list_tries.Goals as goal

pub list_single-requires-clause-single : goal.list_single-requires-clause-single
list_single-requires-clause-single c =
    let w = c.args.walk.now in
    let at = sym c.index-walk-walk.is ∙ get_or_read w.first.now w.rule c.index-walk-walk.result c.requires.rule c.index-walk-walk.is no_rule in
    let rank_is : c.root-rank.result.1 ≡ length (states_in w.first.now w.rule) =
    c.root-rank.ensures.rank ∙ ap (λ (r : Rule ℕ). count r.right.kids) at ∙ sym (length-holes (rule_at w.first.now w.rule).right.kids (c.requires.first w.rule c.requires.rule).are_holes)
    in
    let one : c.root-rank.result.1 ≡ 1 = search rules in
    sym rank_is ∙ one
