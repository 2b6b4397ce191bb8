use Rattle.std.proofs.Common.{◌≡◌, ℕ, List, ap, ◌∙◌, subst}
use Rattle.tib_tree.specs.Trees.{none}
use Rattle.tib_grammar.specs.GrammarOf.{GrammarOf}
use Rattle.tib_grammar.specs.declared.Rule.{Rule}
use Rattle.tib_weigh.specs.Vectors.{IsVectorOf}
use Rattle.tib_weigh.proofs.index.leaf_of.Goals as goal

pub returns : goal.returns
returns g c zero =
    let same : c.rule_list-rules.result.now ≡ c.args.normal.now.rules = c.rule_list-rules.ensures ∙ ap (λ (x : GrammarOf). x.rules) c.grammar.ensures.same in
    subst (λ (rules : List (Rule ℕ)). IsVectorOf g.S.Semiring.product rules c.args.label none c.put_node_vector.new.vector.items) same (c.in_ok-put_node_vector.ensures none tt)
