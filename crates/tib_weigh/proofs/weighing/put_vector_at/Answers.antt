use Rattle.std.proofs.Common.{◌≡◌, ℕ, List, ap, ◌∙◌, sym, subst}
use Rattle.tib_tree.specs.Trees.{first_trees}
use Rattle.tib_grammar.specs.GrammarOf.{GrammarOf}
use Rattle.tib_grammar.specs.declared.Rule.{Rule}
use Rattle.tib_normal.specs.Rules.{positions_with}
use Rattle.tib_weigh.specs.Shapes.{AreTables}
use Rattle.tib_weigh.specs.Vectors.{vectors, Weighed, IsVectorOf}
use Rattle.tib_weigh.proofs.Zipped.{ok_then}
use Rattle.tib_weigh.proofs.weighing.put_vector_at.Goals as goal

pub returns-clause-vector : goal.returns-clause-vector
returns-clause-vector g c =
    let same : c.rule_list-rules.result.now ≡ c.args.normal.now.rules = c.rule_list-rules.ensures ∙ ap (λ (x : GrammarOf). x.rules) c.grammar-grammar.ensures.same in
    let shape = c.in-Some.ensures g.S.Semiring.product c.args.normal.now.rules c.requires.index in
    ok_then _ _ c.put_vector.result c.put_vector.ensures.vector (λ x h ts w.
    let tables = subst (λ (rules : List (Rule ℕ)). AreTables rules (positions_with c.args.node.now.label c.args.node.now.rank rules) c.args.node.now.rank c.in-Some.shape.now.tables.items) (sym same) shape.tables in
    let weighed = subst (λ (rules : List (Rule ℕ)). Weighed g.S.Semiring.product rules ts (vectors c.args.stack.now)) (sym same) w in
    subst (λ (rules : List (Rule ℕ)). IsVectorOf g.S.Semiring.product rules c.args.node.now.label (first_trees c.args.node.now.rank ts) c.put_vector.new.vector.items) same
    (h c.args.node.now.label tables ts weighed))
