use Rattle.std.proofs.Common.{ℕ, ap, subst, sym, ◌∙◌}
use Rattle.tib_grammar.specs.Forms.{AreNormal, IsNormalSide}
use Rattle.tib_grammar.specs.GrammarOf.{GrammarOf}
use Rattle.tib_grammar.specs.Run.{no_rule}
use Rattle.tib_grammar.specs.declared.Rule.{Rule}
use Rattle.tib_key_edges.proofs.Places.{all_from}
use Rattle.tib_difference.proofs.difference.Difference.new.Goals as goal

pub index_rules-requires-clause-shaped : goal.index_rules-requires-clause-shaped
index_rules-requires-clause-shaped g c =
    all_from (λ (r : Rule ℕ). IsNormalSide r.right) c.rule_list.result.now no_rule (subst AreNormal (sym (c.rule_list.ensures ∙ ap (λ (n : GrammarOf). n.rules) c.grammar-3.ensures.same)) c.grammar-3.ensures.normal.normal)
