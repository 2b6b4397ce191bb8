use Rattle.std.proofs.Common.{ℕ, ◌<◌, ap, sym, subst, ◌∙◌, length}
use Rattle.tib_grammar.specs.Forms.{AreNormal, IsNormalSide}
use Rattle.tib_grammar.specs.GrammarOf.{GrammarOf}
use Rattle.tib_grammar.specs.Run.{no_rule}
use Rattle.tib_grammar.specs.declared.Rule.{Rule}
use Rattle.tib_grammar.proofs.Below.{states_below}
use Rattle.tib_key_edges.specs.Positions.{IsIndex}
use Rattle.tib_key_edges.proofs.Places.{all_from}
use Rattle.tib_intersect.specs.Matching.{has_shape}
use Rattle.tib_intersect.proofs.pairs.Pairs.new.Goals as goal

pub index_rules-requires-clause-shaped : goal.index_rules-requires-clause-shaped
index_rules-requires-clause-shaped g c =
    all_from (λ (r : Rule ℕ). IsNormalSide r.right) c.rule_list.result.now no_rule (subst AreNormal (sym (c.rule_list.ensures ∙ ap (λ (n : GrammarOf). n.rules) c.grammar-3.ensures.same)) c.grammar-3.ensures.normal.normal)

pub invariant_of-result : goal.invariant_of-result
invariant_of-result g c =
    let left = c.grammar.ensures.same in
    let right = c.grammar-2.ensures.same in
    record {
      indexed = subst (λ rules. IsIndex has_shape rules c.in_ok-index.index) (c.rule_list.ensures ∙ ap (λ n. n.rules) c.grammar-3.ensures.same) c.in_ok-index.ensures;
      left_start = subst (λ n. 0 < length n.names) left c.is_sound.ensures.start;
      right_start = subst (λ n. 0 < length n.names) right c.is_sound-2.ensures.start;
      left_range = states_below c.grammar.result.now c.args.left.now left c.is_sound.ensures.range;
      right_range = states_below c.grammar-2.result.now c.args.right.now right c.is_sound-2.ensures.range;
    }
