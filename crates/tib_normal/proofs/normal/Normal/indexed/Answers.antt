use Rattle.std.proofs.Common.{subst, length}
use Rattle.tib_normal.specs.IsIndex.{IsIndex}
use Rattle.tib_normal.proofs.normal.Normal.indexed.Goals as goal

pub invariant_of-result : goal.invariant_of-result
invariant_of-result g c = record {
  normal = c.requires;
  index =
      subst (λ rules. IsIndex rules (length c.args.grammar.names) c.in_ok-index.index) c.rule_list.ensures
      (subst (λ n. IsIndex c.rule_list.result.now n c.in_ok-index.index) c.states.ensures c.in_ok-index.ensures);
}
