use Rattle.std.proofs.Common.{◌≡◌, ◌++◌, ◌∷◌, [], None, replicate, ap, ◌∙◌, arith}
use Rattle.std.proofs.lemmas.List.{replicate_more}
use Rattle.tib_match.proofs.columns.no_costs.Goals as goal

pub loop-state-preserved : goal.loop-state-preserved
loop-state-preserved c = record {
  within = omega (arith, c.loop-state-test.true);
  costs = c.in_ok-push.ensures.items ∙ ap (λ xs. xs ++ None ∷ []) c.loop-state.invariant.costs ∙ replicate_more c.loop-state._state None;
}

pub returns : goal.returns
returns c =
    let same : c.loop-state._state ≡ c.args.states = omega (arith, c.loop-state-test.false, c.loop-state.invariant.within) in
    c.loop-state.invariant.costs ∙ ap (λ n. replicate n None) same
