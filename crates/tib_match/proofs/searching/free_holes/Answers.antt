use Rattle.std.proofs.Common.{◌≡◌, ◌++◌, ◌∷◌, [], replicate, ap, ◌∙◌, arith}
use Rattle.std.proofs.lemmas.List.{replicate_more}
use Rattle.tib_match.specs.declared.hole_cost.HoleCost.TheVariants.{Free}
use Rattle.tib_match.proofs.searching.free_holes.Goals as goal

pub loop-place-preserved : goal.loop-place-preserved
loop-place-preserved c = record {
  within = omega (arith, c.loop-place-test.true);
  free = c.in_ok-push.ensures.items ∙ ap (λ xs. xs ++ Free ∷ []) c.loop-place.invariant.free ∙ replicate_more c.loop-place._place Free;
}

pub returns : goal.returns
returns c =
    let same : c.loop-place._place ≡ c.args.many = omega (arith, c.loop-place-test.false, c.loop-place.invariant.within) in
    c.loop-place.invariant.free ∙ ap (λ n. replicate n Free) same
