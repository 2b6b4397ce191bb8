use Rattle.std.proofs.Common.{◌≡◌, ◌++◌, ◌∷◌, [], replicate, ap, ◌∙◌, arith}
use Rattle.std.proofs.lemmas.List.{replicate_more}
use Rattle.tib_match.specs.declared.spans.Span.{Span}
use Rattle.tib_match.proofs.searching.whole_box.Goals as goal

pub loop-place-preserved : goal.loop-place-preserved
loop-place-preserved c =
    let all : Span = record { low = 0; high = c.args.states } in
    record {
      within = omega (arith, c.loop-place-test.true);
      spans = c.in_ok-push.ensures.items ∙ ap (λ xs. xs ++ all ∷ []) c.loop-place.invariant.spans ∙ replicate_more c.loop-place._place all;
    }

pub returns : goal.returns
returns c =
    let all : Span = record { low = 0; high = c.args.states } in
    let same : c.loop-place._place ≡ c.args.many = omega (arith, c.loop-place-test.false, c.loop-place.invariant.within) in
    c.loop-place.invariant.spans ∙ ap (λ n. replicate n all) same
