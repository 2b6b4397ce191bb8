use Rattle.std.proofs.Common.{◌+◌, ◌≤◌, ◌∙◌, [], ◌∷◌, ◌++◌, length, length-append, sym, ap, subst}
use Rattle.tib_table.proofs.Passes.{replicate_push}
use Rattle.tib_hunt.proofs.round.open_shelves.Goals as goal

pub loop-preserved : goal.loop-preserved
loop-preserved g c =
    let p = c.push_reserved.ensures in
    let i = c.loop.invariant in (
      p.items ∙ (λ j. i.0 j ++ c.open.ensures j ∷ []) ∙ replicate_push c.loop.counter (record { about = g.P.Problem.about c.args.problem; keys = [] }),
      ap length p.items ∙ length-append c.loop.shelves.items (c.open.result ∷ []) ∙ ap (λ n. n + 1) i.1,
      subst (λ n. 16 ≤ n) (sym p.capacity) i.2,
    )
