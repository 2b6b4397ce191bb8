use Rattle.std.proofs.Common.{◌+◌, refl, subst}
use Rattle.std.specs.Prelude.{◌↔◌}
use Rattle.tib_lex.specs.Lists.{Has}
use Rattle.tib_expand.specs.EdgeLists.{AreListed}
use Rattle.tib_expand.specs.Expanded.{IsEndAt}
use Rattle.tib_hunt.proofs.job.JobOfTask.perform.Goals as goal

pub returns-clause-given : goal.returns-clause-given
returns-clause-given g c =
    let p = g.E.Expand.hunted c.args.self.now.terms.now.problem.now in
    let n = c.args.self.now.first + c.args.item in (
      c.in-Ok.edges.ends.items,
      subst (λ order. AreListed (p.edge order n) p.edge_parts g.E.Expand.reading.places g.E.Expand.reading.read_places order c.in-Ok.edges.ends.items c.in-Ok.edges.rules.items c.in-Ok.edges.parts) c.as_slice-order.ensures.keys c.in-Ok.ensures.listed,
      subst (λ order. (k : g.row.E-Key.Denot) → Has c.in-Ok.edges.ends.items k ↔ IsEndAt p order n k) c.as_slice-order.ensures.keys c.in-Ok.ensures.ends,
      (c.in-Ok-split_ends.split.at, refl, c.in-Ok-split_ends.ensures),
    )
