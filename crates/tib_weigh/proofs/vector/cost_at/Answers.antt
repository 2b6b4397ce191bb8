use Rattle.std.proofs.Common.{ap, arith, sym, ◌∙◌}
use Rattle.tib_weigh.specs.declared.vector.Entry.{Entry}
use Rattle.tib_weigh.proofs.EntryLemmas.{cost_in-rest}
use Rattle.tib_weigh.proofs.vector.cost_at.Goals as goal

pub returns-else-entry-state : goal.returns-else-entry-state
returns-else-entry-state c =
    sym (cost_in-rest c.args.vector.now c.place_of-place.result c.args.state c.index-vector-place.result c.requires c.place_of-place.ensures.rest
    (λ h e. absurd (omega (arith, c.if-entry-state.false, e, ap (λ (x : Entry). x.state) c.index-vector-place.is))))
    ∙ c.place_of-place.ensures.passed
