use Rattle.std.proofs.Common.{List, ℕ, subst}
use Rattle.tib_difference.specs.Difference.{keys_at, subsets_of}
use Rattle.tib_difference.specs.Lefts.{IsSorting}
use Rattle.tib_difference.proofs.Leads.{is_subset}
use Rattle.tib_difference.proofs.subset.subset_over.Goals as goal

pub returns : goal.returns
returns c =
    is_subset c.args.second.now.rules.now (subsets_of (keys_at c.args.order.now c.args.positions.now)) c.args.label c.requires.normal c.ascending.result.items
    (subst (λ (xs : List ℕ). IsSorting xs c.ascending.result.items) (c.in_ok-states.ensures) c.ascending.ensures)
