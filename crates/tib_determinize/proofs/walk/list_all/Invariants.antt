use Rattle.std.proofs.Common.{◌≡◌, [], length}
use Rattle.tib_determinize.specs.Levels.{steps_of}
use Rattle.tib_determinize.specs.Stepped.{IsWithinBudget}
use Rattle.tib_determinize.specs.Tries.{under, behind_label}
use Rattle.tib_determinize.proofs.WalkLoop.{IsWalking}
use Rattle.tib_determinize.proofs.walk.list_all.Given as goal

abbrev pub invariant-loop-whole : goal.invariant-loop-whole
invariant-loop-whole g l = record {
  walking : IsWalking g.S.Semiring.product l.walk.rules.now l.walk.order.now l.walk.label l.walk.rank l.walk.position l.walk.last
      (behind_label l.walk.label (under l.walk.position l.walk.last l.walk.rank [])) l.initial.listing l.levels.items l.listing;
  within : IsWithinBudget l.listing;
  budget : l.listing.budget ≡ l.initial.listing.budget;
}

abbrev pub decreases-loop-whole : goal.decreases-loop-whole
decreases-loop-whole g l = steps_of (length l.walk.order.now) l.levels.items
