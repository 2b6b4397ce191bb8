use Rattle.tib_match.specs.Searching.{IsUnderway, boxes_of}
use Rattle.tib_match.proofs.searching.Search.run.Given as goal

abbrev pub invariant-loop-turn : goal.invariant-loop-turn
invariant-loop-turn g l = IsUnderway g.S.Semiring.product l.self.normal.now.rules l.side l.self.state l.self.above l.self.costs.now l.found.items (boxes_of l.waiting.items)
