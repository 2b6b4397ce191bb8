use Rattle.std.proofs.Common.{◌≡◌, take, map, length}
use Rattle.tib_grammar.specs.Run.{rule_at}
use Rattle.tib_canon.proofs.Places.{AreThere}
use Rattle.tib_canon.proofs.taking.rules_at.Given as goal

abbrev pub invariant-loop-line : goal.invariant-loop-line
invariant-loop-line l = record {
  taken : l.taken.items ≡ map (λ line. rule_at l.fn.rules.items line.position) (take l.line-index l.lines);
  many : length l.places.items ≡ length l.fn.rules.items;
  there : AreThere l.fn.rules.items l.lines l.places.items l.line-index;
}
