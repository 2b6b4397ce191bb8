use Rattle.std.proofs.Common.{◌≡◌, map}
use Rattle.tib_lex.specs.Lists.{Each}
use Rattle.tib_canon.specs.TransducerLines.{IsMoveLine, up_to}
use Rattle.tib_canon.proofs.transducer_lines.lines_of.Given as goal

abbrev pub invariant-loop-n : goal.invariant-loop-n
invariant-loop-n l = record {
  lines : Each (IsMoveLine l.rules (map (λ t. t.now) l.texts)) l.lines.items;
  positions : map (λ line. line.position) l.lines.items ≡ up_to l.n;
}
