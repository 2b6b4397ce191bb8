use Rattle.tib_cost.specs.declared.Scale.{Scale}
use Rattle.std.proofs.Common.{◌≡◌, ℕ, List, take, map, get_or, ◌∷◌}
use Rattle.tib_lex.specs.Lists.{Each}
use Rattle.tib_grammar.specs.Run.{rule_at}
use Rattle.tib_canon.specs.Lines.{IsLineAt, AreTexts}
use Rattle.tib_canon.proofs.lines.lines_at.Given as goal

abbrev pub invariant-loop-n : goal.invariant-loop-n
invariant-loop-n l = record {
  lines : (scale : Scale) (names labels : List (List ℕ)) → AreTexts scale names labels (map (rule_at l.rules) l.positions) l.texts.sink.bytes l.texts.ends.items → Each (IsLineAt scale names labels l.rules) l.lines.items;
  positions : map (λ line. line.position) l.lines.items ≡ take l.n l.positions;
  begin : l.begin ≡ get_or (0 ∷ l.texts.ends.items) l.n 0;
}
