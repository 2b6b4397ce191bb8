use Rattle.std.proofs.Common.{◌≡◌, ◌++◌, ◌≤◌, ◌<◌, ℕ, map, subst}
use Rattle.tib_lex.specs.Lists.{Each}
use Rattle.tib_hunt.specs.Numbered.{moved_to}
use Rattle.tib_hunt.specs.Rows.{numbered, read_rows}
use Rattle.tib_expand.specs.Reading.{AreBelow}
use Rattle.tib_hunt.proofs.state.HuntState.settle.Goals as goal

pub returns-clause-settled : goal.returns-clause-settled
returns-clause-settled g c = (
  c.in_ok-moved.moved.items,
  c.in_ok-moved.ensures,
  subst (λ rows. (at : ℕ → g.row.E-Key.Denot) → map (g.E.Expand.reading.read_positions at) c.settle_rows.new.rules.items ≡ map (g.E.Expand.reading.read_positions at) c.args.self.now.rules.items ++ read_rows g.E.Expand.reading.read_places (λ n. at (moved_to c.args.first c.in_ok-moved.moved.items n)) (map numbered rows)) c.deref.ensures.value
      (subst (λ moved. (at : ℕ → g.row.E-Key.Denot) → map (g.E.Expand.reading.read_positions at) c.settle_rows.new.rules.items ≡ map (g.E.Expand.reading.read_positions at) c.args.self.now.rules.items ++ read_rows g.E.Expand.reading.read_places (λ n. at (moved_to c.args.first moved n)) (map numbered c.deref.result.now)) c.deref-2.ensures.value c.in_ok-settle_rows.ensures.read),
  subst (λ moved. (bound : ℕ) → c.args.first ≤ bound → Each (λ n. n < bound) moved → AreBelow g.E.Expand.reading.positions bound c.args.self.now.rules.items → AreBelow g.E.Expand.reading.positions bound c.settle_rows.new.rules.items) c.deref-2.ensures.value c.in_ok-settle_rows.ensures.below,
)
