use Rattle.std.proofs.Common.{◌≡◌, ◌++◌, ◌≤◌, ◌<◌, ◌+◌, ℕ, length, length-append, map, subst, sym, ap, arith}
use Rattle.tib_lex.specs.Lists.{Each}
use Rattle.tib_hunt.specs.Numbered.{keys_of, moved_to}
use Rattle.tib_hunt.specs.Rows.{read_rows, IsRowBelow}
use Rattle.tib_expand.specs.Reading.{AreBelow}
use Rattle.tib_hunt.specs.Known.{AreOn}
use Rattle.tib_hunt.specs.Shelved.{placed_row}
use Rattle.tib_table.proofs.FreshKeys.{moved_bound}
use Rattle.tib_hunt.proofs.state.HuntState.settle_together.Goals as goal

pub overflow_cast-first : goal.overflow_cast-first
overflow_cast-first g c =
    let n = c.len-first.ensures.len in
    let a = length-append c.args.self.now.keys.keys (keys_of c.args.taken.fresh.items) in
    let l = c.requires.few in
    omega arith

pub place_together-requires-clause-on : goal.place_together-requires-clause-on
place_together-requires-clause-on g c κs within = subst (λ ps. Each (λ row. AreOn (map (λ v. v.items) ps) row.rules.at row.ends.items) c.args.taken.rows.items) (sym c.deref.ensures.value) c.requires.on

pub place_together-requires-clause-below : goal.place_together-requires-clause-below
place_together-requires-clause-below g c κs within =
    let m = moved_bound c.args.self.now.keys.keys (keys_of c.args.taken.fresh.items) c.in_ok-moved.moved.items c.in_ok-moved.ensures.counted in
    let z : length (c.args.self.now.keys.keys ++ keys_of c.args.taken.fresh.items) ≡ c.len-first.result + length c.deref-2.result.now = (let n = c.len-first.ensures.len in let d = ap length c.deref-2.ensures.value in omega arith) in
    subst (λ ps. Each (IsRowBelow g.E.Expand.reading.places c.len-first.result (c.len-first.result + length c.deref-2.result.now)) (map (placed_row (map (λ v. v.items) ps)) c.args.taken.rows.items)) (sym c.deref.ensures.value)
    (subst (λ b. Each (IsRowBelow g.E.Expand.reading.places c.len-first.result b) (map (placed_row (map (λ v. v.items) c.args.taken.positions.items)) c.args.taken.rows.items)) z
    (subst (λ n. Each (IsRowBelow g.E.Expand.reading.places n (length (c.args.self.now.keys.keys ++ keys_of c.args.taken.fresh.items))) (map (placed_row (map (λ v. v.items) c.args.taken.positions.items)) c.args.taken.rows.items)) (sym c.len-first.ensures.len) c.requires.below))

pub returns-clause-settled : goal.returns-clause-settled
returns-clause-settled g c = (
  c.in_ok-moved.moved.items,
  c.in_ok-moved.ensures,
  subst (λ n. (at : ℕ → g.row.E-Key.Denot) → map (g.E.Expand.reading.read_positions at) c.place_together.new.rules.items ≡ map (g.E.Expand.reading.read_positions at) c.args.self.now.rules.items ++ read_rows g.E.Expand.reading.read_places (λ i. at (moved_to n c.in_ok-moved.moved.items i)) (map (placed_row (map (λ v. v.items) c.args.taken.positions.items)) c.args.taken.rows.items)) c.len-first.ensures.len
      (subst (λ ps. (at : ℕ → g.row.E-Key.Denot) → map (g.E.Expand.reading.read_positions at) c.place_together.new.rules.items ≡ map (g.E.Expand.reading.read_positions at) c.args.self.now.rules.items ++ read_rows g.E.Expand.reading.read_places (λ n. at (moved_to c.len-first.result c.in_ok-moved.moved.items n)) (map (placed_row (map (λ v. v.items) ps)) c.args.taken.rows.items)) c.deref.ensures.value
      (subst (λ moved. (at : ℕ → g.row.E-Key.Denot) → map (g.E.Expand.reading.read_positions at) c.place_together.new.rules.items ≡ map (g.E.Expand.reading.read_positions at) c.args.self.now.rules.items ++ read_rows g.E.Expand.reading.read_places (λ n. at (moved_to c.len-first.result moved n)) (map (placed_row (map (λ v. v.items) c.deref.result.now)) c.args.taken.rows.items)) c.deref-2.ensures.value c.in_ok-place_together.ensures.read)),
  subst (λ n. (bound : ℕ) → n ≤ bound → Each (λ i. i < bound) c.in_ok-moved.moved.items → AreBelow g.E.Expand.reading.positions bound c.args.self.now.rules.items → AreBelow g.E.Expand.reading.positions bound c.place_together.new.rules.items) c.len-first.ensures.len
      (subst (λ moved. (bound : ℕ) → c.len-first.result ≤ bound → Each (λ n. n < bound) moved → AreBelow g.E.Expand.reading.positions bound c.args.self.now.rules.items → AreBelow g.E.Expand.reading.positions bound c.place_together.new.rules.items) c.deref-2.ensures.value c.in_ok-place_together.ensures.below),
)
