use Rattle.std.proofs.Common.{ℕ, List, ◌∷◌, ◌<◌, ◌≤◌, ◌+◌, ◌-◌, ◌∙◌, arith, ap, sym, subst, length, get_or, drop, map}
use Rattle.std.proofs.lemmas.List.{get_or-replicate, length-replicate, length-set}
use Rattle.tib_transducer.proofs.Shapes.{leaves_label, leaves_hole}
use Rattle.tib_transducer.specs.declared.Pair.{Pair}
use Rattle.tib_transducer.specs.Counting.{numbers_in}
use Rattle.tib_transducer.proofs.Counting.{AreCounted, counted_in, counted_out, low_in}
use Rattle.tib_transducer.proofs.uses.count_uses.Goals as goal
use Rattle.tib_transducer.proofs.uses.count_uses.Goals.{in-Hole+then-variable-first+then-place-lt64, in-Hole+then-variable-first+else-place-lt64, in-Hole+else-variable-first, in_default}

pub loop-item-init : goal.loop-item-init
loop-item-init c = record {
  long = length-replicate {A = ℕ} 64 0;
  counted = λ k h. omega (arith, get_or-replicate {A = ℕ} 64 k 0 0 h);
  low = λ k h. omega (arith, get_or-replicate {A = ℕ} 64 k 0 0 h);
}

pub loop-item-preserved : goal.loop-item-preserved
loop-item-preserved c =
    let i = c.loop-item.invariant in
    let at : ℕ = c.loop-item.item-index in
    let uses : List ℕ = c.loop-item.uses in
    let all : List ℕ = numbers_in c.args.items.now in
    let rest : List ℕ = numbers_in (drop (at + 1) c.args.items.now) in
    let later : (k : ℕ) → k < 64 → get_or uses k 0 ≤ at + 1 = λ k h. omega (arith, i.low k h) in
    elim c.match-item.branch [
      | in-Hole+then-variable-first+then-place-lt64 w ↦
          let pair = leaves_hole c.args.items.now at w.in-Hole.pair c.loop-item-test.true w.in-Hole.is in
          let variable : ℕ = w.in-Hole.pair.variable in
          let next : AreCounted c.args.first uses (variable ∷ rest) all =
          subst (λ (xs : List (Pair ℕ)). AreCounted c.args.first uses (map (λ x. x.variable) xs) all) pair i.counted
          in
          record {
            long = ap length w.uses-is ∙ length-set uses (variable - c.args.first) (get_or uses (variable - c.args.first) 0 + 1) ∙ i.long;
            counted = subst (λ us. AreCounted c.args.first us rest all) (sym w.uses-is) (counted_in c.args.first variable uses rest all i.long w.if-variable-first.true w.if-place-lt64.true next);
            low = subst (λ us. (k : ℕ) → k < 64 → get_or us k 0 ≤ at + 1) (sym w.uses-is) (low_in at (variable - c.args.first) uses i.long w.if-place-lt64.true i.low);
          }
      | in-Hole+then-variable-first+else-place-lt64 w ↦
          let pair = leaves_hole c.args.items.now at w.in-Hole.pair c.loop-item-test.true w.in-Hole.is in
          let variable : ℕ = w.in-Hole.pair.variable in
          let next : AreCounted c.args.first uses (variable ∷ rest) all =
          subst (λ (xs : List (Pair ℕ)). AreCounted c.args.first uses (map (λ x. x.variable) xs) all) pair i.counted
          in
          record {
            long = ap length w.uses-is ∙ i.long;
            counted = subst (λ us. AreCounted c.args.first us rest all) (sym w.uses-is) (counted_out c.args.first variable uses rest all (λ _ near. absurd (omega (arith, near, w.if-place-lt64.false))) next);
            low = subst (λ us. (k : ℕ) → k < 64 → get_or us k 0 ≤ at + 1) (sym w.uses-is) later;
          }
      | in-Hole+else-variable-first w ↦
          let pair = leaves_hole c.args.items.now at w.in-Hole.pair c.loop-item-test.true w.in-Hole.is in
          let variable : ℕ = w.in-Hole.pair.variable in
          let next : AreCounted c.args.first uses (variable ∷ rest) all =
          subst (λ (xs : List (Pair ℕ)). AreCounted c.args.first uses (map (λ x. x.variable) xs) all) pair i.counted
          in
          record {
            long = ap length w.uses-is ∙ i.long;
            counted = subst (λ us. AreCounted c.args.first us rest all) (sym w.uses-is) (counted_out c.args.first variable uses rest all (λ low _. absurd (omega (arith, low, w.if-variable-first.false))) next);
            low = subst (λ us. (k : ℕ) → k < 64 → get_or us k 0 ≤ at + 1) (sym w.uses-is) later;
          }
      | in_default w ↦
          let label = leaves_label c.args.items.now at w.in_default.field-0 w.in_default.field-1 c.loop-item-test.true w.in_default.is in
          record {
            long = ap length w.uses-is ∙ i.long;
            counted = subst (λ us. AreCounted c.args.first us rest all) (sym w.uses-is)
                (subst (λ (xs : List (Pair ℕ)). AreCounted c.args.first uses (map (λ x. x.variable) xs) all) label i.counted);
            low = subst (λ us. (k : ℕ) → k < 64 → get_or us k 0 ≤ at + 1) (sym w.uses-is) later;
          }
    ]
