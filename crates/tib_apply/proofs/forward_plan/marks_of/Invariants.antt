use Rattle.std.proofs.Common.{◌≡◌, ◌<◌, ℕ, map, drop, length, get_or, false}
use Rattle.std.specs.Prelude.{◌||◌, nat_eq}
use Rattle.std.specs.List.{list_any}
use Rattle.tib_apply.proofs.forward_plan.marks_of.Given as goal

abbrev pub invariant-loop-end : goal.invariant-loop-end
invariant-loop-end l = record {
  long : length l.marks.items ≡ l.count;
  marked : (i : ℕ) → i < l.count → (get_or l.marks.items i false || list_any (nat_eq i) (map (λ e. e.variable) (drop l.end-index l.ends))) ≡ list_any (nat_eq i) (map (λ e. e.variable) l.ends);
}
