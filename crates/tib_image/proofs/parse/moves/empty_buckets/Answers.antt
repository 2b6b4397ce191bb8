use Rattle.std.proofs.Common.{arith, ap, subst, sym, ◌≡◌, ◌∙◌, ℕ, List, [], length}
use Rattle.std.proofs.lemmas.List.{length_push}
use Rattle.std.specs.Global.{Vec}
use Rattle.tib_transducer.specs.Moves.{held}
use Rattle.tib_transducer.proofs.Moves.{held_empty}
use Rattle.tib_image.proofs.parse.moves.empty_buckets.Goals as goal

pub loop-preserved : goal.loop-preserved
loop-preserved c = record {
  long = ap (λ (bs : List (Vec ℕ)). length bs) c.in_ok-push.ensures.items ∙ omega (arith, length_push c.loop.buckets.items c.new.result, c.loop.invariant.long);
  empty = subst (λ (bs : List (Vec ℕ)). (q : ℕ) → held bs q ≡ []) (sym c.in_ok-push.ensures.items) (held_empty c.loop.buckets.items c.new.result c.loop.invariant.empty c.new.ensures.items);
}
