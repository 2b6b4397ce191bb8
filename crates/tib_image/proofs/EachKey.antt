-- What holds of each key of the orders of a keyed operation.
use Rattle.std.specs.Prelude.{ℕ, List}
use Rattle.std.proofs.Common.{zero, suc, sym, subst, get_or, inl, inr}
use Rattle.std.specs.declared.cmp.Ordering.{Ordering}
use Rattle.tib_lex.specs.Lists.{Has}
use Rattle.tib_lex.proofs.Members.{has_at, has_either}
use Rattle.tib_expand.specs.Reached.{AfterRounds}
use Rattle.tib_key_edges.specs.Keyed.{keyed}

-- what holds of the start, and of the ends of the edges of each key of which it holds, holds of
-- each key of the order
pub order_each :
    {K O E : Type 0} (cmp : K → K → Ordering) (start : K) (Edge : K → O → E → Type 0) (ends_of : E → List K) (key_parts : K → ℕ) (edge_parts : E → ℕ) (P : K → Type 0) → P start →
    ((k : K) (o : O) (e : E) (l : K) → P k → Edge k o e → Has (ends_of e) l → P l) → (rounds expanded : ℕ) (order : List K) →
    AfterRounds (keyed cmp start Edge ends_of key_parts edge_parts) rounds expanded order → (k : K) → Has order k → P k
order_each cmp start Edge ends_of key_parts edge_parts P first_is step zero expanded order (none, first) k h = subst P (sym ((first.1 k).0 h)) first_is
order_each cmp start Edge ends_of key_parts edge_parts P first_is step (suc rounds) expanded order (old, first, new, before, is, at, made) k h =
    elim (has_either old new k (subst (λ l. Has l k) made h)) [
      | inl m ↦ order_each cmp start Edge ends_of key_parts edge_parts P first_is step rounds first old before k m
      | inr m ↦
          let n = ((is.1 k).0 m).0 in
          let known : P (get_or old n.0 start) =
          order_each cmp start Edge ends_of key_parts edge_parts P first_is step rounds first old before (get_or old n.0 start) (has_at old n.0 start n.2)
          in
          step (get_or old n.0 start) n.3.0 n.3.1 k known n.3.2 n.3.3
    ]
