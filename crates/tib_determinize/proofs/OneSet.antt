-- A grammar has at most one reached set.
use Rattle.std.specs.Prelude.{◌≡◌, ℕ, ◌+◌, List, [], ◌∷◌, ◌++◌, length, refl}
use Rattle.std.proofs.Common.{arith, ap, sym, ◌∙◌, subst, length-append, append-nil}
use Rattle.tib_lex.specs.Lists.{Has}
use Rattle.tib_lex.proofs.Alongs.{along_of}
use Rattle.tib_grammar.specs.declared.Rule.{Rule}
use Rattle.tib_expand.specs.Reached.{IsReached, AreEdges}
use Rattle.tib_expand.proofs.Reaching.{in_reached}
use Rattle.tib_determinize.specs.Vectors.{VectorOf, vectors_at}
use Rattle.tib_determinize.specs.Determinization.{determinization, IsOneSet}
use Rattle.tib_determinize.specs.ListLemmas.{along_back}
use Rattle.tib_determinize.specs.OneStep.{one_step, rule_same, determinization_laws}
use Rattle.tib_determinize.proofs.Found.{GivesBelow, edges_below, IsLabelStep, gives_step}

module _ (product : ℕ → ℕ → ℕ) (rules : List (Rule ℕ)) where
  same_order : (order other : List VectorOf) → IsReached (determinization product rules) order → IsReached (determinization product rules) other → order ≡ other
  same_order order other h k =
      let a = (in_reached (determinization product rules) (determinization_laws product rules) h.0 h.1 order h.2 other k).0 in
      let b = (in_reached (determinization product rules) (determinization_laws product rules) k.0 k.1 other k.2 order h).0 in
      let m : length other ≡ length order + length a.0 = ap length a.1 ∙ length-append order a.0 in
      let n : length order ≡ length other + length b.0 = ap length b.1 ∙ length-append other b.0 in
      let nothing : a.0 ≡ [] = empty a.0 (omega arith) in
      sym (a.1 ∙ ap (λ (l : List VectorOf). order ++ l) nothing ∙ append-nil order)
    where
      empty : (l : List VectorOf) → length l ≡ 0 → l ≡ []
      empty [] e = refl
      empty (x ∷ xs) e = absurd (omega arith)

  same_step : (order : List VectorOf) (o : ℕ × List ℕ) (e d : Rule VectorOf) → IsLabelStep product rules order o e → IsLabelStep product rules order o d → e ≡ d
  same_step order o e d a b =
      let same = one_step product rules o.0 (vectors_at order o.1) e.cost d.cost e.left d.left a.step b.step in
      rule_same e d same.1 (a.right ∙ sym b.right) same.0

  -- an edge of an order is in each list of its edges
  edge_stands :
      (order : List VectorOf) (es fs : List (Rule VectorOf)) → AreEdges (determinization product rules) order (length order) es →
      AreEdges (determinization product rules) order (length order) fs → (e : Rule VectorOf) → Has es e → Has fs e
  edge_stands order es fs a b e h =
      let l = edges_below product rules order (length order) es a in
      let m = edges_below product rules order (length order) fs b in
      let o = along_back (GivesBelow product rules order (length order)) l.origins es e l.given h in
      let f = along_of (GivesBelow product rules order (length order)) m.origins fs o.0 m.given (m.whole o.0 e o.1) in
      subst (Has fs) (same_step order o.0 f.0 e (gives_step product rules order o.0 f.0 f.1) (gives_step product rules order o.0 e o.1)) f.2

-- a grammar has at most one reached set
pub one_set : (product : ℕ → ℕ → ℕ) → IsOneSet product
one_set product rules order other es fs h k =
    let same = same_order product rules order other h.0 k.0 in
    (same, edge_stands product rules order es fs h.1 (subst (λ (l : List VectorOf). AreEdges (determinization product rules) l (length l) fs) (sym same) k.1))
