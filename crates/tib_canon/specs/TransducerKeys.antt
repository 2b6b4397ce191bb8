-- The canonical transducer whose states are the keys of an order.
use Rattle.tib_cost.specs.declared.Scale.{Scale}
use Rattle.std.specs.Prelude.{◌≡◌, ◌↔◌, ℕ, List, length, Option}
use Rattle.std.specs.declared.cmp.Ordering.{Ordering}
use Rattle.tib_lex.specs.Lists.{Each}
use Rattle.tib_tree.specs.Trees.{Tree}
use Rattle.tib_transducer.specs.Range.{AreWithin, AreShaped, EndInHoles}
use Rattle.tib_transducer.specs.Series.{IsTransducerSeriesAt, IsTransducerSeries}
use Rattle.tib_transducer.specs.TransducerOf.{TransducerOf}
use Rattle.tib_transducer.specs.declared.TransducerRule.{TransducerRule}
use Rattle.tib_transducer_file.specs.ByName.{IsPrintable}
use Rattle.tib_canon.specs.Canonical.{names_of}
use Rattle.tib_canon.specs.Keys.{AreByKeys}
use Rattle.tib_key_edges.specs.Numbering.{AreRenumbered}
use Rattle.tib_canon.specs.Ordered.{IsTransducerInOrder}

-- The transducer whose states are all keys of the order, the start first and the others ascending
-- by their keys, named q0, q1 and so on. Its rules are the rules over positions, in their order.
pub record IsTransducerOverKeys {K : Type 0} (cmp : K → K → Ordering) (order : List K)
    (rules : List (TransducerRule ℕ)) (start : ℕ) (t : TransducerOf) : Type 0 where
  pub states : List ℕ
  pub by_keys : AreByKeys cmp order start states
  pub names : t.names ≡ names_of (length order)
  pub numbered : AreRenumbered states t.rules rules

-- that transducer with equal rules merged, and in canonical order
pub record IsCanonicalTransducer {K : Type 0} (scale : Scale) (labels : List (List ℕ))
    (cmp : K → K → Ordering) (order : List K) (rules : List (TransducerRule ℕ)) (start : ℕ)
    (h : TransducerOf) : Type 0 where
  pub over : TransducerOf
  pub is_over : IsTransducerOverKeys cmp order rules start over
  pub in_order : IsTransducerInOrder scale labels over h

-- the transducer does what the rules do from a state
abbrev pub HasSeriesFrom : (ℕ → ℕ → ℕ) → List (TransducerRule ℕ) → ℕ → List (TransducerRule ℕ) → Type 0
HasSeriesFrom product rules start moves =
    (t u : Tree ℕ) (v : Option ℕ) →
    IsTransducerSeriesAt product rules start t u v ↔ IsTransducerSeries product moves t u v

-- rules over this many states, which have their shape, and can be printed
pub record AreMovesOver (scale : Scale) (labels : List (List ℕ)) (states : ℕ)
    (rules : List (TransducerRule ℕ)) : Type 0 where
  pub within : AreWithin states rules
  pub shaped : AreShaped rules
  pub leaves : EndInHoles rules
  pub printable : Each (IsPrintable scale labels) rules
