-- The canonical transducer of what a construction reaches.
use Rattle.tib_cost.specs.declared.Scale.{Scale}
use Rattle.std.specs.Prelude.{◌≡◌, ℕ, ◌≤◌, List, length, map}
use Rattle.std.proofs.Common.{get_or}
use Rattle.tib_expand.specs.Reached.{Exploration, IsReachedSet, parts_of}
use Rattle.tib_transducer.specs.TransducerOf.{TransducerOf}
use Rattle.tib_transducer.specs.declared.TransducerRule.{TransducerRule}
use Rattle.tib_transducer_file.specs.ByName.{ReadsBack}
use Rattle.tib_transducer_file.specs.Printed.{transducer_text}
use Rattle.tib_key_edges.specs.Named.{named_transducer_rule}
use Rattle.tib_canon.specs.TransducerKeys.{IsCanonicalTransducer, AreMovesOver}

-- A construction of a transducer: what it hunts, where edges are rules over keys, and a key for
-- each place past the end of an order. The start is the first key of the order.
pub record TransducerConstruction (K O : Type 0) : Type 1 where
  pub problem : Exploration K O (TransducerRule K)
  pub spare : K

-- the edges for which rules over the positions of an order stand
abbrev pub moves_over : {K : Type 0} → K → List K → List (TransducerRule ℕ) → List (TransducerRule K)
moves_over spare order rules = map (named_transducer_rule (λ n. get_or order n spare)) rules

-- The canonical transducer of the reached set of a construction, which is within the limit.
pub record IsCanonicalTransducerOf {K O : Type 0} (scale : Scale) (labels : List (List ℕ)) (limit : ℕ)
    (c : TransducerConstruction K O) (h : TransducerOf) : Type 0 where
  pub order : List K
  pub rules : List (TransducerRule ℕ)
  pub reached : IsReachedSet c.problem order (moves_over c.spare order rules)
  pub within : parts_of c.problem order (moves_over c.spare order rules) ≤ limit
  pub over : AreMovesOver scale labels (length order) rules
  pub canonical : IsCanonicalTransducer scale labels c.problem.cmp order rules 0 h

-- The text is that of such a transducer, which has this series. It reads back as this transducer,
-- states by their names. What is read also has the series.
pub record HasTransducerText (scale : Scale) (labels : List (List ℕ)) (IsResult : TransducerOf → Type 0)
    (HasSeries : List (TransducerRule ℕ) → Type 0) (text : List ℕ) : Type 0 where
  pub h : TransducerOf
  pub canonical : IsResult h
  pub series : HasSeries h.rules
  pub are : text ≡ transducer_text scale labels h
  pub read : TransducerOf
  pub reads : ReadsBack scale labels text h read
  pub read_series : HasSeries read.rules
