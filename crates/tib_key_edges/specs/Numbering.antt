-- Transducers with new numbers of states.
use Rattle.std.specs.Prelude.{◌≡◌, ◌↔◌, ℕ, ◌<◌, List, length, map, Option}
use Rattle.std.proofs.Common.{get_or}
use Rattle.tib_lex.specs.Lists.{Distinct}
use Rattle.tib_tree.specs.Trees.{Tree}
use Rattle.tib_transducer.specs.Series.{IsTransducerSeriesAt}
use Rattle.tib_key_edges.specs.Named.{named_transducer_rule}
use Rattle.tib_transducer.specs.Range.{AreWithin}
use Rattle.tib_transducer.specs.declared.TransducerRule.{TransducerRule}

-- The rules with the states of a list in place of their numbers are the others. No state is there
-- twice in the list.
pub record AreRenumbered (states : List ℕ) (numbered rules : List (TransducerRule ℕ)) : Type 0 where
  pub once : Distinct states
  pub in_range : AreWithin (length states) numbered
  pub named : map (named_transducer_rule (λ i. get_or states i 0)) numbered ≡ rules

-- new numbers keep the series of each state
abbrev pub NumberedSeries : (ℕ → ℕ → ℕ) → Type 0
NumberedSeries product =
    (states : List ℕ) (numbered rules : List (TransducerRule ℕ)) → AreRenumbered states numbered rules → (q : ℕ) → q < length states →
    (t u : Tree ℕ) (v : Option ℕ) → IsTransducerSeriesAt product numbered q t u v ↔ IsTransducerSeriesAt product rules (get_or states q 0) t u v
