-- The edges of a pair, rule by rule of the first transducer.
use Rattle.std.specs.Prelude.{◌≡◌, ℕ, ◌<◌, List, ◌++◌, length, map}
use Rattle.std.proofs.Common.{get_or}
use Rattle.tib_lex.specs.Lists.{total}
use Rattle.tib_tree.specs.Trees.{preorder_of}
use Rattle.tib_grammar.specs.Items.{pairs_of}
use Rattle.tib_transducer.specs.Rules.{transducer_rule}
use Rattle.tib_transducer.specs.declared.TransducerRule.{TransducerRule}
use Rattle.tib_key_edges.specs.Choices.{choices_of, cheap, edge_from, edges_of}
use Rattle.tib_key_edges.specs.Composition.{edge_parts}
use Rattle.tib_compose.specs.CompositionListing.{IsListing}
use Rattle.tib_compose.specs.Sources.{IsSource}
use Rattle.tib_compose.specs.Walk.{AreReady}
use Rattle.tib_compose.specs.declared.listing.CompositionListing.{CompositionListing}
use Rattle.tib_compose.specs.declared.source.Source.{Source}

-- the source is the right-hand side of the rule
pub record IsSourceOf (product : ℕ → ℕ → ℕ) (two : List (TransducerRule ℕ)) (r : TransducerRule ℕ) (source : Source) : Type 0 where
  pub items : pairs_of source.items.now ≡ preorder_of r.right
  pub known : AreReady product two → IsSource product two source

-- some edges of the pair are listed, over some order
abbrev pub HasListing : ℕ × ℕ → CompositionListing → Type 0
HasListing key l = (order : List (ℕ × ℕ)) × (es : List (TransducerRule (ℕ × ℕ))) × IsListing order key es l

module _ (product : ℕ → ℕ → ℕ) (one two : List (TransducerRule ℕ)) (key : ℕ × ℕ) where
  -- the edges of the pair along the rule at a position
  abbrev pub rule_edges : ℕ → List (TransducerRule (ℕ × ℕ))
  rule_edges n = map (edge_from product one two key) (cheap product one two n (choices_of two key.1 (transducer_rule one n).right))

  -- they come after those that were listed
  abbrev pub ListsRule : ℕ → CompositionListing → CompositionListing → Type 0
  ListsRule n old new = (order : List (ℕ × ℕ)) (es : List (TransducerRule (ℕ × ℕ))) → IsListing order key es old → IsListing order key (es ++ rule_edges n) new

  -- with them there are more parts than the budget
  abbrev pub RuleOverruns : ℕ → CompositionListing → Type 0
  RuleOverruns n old = (order : List (ℕ × ℕ)) (es : List (TransducerRule (ℕ × ℕ))) → IsListing order key es old → old.budget < total edge_parts (es ++ rule_edges n)

  -- all edges of the pair are listed, over each order in which the pair has this position
  abbrev pub ListsKey : ℕ → CompositionListing → Type 0
  ListsKey position l = (order : List (ℕ × ℕ)) → position < length order → get_or order position (0, 0) ≡ key → IsListing order key (edges_of product one two key) l

  -- the edges of the pair have more parts than the budget
  abbrev pub KeyOverruns : ℕ → ℕ → Type 0
  KeyOverruns position budget = (order : List (ℕ × ℕ)) → position < length order → get_or order position (0, 0) ≡ key → budget < total edge_parts (edges_of product one two key)
