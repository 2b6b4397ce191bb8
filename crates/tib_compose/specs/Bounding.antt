-- How bounds of translations are found.
use Rattle.std.specs.Prelude.{◌≡◌, ℕ, ◌<◌, ◌++◌, List, [], length, Option, true}
use Rattle.tib_lex.specs.Lists.{Has}
use Rattle.tib_tree.specs.Trees.{Trees, preorder_of}
use Rattle.tib_grammar.specs.Items.{pairs_of}
use Rattle.tib_transducer.specs.Rules.{transducer_rule}
use Rattle.tib_transducer.specs.declared.TransducerRule.{TransducerRule}
use Rattle.tib_key_edges.specs.Choices.{reads_label}
use Rattle.tib_key_edges.specs.Completions.{completions}
use Rattle.tib_key_edges.specs.Pieces.{Piece as PieceOf, pieces_of, sides_of, states_of}
use Rattle.tib_key_edges.specs.Translations.{choice_cost}
use Rattle.tib_compose.specs.Pending.{IsAtLeast}
use Rattle.tib_compose.specs.PieceViews.{kids_there}
use Rattle.tib_compose.specs.Readers.{readers_with}
use Rattle.tib_compose.specs.Sources.{IsSource}
use Rattle.tib_compose.specs.Walk.{AreReady}
use Rattle.tib_compose.specs.declared.branch.Reading.{Reading}
use Rattle.tib_compose.specs.declared.source.Source.{Source}

module _ (product : ℕ → ℕ → ℕ) (two : List (TransducerRule ℕ)) (source : Source) where
  -- what is left where a node over this many sides is read by a rule
  abbrev pub pieces_by : ℕ → ℕ → ℕ → List PieceOf
  pieces_by node rank m = pieces_of (preorder_of (transducer_rule two m).right) (kids_there (pairs_of source.items.now) node rank) ++ []

  -- the cost of the rule and of each choice below it is at least v
  abbrev pub IsBelow : ℕ → ℕ → ℕ → Option ℕ → Type 0
  IsBelow node rank m v =
      (c : Trees (Option ℕ)) → Has (completions two (sides_of (pieces_by node rank m)) (states_of (pieces_by node rank m))) c →
      IsAtLeast v (product (transducer_rule two m).cost (choice_cost product two c))

  -- v bounds what comes of a rule at a node
  abbrev pub BoundsReader : ℕ → ℕ → Option ℕ → Type 0
  BoundsReader node m v =
      AreReady product two → IsSource product two source → (p f rank : ℕ) → m < length two → reads_label p f rank (transducer_rule two m) ≡ true → IsBelow node rank m v

  -- v bounds what comes of a label
  abbrev pub BoundsNode : Reading → Option ℕ → Type 0
  BoundsNode r v = AreReady product two → IsSource product two source → (m : ℕ) → Has (readers_with (r.state, r.label, r.rank) two) m → IsBelow r.node r.rank m v

-- only bounds and what is known of how many translations there are change, and they stay true
pub record KeepsSource (product : ℕ → ℕ → ℕ) (two : List (TransducerRule ℕ)) (old new : Source) : Type 0 where
  pub items : new.items ≡ old.items
  pub known : AreReady product two → IsSource product two old → IsSource product two new
