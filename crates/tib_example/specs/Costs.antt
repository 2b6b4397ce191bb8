-- The costs of the trees of one text by the grammar of another.
use Rattle.tib_cost.specs.declared.Scale.TheVariants.{Plain}
use Rattle.std.specs.Prelude.{◌+◌, ◌⊎◌, ℕ, List, Option, length}
use Rattle.std.specs.List.{AllZip}
use Rattle.tib_tree.specs.Grows.{Grows}
use Rattle.tib_tree.specs.Trees.{Tree}
use Rattle.tib_tree.specs.TreesText.{TreesText, IsFirstFault as IsFaultOfTrees}
use Rattle.tib_lex.specs.declared.fault.ReadError.TheVariants as errors
use Rattle.tib_grammar.specs.GrammarOf.{GrammarOf}
use Rattle.tib_grammar.specs.Series.{IsSeries}
use Rattle.tib_grammar_file.specs.Faults.{IsFirstFault as IsFaultOfGrammar}
use Rattle.tib_grammar_file.specs.Read.{ReadsAs}
use Rattle.tib_normal.specs.Rows.{HasMoreParts}
use Rattle.tib_example.specs.declared.Failure.{Failure}
use Rattle.tib_example.specs.declared.Failure.TheVariants.{Read, Large, OutOfMemory}

-- The first bytes are the text of a grammar over a table of labels, and the second ones that of
-- trees over this table or a longer one. The costs are those that the grammar gives the trees: each
-- the least sum of the costs of the rules of a run, or none.
pub record AreCosts (grammar trees : List ℕ) (costs : List (Option ℕ)) : Type 0 where
  pub early : List (List ℕ)
  pub labels : List (List ℕ)
  pub value : GrammarOf
  pub listed : List (Tree ℕ)
  pub grows : Grows early labels
  pub reads : ReadsAs Plain early grammar value
  pub text : TreesText labels trees listed
  pub series : AllZip (λ t v. IsSeries ◌+◌ value.rules t v) listed costs

-- each normal form of the grammar has more than 1,000 parts
abbrev pub IsLarge : GrammarOf → Type 0
IsLarge value = HasMoreParts ◌+◌ (length value.names) value.rules 1000

-- why trees that were read are not weighed by a grammar that was read
abbrev pub IsUnweighed : GrammarOf → Failure → Type 0
IsUnweighed value (Read error) = ⊥
IsUnweighed value Large = IsLarge value
IsUnweighed value OutOfMemory = Unit {0}

-- the bytes are the text of a grammar that is too large
pub record IsLargeText (grammar : List ℕ) : Type 0 where
  pub labels : List (List ℕ)
  pub value : GrammarOf
  pub reads : ReadsAs Plain labels grammar value
  pub large : IsLarge value

-- Why there are no costs: the first fault of one of the texts, or a grammar that is too large.
-- `OutOfMemory` says nothing.
abbrev pub IsFailure : List ℕ → List ℕ → Failure → Type 0
IsFailure grammar trees (Read (errors.Fault fault)) = IsFaultOfGrammar Plain grammar fault ⊎ IsFaultOfTrees trees fault
IsFailure grammar trees (Read errors.OutOfMemory) = Unit {0}
IsFailure grammar trees Large = IsLargeText grammar
IsFailure grammar trees OutOfMemory = Unit {0}
