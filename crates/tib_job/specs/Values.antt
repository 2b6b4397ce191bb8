-- The values of the files of a job, as they are read.
use Rattle.tib_cost.specs.declared.Scale.{Scale}
use Rattle.tib_cost.specs.declared.Scale.TheVariants.{Unweighted}
use Rattle.std.specs.Prelude.{◌≡◌, ℕ, List, [], ◌∷◌, Option, Some, None, length}
use Rattle.tib_lex.specs.Lists.{Each}
use Rattle.tib_tree.specs.Growth.{HasLabels}
use Rattle.tib_grammar_file.specs.ByName.{HasText as HasGrammarsText}
use Rattle.tib_grammar_file.specs.GrammarText.{AreSmallRules}
use Rattle.tib_grammar_file.specs.Printable.{ArePrintable}
use Rattle.tib_transducer_file.specs.ByName.{HasText as HasTransducersText}
use Rattle.tib_canon.specs.TransducerKeys.{AreMovesOver}
use Rattle.tib_command.specs.declared.job.Operation.{Operation}
use Rattle.tib_operations.specs.Moves.{ArePlainMoves}
use Rattle.tib_job.specs.Kinds.{Kind, of_grammar, of_support, of_trees, of_one_tree, of_transducer, of_string_transducer, of_string, ValueOf, ValuesOf, AreTexts, kinds_of}
use Rattle.tib_operations.specs.Words.{ArePlainWords}
use Rattle.tib_job.specs.declared.job_values.Values.{Values}
use Rattle.tib_job.specs.declared.job_values.Values.TheVariants as those

-- the values of these kinds that were read, and none where they are of others
abbrev pub values_as : {S : Type 0} → Values S → (kinds : List Kind) → Option (ValuesOf kinds)
values_as (those.GrammarAndTrees g trees) (of_grammar ∷ (of_trees ∷ [])) = Some (g, (trees.items, tt))
values_as (those.Grammar g) (of_grammar ∷ []) = Some (g, tt)
values_as (those.Grammars f g) (of_grammar ∷ (of_grammar ∷ [])) = Some (f, (g, tt))
values_as (those.Supports f g) (of_support ∷ (of_support ∷ [])) = Some (f.grammar, (g.grammar, tt))
values_as (those.GrammarAndSupport g s) (of_grammar ∷ (of_support ∷ [])) = Some (g, (s.grammar, tt))
values_as (those.Support s) (of_support ∷ []) = Some (s.grammar, tt)
values_as (those.GrammarAndTransducer g t) (of_grammar ∷ (of_transducer ∷ [])) = Some (g, (t, tt))
values_as (those.TransducerAndGrammar t g) (of_transducer ∷ (of_grammar ∷ [])) = Some (t, (g, tt))
values_as (those.Transducers t u) (of_transducer ∷ (of_transducer ∷ [])) = Some (t, (u, tt))
values_as (those.Transducer t) (of_transducer ∷ []) = Some (t, tt)
values_as (those.TreeAndTransducer one t) (of_one_tree ∷ (of_transducer ∷ [])) = Some (one, (t, tt))
values_as (those.StringTransducerAndString t string) (of_string_transducer ∷ (of_string ∷ [])) = Some (t, (string.items, tt))
values_as those.Nothing [] = Some tt
values_as values kinds = None

-- the values are of kinds of which no operation takes a value apart
abbrev pub AreLent : {S : Type 0} → Values S → Type 0
AreLent (those.Grammar g) = ⊥
AreLent (those.Grammars f g) = ⊥
AreLent (those.Transducer t) = ⊥
AreLent values = Unit {0}

-- The values are those of the texts of an operation's files, over one table of labels.
pub record AreValuesOf {S : Type 0} (scale : Scale) (labels : List (List ℕ)) (bytes : ℕ → Option (List ℕ)) (operation : Operation) (read : Values S) : Type 0 where
  pub values : ValuesOf (kinds_of operation)
  pub are : values_as read (kinds_of operation) ≡ Some values
  pub texts : AreTexts scale labels bytes (kinds_of operation) values

-- the labels and costs of a value of the kind can be written over the table of labels, and a
-- grammar or a transducer that is written as it stands reads back
abbrev pub IsPrintableValue : Scale → List (List ℕ) → (kind : Kind) → ValueOf kind → Type 0
IsPrintableValue scale labels of_grammar g = ArePrintable scale labels g.rules × HasGrammarsText scale labels g × AreSmallRules g.rules
IsPrintableValue scale labels of_support g = ArePrintable Unweighted labels g.rules
IsPrintableValue scale labels of_trees trees = Each (HasLabels labels) trees
IsPrintableValue scale labels of_one_tree one = Unit {0}
IsPrintableValue scale labels of_transducer t =
    ArePlainMoves scale labels t.rules × AreMovesOver scale labels (length t.names) t.rules × HasTransducersText scale labels t
IsPrintableValue scale labels of_string_transducer t = ArePlainWords scale labels t.rules
IsPrintableValue scale labels of_string string = Unit {0}

-- those of each of the values can
abbrev pub ArePrintableValues : {S : Type 0} → Scale → List (List ℕ) → Values S → Type 0
ArePrintableValues scale labels (those.GrammarAndTrees g trees) = IsPrintableValue scale labels of_grammar g × IsPrintableValue scale labels of_trees trees.items
ArePrintableValues scale labels (those.Grammar g) = IsPrintableValue scale labels of_grammar g
ArePrintableValues scale labels (those.Grammars f g) = IsPrintableValue scale labels of_grammar f × IsPrintableValue scale labels of_grammar g
ArePrintableValues scale labels (those.Supports f g) = IsPrintableValue scale labels of_support f.grammar × IsPrintableValue scale labels of_support g.grammar
ArePrintableValues scale labels (those.GrammarAndSupport g s) = IsPrintableValue scale labels of_grammar g × IsPrintableValue scale labels of_support s.grammar
ArePrintableValues scale labels (those.Support s) = IsPrintableValue scale labels of_support s.grammar
ArePrintableValues scale labels (those.GrammarAndTransducer g t) = IsPrintableValue scale labels of_grammar g × IsPrintableValue scale labels of_transducer t
ArePrintableValues scale labels (those.TransducerAndGrammar t g) = IsPrintableValue scale labels of_transducer t × IsPrintableValue scale labels of_grammar g
ArePrintableValues scale labels (those.Transducers t u) = IsPrintableValue scale labels of_transducer t × IsPrintableValue scale labels of_transducer u
ArePrintableValues scale labels (those.Transducer t) = IsPrintableValue scale labels of_transducer t
ArePrintableValues scale labels (those.TreeAndTransducer one t) = IsPrintableValue scale labels of_one_tree one × IsPrintableValue scale labels of_transducer t
ArePrintableValues scale labels (those.StringTransducerAndString t string) = IsPrintableValue scale labels of_string_transducer t × IsPrintableValue scale labels of_string string.items
ArePrintableValues scale labels those.Nothing = Unit {0}
