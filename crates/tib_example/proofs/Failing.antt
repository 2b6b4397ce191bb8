-- A failure of a part is one of the whole.
use Rattle.tib_cost.specs.declared.Scale.TheVariants.{Plain}
use Rattle.std.specs.Prelude.{ℕ, List}
use Rattle.tib_grammar.specs.GrammarOf.{GrammarOf}
use Rattle.tib_grammar_file.specs.Read.{ReadsAs}
use Rattle.tib_example.specs.declared.Failure.{Failure}
use Rattle.tib_example.specs.declared.Failure.TheVariants.{Read, Large, OutOfMemory}
use Rattle.tib_example.specs.Costs.{IsFailure, IsUnweighed}

-- why trees are not weighed by a grammar that was read
pub of_weighing : (labels : List (List ℕ)) (grammar trees : List ℕ) (value : GrammarOf) → ReadsAs Plain labels grammar value → (failure : Failure) → IsUnweighed value failure → IsFailure grammar trees failure
of_weighing labels grammar trees value reads (Read error) h = absurd h
of_weighing labels grammar trees value reads Large h = record { labels = labels; value = value; reads = reads; large = h }
of_weighing labels grammar trees value reads OutOfMemory h = tt
