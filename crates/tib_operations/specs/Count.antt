-- `count`: how many states and rules are in complete runs, how many runs there are, and how many
-- trees.
use Rattle.std.specs.Prelude.{◌≡◌, ℕ, max, ◌⊎◌, List, ◌++◌, length, codes, decimal}
use Rattle.tib_grammar.specs.GrammarOf.{GrammarOf}
use Rattle.tib_trim.specs.TrimmedFile.{IsTrimmedFile}
use Rattle.tib_canon.specs.TrimmedForms.{IsTrimmedForm}
use Rattle.tib_count.specs.Counts.{IsCountOf, IsEndless}
use Rattle.tib_count.specs.Counted.{IsRun, IsTree}
use Rattle.tib_count.specs.declared.count.Count.{Count}
use Rattle.tib_count.specs.declared.count.Count.TheVariants.{Number, Many, Endless}
use Rattle.tib_operations.specs.Determinize.{determinizing}
use Rattle.tib_operations.specs.Made.{Made, and_then, normal_form, reached_set}

-- four counts
pub record CountsOf : Type 0 where
  pub states : ℕ
  pub rules : ℕ
  pub runs : Count
  pub trees : Count

-- The counts of a grammar: of the states and of the rules that `trim` keeps, the start among the
-- states and equal rules each; of the runs from the start; and of the trees that these yield.
pub record AreCountsOf (g : GrammarOf) (c : CountsOf) : Type 0 where
  pub trimmed : GrammarOf
  pub is_trimmed : IsTrimmedFile max g trimmed
  pub states : c.states ≡ length trimmed.names
  pub rules : c.rules ≡ length trimmed.rules
  pub runs : IsCountOf (IsRun g.rules) c.runs
  pub trees : IsCountOf (IsTree g.rules) c.trees

-- a count as it is printed
abbrev pub count_word : Count → List ℕ
count_word (Number n) = decimal n
count_word Many = codes "many"
count_word Endless = codes "endless"

-- a word, a space and what is counted, and a line feed
abbrev pub count_line : List ℕ → List ℕ → List ℕ
count_line word number = word ++ (number ++ codes "\n")

-- the four lines
abbrev pub count_text : CountsOf → List ℕ
count_text c =
    count_line (codes "states ") (decimal c.states) ++ (count_line (codes "rules ") (decimal c.rules)
    ++ (count_line (codes "runs ") (count_word c.runs) ++ count_line (codes "trees ") (count_word c.trees)))

-- the text has the counts of the grammar
abbrev pub HasCountText : GrammarOf → List ℕ → Type 0
HasCountText g text = (c : CountsOf) × AreCountsOf g c × (text ≡ count_text c)

-- what is made unless P holds
abbrev pub unless : Type 0 → Made → Made
unless P made = record { within = P ⊎ made.within; more = (P → ⊥) × made.more }

-- the normal form, and then, unless there are endlessly many trees, the reached set of vectors
abbrev pub count_makes : ℕ → GrammarOf → Made
count_makes limit g =
    and_then (normal_form max limit g) (unless (IsEndless (IsTree g.rules))
    (reached_set limit (IsTrimmedForm max g) (determinizing max)))
