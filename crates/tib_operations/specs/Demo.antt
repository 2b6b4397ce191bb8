-- `demo`: a grammar that is made for a number, how large its determinization is, and its cheapest
-- tree.
use Rattle.tib_cost.specs.declared.Scale.{Scale}
use Rattle.std.specs.Prelude.{◌≡◌, ℕ, ◌-◌, Bool, List, [], ◌++◌, length, codes, decimal, zero, suc}
use Rattle.tib_lex.specs.Lists.{Distinct}
use Rattle.tib_grammar.specs.GrammarOf.{GrammarOf}
use Rattle.tib_grammar_file.specs.Read.{ReadsAs}
use Rattle.tib_operations.specs.Determinize.{HasDeterminizedText, determinize_makes}
use Rattle.tib_operations.specs.KBest.{HasKBestText, HasLargeTree}
use Rattle.tib_operations.specs.Made.{Made, IsMadeFault}
use Rattle.tib_operations.specs.declared.status.Status.{Status}
use Rattle.tib_operations.specs.declared.status.Status.TheVariants as statuses

-- the line of the rule that leads from the state after the i-th to the i-th
abbrev pub step_line : List ℕ → ℕ → List ℕ
step_line label i = (codes "p" ++ decimal (suc i) ++ codes " -> ") ++ (label ++ (codes "(p" ++ decimal i ++ codes ")\n"))

-- the lines of the states from p2 to the one after the i-th: each leads to the one before it, by
-- `a` and by `b`
abbrev pub steps_text : ℕ → List ℕ
steps_text zero = []
steps_text (suc i) = steps_text i ++ (step_line (codes "a") (suc i) ++ step_line (codes "b") (suc i))

-- p0 has all trees of one child over `e`, and p1 those that begin with `a`, at the cost 1
abbrev pub first_rules : List ℕ
first_rules = codes "p0 -> e\np0 -> a(p0)\np0 -> b(p0)\np1 -> a(p0) # 1\n"

-- The grammar file for n. Its start pn has the trees whose n-th label from the root is `a`, at the
-- cost 1. Read from the leaf up, the set of states that have a tree says which of its n upper
-- labels are `a`, so there are 2 ^ n such sets.
abbrev pub demo_text : ℕ → List ℕ
demo_text n = (codes "p" ++ decimal n ++ codes "\n") ++ (first_rules ++ steps_text (n - 1))

-- a line of this many states, a line of this many rules, and a line of a tree
abbrev pub summary_text : ℕ → ℕ → List ℕ → List ℕ
summary_text states rules line =
    (codes "states " ++ decimal states ++ codes "\n") ++ ((codes "rules " ++ decimal rules ++ codes "\n") ++ (codes "best " ++ line))

-- The three lines: how many states and rules the grammar has that `determinize` prints, which has
-- the series of the grammar, and the line that `kbest` prints of the one cheapest tree.
pub record HasSummary (scale : Scale) (product : ℕ → ℕ → ℕ) (limit : ℕ) (labels : List (List ℕ)) (g : GrammarOf) (text : List ℕ) : Type 0 where
  pub printed : List ℕ
  pub determinized : HasDeterminizedText scale product limit labels g printed
  pub line : List ℕ
  pub best : HasKBestText scale product 1 labels g line
  pub are : text ≡ summary_text (length determinized.h.names) (length determinized.h.rules) line

-- this holds of the grammar that is read of the text for n, over a table that has each label once
pub record OfDemo (scale : Scale) (n : ℕ) (P : List (List ℕ) → GrammarOf → Type 0) : Type 0 where
  pub labels : List (List ℕ)
  pub distinct : Distinct labels
  pub g : GrammarOf
  pub read : ReadsAs scale labels (demo_text n) g
  pub holds : P labels g

-- the text of `demo` for n
abbrev pub HasDemoText : Scale → (ℕ → ℕ → ℕ) → ℕ → ℕ → List ℕ → Type 0
HasDemoText scale product limit n text = OfDemo scale n (λ labels g. HasSummary scale product limit labels g text)

-- the normal form of the grammar, and then the reached set of vectors
abbrev pub demo_makes : Scale → (ℕ → ℕ → ℕ) → ℕ → ℕ → Made
demo_makes scale product limit n = record {
  within = OfDemo scale n (λ labels g. (determinize_makes product limit g).within);
  more = OfDemo scale n (λ labels g. (determinize_makes product limit g).more);
}

-- why there are no three lines of a grammar: too many parts, or within the limit a tree that is too
-- large, or out of memory
abbrev pub IsSummaryFault : Bool → (ℕ → ℕ → ℕ) → ℕ → List (List ℕ) → GrammarOf → Status → Type 0
IsSummaryFault levelled product limit labels g statuses.TreeTooLarge = (determinize_makes product limit g).within × HasLargeTree levelled product 1 labels g
IsSummaryFault levelled product limit labels g status = IsMadeFault (determinize_makes product limit g).more limit status
