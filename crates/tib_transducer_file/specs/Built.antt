-- What a line adds to what was read, whatever the rules are that are made: `Is` says which rule
-- stands for which line.
use Rattle.std.specs.Prelude.{◌≡◌, ◌⊎◌, ℕ, List, [], ◌∷◌, ◌++◌, Option, Some, None, Result, Ok, Err, false}
use Rattle.std.specs.List.{list_any}
use Rattle.std.specs.Global.{Vec}
use Rattle.tib_lex.specs.Lists.{Along}
use Rattle.tib_lex.specs.declared.fault.FaultKind.{FaultKind}
use Rattle.tib_lex.specs.declared.fault.FileFault.{FileFault}
use Rattle.tib_lex.specs.declared.fault.LineError.{LineError}
use Rattle.tib_lex.specs.declared.fault.LineError.TheVariants as line_errors
use Rattle.tib_lex.specs.declared.fault.ReadError.{ReadError}
use Rattle.tib_lex.specs.declared.fault.ReadError.TheVariants as errors
use Rattle.tib_tree.specs.Grows.{AddsAll}
use Rattle.tib_tree.specs.Written.{Item}
use Rattle.tib_tree.specs.Machine.{nodes_of}
use Rattle.tib_lex.specs.Grammar.{Word}
use Rattle.tib_transducer_file.specs.Added.{AddsLabels, labels_in}
use Rattle.tib_transducer_file.specs.Forms.{pair_in}
use Rattle.tib_transducer_file.specs.Rule.{Parts, RuleLine, state_of, is_unknown}
use Rattle.tib_transducer_file.specs.Value.{states_in, states_of}

-- words that are one tree with these items
abbrev pub AreOneTree : List Item → Type 0
AreOneTree is = (words : List Word) × (nodes_of words ≡ Some is)

-- no pair of these has a number that is none of those
abbrev pub AreKnown : List ℕ → List Item → Type 0
AreKnown numbers items = list_any (λ i. is_unknown numbers (pair_in i)) items ≡ false

-- the states of a rule go into the table of names, from left to right
abbrev pub AddsStates : List (List ℕ) → Parts → List (List ℕ) → Type 0
AddsStates before p names = AddsAll before (state_of p ∷ states_in p.right) names

-- a rule of a line went last, its states into the table of names, and its labels into that of
-- labels, which held these before
pub record AddsRule {R : Type 0} (Is : List (List ℕ) → List (List ℕ) → R → RuleLine → Type 0)
    (before names held labels : List (List ℕ)) (old now : List R) (line : RuleLine) : Type 0 where
  pub rule : R
  pub is : Is names labels rule line
  pub adds : AddsStates before line.parts names
  pub texts : AddsLabels held line.parts labels
  pub last : now ≡ old ++ rule ∷ []

-- a line has no tokens, or its rule went last
abbrev pub AddsLine : {R : Type 0} → (List (List ℕ) → List (List ℕ) → R → RuleLine → Type 0) →
    List (List ℕ) → List (List ℕ) → List (List ℕ) → List (List ℕ) → List R → List R →
    Result (Unit {0}) LineError → Result (Option RuleLine) FaultKind → Type 0
AddsLine Is before names held labels old now (Ok done) wanted =
    ((wanted ≡ Ok None) × (names ≡ before) × (labels ≡ held) × (now ≡ old))
    ⊎ ((line : RuleLine) × (wanted ≡ Ok (Some line))
    × AddsRule Is before names held labels old now line)
AddsLine Is before names held labels old now (Err (line_errors.Fault kind)) wanted =
    wanted ≡ Err kind
AddsLine Is before names held labels old now (Err line_errors.OutOfMemory) wanted = Unit {0}

-- the rules of a file
abbrev pub AreFileRules : {R : Type 0} → (List (List ℕ) → List (List ℕ) → R → RuleLine → Type 0) →
    List (List ℕ) → List (List ℕ) → List (List ℕ) → List (List ℕ) →
    Result (Vec R) ReadError → Result (List RuleLine) FileFault → Type 0
AreFileRules Is before names held labels (Ok rules) wanted =
    (lines : List RuleLine) × (wanted ≡ Ok lines) × Along (Is names labels) rules.items lines
    × AddsAll before (states_of lines) names × AddsAll held (labels_in lines) labels
AreFileRules Is before names held labels (Err (errors.Fault fault)) wanted = wanted ≡ Err fault
AreFileRules Is before names held labels (Err errors.OutOfMemory) wanted = Unit {0}
