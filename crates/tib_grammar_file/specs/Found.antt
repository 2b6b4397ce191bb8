-- What was found in a rule line.
use Rattle.std.specs.Prelude.{◌≡◌, ℕ, List, Option, Some, None, Result, Ok, Err}
use Rattle.std.specs.List.{All}
use Rattle.tib_lex.specs.Line.{word_at, text_of, Lies}
use Rattle.tib_lex.specs.declared.token.Token.{Token}
use Rattle.tib_tree.specs.Shape.{items_back, PlaceLies}
use Rattle.tib_tree.specs.declared.shape.Place.{Place}
use Rattle.tib_grammar_file.specs.Rule.{Parts, parts}
use Rattle.tib_grammar_file.specs.declared.rule.LeftAndWeight.{LeftAndWeight}
use Rattle.tib_lex.specs.declared.fault.FaultKind.{FaultKind}
use Rattle.tib_lex.specs.declared.fault.LineError.{LineError}
use Rattle.tib_lex.specs.declared.fault.LineError.TheVariants as errors

abbrev pub text_at : List ℕ → Option Token → Option (List ℕ)
text_at line None = None
text_at line (Some t) = Some (text_of (word_at line t))

abbrev pub WeightLies : ℕ → Option Token → Type 0
WeightLies long None = Unit {0}
WeightLies long (Some t) = Lies long t

abbrev pub found_parts : List ℕ → List Place → Option LeftAndWeight → Option Parts
found_parts line places None = None
found_parts line places (Some f) =
    Some (parts (text_of (word_at line f.left)) (items_back line places) (text_at line f.weight))

pub record FoundIn (long : ℕ) (places : List Place) (f : LeftAndWeight) : Type 0 where
  pub left : Lies long f.left
  pub weight : WeightLies long f.weight
  pub all : All (PlaceLies long) places

abbrev pub FoundLies : ℕ → List Place → Option LeftAndWeight → Type 0
FoundLies long places None = Unit {0}
FoundLies long places (Some f) = FoundIn long places f

abbrev pub IsCost : Result ℕ LineError → Result ℕ FaultKind → Type 0
IsCost (Ok n) wanted = wanted ≡ Ok n
IsCost (Err (errors.Fault kind)) wanted = wanted ≡ Err kind
IsCost (Err errors.OutOfMemory) wanted = Unit {0}
