-- What is wrong with bytes that are no transducer's text, in the words of the format, whatever the
-- right sides of its rules are.
use Rattle.tib_cost.specs.declared.Scale.{Scale}
use Rattle.std.specs.Prelude.{◌≡◌, ◌⊎◌, ℕ, true, false, List, [], ◌∷◌}
use Rattle.tib_lex.specs.Grammar.{Word, HasWords, HasBadToken}
use Rattle.tib_lex.specs.Lines.{lines_of}
use Rattle.tib_lex.specs.declared.fault.FaultKind.{FaultKind}
use Rattle.tib_lex.specs.declared.fault.FaultKind.TheVariants.{BadToken, BadRule, LoneVariable, VariableTwice, UnknownVariable, NotWhole, WeightTooLarge, TooManyNodes}
use Rattle.tib_lex.specs.declared.fault.FileFault.{FileFault}
use Rattle.tib_lex.specs.declared.fault.ReadError.{ReadError}
use Rattle.tib_lex.specs.declared.fault.ReadError.TheVariants as errors
use Rattle.tib_tree.specs.Machine.{IsTree}
use Rattle.tib_tree.specs.Written.{Item}
use Rattle.tib_grammar_file.specs.Faults.{IsWeightFault, FirstFaultFromStart}
use Rattle.tib_transducer_file.specs.Pieces.{Piece, HasPieces}
use Rattle.tib_transducer_file.specs.Rule.{Parts, SpellsRuleBy, RuleLine, is_lone, is_twice, has_unknown, has_many}
use Rattle.tib_transducer_file.specs.TransducerText.{HasPartsBy, SpellsLineBy}

-- tokens that spell no rule
pub record HasNoRule (Right : List Word → List Item → Type 0) (line : List ℕ) : Type 0 where
  pub piece : Piece
  pub pieces : List Piece
  pub has : HasPieces (piece ∷ pieces) line
  pub none : (p : Parts) → SpellsRuleBy Right (piece ∷ pieces) p → ⊥

-- a rule whose left side is a variable alone
pub record IsLone (Right : List Word → List Item → Type 0) (line : List ℕ) : Type 0 where
  pub parts : Parts
  pub is : HasPartsBy Right line parts
  pub lone : is_lone parts ≡ true

-- a rule with a variable twice on the left, which is not alone there
pub record IsTwice (Right : List Word → List Item → Type 0) (line : List ℕ) : Type 0 where
  pub parts : Parts
  pub is : HasPartsBy Right line parts
  pub some : is_lone parts ≡ false
  pub twice : is_twice parts ≡ true

-- a rule with a variable on the right that its left side, which has none alone or twice, has not
pub record IsUnknown (Right : List Word → List Item → Type 0) (line : List ℕ) : Type 0 where
  pub parts : Parts
  pub is : HasPartsBy Right line parts
  pub some : is_lone parts ≡ false
  pub once : is_twice parts ≡ false
  pub unknown : has_unknown parts ≡ true

-- a rule but for its weight
pub record HasBadWeight (Right : List Word → List Item → Type 0) (scale : Scale) (line : List ℕ)
    (kind : FaultKind) : Type 0 where
  pub parts : Parts
  pub is : HasPartsBy Right line parts
  pub some : is_lone parts ≡ false
  pub once : is_twice parts ≡ false
  pub known : has_unknown parts ≡ false
  pub fault : IsWeightFault scale parts.weight kind

-- what is wrong with a line in a rule's place
abbrev pub HasRuleFault : (List Word → List Item → Type 0) → Scale → List ℕ → FaultKind → Type 0
HasRuleFault Right scale line BadToken = HasBadToken line
HasRuleFault Right scale line BadRule = HasNoRule Right line
HasRuleFault Right scale line LoneVariable = IsLone Right line
HasRuleFault Right scale line VariableTwice = IsTwice Right line
HasRuleFault Right scale line UnknownVariable = IsUnknown Right line
HasRuleFault Right scale line NotWhole = HasBadWeight Right scale line NotWhole
HasRuleFault Right scale line WeightTooLarge = HasBadWeight Right scale line WeightTooLarge
HasRuleFault Right scale line TooManyNodes =
    (rule : RuleLine) × SpellsLineBy Right scale line rule × (has_many rule.parts ≡ true)
HasRuleFault Right scale line kind = ⊥

-- what a line in a rule's place may hold: no tokens, or a rule within the limits
abbrev pub HoldsRule : (List Word → List Item → Type 0) → Scale → List ℕ → Type 0
HoldsRule Right scale line =
    HasWords [] line
    ⊎ ((rule : RuleLine) × SpellsLineBy Right scale line rule × (has_many rule.parts ≡ false))

-- the first fault of the file
abbrev pub IsFirstFaultBy : (List Word → List Item → Type 0) → Scale → List ℕ → FileFault → Type 0
IsFirstFaultBy Right scale bytes fault =
    FirstFaultFromStart (HoldsRule Right scale) (HasRuleFault Right scale) 1 (lines_of bytes) fault

-- a fault is the first of the file
abbrev pub IsCauseBy : (List Word → List Item → Type 0) → Scale → List ℕ → ReadError → Type 0
IsCauseBy Right scale bytes (errors.Fault fault) = IsFirstFaultBy Right scale bytes fault
IsCauseBy Right scale bytes errors.OutOfMemory = Unit {0}

-- these with a tree on the right of each rule
abbrev pub IsFirstFault : Scale → List ℕ → FileFault → Type 0
IsFirstFault scale bytes fault = IsFirstFaultBy IsTree scale bytes fault

abbrev pub IsCause : Scale → List ℕ → ReadError → Type 0
IsCause scale bytes error = IsCauseBy IsTree scale bytes error
