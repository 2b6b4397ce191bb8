-- What is wrong with bytes that are no grammar's text, in the terms of the format.
use Rattle.tib_cost.specs.Scale.{is_weighted}
use Rattle.tib_cost.specs.declared.Scale.{Scale}
use Rattle.std.specs.Prelude.{◌≡◌, ◌<◌, ◌≤◌, ◌⊎◌, ℕ, Bool, true, false, List, [], ◌∷◌, length, Option, Some, suc}
use Rattle.tib_lex.specs.Grammar.{Word, name, HasWords, HasBadToken}
use Rattle.tib_lex.specs.FirstFault.{FirstFault}
use Rattle.tib_lex.specs.Lines.{lines_of}
use Rattle.tib_lex.specs.declared.fault.FaultKind.{FaultKind}
use Rattle.tib_lex.specs.declared.fault.FaultKind.TheVariants.{NoStart, BadToken, BadRule, NotWhole, WeightTooLarge, TooManyNodes}
use Rattle.tib_lex.specs.declared.fault.FileFault.{FileFault}
use Rattle.tib_lex.specs.declared.fault.ReadError.{ReadError}
use Rattle.tib_lex.specs.declared.fault.ReadError.TheVariants as errors
use Rattle.tib_tree.specs.Trees.{most_nodes}
use Rattle.tib_grammar_file.specs.Rule.{has_dot, Parts, SpellsRule}
use Rattle.tib_grammar_file.specs.Weight.{IsWhole, IsCostOf}
use Rattle.tib_cost.specs.Semiring.{most}

-- the tokens of a line are a start: one name without a full stop
pub record HasStart (line : List ℕ) : Type 0 where
  pub start : List ℕ
  pub has : HasWords (name start ∷ []) line
  pub plain : has_dot start ≡ false

-- tokens that are no start
pub record HasOtherStart (line : List ℕ) : Type 0 where
  pub word : Word
  pub words : List Word
  pub has : HasWords (word ∷ words) line
  pub none : (start : List ℕ) → word ∷ words ≡ name start ∷ [] → has_dot start ≡ false → ⊥

-- what is wrong with a line in the start's place
abbrev pub HasStartFault : List ℕ → FaultKind → Type 0
HasStartFault line BadToken = HasBadToken line
HasStartFault line BadRule = HasOtherStart line
HasStartFault line kind = ⊥

-- The first fault of a file in which a start comes before all else. Where no line has tokens, it is
-- `NoStart` at line 1.
abbrev pub FirstFaultFromStart : (List ℕ → Type 0) → (List ℕ → FaultKind → Type 0) → ℕ →
    List (List ℕ) → FileFault → Type 0
FirstFaultFromStart Holds HasFault n [] fault = (fault.line ≡ 1) × (fault.kind ≡ NoStart)
FirstFaultFromStart Holds HasFault n (line ∷ lines) fault =
    (HasWords [] line × FirstFaultFromStart Holds HasFault (suc n) lines fault)
    ⊎ (((fault.line ≡ n) × HasStartFault line fault.kind)
    ⊎ (HasStart line × FirstFault Holds HasFault (suc n) lines fault))

-- the tokens of a line spell a rule, whatever is written as its weight
pub record HasRule (line : List ℕ) (rule : Parts) : Type 0 where
  pub words : List Word
  pub has : HasWords words line
  pub spells : SpellsRule words rule

-- tokens that spell no rule
pub record HasNoRule (line : List ℕ) : Type 0 where
  pub word : Word
  pub words : List Word
  pub has : HasWords (word ∷ words) line
  pub none : (rule : Parts) → SpellsRule (word ∷ words) rule → ⊥

-- what is wrong with a weight, where weights are kept
abbrev pub IsFaultIf : Bool → Option (List ℕ) → FaultKind → Type 0
IsFaultIf true (Some text) NotWhole = (n : ℕ) → IsWhole text n → ⊥
IsFaultIf true (Some text) WeightTooLarge = (n : ℕ) × IsWhole text n × (most < n)
IsFaultIf weighted weight kind = ⊥

abbrev pub IsWeightFault : Scale → Option (List ℕ) → FaultKind → Type 0
IsWeightFault scale weight kind = IsFaultIf (is_weighted scale) weight kind

-- a rule but for its weight
pub record HasBadWeight (scale : Scale) (line : List ℕ) (kind : FaultKind) : Type 0 where
  pub rule : Parts
  pub is : HasRule line rule
  pub fault : IsWeightFault scale rule.weight kind

-- a rule with a good weight
pub record HasGoodWeight (scale : Scale) (line : List ℕ) (rule : Parts) : Type 0 where
  pub is : HasRule line rule
  pub cost : ℕ
  pub cost_is : IsCostOf scale rule.weight cost

-- what is wrong with a line in a rule's place
abbrev pub HasRuleFault : Scale → List ℕ → FaultKind → Type 0
HasRuleFault scale line BadToken = HasBadToken line
HasRuleFault scale line BadRule = HasNoRule line
HasRuleFault scale line NotWhole = HasBadWeight scale line NotWhole
HasRuleFault scale line WeightTooLarge = HasBadWeight scale line WeightTooLarge
HasRuleFault scale line TooManyNodes =
    (rule : Parts) × HasGoodWeight scale line rule × (most_nodes < length rule.nodes)
HasRuleFault scale line kind = ⊥

-- what a line in a rule's place may hold: no tokens, or a rule within the limits
abbrev pub HoldsRule : Scale → List ℕ → Type 0
HoldsRule scale line =
    HasWords [] line ⊎ ((rule : Parts) × HasGoodWeight scale line rule
    × (length rule.nodes ≤ most_nodes))

-- the first fault of the file
abbrev pub IsFirstFault : Scale → List ℕ → FileFault → Type 0
IsFirstFault scale bytes fault =
    FirstFaultFromStart (HoldsRule scale) (HasRuleFault scale) 1 (lines_of bytes) fault

-- a fault is the first of the file
abbrev pub IsCause : Scale → List ℕ → ReadError → Type 0
IsCause scale bytes (errors.Fault fault) = IsFirstFault scale bytes fault
IsCause scale bytes errors.OutOfMemory = Unit {0}
