-- Rules before name resolution.
use Rattle.std.specs.Prelude.{◌≡◌, ℕ, ◌⊎◌, List, [], ◌∷◌, ◌++◌, Option, None, Some, Result, Ok, Err, slice_get, length}
use Rattle.tib_lex.specs.Lists.{Along}
use Rattle.tib_lex.specs.declared.fault.FaultKind.{FaultKind}
use Rattle.tib_tree.specs.Written.{Item}
use Rattle.tib_tree.specs.Grows.{Adds}
use Rattle.tib_grammar_file.specs.Rule.{RuleLine}
use Rattle.tib_lex.specs.declared.fault.LineError.{LineError}
use Rattle.tib_lex.specs.declared.fault.LineError.TheVariants as errors
use Rattle.tib_grammar_file.specs.declared.raw.RawItem.{RawItem}
use Rattle.tib_grammar_file.specs.declared.raw.RawRule.{RawRule}
use Rattle.tib_grammar_file.specs.declared.raw.RawRules.{RawRules}

-- a node over the table of texts
abbrev pub IsRaw : List (List ℕ) → RawItem → Item → Type 0
IsRaw texts raw i =
    (slice_get texts raw.text ≡ Some i.text) × (raw.quoted ≡ i.quoted) × (raw.kids ≡ i.kids)

-- a rule without its nodes, over the table of names
pub record IsRawRule (names : List (List ℕ)) (raw : RawRule) (line : RuleLine) : Type 0 where
  pub left : slice_get names raw.left ≡ Some line.left
  pub nodes : raw.nodes ≡ length line.nodes
  pub cost : raw.cost ≡ line.cost

-- the nodes of some rules, one rule's after the other's
abbrev pub all_nodes : List RuleLine → List Item
all_nodes [] = []
all_nodes (line ∷ lines) = line.nodes ++ all_nodes lines

-- rules and their nodes, over the tables of names and texts
pub record AreRawRules (names texts : List (List ℕ)) (rules : List RawRule) (nodes : List RawItem)
    (lines : List RuleLine) : Type 0 where
  pub heads : Along (IsRawRule names) rules lines
  pub bodies : Along (IsRaw texts) nodes (all_nodes lines)

-- these nodes went last
pub record AddsNodes (texts : List (List ℕ)) (before now : List RawItem)
    (nodes : List Item) : Type 0 where
  pub more : List RawItem
  pub are : Along (IsRaw texts) more nodes
  pub last : now ≡ before ++ more

-- a rule went last
pub record AddsRule (before names texts : List (List ℕ)) (old now : RawRules)
    (line : RuleLine) : Type 0 where
  pub raw : RawRule
  pub is : IsRawRule names raw line
  pub adds : Adds before line.left names
  pub head : now.rules.items ≡ old.rules.items ++ raw ∷ []
  pub body : AddsNodes texts old.nodes.items now.nodes.items line.nodes

-- a line has no tokens, or its rule went last
abbrev pub AddsLine : List (List ℕ) → List (List ℕ) → List (List ℕ) → RawRules → RawRules →
    Result (Unit {0}) LineError → Result (Option RuleLine) FaultKind → Type 0
AddsLine before names texts old now (Ok done) wanted =
    ((wanted ≡ Ok None) × (names ≡ before) × (now ≡ old))
    ⊎ ((line : RuleLine) × (wanted ≡ Ok (Some line)) × AddsRule before names texts old now line)
AddsLine before names texts old now (Err (errors.Fault kind)) wanted = wanted ≡ Err kind
AddsLine before names texts old now (Err errors.OutOfMemory) wanted = Unit {0}
