-- Grammars by the names of their states, and what is printed of them.
use Rattle.tib_cost.specs.declared.Scale.{Scale}
use Rattle.std.specs.Prelude.{◌≡◌, ◌<◌, ℕ, List, [], map, length, Contains}
use Rattle.std.proofs.Common.{get_or}
use Rattle.tib_lex.specs.declared.fault.FileFault.{FileFault}
use Rattle.tib_grammar.specs.GrammarOf.{GrammarOf, named_rule}
use Rattle.tib_grammar.specs.Range.{AreInRange, SidesEndInHoles}
use Rattle.tib_grammar.specs.Run.{rule_at}
use Rattle.tib_grammar.specs.StateName.{AreStateNames}
use Rattle.tib_grammar.specs.declared.Rule.{Rule}
use Rattle.tib_grammar_file.specs.GrammarText.{GrammarText, AreSmallRules}
use Rattle.tib_grammar_file.specs.Printable.{ArePrintable}
use Rattle.tib_grammar_file.specs.Printed.{grammar_text}
use Rattle.tib_grammar_file.specs.Faults.{IsFirstFault}
use Rattle.tib_grammar_file.specs.Read.{ReadsAs}

-- the rules with the name of each state in its place
abbrev pub named_rules : GrammarOf → List (Rule (List ℕ))
named_rules g = map (named_rule (λ q. get_or g.names q [])) g.rules

-- The grammars are the same if states go by their names: the same names, the same start, and the
-- same rules in the same order.
pub record IsSameByName (g h : GrammarOf) : Type 0 where
  pub start : get_or g.names 0 [] ≡ get_or h.names 0 []
  pub names : (text : List ℕ) → (Contains g.names text → Contains h.names text)
      × (Contains h.names text → Contains g.names text)
  pub rules : named_rules g ≡ named_rules h

-- each state but the start has a rule
abbrev pub HaveRules : GrammarOf → Type 0
HaveRules g =
    (q : ℕ) → 0 < q → q < length g.names → (n : ℕ) × (n < length g.rules)
    × ((rule_at g.rules n).left ≡ q)

-- A grammar that has a text over a table of labels: it is sound, its labels and its costs can be
-- written, and each state but the start has a rule.
pub record HasText (scale : Scale) (labels : List (List ℕ)) (g : GrammarOf) : Type 0 where
  pub start : 0 < length g.names
  pub names : AreStateNames g.names
  pub range : AreInRange (length g.names) g.rules
  pub leaves : SidesEndInHoles g.rules
  pub lefts : HaveRules g
  pub printable : ArePrintable scale labels g.rules

-- Bytes are the text of the same grammar, states by their names. The reader takes it where no
-- right-hand side has more than 10,000 nodes.
pub record ReadsBack (scale : Scale) (labels : List (List ℕ)) (bytes : List ℕ)
    (g h : GrammarOf) : Type 0 where
  pub text : GrammarText scale labels bytes h
  pub same : IsSameByName g h
  pub read : AreSmallRules g.rules → ReadsAs scale labels bytes h
  pub no_fault : AreSmallRules g.rules → (fault : FileFault) → IsFirstFault scale bytes fault → ⊥

-- what is printed of a grammar that has a text reads back
abbrev pub PrintsBack : Type 0
PrintsBack =
    (scale : Scale) (labels : List (List ℕ)) (g : GrammarOf) → HasText scale labels g →
    (h : GrammarOf) × ReadsBack scale labels (grammar_text scale labels g) g h
