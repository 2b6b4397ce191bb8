-- Transducers by the names of their states, and what is read of their text.
use Rattle.tib_cost.specs.declared.Scale.{Scale}
use Rattle.std.specs.Prelude.{◌≡◌, ◌<◌, ◌≤◌, ◌⊎◌, ℕ, List, [], ◌∷◌, ◌++◌, map, length, Option, Some, None, Contains}
use Rattle.std.proofs.Common.{get_or, suc}
use Rattle.tib_lex.specs.Lines.{HasNoFeed}
use Rattle.tib_lex.specs.Lists.{Has, Each}
use Rattle.tib_lex.specs.declared.fault.FileFault.{FileFault}
use Rattle.tib_tree.specs.Trees.{preorder_of}
use Rattle.tib_grammar.specs.Sides.{Symbol, label, hole, side_map}
use Rattle.tib_grammar.specs.StateName.{AreStateNames}
use Rattle.tib_grammar_file.specs.Printable.{IsPlainCost}
use Rattle.tib_transducer.specs.Range.{AreWithin, AreShaped, EndInHoles}
use Rattle.tib_transducer.specs.Rules.{states_in, variables_of}
use Rattle.tib_transducer.specs.TransducerOf.{TransducerOf}
use Rattle.tib_transducer.specs.declared.Variable.{Variable}
use Rattle.tib_transducer.specs.declared.Pair.{Pair}
use Rattle.tib_transducer.specs.declared.TransducerRule.{TransducerRule}
use Rattle.tib_transducer_file.specs.Faults.{IsFirstFault}
use Rattle.tib_transducer_file.specs.Rule.{RuleLine}
use Rattle.tib_transducer_file.specs.TransducerText.{SpellsLine, TransducerText, IsSmallRule, ReadsAs}
use Rattle.tib_transducer_file.specs.Value.{IsRule}
use Rattle.tib_grammar_file.specs.Printed.{cost_text}
use Rattle.tib_transducer.specs.NamedPairs.{named_pair}
use Rattle.tib_transducer_file.specs.Printed.{variable_text, pair_text, side_text, transducer_text}

abbrev pub named_rule : {P Q : Type 0} → (P → Q) → TransducerRule P → TransducerRule Q
named_rule g r = record {
  state = g r.state;
  left = r.left;
  right = side_map (named_pair g) r.right;
  cost = r.cost;
}

-- the rules with the name of each state in its place
abbrev pub named_rules : TransducerOf → List (TransducerRule (List ℕ))
named_rules t = map (named_rule (λ q. get_or t.names q [])) t.rules

-- The transducers are the same if states go by their names: the same names, the same start, and the
-- same rules in the same order.
pub record IsSameByName (t u : TransducerOf) : Type 0 where
  pub start : get_or t.names 0 [] ≡ get_or u.names 0 []
  pub names : (text : List ℕ) → (Contains t.names text → Contains u.names text)
      × (Contains u.names text → Contains t.names text)
  pub rules : named_rules t ≡ named_rules u

-- the line of a rule without its line feed
abbrev pub line_text : Scale → List (List ℕ) → List (List ℕ) → TransducerRule ℕ → List ℕ
line_text scale names labels r =
    get_or names r.state []
    ++ (46 ∷ (side_text (variable_text names labels) labels r.left
    ++ (32 ∷ (45 ∷ (62 ∷ (32 ∷ (side_text (pair_text names labels) labels r.right
    ++ cost_text scale r.cost)))))))

-- the states of rules, from left to right
abbrev pub states_of : List (TransducerRule ℕ) → List ℕ
states_of [] = []
states_of (r ∷ rules) = r.state ∷ (states_in r.right ++ states_of rules)

-- a label has a text in the table, without a line feed
abbrev pub IsPlainLabel : List (List ℕ) → ℕ → Type 0
IsPlainLabel labels f = (f < length labels) × HasNoFeed (get_or labels f [])

-- the label that a variable asks for, if it asks for one, is such a label
abbrev pub IsPlainAsked : List (List ℕ) → Option ℕ → Type 0
IsPlainAsked labels None = Unit {0}
IsPlainAsked labels (Some f) = IsPlainLabel labels f

abbrev pub IsPlainOnLeft : List (List ℕ) → Symbol ℕ Variable → Type 0
IsPlainOnLeft labels (label f) = IsPlainLabel labels f
IsPlainOnLeft labels (hole x) = IsPlainAsked labels x.label

abbrev pub IsPlainOnRight : List (List ℕ) → Symbol ℕ (Pair ℕ) → Type 0
IsPlainOnRight labels (label f) = IsPlainLabel labels f
IsPlainOnRight labels (hole x) = Unit {0}

-- A rule that can be written over a table of labels: the texts of its labels and its cost can be,
-- and the numbers of its variables have nine digits at most.
pub record IsPrintable (scale : Scale) (labels : List (List ℕ)) (r : TransducerRule ℕ) : Type 0 where
  pub left : Each (λ s. IsPlainOnLeft labels s.0) (preorder_of r.left)
  pub right : Each (λ s. IsPlainOnRight labels s.0) (preorder_of r.right)
  pub few : length (variables_of r.left) ≤ 1000000000
  pub cost : IsPlainCost scale r.cost

-- A transducer that has a text over a table of labels: it is sound, its rules can be written, and
-- each state but the start occurs in a rule.
pub record HasText (scale : Scale) (labels : List (List ℕ)) (t : TransducerOf) : Type 0 where
  pub start : 0 < length t.names
  pub names : AreStateNames t.names
  pub range : AreWithin (length t.names) t.rules
  pub shaped : AreShaped t.rules
  pub leaves : EndInHoles t.rules
  pub stand : (q : ℕ) → 0 < q → q < length t.names → Has (states_of t.rules) q
  pub printable : Each (IsPrintable scale labels) t.rules

-- Bytes are the text of the same transducer, states by their names. The reader takes it where no
-- side has more than 10,000 nodes.
pub record ReadsBack (scale : Scale) (labels : List (List ℕ)) (bytes : List ℕ)
    (t u : TransducerOf) : Type 0 where
  pub text : TransducerText scale labels bytes u
  pub same : IsSameByName t u
  pub read : Each IsSmallRule t.rules → ReadsAs scale labels bytes u
  pub no_fault : Each IsSmallRule t.rules → (fault : FileFault) → IsFirstFault scale bytes fault → ⊥

-- each line that is printed of a rule spells one, which stands for this very rule
abbrev pub PrintsRules : Type 0
PrintsRules =
    (scale : Scale) (labels : List (List ℕ)) (t : TransducerOf) → HasText scale labels t →
    Each (λ r. (line : RuleLine) × SpellsLine scale (line_text scale t.names labels r) line
    × IsRule t.names labels r line) t.rules

-- what is printed of a transducer that has a text reads back
abbrev pub PrintsBack : Type 0
PrintsBack =
    (scale : Scale) (labels : List (List ℕ)) (t : TransducerOf) → HasText scale labels t →
    (u : TransducerOf) × ReadsBack scale labels (transducer_text scale labels t) t u

-- States come in the order of their numbers: where k of them have come, each state of the list is
-- one of these or the next.
abbrev pub ComeInOrder : ℕ → List ℕ → Type 0
ComeInOrder k [] = Unit {0}
ComeInOrder k (q ∷ qs) = ((q < k) × ComeInOrder k qs) ⊎ ((q ≡ k) × ComeInOrder (suc k) qs)

-- what is printed of a transducer whose states come in order is the text of this very transducer
abbrev pub OrderedPrintsBack : Type 0
OrderedPrintsBack =
    (scale : Scale) (labels : List (List ℕ)) (t : TransducerOf) → HasText scale labels t →
    ComeInOrder 1 (states_of t.rules) → TransducerText scale labels (transducer_text scale labels t) t

-- A transducer that was read has a text, its states come in order, and what is printed of it is the
-- text of this very transducer.
abbrev pub ReadTransducersPrintBack : Type 0
ReadTransducersPrintBack =
    (scale : Scale) (labels : List (List ℕ)) (bytes : List ℕ) (t : TransducerOf) →
    ReadsAs scale labels bytes t → HasText scale labels t × ComeInOrder 1 (states_of t.rules)
    × ReadsAs scale labels (transducer_text scale labels t) t
