-- The transducer of the derivations of a grammar: it reads a run of the grammar, as a tree of the
-- labels of its rules, and outputs the tree that the run yields.
use Rattle.std.specs.Prelude.{◌≡◌, ℕ, ◌<◌, List, [], ◌∷◌, length, decimal, slice_get, Some}
use Rattle.std.proofs.Common.{zero, suc}
use Rattle.tib_grammar.specs.Sides.{over, holes_of}
use Rattle.tib_grammar.specs.Run.{rule_at}
use Rattle.tib_grammar.specs.GrammarOf.{GrammarOf}
use Rattle.tib_grammar.specs.declared.Rule.{Rule}
use Rattle.tib_transducer.specs.Rules.{transducer_rule}
use Rattle.tib_transducer.specs.TransducerOf.{TransducerOf}
use Rattle.tib_transducer.specs.declared.Pair.{Pair}
use Rattle.tib_transducer.specs.declared.TransducerRule.{TransducerRule}
use Rattle.tib_rulewise.specs.Placed.{placed_side, variables_from}

-- the text of the label of the rule with a number: an `r` and the number
abbrev pub rule_text : ℕ → List ℕ
rule_text number = 114 ∷ decimal number

-- the texts of the rules n, n + 1 and so on, this many
abbrev pub rule_texts : ℕ → ℕ → List (List ℕ)
rule_texts n zero = []
rule_texts n (suc many) = rule_text n ∷ rule_texts (suc n) many

-- the tree of the variable with a number is read on from a state
abbrev pub read_from : ℕ → ℕ → Pair ℕ
read_from number state = record { state = state; variable = number }

-- The rule of the derivations that begin with a rule of the grammar: it reads a label over one
-- variable for each state of the right-hand side, and outputs the right-hand side, in which each
-- state reads on the variable at its place.
abbrev pub derivation_rule : ℕ → Rule ℕ → TransducerRule ℕ
derivation_rule f r = record {
  state = r.left;
  left = over f (variables_from 0 (length (holes_of r.right)));
  right = placed_side read_from r.right;
  cost = r.cost;
}

-- d is the rule of the derivations that begin with the rule r, which has this number
pub record IsDerivationRule (labels : List (List ℕ)) (number : ℕ) (r : Rule ℕ)
    (d : TransducerRule ℕ) : Type 0 where
  pub root : ℕ
  pub named : slice_get labels root ≡ Some (rule_text number)
  pub is : d ≡ derivation_rule root r

-- these are the rules of the derivations that begin with some rules, which are numbered from 1
pub record AreDerivationRules (labels : List (List ℕ)) (rules : List (Rule ℕ))
    (derived : List (TransducerRule ℕ)) : Type 0 where
  pub many : length derived ≡ length rules
  pub each : (n : ℕ) → n < length rules →
      IsDerivationRule labels (suc n) (rule_at rules n) (transducer_rule derived n)

-- t is the transducer of the derivations of the grammar g, over a table of labels: it has the
-- states of g with their names
pub record IsDerivations (labels : List (List ℕ)) (g : GrammarOf) (t : TransducerOf) : Type 0 where
  pub names : t.names ≡ g.names
  pub rules : AreDerivationRules labels g.rules t.rules
