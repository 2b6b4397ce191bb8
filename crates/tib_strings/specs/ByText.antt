-- Tree-to-string transducers that agree by the texts of their labels, each over a table of its own.
use Rattle.std.specs.Prelude.{◌≡◌, ℕ, List}
use Rattle.tib_lex.specs.Lists.{Along}
use Rattle.tib_tree.specs.Trees.{only}
use Rattle.tib_grammar_file.specs.ByText.{HaveOneShape}
use Rattle.tib_strings.specs.StringTransducerOf.{StringTransducerOf}
use Rattle.tib_strings.specs.declared.StringRule.{StringRule}
pub use Rattle.tib_transducer_file.specs.ByText.{AskForOneText, AreOneVariable, AgreeOnLeft, AgreeOnRight}
use Rattle.tib_strings.specs.RuleValue.{nodes_of}

-- rules with the same state and cost, whose left sides have one shape and agree at each node, and
-- whose right sides agree token by token
pub record AreOneStringRule (labels others : List (List ℕ)) (r s : StringRule ℕ) : Type 0 where
  pub state : r.state ≡ s.state
  pub left : HaveOneShape (AgreeOnLeft labels others) (only r.left) (only s.left)
  pub right : Along (λ x y. AgreeOnRight labels others x.0 y.0) (nodes_of r.right) (nodes_of s.right)
  pub cost : r.cost ≡ s.cost

-- Transducers that differ in the numbers of their labels alone: the same names, and the same rules
-- side by side.
pub record AreOneStringTransducer (labels others : List (List ℕ)) (t u : StringTransducerOf) : Type 0 where
  pub names : t.names ≡ u.names
  pub rules : Along (AreOneStringRule labels others) t.rules u.rules
