-- Transducers that agree by the texts of their labels, each over a table of its own.
use Rattle.std.specs.Prelude.{◌≡◌, ℕ, List, Option, Some, None}
use Rattle.tib_lex.specs.Lists.{Along}
use Rattle.tib_tree.specs.Trees.{only}
use Rattle.tib_grammar.specs.Sides.{Symbol, label, hole}
use Rattle.tib_grammar_file.specs.ByText.{HaveOneShape, HaveOneText}
use Rattle.tib_transducer.specs.TransducerOf.{TransducerOf}
use Rattle.tib_transducer.specs.declared.Variable.{Variable}
use Rattle.tib_transducer.specs.declared.Pair.{Pair}
use Rattle.tib_transducer.specs.declared.TransducerRule.{TransducerRule}

-- variables ask for labels with one text, or for none
abbrev pub AskForOneText : List (List ℕ) → List (List ℕ) → Option ℕ → Option ℕ → Type 0
AskForOneText labels others None None = Unit {0}
AskForOneText labels others (Some f) (Some g) = HaveOneText labels others f g
AskForOneText labels others asked other = ⊥

-- the same number, and labels with one text
abbrev pub AreOneVariable : List (List ℕ) → List (List ℕ) → Variable → Variable → Type 0
AreOneVariable labels others x y = (x.number ≡ y.number) × AskForOneText labels others x.label y.label

-- labels with one text, or one variable
abbrev pub AgreeOnLeft : List (List ℕ) → List (List ℕ) → Symbol ℕ Variable → Symbol ℕ Variable → Type 0
AgreeOnLeft labels others (label f) (label g) = HaveOneText labels others f g
AgreeOnLeft labels others (label f) (hole y) = ⊥
AgreeOnLeft labels others (hole x) (label g) = ⊥
AgreeOnLeft labels others (hole x) (hole y) = AreOneVariable labels others x y

-- labels with one text, or the same state and variable
abbrev pub AgreeOnRight : List (List ℕ) → List (List ℕ) → Symbol ℕ (Pair ℕ) → Symbol ℕ (Pair ℕ) → Type 0
AgreeOnRight labels others (label f) (label g) = HaveOneText labels others f g
AgreeOnRight labels others (label f) (hole y) = ⊥
AgreeOnRight labels others (hole x) (label g) = ⊥
AgreeOnRight labels others (hole x) (hole y) = (x.state ≡ y.state) × (x.variable ≡ y.variable)

-- rules with the same state and cost, whose sides have one shape and agree at each node
pub record AreOneTransducerRule (labels others : List (List ℕ)) (r s : TransducerRule ℕ) : Type 0 where
  pub state : r.state ≡ s.state
  pub left : HaveOneShape (AgreeOnLeft labels others) (only r.left) (only s.left)
  pub right : HaveOneShape (AgreeOnRight labels others) (only r.right) (only s.right)
  pub cost : r.cost ≡ s.cost

-- Transducers that differ in the numbers of their labels alone: the same names, and the same rules
-- side by side.
pub record AreOneTransducer (labels others : List (List ℕ)) (t u : TransducerOf) : Type 0 where
  pub names : t.names ≡ u.names
  pub rules : Along (AreOneTransducerRule labels others) t.rules u.rules
