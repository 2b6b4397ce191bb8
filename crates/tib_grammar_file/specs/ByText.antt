-- Trees and grammars that agree by the texts of their labels, each over a table of its own.
use Rattle.std.specs.Prelude.{◌≡◌, ℕ, List, Some, slice_get}
use Rattle.tib_lex.specs.Lists.{Along}
use Rattle.tib_tree.specs.Trees.{Tree, Trees, none, tree, only}
use Rattle.tib_grammar.specs.Sides.{Symbol, label, hole}
use Rattle.tib_grammar.specs.GrammarOf.{GrammarOf}
use Rattle.tib_grammar.specs.declared.Rule.{Rule}

-- the trees have one shape, and R holds of what is at each node
abbrev pub HaveOneShape : {A B : Type 0} → (A → B → Type 0) → Trees A → Trees B → Type 0
HaveOneShape R none none = Unit {0}
HaveOneShape R none (tree g below more) = ⊥
HaveOneShape R (tree f kids rest) none = ⊥
HaveOneShape R (tree f kids rest) (tree g below more) =
    R f g × HaveOneShape R kids below × HaveOneShape R rest more

-- two numbers stand for one text, each in its table
pub record HaveOneText (labels others : List (List ℕ)) (f g : ℕ) : Type 0 where
  pub text : List ℕ
  pub first : slice_get labels f ≡ Some text
  pub second : slice_get others g ≡ Some text

-- labels with one text, or the same state
abbrev pub AgreeInSymbol : List (List ℕ) → List (List ℕ) → Symbol ℕ ℕ → Symbol ℕ ℕ → Type 0
AgreeInSymbol labels others (label f) (label g) = HaveOneText labels others f g
AgreeInSymbol labels others (label f) (hole q) = ⊥
AgreeInSymbol labels others (hole p) (label g) = ⊥
AgreeInSymbol labels others (hole p) (hole q) = p ≡ q

-- trees of one shape whose labels have the same texts
abbrev pub AreOneTree : List (List ℕ) → List (List ℕ) → Tree ℕ → Tree ℕ → Type 0
AreOneTree labels others t u = HaveOneShape (HaveOneText labels others) (only t) (only u)

-- rules with the same state and cost, and right-hand sides of one shape with the same states, whose
-- labels have the same texts
pub record AreOneRule (labels others : List (List ℕ)) (r s : Rule ℕ) : Type 0 where
  pub left : r.left ≡ s.left
  pub right : HaveOneShape (AgreeInSymbol labels others) (only r.right) (only s.right)
  pub cost : r.cost ≡ s.cost

-- Grammars that differ in the numbers of their labels alone: the same names, and the same rules
-- side by side, each over a table of labels of its own.
pub record AgreeByText (labels others : List (List ℕ)) (g h : GrammarOf) : Type 0 where
  pub names : g.names ≡ h.names
  pub rules : Along (AreOneRule labels others) g.rules h.rules
