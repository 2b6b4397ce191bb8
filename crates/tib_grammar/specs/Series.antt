-- The series of a grammar (a recognizable tree series, Berstel and Reutenauer 1982), rules with the
-- same series, and rules that cover others.
use Rattle.std.specs.Prelude.{◌≡◌, ◌↔◌, ℕ, ◌<◌, ◌≤◌, List, [], ◌∷◌, Option}
use Rattle.tib_lex.specs.Lists.{Has}
use Rattle.tib_tree.specs.Trees.{Tree, only}
use Rattle.tib_grammar.specs.GrammarOf.{GrammarOf}
use Rattle.tib_grammar.specs.Run.{IsCost}
use Rattle.tib_grammar.specs.declared.Rule.{Rule}
use Rattle.tib_cost.specs.Least.{IsLeast, times}

-- v is the series of the grammar at the state q and the tree t: the least cost of a run from q that
-- yields t
abbrev pub IsSeriesAt : (ℕ → ℕ → ℕ) → List (Rule ℕ) → ℕ → Tree ℕ → Option ℕ → Type 0
IsSeriesAt product rules q t v = IsLeast (IsCost product rules (q ∷ []) (only t)) v

-- the series of the grammar, which is that at the start
abbrev pub IsSeries : (ℕ → ℕ → ℕ) → List (Rule ℕ) → Tree ℕ → Option ℕ → Type 0
IsSeries product rules t v = IsSeriesAt product rules 0 t v

-- the rules give each tree the cost that the others give it
abbrev pub HaveSameSeries : (ℕ → ℕ → ℕ) → List (Rule ℕ) → List (Rule ℕ) → Type 0
HaveSameSeries product one two =
    (t : Tree ℕ) (v : Option ℕ) → IsSeries product one t v ↔ IsSeries product two t v

-- two grammars have the same series
abbrev pub HasSameSeries : (ℕ → ℕ → ℕ) → GrammarOf → GrammarOf → Type 0
HasSameSeries product one two = HaveSameSeries product one.rules two.rules

-- at every state the rules have the series of the others
abbrev pub AgreeAtEach : (ℕ → ℕ → ℕ) → List (Rule ℕ) → List (Rule ℕ) → Type 0
AgreeAtEach product one two =
    (q : ℕ) (t : Tree ℕ) (v : Option ℕ) → IsSeriesAt product one q t v ↔ IsSeriesAt product two q t v

-- at each of the first states the rules have the series of the others
abbrev pub KeepsSeries : (ℕ → ℕ → ℕ) → ℕ → List (Rule ℕ) → List (Rule ℕ) → Type 0
KeepsSeries product states rules new =
    (q : ℕ) → q < states → (t : Tree ℕ) (v : Option ℕ) →
    IsSeriesAt product rules q t v ↔ IsSeriesAt product new q t v

-- the rules give each tree the product of the costs that two others give it
abbrev pub HasProductSeries : (ℕ → ℕ → ℕ) → List (Rule ℕ) → List (Rule ℕ) → List (Rule ℕ) → Type 0
HasProductSeries product one two rules =
    (t : Tree ℕ) (a b v : Option ℕ) → IsSeries product one t a → IsSeries product two t b →
    IsSeries product rules t v ↔ v ≡ times product a b

-- some rule agrees with r in both sides and costs no more
pub record HasCheaper (rules : List (Rule ℕ)) (r : Rule ℕ) : Type 0 where
  pub rule : Rule ℕ
  pub stands : Has rules rule
  pub left : rule.left ≡ r.left
  pub right : rule.right ≡ r.right
  pub costs : rule.cost ≤ r.cost

-- for each rule of the one list the other has one that is as cheap
abbrev pub Covers : List (Rule ℕ) → List (Rule ℕ) → Type 0
Covers other one = (r : Rule ℕ) → Has one r → HasCheaper other r
