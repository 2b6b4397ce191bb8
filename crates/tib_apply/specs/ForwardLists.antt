-- The edges of a key of forward application, listed match by match and rule by rule.
use Rattle.std.specs.Prelude.{◌≡◌, ℕ, ◌<◌, ◌≤◌, List, ◌++◌, length, Some}
use Rattle.tib_lex.specs.Lists.{Has}
use Rattle.tib_grammar.specs.Sides.{label, holes_of}
use Rattle.tib_grammar.specs.Run.{rule_at}
use Rattle.tib_grammar.specs.declared.Rule.{Rule}
use Rattle.tib_cost.specs.Semiring.{most}
use Rattle.tib_transducer.specs.Rules.{transducer_rule, variables_of, variables_in}
use Rattle.tib_transducer.specs.declared.TransducerRule.{TransducerRule}
use Rattle.tib_match.specs.Matches.{IsMatch}
use Rattle.tib_apply.specs.KeyGrammars.{key_at}
use Rattle.tib_apply.specs.Restrictions.{restricted_labels, Admits}
use Rattle.tib_apply.specs.Forward.{deleted}
use Rattle.tib_apply.specs.LeastRuns.{deleted_in}
use Rattle.tib_apply.specs.declared.deleting.LeastRuns.{LeastRuns}
use Rattle.tib_key_edges.specs.Listing.{IsListed, Overruns, GetsOrigin, IsBeyond, HasEdges, AreBeyond}
use Rattle.tib_apply.specs.ForwardRules.{ForwardListing}

-- the states in the right-hand sides of the rules are below a number
abbrev pub HoleStatesBelow : ℕ → List (Rule ℕ) → Type 0
HoleStatesBelow n rules = (m q : ℕ) → m < length rules → Has (holes_of (rule_at rules m).right) q → q < n

-- the left-hand side of the rule at a position begins with a label that the restriction of the key
-- admits, and has a match
pub record IsAtMatch (product : ℕ → ℕ → ℕ) (grammar : List (Rule ℕ)) (moves : List (TransducerRule ℕ)) (key : ℕ × ℕ × ℕ) (m : ℕ) (found : List ℕ × ℕ) : Type 0 where
  pub below : m < length moves
  pub state : (transducer_rule moves m).state ≡ key.1
  pub root : ℕ
  pub is_root : (transducer_rule moves m).left.label ≡ label root
  pub admitted : Admits (restricted_labels moves) key.2 root
  pub is_match : IsMatch product grammar (transducer_rule moves m).left key.0 found.0 (Some found.1)

-- a match that with the cost of the rule and of what it leaves out costs no more than the greatest
-- cost
pub record IsAffordable (product : ℕ → ℕ → ℕ) (runs : LeastRuns) (rule : TransducerRule ℕ) (m : List ℕ × ℕ) : Type 0 where
  pub deleted_cost : ℕ
  pub is_deleted_cost : deleted_in product runs (deleted (variables_in rule.right) (variables_of rule.left) m.0) ≡ Some deleted_cost
  pub within : product (product rule.cost m.1) deleted_cost ≤ most

module _ (Gives : ℕ × List ℕ → Rule (ℕ × ℕ × ℕ) → Type 0) (key : ℕ × ℕ × ℕ) where
  -- the list gets the edge of an origin, where it gives one
  abbrev pub ListsOrigin : ℕ × List ℕ → ForwardListing → ForwardListing → Type 0
  ListsOrigin o old new = GetsOrigin Gives (0, 0, 0) key o old new

  -- with this edge there are more parts than the budget
  abbrev pub OriginOverruns : ℕ × List ℕ → ForwardListing → Type 0
  OriginOverruns o old = IsBeyond Gives (0, 0, 0) key o old

  -- more origins were tried: all of one rule that give an edge, and no other
  pub record HasRule (order : List (ℕ × ℕ × ℕ)) (m : ℕ) (tried : List (ℕ × List ℕ)) (new : ForwardListing) : Type 0 where
    pub more : List (ℕ × List ℕ)
    pub only : (o : ℕ × List ℕ) → Has more o → o.0 ≡ m
    pub all : (o : ℕ × List ℕ) (e : Rule (ℕ × ℕ × ℕ)) → Gives o e → o.0 ≡ m → Has more o
    pub listed : IsListed Gives order (tried ++ more) new

  -- the list gets the edges of the rule at a position of the transducer
  abbrev pub ListsRule : ℕ → ForwardListing → ForwardListing → Type 0
  ListsRule m old new =
      (order : List (ℕ × ℕ × ℕ)) → old.position < length order → key_at order old.position ≡ key → (tried : List (ℕ × List ℕ)) →
      ((o : ℕ × List ℕ) → Has tried o → o.0 ≡ m → ⊥) → IsListed Gives order tried old → HasRule order m tried new

  -- with these edges there are more parts than the budget
  abbrev pub RuleOverruns : ℕ → ForwardListing → Type 0
  RuleOverruns m old =
      (order : List (ℕ × ℕ × ℕ)) → old.position < length order → key_at order old.position ≡ key → (tried : List (ℕ × List ℕ)) →
      ((o : ℕ × List ℕ) → Has tried o → o.0 ≡ m → ⊥) → IsListed Gives order tried old → Overruns Gives old.budget

  -- the list has every edge of the key, over each order in which the key has this position
  abbrev pub ListsKey : ℕ → ForwardListing → Type 0
  ListsKey position l = HasEdges Gives (0, 0, 0) key position l

  -- the edges of the key have more parts than the budget
  abbrev pub KeyOverruns : ℕ → ℕ → Type 0
  KeyOverruns position budget = AreBeyond Gives (0, 0, 0) key position budget
