-- Which states lead to which.
use Rattle.std.specs.Prelude.{◌≡◌, ℕ, ◌<◌, List, length}
use Rattle.std.proofs.Common.{get_or}
use Rattle.tib_lex.specs.Lists.{Has}
use Rattle.tib_grammar.specs.Sides.{holes_of}
use Rattle.tib_grammar.specs.Run.{rule_at}
use Rattle.tib_grammar.specs.declared.Rule.{Rule}
use Rattle.tib_count.specs.declared.edges.Edges.{Edges}

-- one of the first k rules is a rule of q with p in its right-hand side
pub record LeadsAmong (rules : List (Rule ℕ)) (k q p : ℕ) : Type 0 where
  pub rule : ℕ
  pub early : rule < k
  pub left : (rule_at rules rule).left ≡ q
  pub stands : Has (holes_of (rule_at rules rule).right) p

-- a rule of q has p in its right-hand side
abbrev pub Leads : List (Rule ℕ) → ℕ → ℕ → Type 0
Leads rules q p = LeadsAmong rules (length rules) q p

-- q leads to p: at one place the one list has q and the other p
pub record IsEdge (froms tos : List ℕ) (q p : ℕ) : Type 0 where
  pub place : ℕ
  pub within : place < length froms
  pub from : get_or froms place 0 ≡ q
  pub to : get_or tos place 0 ≡ p

-- the states of the first k rules, and what they lead to
pub record AreEdgesAmong (rules : List (Rule ℕ)) (k : ℕ) (froms tos : List ℕ) : Type 0 where
  pub as_many : length tos ≡ length froms
  pub are : (i : ℕ) → i < length froms → LeadsAmong rules k (get_or froms i 0) (get_or tos i 0)
  pub all : (n p : ℕ) → n < k → Has (holes_of (rule_at rules n).right) p →
      IsEdge froms tos (rule_at rules n).left p

-- the states of all rules, and what they lead to
abbrev pub AreEdges : List (Rule ℕ) → Edges → Type 0
AreEdges rules edges = AreEdgesAmong rules (length rules) edges.froms.items edges.tos.items
