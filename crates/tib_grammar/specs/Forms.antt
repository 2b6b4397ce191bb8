-- Normal form, deterministic form, and what breaks the latter.
use Rattle.std.specs.Prelude.{◌≡◌, ℕ, ◌<◌, ◌⊎◌, List, length}
use Rattle.std.proofs.Common.{suc}
use Rattle.tib_lex.specs.Lists.{Has}
use Rattle.tib_tree.specs.Trees.{Tree}
use Rattle.tib_grammar.specs.Sides.{Symbol, label, hole, Side as SideFor, holes_of, AreHoles, Lone}
use Rattle.tib_grammar.specs.Run.{rule_at}
use Rattle.tib_grammar.specs.declared.Rule.{Rule}
use Rattle.tib_grammar.specs.declared.DeterminismFault.{DeterminismFault}
use Rattle.tib_grammar.specs.declared.DeterminismFault.TheVariants.{Nested, Chain, Shared, OutOfMemory}

abbrev pub IsLabel : Symbol ℕ ℕ → Type 0
IsLabel (label f) = Unit {0}
IsLabel (hole p) = ⊥

-- one label over states
pub record IsNormalSide (s : Tree (Symbol ℕ ℕ)) : Type 0 where
  pub is_label : IsLabel s.label
  pub are_holes : AreHoles s.kids

-- a lone state
pub record IsLoneState (s : SideFor ℕ ℕ) : Type 0 where
  pub state : ℕ
  pub is : s ≡ Lone state

-- every right-hand side is one label over states (normal form)
abbrev pub AreNormal : List (Rule ℕ) → Type 0
AreNormal rules = (n : ℕ) → n < length rules → IsNormalSide (rule_at rules n).right

-- the state q is in the right-hand side of some rule
pub record StandsInSide (rules : List (Rule ℕ)) (q : ℕ) : Type 0 where
  pub rule : ℕ
  pub below : rule < length rules
  pub stands : Has (holes_of (rule_at rules rule).right) q

-- a rule from the start to a lone state, while the start is in no right-hand side
pub record IsStartChain (rules : List (Rule ℕ)) (r : Rule ℕ) : Type 0 where
  pub left : r.left ≡ 0
  pub lone : IsLoneState r.right
  pub apart : StandsInSide rules 0 → ⊥

-- the right-hand side of a rule in deterministic form
abbrev pub IsShaped : List (Rule ℕ) → Rule ℕ → Type 0
IsShaped rules r = IsNormalSide r.right ⊎ IsStartChain rules r

-- Deterministic form (bottom-up determinism, Comon et al. 2007): each right-hand side is one label
-- over states, or a lone state in a rule of the start while the start is in no right-hand side; and
-- no two rules have the same right-hand side.
pub record IsDeterministic (rules : List (Rule ℕ)) : Type 0 where
  pub shaped : (n : ℕ) → n < length rules → IsShaped rules (rule_at rules n)
  pub apart : (m n : ℕ) → m < length rules → n < length rules →
      (rule_at rules m).right ≡ (rule_at rules n).right → m ≡ n

-- no rule before n has its right-hand side
abbrev pub IsNew : List (Rule ℕ) → ℕ → Type 0
IsNew rules n = (m : ℕ) → m < n → (rule_at rules m).right ≡ (rule_at rules n).right → ⊥

-- a right-hand side that is neither one label over states nor a lone state
pub record IsNested (r : Rule ℕ) : Type 0 where
  pub not_normal : IsNormalSide r.right → ⊥
  pub not_lone : IsLoneState r.right → ⊥

-- a lone state on the right-hand side, but not in a rule of the start, or while the start is in
-- some right-hand side
pub record IsBrokenChain (rules : List (Rule ℕ)) (r : Rule ℕ) : Type 0 where
  pub lone : IsLoneState r.right
  pub broken : (r.left ≡ 0 → ⊥) ⊎ StandsInSide rules 0

-- the right-hand side of rule n is that of an earlier rule, first of the rule with the number
-- `first`
pub record IsShared (rules : List (Rule ℕ)) (first n : ℕ) : Type 0 where
  pub shaped : IsShaped rules (rule_at rules n)
  pub position : ℕ
  pub numbered : first ≡ suc position
  pub before : position < n
  pub same : (rule_at rules position).right ≡ (rule_at rules n).right
  pub least : (m : ℕ) → m < position → (rule_at rules m).right ≡ (rule_at rules n).right → ⊥

-- the rule with this number is the first one at fault, and this is its fault
pub record IsFirstFault (rules : List (Rule ℕ)) (number : ℕ) (Fault : ℕ → Type 0) : Type 0 where
  pub position : ℕ
  pub numbered : number ≡ suc position
  pub below : position < length rules
  pub shaped : (m : ℕ) → m < position → IsShaped rules (rule_at rules m)
  pub new : (m : ℕ) → m < position → IsNew rules m
  pub fault : Fault position

-- what each fault says of the rules; numbers of rules begin at 1
abbrev pub IsFaultOf : List (Rule ℕ) → DeterminismFault → Type 0
IsFaultOf rules (Nested rule) = IsFirstFault rules rule (λ n. IsNested (rule_at rules n))
IsFaultOf rules (Chain rule) = IsFirstFault rules rule (λ n. IsBrokenChain rules (rule_at rules n))
IsFaultOf rules (Shared first second) = IsFirstFault rules second (IsShared rules first)
IsFaultOf rules OutOfMemory = Unit {0}
