-- Rules in slots, by the state at one child place.
use Rattle.std.specs.Prelude.{◌≡◌, ℕ, ◌<◌, ◌≤◌, ◌+◌, ◌%◌, List, [], ◌∷◌, length, map, get_or, slice_range}
use Rattle.std.specs.Global.{Vec}
use Rattle.tib_lex.specs.Lists.{Has}
use Rattle.tib_tree.specs.Trees.{count}
use Rattle.tib_grammar.specs.Sides.{holes}
use Rattle.tib_grammar.specs.Run.{rule_at}
use Rattle.tib_grammar.specs.declared.Rule.{Rule}
use Rattle.tib_weigh.specs.declared.ready.Ready.{Ready}

-- the state at the child place j of the rule at p
abbrev pub state_below : List (Rule ℕ) → ℕ → ℕ → ℕ
state_below rules p j = get_or (holes (rule_at rules p).right.kids) j 0

-- the rule at p has n states
pub record IsRuleOver (rules : List (Rule ℕ)) (n p : ℕ) : Type 0 where
  pub below : p < length rules
  pub many : count (rule_at rules p).right.kids ≡ n

-- the rules at these positions have n states each
abbrev pub AreRules : List (Rule ℕ) → ℕ → List ℕ → Type 0
AreRules rules n ps = (i : ℕ) → i < length ps → IsRuleOver rules n (get_or ps i 0)

-- the rules at p and q have the same states at all of n places but j
abbrev pub AgreeBeside : List (Rule ℕ) → ℕ → ℕ → ℕ → ℕ → Type 0
AgreeBeside rules n j p q = (i : ℕ) → i < n → (i ≡ j → ⊥) → state_below rules p i ≡ state_below rules q i

-- r is the rule at its position, made ready for the child place j; the rule of its rest has the
-- same states beside j
pub record IsReady (rules : List (Rule ℕ)) (n j : ℕ) (r : Ready) : Type 0 where
  pub left : r.left ≡ (rule_at rules r.position).left
  pub cost : r.cost ≡ (rule_at rules r.position).cost
  pub state : r.state ≡ state_below rules r.position j
  pub rest : IsRuleOver rules n r.rest
  pub beside : AgreeBeside rules n j r.rest r.position

abbrev pub lists_of : List (Vec Ready) → List (List Ready)
lists_of slots = map (λ s. s.items) slots

-- the slots that start at these places, each with what comes before the next one's start
abbrev pub slots_of : List ℕ → List Ready → List (List Ready)
slots_of [] rs = []
slots_of (a ∷ []) rs = []
slots_of (a ∷ b ∷ more) rs = slice_range rs a b ∷ slots_of (b ∷ more) rs

-- none of these places is after the next one, nor after the first n
pub record IsParting (starts : List ℕ) (n : ℕ) : Type 0 where
  pub ordered : (s : ℕ) → s + 1 < length starts → get_or starts s 0 ≤ get_or starts (s + 1) 0
  pub within : (s : ℕ) → s < length starts → get_or starts s 0 ≤ n

-- the slot of a state
abbrev pub slot_at : List (List Ready) → ℕ → List Ready
slot_at slots q = get_or slots (q % length slots) []

-- the rule at p is in a list
pub record Stands (rs : List Ready) (p : ℕ) : Type 0 where
  pub ready : Ready
  pub has : Has rs ready
  pub is : ready.position ≡ p

-- each rule at these positions is in the slot of its state at the child place j
abbrev pub HoldsAll : List (Rule ℕ) → ℕ → List ℕ → List (List Ready) → Type 0
HoldsAll rules j ps slots = (p : ℕ) → Has ps p → Stands (slot_at slots (state_below rules p j)) p

-- nothing else is in a slot
abbrev pub HoldsOnly : List (Rule ℕ) → ℕ → ℕ → List ℕ → List (List Ready) → Type 0
HoldsOnly rules n j ps slots = (s : ℕ) (r : Ready) → Has (get_or slots s []) r → Has ps r.position × IsReady rules n j r
