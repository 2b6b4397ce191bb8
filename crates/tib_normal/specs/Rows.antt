-- The sides of rules by their numbers, and the rules of a grammar's own states in its normal form.
use Rattle.std.specs.Prelude.{◌≡◌, ℕ, ◌+◌, ◌<◌, ◌≤◌, List, [], ◌∷◌, length, Some}
use Rattle.std.proofs.Common.{get_or}
use Rattle.tib_lex.specs.Lists.{Has, Ascends, total}
use Rattle.tib_cost.specs.Semiring.{most}
use Rattle.tib_cost.specs.Least.{IsLeast}
use Rattle.tib_grammar.specs.Sides.{label, hole, over, Side as SideFor}
use Rattle.tib_grammar.specs.Run.{rule_at}
use Rattle.tib_grammar.specs.declared.Rule.{Rule}
use Rattle.tib_normal.specs.declared.error.NormalError.{NormalError}
use Rattle.tib_normal.specs.declared.error.NormalError.TheVariants.{TooMany, OutOfMemory}
use Rattle.tib_normal.specs.NormalForm.{heads, first_inner, Reaches, IsNormalForm, rule_parts, normal_parts}
use Rattle.tib_normal.specs.Offers.{no_side}

-- the side that a list of numbers stands for: a label, and the states at its children
abbrev pub side_of : List ℕ → SideFor ℕ ℕ
side_of [] = over 0 []
side_of (f ∷ states) = over f states

-- the side with the number s
abbrev pub side_at : List (List ℕ) → ℕ → SideFor ℕ ℕ
side_at table s = side_of (get_or table s [])

-- rule n has the label f at its root, and its side has a number
pub record HasSide (states : ℕ) (rules : List (Rule ℕ)) (table : List (List ℕ))
    (n f s : ℕ) : Type 0 where
  pub below : s < length table
  pub is : side_at table s ≡ record {
    label = label f;
    kids = heads (first_inner states rules n) (rule_at rules n).right.kids;
  }

-- Each rule has the number of its side, in which each label below the root has become its state; a
-- chain rule has none. No side has two numbers.
pub record AreSides (states : ℕ) (rules : List (Rule ℕ)) (table : List (List ℕ))
    (numbers : List ℕ) : Type 0 where
  pub few : length table ≤ no_side
  pub full : (s : ℕ) → s < length table → 0 < length (get_or table s [])
  pub apart : (s t : ℕ) → s < length table → t < length table → side_at table s ≡ side_at table t →
      s ≡ t
  pub chain : (n p : ℕ) → n < length rules → (rule_at rules n).right.label ≡ hole p →
      get_or numbers n no_side ≡ no_side
  pub own : (n f : ℕ) → n < length rules → (rule_at rules n).right.label ≡ label f →
      HasSide states rules table n f (get_or numbers n no_side)

-- no two of the rules agree in both sides, and each has the least cost of its side
pub record AreRows (product : ℕ → ℕ → ℕ) (states : ℕ) (rules rows : List (Rule ℕ)) : Type 0 where
  pub distinct : Ascends (λ r s. r.left ≡ s.left → r.right ≡ s.right → ⊥) rows
  pub least : (r : Rule ℕ) → Has rows r →
      IsLeast (Reaches product states rules r.left r.right) (Some r.cost)

-- the rules of the first n states in the normal form: one for each side that has a cost
pub record AreOwn (product : ℕ → ℕ → ℕ) (states : ℕ) (rules : List (Rule ℕ)) (n : ℕ)
    (own : List (Rule ℕ)) : Type 0 where
  pub rows : AreRows product states rules own
  pub ascends : Ascends (λ r s. r.left ≤ s.left) own
  pub below : (r : Rule ℕ) → Has own r → r.left < n
  pub whole :
      (q : ℕ) (side : SideFor ℕ ℕ) (c : ℕ) → q < n → Reaches product states rules q side c → c ≤ most →
      (d : ℕ) × Has own (record { left = q; right = side; cost = d })

-- some rules of the normal form, which with these parts beside them have more parts than the limit
pub record AreTooMany (product : ℕ → ℕ → ℕ) (states : ℕ) (rules : List (Rule ℕ))
    (parts limit : ℕ) : Type 0 where
  pub rows : List (Rule ℕ)
  pub are : AreRows product states rules rows
  pub more : limit < parts + total rule_parts rows

-- where the answer is TooMany, it names the limit, and this holds
abbrev pub IfTooMany : NormalError → ℕ → Type 0 → Type 0
IfTooMany (TooMany n) limit P = (n ≡ limit) × P
IfTooMany OutOfMemory limit P = Unit {0}

-- each normal form has more parts than the limit
abbrev pub HasMoreParts : (ℕ → ℕ → ℕ) → ℕ → List (Rule ℕ) → ℕ → Type 0
HasMoreParts product states rules limit =
    (more : ℕ) (new : List (Rule ℕ)) → IsNormalForm product states rules more new →
    limit < normal_parts more new

-- there is a normal form that has at most as many parts as the limit
pub record HasFormWithin (product : ℕ → ℕ → ℕ) (states : ℕ) (rules : List (Rule ℕ))
    (limit : ℕ) : Type 0 where
  pub states_in_all : ℕ
  pub normal_rules : List (Rule ℕ)
  pub form : IsNormalForm product states rules states_in_all normal_rules
  pub within : normal_parts states_in_all normal_rules ≤ limit

-- two normal forms of the same rules have as many parts
abbrev pub AreOneSize : (ℕ → ℕ → ℕ) → Type 0
AreOneSize product =
    (states : ℕ) (rules : List (Rule ℕ)) (m : ℕ) (xs : List (Rule ℕ)) (n : ℕ) (ys : List (Rule ℕ)) → IsNormalForm product states rules m xs → IsNormalForm product states rules n ys →
    normal_parts m xs ≡ normal_parts n ys

-- it can't be that there is no normal form
abbrev pub HaveForms : (ℕ → ℕ → ℕ) → Type 0
HaveForms product =
    (states : ℕ) (rules : List (Rule ℕ)) →
    ((more : ℕ) (new : List (Rule ℕ)) → IsNormalForm product states rules more new → ⊥) → ⊥

-- no grammar has both: a normal form within the limit, and more parts than the limit in each normal
-- form
abbrev pub HaveNotBoth : (ℕ → ℕ → ℕ) → Type 0
HaveNotBoth product =
    (states : ℕ) (rules : List (Rule ℕ)) (limit : ℕ) → HasFormWithin product states rules limit →
    HasMoreParts product states rules limit → ⊥

-- it can't be that neither holds
abbrev pub HaveOne : (ℕ → ℕ → ℕ) → Type 0
HaveOne product =
    (states : ℕ) (rules : List (Rule ℕ)) (limit : ℕ) → (HasFormWithin product states rules limit → ⊥) → (HasMoreParts product states rules limit → ⊥) → ⊥
