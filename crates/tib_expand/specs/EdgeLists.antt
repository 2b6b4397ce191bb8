-- Lists of edges, each with its origin, and rules that stand for them.
use Rattle.std.specs.Prelude.{◌≡◌, ℕ, ◌+◌, ◌<◌, ◌^◌, List, [], ◌∷◌, map, length, slice_index, slice_index_or}
use Rattle.tib_lex.specs.Lists.{Has, Each, Distinct, Along, total}
use Rattle.tib_expand.specs.declared.place.Place.{Place}
use Rattle.tib_expand.specs.declared.place.Place.TheVariants.{Known, End}

-- The list has one value for each origin that gives a value, and no other: a value is in it as
-- often as origins give it, in any order.
pub record Lists {O A : Type 0} (Gives : O → A → Type 0) (xs : List A) : Type 0 where
  pub origins : List O
  pub once : Distinct origins
  pub given : Along Gives origins xs
  pub whole : (o : O) (x : A) → Gives o x → Has origins o

-- the key at a place, over an order and a list of ends
abbrev pub key_at : {K : Type 0} → K → List K → List K → Place → K
key_at d order ends (Known p) = slice_index_or order p d
key_at d order ends (End i) = slice_index_or ends i d

-- the place is a position of an order of this length, or an end of a list of this length
abbrev pub IsWithin : ℕ → ℕ → Place → Type 0
IsWithin positions ends (Known p) = p < positions
IsWithin positions ends (End i) = i < ends

-- the position of a place, where the positions of the ends are given
abbrev pub position_of : List ℕ → Place → ℕ
position_of ends (Known p) = p
position_of ends (End i) = slice_index ends i

-- k is an end of one of the edges
abbrev pub IsEnd : {K O E : Type 0} → (O → E → Type 0) → (E → List K) → K → Type 0
IsEnd {K} {O} {E} edge ends_of k = (o : O) × (e : E) × edge o e × Has (ends_of e) k

-- the edges have more parts than the budget, however they are listed
abbrev pub Exceeds : {O E : Type 0} → (O → E → Type 0) → (E → ℕ) → ℕ → Type 0
Exceeds {O} {E} edge parts_of budget = (es : List E) → Lists edge es → budget < total parts_of es

-- The rules, read over the order and the ends, are the edges, and `parts` are the parts of these;
-- each place in the rules is within.
pub record AreListed {K O E R : Type 0} (edge : O → E → Type 0) (parts_of : E → ℕ) (places : R → List Place)
    (read : (Place → K) → R → E) (order ends : List K) (rules : List R) (parts : ℕ) : Type 0 where
  pub few : length ends < 2 ^ 32
  pub within : Each (λ rule. Each (IsWithin (length order) (length ends)) (places rule)) rules
  pub edges : (d : K) → Lists edge (map (read (key_at d order ends)) rules)
  pub counted : (d : K) → parts ≡ total parts_of (map (read (key_at d order ends)) rules)
