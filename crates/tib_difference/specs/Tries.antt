-- The origins that are tried for a position of an order. Of a rule and a place at which its state
-- is that of the position's key, the position is at that place; at the places before it is any
-- position up to this one, and at those behind it any one below this one, whose key has the state
-- of the place.
use Rattle.std.specs.Prelude.{ℕ, ◌-◌, nat_eq, nat_lt, if◌then◌else◌, List, [], ◌∷◌, ◌++◌, length, map, take}
use Rattle.std.proofs.Common.{zero, suc, get_or}
use Rattle.tib_tree.specs.Trees.{count}
use Rattle.tib_grammar.specs.Sides.{holes}
use Rattle.tib_grammar.specs.Run.{rule_at}
use Rattle.tib_grammar.specs.declared.Rule.{Rule}
use Rattle.tib_key_edges.specs.Places.{places_from}
use Rattle.tib_difference.specs.Difference.{KeyOf, key_at}

-- the positions of the keys that have a state
abbrev pub positions_of : List KeyOf → ℕ → List ℕ
positions_of keys q = places_from 0 (λ k. nat_eq k.0 q) keys

-- the positions below n at the place i, where n is last at the place j
abbrev pub below_at : List ℕ → List KeyOf → ℕ → ℕ → ℕ → List ℕ
below_at states order n j i = if nat_eq i j then [] else positions_of (take n order) (get_or states i 0)

-- n itself, where it may be at the place i
abbrev pub itself_at : List ℕ → ℕ → ℕ → ℕ → List ℕ
itself_at states n j i = if nat_lt j i then [] else (if nat_eq (get_or states i 0) (get_or states j 0) then n ∷ [] else [])

-- the positions at the place i
abbrev pub choices_at : List ℕ → List KeyOf → ℕ → ℕ → ℕ → List ℕ
choices_at states order n j i = below_at states order n j i ++ itself_at states n j i

-- what is listed for each of some values, the last one first
abbrev pub backwards : {A B : Type 0} → (A → List B) → List A → List B
backwards f [] = []
backwards f (x ∷ xs) = backwards f xs ++ f x

-- some positions, each with one of these after them
abbrev pub grown : List ℕ → List ℕ → List (List ℕ)
grown ps choices = map (λ p. ps ++ p ∷ []) choices

-- the lists that begin with some positions, over this many places behind them
abbrev pub completions : (ℕ → List ℕ) → ℕ → List ℕ → List (List ℕ)
completions at zero ps = ps ∷ []
completions at (suc m) ps = backwards (completions at m) (grown ps (at (length ps)))

-- the lists over a number of places that begin with some of these
abbrev pub remaining : (ℕ → List ℕ) → ℕ → List (List ℕ) → List (List ℕ)
remaining at rank pss = backwards (λ ps. completions at (rank - length ps) ps) pss

-- these lists with a rule
abbrev pub behind_rule : ℕ → List (List ℕ) → List (ℕ × List ℕ)
behind_rule r pss = map (λ ps. (r, ps)) pss

-- the states of a rule
abbrev pub states_in : List (Rule ℕ) → ℕ → List ℕ
states_in one r = holes (rule_at one r).right.kids

-- all that are tried for a rule and a place
abbrev pub tries_at : List (Rule ℕ) → List KeyOf → ℕ → ℕ → ℕ → List (ℕ × List ℕ)
tries_at one order n r j = behind_rule r (completions (choices_at (states_in one r) order n j) (length (states_in one r)) [])

-- the places at which some states are q
abbrev pub places_with : ℕ → List ℕ → List ℕ
places_with q states = places_from 0 (λ p. nat_eq p q) states

-- the first k rules and their places with the state q
abbrev pub users_of : List (Rule ℕ) → ℕ → ℕ → List (ℕ × ℕ)
users_of one q zero = []
users_of one q (suc k) = users_of one q k ++ map (λ j. (k, j)) (places_with q (states_in one k))

-- all that are tried for some rules, each with a place
abbrev pub tries_all : List (Rule ℕ) → List KeyOf → ℕ → List (ℕ × ℕ) → List (ℕ × List ℕ)
tries_all one order n [] = []
tries_all one order n (u ∷ us) = tries_at one order n u.0 u.1 ++ tries_all one order n us

-- all that are tried for a position
abbrev pub tries : List (Rule ℕ) → List KeyOf → ℕ → List (ℕ × List ℕ)
tries one order n = tries_all one order n (users_of one (key_at order n).0 (length one))

-- a rule without states, over no positions
abbrev pub leaf_try : ℕ → Rule ℕ → List (ℕ × List ℕ)
leaf_try r rule = if nat_eq (count rule.right.kids) 0 then (r, []) ∷ [] else []

-- the rules without states, of some rules of which the first is r
abbrev pub leaves_from : ℕ → List (Rule ℕ) → List (ℕ × List ℕ)
leaves_from r [] = []
leaves_from r (rule ∷ one) = leaf_try r rule ++ leaves_from (suc r) one

abbrev pub leaves_of : List (Rule ℕ) → List (ℕ × List ℕ)
leaves_of one = leaves_from 0 one
