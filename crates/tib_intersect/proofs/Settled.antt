-- Rules over positions.
use Rattle.std.specs.Prelude.{◌≡◌, ℕ, ◌+◌, ◌<◌, ◌≤◌, List, [], ◌∷◌, ◌++◌, length, map, take, drop, refl, slice_index}
use Rattle.std.proofs.Common.{zero, suc, arith, ap, ◌∙◌}
use Rattle.tib_tree.specs.Trees.{none, tree, relabel}
use Rattle.tib_grammar.specs.Sides.{label, hole, symbol_map, leaves, over}
use Rattle.tib_grammar.specs.GrammarOf.{named_rule}
use Rattle.tib_grammar.specs.declared.Rule.{Rule}
use Rattle.tib_grammar.specs.Positions.{states_in, positions_of}
use Rattle.tib_expand.specs.declared.place.Place.{Place}
use Rattle.tib_expand.specs.EdgeLists.{position_of}
use Rattle.tib_key_edges.specs.Ends.{ends_from}
use Rattle.tib_intersect.specs.declared.pair_rule.PairRule.{PairRule}
use Rattle.tib_intersect.specs.PairRules.{places_of, read_places}

-- the positions of adjacent ends
drop_at : (ends : List ℕ) (i : ℕ) → i < length ends → drop i ends ≡ slice_index ends i ∷ drop (suc i) ends
drop_at [] i h = absurd (omega arith)
drop_at (x ∷ ends) zero h = refl
drop_at (x ∷ ends) (suc i) h = drop_at ends i (omega arith)

-- ends side by side have the positions of a slice
pub positions_are : (ends : List ℕ) (i k : ℕ) → i + k ≤ length ends → take k (drop i ends) ≡ map (position_of ends) (ends_from i k)
positions_are ends i zero h = refl
positions_are ends i (suc k) h =
    ap (λ xs. take (suc k) xs) (drop_at ends i (omega arith)) ∙ ap (λ xs. slice_index ends i ∷ xs) (positions_are ends (suc i) k (omega arith))

length-ends : (f : Place → ℕ) (i k : ℕ) → length (map f (ends_from i k)) ≡ k
length-ends f i zero = refl
length-ends f i (suc k) = ap suc (length-ends f (suc i) k)

-- as many positions as ends
pub length-positions : (ends : List ℕ) (i k : ℕ) → length (map (position_of ends) (ends_from i k)) ≡ k
length-positions ends i k = length-ends (position_of ends) i k

relabel-leaves : {K : Type 0} (g : ℕ → K) (qs : List ℕ) → relabel (symbol_map {A = ℕ} g) (leaves qs) ≡ leaves (map g qs)
relabel-leaves g [] = refl
relabel-leaves g (q ∷ qs) = ap (tree (hole (g q)) none) (relabel-leaves g qs)

map-twice : {A B C : Type 0} (f : A → B) (g : B → C) (xs : List A) → map g (map f xs) ≡ map (λ x. g (f x)) xs
map-twice f g [] = refl
map-twice f g (x ∷ xs) = ap (λ ys. g (f x) ∷ ys) (map-twice f g xs)

states_in-leaves : (qs : List ℕ) → states_in (leaves qs) ≡ qs
states_in-leaves [] = refl
states_in-leaves (q ∷ qs) = ap (λ xs. q ∷ xs) (states_in-leaves qs)

-- the settled rule reads as the rule over places
pub settled_reads :
    {K : Type 0} (at : ℕ → K) (r : PairRule) (ends qs : List ℕ) (s : Rule ℕ) → qs ≡ map (position_of ends) (ends_from r.first_end r.rank) → s ≡ record { left = r.position; right = over r.label qs; cost = r.cost } →
    named_rule at s ≡ read_places (λ place. at (position_of ends place)) r
settled_reads at r ends qs s are e =
    ap (named_rule at) e
    ∙ ap (λ ks. record { left = at r.position; right = record { label = label r.label; kids = ks }; cost = r.cost }) (relabel-leaves at qs ∙ ap leaves (ap (map at) are ∙ map-twice (position_of ends) at (ends_from r.first_end r.rank)))

append_nothing : (xs : List ℕ) → xs ++ [] ≡ xs
append_nothing [] = refl
append_nothing (x ∷ xs) = ap (λ ys. x ∷ ys) (append_nothing xs)

-- the settled rule has the positions of its ends
pub settled_positions :
    (r : PairRule) (ends qs : List ℕ) (s : Rule ℕ) → qs ≡ map (position_of ends) (ends_from r.first_end r.rank) → s ≡ record { left = r.position; right = over r.label qs; cost = r.cost } →
    positions_of s ≡ map (position_of ends) (places_of r)
settled_positions r ends qs s are e =
    ap positions_of e ∙ ap (λ xs. r.position ∷ xs) (append_nothing (states_in (leaves qs)) ∙ states_in-leaves qs ∙ are)
