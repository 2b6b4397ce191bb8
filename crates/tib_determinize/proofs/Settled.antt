-- Rules over positions.
use Rattle.std.specs.Prelude.{◌≡◌, ℕ, List, [], ◌∷◌, map, refl, slice_index}
use Rattle.std.proofs.Common.{ap, sym, ◌∙◌}
use Rattle.tib_grammar.specs.Sides.{Side, label, over}
use Rattle.tib_grammar.specs.GrammarOf.{named_rule}
use Rattle.tib_grammar.specs.Positions.{positions_of}
use Rattle.tib_expand.specs.EdgeLists.{position_of}
use Rattle.tib_expand.specs.declared.place.Place.TheVariants.{Known}
use Rattle.tib_determinize.specs.declared.vector_rule.VectorRule.{VectorRule}
use Rattle.tib_determinize.specs.VectorRules.{places_of, read_places}
use Rattle.tib_determinize.proofs.Edges.{map_leaves, states_over_are}

-- the settled rule reads as the rule over places
pub settled_reads :
    {K : Type 0} (at : ℕ → K) (r : VectorRule) (ends : List ℕ) (s : Side ℕ ℕ) → s ≡ over r.label r.positions.items →
    named_rule at (record { left = slice_index ends r.end; right = s; cost = r.cost }) ≡ read_places (λ place. at (position_of ends place)) r
settled_reads at r ends s e =
    ap (λ (x : Side ℕ ℕ). named_rule at (record { left = slice_index ends r.end; right = x; cost = r.cost })) e
    ∙ ap (λ ks. record { left = at (slice_index ends r.end); right = record { label = label r.label; kids = ks }; cost = r.cost }) (map_leaves at r.positions.items)

known_are : (ends ps : List ℕ) → map (position_of ends) (map (λ p. Known p) ps) ≡ ps
known_are ends [] = refl
known_are ends (p ∷ ps) = ap (λ xs. p ∷ xs) (known_are ends ps)

-- and has its positions
pub settled_positions :
    (r : VectorRule) (ends : List ℕ) (s : Side ℕ ℕ) → s ≡ over r.label r.positions.items →
    positions_of (record { left = slice_index ends r.end; right = s; cost = r.cost }) ≡ map (position_of ends) (places_of r)
settled_positions r ends s e =
    ap (λ (x : Side ℕ ℕ). positions_of (record { left = slice_index ends r.end; right = x; cost = r.cost })) e
    ∙ ap (λ xs. slice_index ends r.end ∷ xs) (states_over_are r.label r.positions.items ∙ sym (known_are ends r.positions.items))
