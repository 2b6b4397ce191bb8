-- What sides carry.
use Rattle.std.specs.Prelude.{◌≡◌, ℕ, ◌<◌, List, [], ◌∷◌, ◌++◌, map, refl}
use Rattle.std.proofs.Common.{ap, sym, ◌∙◌}
use Rattle.std.proofs.lemmas.List.{map-append}
use Rattle.tib_lex.specs.Lists.{Each}
use Rattle.tib_lex.proofs.Lists.{map_twice}
use Rattle.tib_tree.specs.Trees.{Trees, none, tree, only, relabel}
use Rattle.tib_grammar.specs.Sides.{Symbol, label, hole, Side as SideFor, symbol_map, side_map, holes, holes_of, HolesAreLeaves}
use Rattle.tib_grammar.specs.declared.Rule.{Rule}
use Rattle.tib_grammar.specs.GrammarOf.{named_rule}
use Rattle.tib_expand.specs.declared.place.Place.TheVariants.{End}
use Rattle.tib_expand.specs.EdgeLists.{IsWithin, position_of}
use Rattle.std.specs.Prelude.{slice_index}
use Rattle.tib_key_edges.proofs.MappedSides.{side_twice}
use Rattle.tib_apply.specs.KeyRules.{carried, places_of, read_places, positions_of}

-- where holes are leaves, what is carried is what the holes carry
pub carried_holes : {P : Type 0} (ts : Trees (Symbol ℕ P)) → HolesAreLeaves ts → carried ts ≡ holes ts
carried_holes none h = refl
carried_holes (tree (label f) kids rest) h = ap (λ xs. xs ++ carried rest) (carried_holes kids h.0) ∙ ap (λ xs. holes kids ++ xs) (carried_holes rest h.1)
carried_holes (tree (hole p) none rest) h = ap (λ xs. p ∷ xs) (carried_holes rest h)
carried_holes (tree (hole p) (tree s kids more) rest) h = absurd h

each_append : {A : Type 0} (Q : A → Type 0) (xs ys : List A) → Each Q xs → Each Q ys → Each Q (xs ++ ys)
each_append Q [] ys a b = b
each_append Q (x ∷ xs) ys a b = (a.0, each_append Q xs ys a.1 b)

each_first : {A : Type 0} (Q : A → Type 0) (xs ys : List A) → Each Q (xs ++ ys) → Each Q xs
each_first Q [] ys h = tt
each_first Q (x ∷ xs) ys h = (h.0, each_first Q xs ys h.1)

each_other : {A : Type 0} (Q : A → Type 0) (xs ys : List A) → Each Q (xs ++ ys) → Each Q ys
each_other Q [] ys h = h
each_other Q (x ∷ xs) ys h = each_other Q xs ys h.1

-- what holds of all that is carried holds of what the holes carry
pub each_hole : {P : Type 0} (Q : P → Type 0) (ts : Trees (Symbol ℕ P)) → Each Q (carried ts) → Each Q (holes ts)
each_hole Q none h = tt
each_hole Q (tree (label f) kids rest) h =
    each_append Q (holes kids) (holes rest) (each_hole Q kids (each_first Q (carried kids) (carried rest) h)) (each_hole Q rest (each_other Q (carried kids) (carried rest) h))
each_hole Q (tree (hole p) kids rest) h = (h.0, each_hole Q rest (each_other Q (carried kids) (carried rest) h.1))

-- what a mapped side carries
pub carried_mapped : {P Q : Type 0} (f : P → Q) (ts : Trees (Symbol ℕ P)) → carried (relabel (symbol_map f) ts) ≡ map f (carried ts)
carried_mapped f none = refl
carried_mapped f (tree (label g) kids rest) =
    ap (λ xs. xs ++ carried (relabel (symbol_map f) rest)) (carried_mapped f kids) ∙ ap (λ xs. map f (carried kids) ++ xs) (carried_mapped f rest) ∙ sym (map-append f (carried kids) (carried rest))
carried_mapped f (tree (hole p) kids rest) =
    ap (λ xs. f p ∷ (xs ++ carried (relabel (symbol_map f) rest))) (carried_mapped f kids)
    ∙ ap (λ xs. f p ∷ (map f (carried kids) ++ xs)) (carried_mapped f rest)
    ∙ ap (λ xs. f p ∷ xs) (sym (map-append f (carried kids) (carried rest)))

-- rules over positions

each_end : (known many : ℕ) (is : List ℕ) → Each (IsWithin known many) (map End is) → Each (λ i. i < many) is
each_end known many [] h = tt
each_end known many (i ∷ is) h = (h.0, each_end known many is h.1)

-- the ends in a rule are those of the list
pub ends_within : (r : Rule ℕ) (known many : ℕ) → Each (IsWithin known many) (places_of r) → Each (λ i. i < many) (holes_of r.right)
ends_within r known many h = each_hole (λ i. i < many) (only r.right) (each_end known many (carried (only r.right)) h.1)

module _ (r : Rule ℕ) (ends : List ℕ) (s : SideFor ℕ ℕ) (is : s ≡ side_map (slice_index ends) r.right) where
  -- the settled rule reads as the rule over places
  pub settled_reads : {K : Type 0} (at : ℕ → K) → named_rule at (record { left = r.left; right = s; cost = r.cost }) ≡ read_places (λ place. at (position_of ends place)) r
  settled_reads at =
      ap (λ x. record { left = at r.left; right = side_map at x; cost = r.cost }) is ∙ ap (λ x. record { left = at r.left; right = x; cost = r.cost }) (side_twice (slice_index ends) at r.right)

  -- the settled rule has the positions of its places
  pub settled_positions : positions_of (record { left = r.left; right = s; cost = r.cost }) ≡ map (position_of ends) (places_of r)
  settled_positions =
      ap (λ (x : SideFor ℕ ℕ). r.left ∷ carried (only x)) is
      ∙ ap (λ (xs : List ℕ). r.left ∷ xs) (carried_mapped (slice_index ends) (only r.right) ∙ sym (map_twice (position_of ends) End (carried (only r.right))))
