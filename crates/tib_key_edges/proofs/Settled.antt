-- Rules over places with positions in place of their ends.
use Rattle.std.specs.Prelude.{◌≡◌, ℕ, ◌+◌, ◌<◌, ◌≤◌, List, [], ◌∷◌, ◌++◌, length, map, refl, slice_index}
use Rattle.std.proofs.Common.{Err, suc, arith, ap, sym, ◌∙◌, append_assoc}
use Rattle.std.proofs.lemmas.List.{length-append}
use Rattle.tib_lex.specs.Lists.{Each}
use Rattle.tib_lex.proofs.Lists.{append_nil, map_twice}
use Rattle.std.specs.declared.result.Result.{Result}
use Rattle.tib_tree.specs.declared.preorder.ShapeError.{ShapeError}
use Rattle.tib_tree.specs.declared.preorder.ShapeError.TheVariants.{NotATree, OutOfMemory}
use Rattle.tib_tree.specs.Trees.{Trees, none, tree, only, relabel, count, preorder, preorder_of}
use Rattle.tib_grammar.specs.Sides.{Symbol, label, hole, Side as SideFor, holes, holes_of, HolesAreLeaves, symbol_map, side_map}
use Rattle.tib_grammar.specs.Items.{pairs_of}
use Rattle.tib_grammar.specs.declared.Item.{Item}
use Rattle.tib_grammar.specs.Positions.{states_in}
use Rattle.tib_grammar.proofs.Holes.{side_same}
use Rattle.tib_expand.specs.declared.place.Place.TheVariants.{End}
use Rattle.tib_expand.specs.EdgeLists.{IsWithin, position_of}
use Rattle.tib_key_edges.proofs.Ends.{ends_fit}
use Rattle.tib_expand.specs.Reading.{ReadsAlike, HasPositions}
use Rattle.tib_key_edges.specs.declared.side_rule.SideRule.{SideRule}
use Rattle.tib_key_edges.specs.SideRules.{numbered, numbered_root, numbered_side, places_of, side_reading}
use Rattle.tib_key_edges.specs.SideRuleLaws.{side_numbers, map_append}
use Rattle.tib_key_edges.specs.Settling.{settled_pairs}
use Rattle.tib_key_edges.proofs.MappedSides.{side_twice}

module _ {P : Type 0} (ends : List ℕ) where
  count_numbered : (n : ℕ) (ts : Trees (Symbol ℕ P)) → count (relabel (symbol_map {A = ℕ} (slice_index ends)) (numbered n ts)) ≡ count ts
  count_numbered n none = refl
  count_numbered n (tree (label f) kids rest) = ap suc (count_numbered (n + length (holes kids)) rest)
  count_numbered n (tree (hole p) kids rest) = ap suc (count_numbered (suc n) rest)

  -- numbered sides in preorder, before others
  numbered_settles :
      (n : ℕ) (ts : Trees (Symbol ℕ P)) (xs : List (Symbol ℕ P × ℕ)) → HolesAreLeaves ts →
      settled_pairs ends n (preorder ts ++ xs) ≡ preorder (relabel (symbol_map (slice_index ends)) (numbered n ts)) ++ settled_pairs ends (n + length (holes ts)) xs
  numbered_settles n none xs h =
      let e : n ≡ n + 0 = omega arith in
      ap (λ m. settled_pairs ends m xs) e
  numbered_settles n (tree (label f) kids rest) xs h =
      let k : ℕ = length (holes kids) in
      let inner = preorder (relabel (symbol_map {A = ℕ} (slice_index ends)) (numbered n kids)) in
      let outer = preorder (relabel (symbol_map {A = ℕ} (slice_index ends)) (numbered (n + k) rest)) in
      let long : (n + k) + length (holes rest) ≡ n + length (holes kids ++ holes rest) = omega (arith, length-append (holes kids) (holes rest)) in
      ap (λ ys. (label f, count kids) ∷ settled_pairs ends n ys) (append_assoc (preorder kids) (preorder rest) xs)
      ∙ ap (λ ys. (label f, count kids) ∷ ys) (numbered_settles n kids (preorder rest ++ xs) h.0)
      ∙ ap (λ ys. (label f, count kids) ∷ (inner ++ ys)) (numbered_settles (n + k) rest xs h.1)
      ∙ ap (λ m. (label f, count kids) ∷ (inner ++ (outer ++ settled_pairs ends m xs))) long
      ∙ ap (λ ys. (label f, count kids) ∷ ys) (sym (append_assoc inner outer (settled_pairs ends (n + length (holes kids ++ holes rest)) xs)))
      ∙ ap (λ c. (label f, c) ∷ ((inner ++ outer) ++ settled_pairs ends (n + length (holes kids ++ holes rest)) xs)) (sym (count_numbered n kids))
  numbered_settles n (tree (hole p) none rest) xs h =
      let outer = preorder (relabel (symbol_map {A = ℕ} (slice_index ends)) (numbered (suc n) rest)) in
      let long : suc n + length (holes rest) ≡ n + suc (length (holes rest)) = omega arith in
      ap (λ ys. (hole (slice_index ends n), 0) ∷ ys) (numbered_settles (suc n) rest xs h)
      ∙ ap (λ m. (hole (slice_index ends n), 0) ∷ (outer ++ settled_pairs ends m xs)) long
  numbered_settles n (tree (hole p) (tree s kids more) rest) xs h = absurd h

  -- the side with positions in its holes has this preorder
  pub settles : (n : ℕ) (side : SideFor ℕ P) → HolesAreLeaves (only side) → preorder_of (side_map (slice_index ends) (numbered_side n side)) ≡ settled_pairs ends n (preorder_of side)
  settles n side h = by side.label side.kids h
    where
      by :
          (s : Symbol ℕ P) (kids : Trees (Symbol ℕ P)) → HolesAreLeaves (tree s kids none) →
          preorder_of (side_map (slice_index ends) (numbered_root n s kids)) ≡ settled_pairs ends n ((s, count kids) ∷ preorder kids)
      by (label f) kids h =
          ap (λ c. (label f, c) ∷ preorder (relabel (symbol_map (slice_index ends)) (numbered n kids))) (count_numbered n kids)
          ∙ ap (λ ys. (label f, count kids) ∷ ys)
          (sym (append_nil (preorder (relabel (symbol_map (slice_index ends)) (numbered n kids)))) ∙ sym (numbered_settles n kids [] h.0) ∙ ap (settled_pairs ends n) (append_nil (preorder kids)))
      by (hole p) none h = refl
      by (hole p) (tree s kids more) h = absurd h

  -- a side whose items are these is that side
  pub side_settled :
      (n : ℕ) (side : SideFor ℕ P) (items : List (Item P)) (settled : List (Item ℕ)) (s : SideFor ℕ ℕ) → HolesAreLeaves (only side) → pairs_of items ≡ preorder_of side →
      pairs_of settled ≡ settled_pairs ends n (pairs_of items) → preorder_of s ≡ pairs_of settled → s ≡ side_map (slice_index ends) (numbered_side n side)
  side_settled n side items settled s leaves same made is =
      side_same s (side_map (slice_index ends) (numbered_side n side)) (is ∙ made ∙ ap (settled_pairs ends n) same ∙ sym (settles n side leaves))

-- the states of a side with other names
pub states_map : (g : ℕ → ℕ) (ts : Trees (Symbol ℕ ℕ)) → states_in (relabel (symbol_map g) ts) ≡ map g (states_in ts)
states_map g none = refl
states_map g (tree (label x) kids rest) =
    ap (λ xs. xs ++ states_in (relabel (symbol_map g) rest)) (states_map g kids) ∙ ap (λ xs. map g (states_in kids) ++ xs) (states_map g rest)
    ∙ sym (map_append g (states_in kids) (states_in rest))
states_map g (tree (hole q) kids rest) =
    ap (λ xs. g q ∷ xs)
    (ap (λ xs. xs ++ states_in (relabel (symbol_map g) rest)) (states_map g kids) ∙ ap (λ xs. map g (states_in kids) ++ xs) (states_map g rest)
    ∙ sym (map_append g (states_in kids) (states_in rest)))

-- the ends of a rule whose places are within are all there
pub ends_there : {H : Type 0} (r : SideRule H) (known many : ℕ) → Each (IsWithin known many) (places_of r) → 0 < length (holes_of r.side.now) → r.first_end + length (holes_of r.side.now) ≤ many
ends_there r known many within some = ends_fit known many r.first_end (length (holes_of r.side.now)) within.1 some

module _ {H : Type 0} (r : SideRule H) (ends : List ℕ) (s : SideFor ℕ ℕ) (is : s ≡ side_map (slice_index ends) (numbered_side r.first_end r.side.now)) where
  -- a rule with the settled side on its right reads as the rule over places
  pub settled_reads : {K : Type 0} → ReadsAlike (side_reading K H) ends r (record { left = r.position; right = s; cost = r.cost })
  settled_reads at =
      ap (λ t. record { left = at r.position; right = side_map at t; cost = r.cost }) is
      ∙ ap (λ t. record { left = at r.position; right = t; cost = r.cost }) (side_twice (slice_index ends) at (numbered_side r.first_end r.side.now))

  -- and has the positions of its ends
  pub settled_positions : (K : Type 0) → HasPositions (side_reading K H) ends r (record { left = r.position; right = s; cost = r.cost })
  settled_positions K =
      let numbers = states_in (only (numbered_side r.first_end r.side.now)) in
      ap (λ t. r.position ∷ states_in (only t)) is
      ∙ ap (λ xs. r.position ∷ xs)
      (states_map (slice_index ends) (only (numbered_side r.first_end r.side.now)) ∙ sym (map_twice (position_of ends) End numbers) ∙ ap (map (position_of ends)) (side_numbers r.first_end r.side.now))

-- the items of a tree are not refused
pub no_fault :
    {T : Type 0} (r : Result T ShapeError) (Is : SideFor ℕ ℕ → Type 0) (e : ShapeError) → r ≡ Err e → (r ≡ Err NotATree → (s : SideFor ℕ ℕ) → Is s → ⊥) → (r ≡ Err OutOfMemory → ⊥) →
    (s : SideFor ℕ ℕ) → Is s → ⊥
no_fault r Is NotATree at not_a_tree no_memory s is = not_a_tree at s is
no_fault r Is OutOfMemory at not_a_tree no_memory s is = no_memory at
