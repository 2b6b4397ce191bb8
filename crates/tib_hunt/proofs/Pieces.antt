-- Rows are settled in two pieces.
use Rattle.std.proofs.Common.{◌≡◌, ℕ, ◌+◌, ◌<◌, List, [], ◌∷◌, ◌++◌, length, map, take, drop, append_assoc, refl, sym, ap, subst, ◌∙◌}
use Rattle.std.proofs.lemmas.List.{take-append-drop}
use Rattle.tib_lex.specs.Lists.{Each}
use Rattle.tib_lex.proofs.Lists.{each_append, each_left, each_right}
use Rattle.tib_workers.specs.declared.row.Row.{Row as ItemRow}
use Rattle.tib_hunt.specs.Divided.{MayBePlaced, AddsRules}
use Rattle.tib_hunt.specs.Known.{AreOn}
use Rattle.tib_hunt.specs.Numbered.{moved_to}
use Rattle.tib_expand.specs.Reading.{Reading}
use Rattle.tib_hunt.specs.Rows.{NumberedRow, IsRowBelow, read_row, read_rows}
use Rattle.tib_hunt.specs.Shelved.{placed_row}
use Rattle.tib_hunt.specs.declared.lookups.Ruled.{Ruled}
use Rattle.tib_expand.specs.declared.place.Place.{Place}
use Rattle.tib_hunt.proofs.Settling.{map_both}

rows_of_both : {R K E : Type 0} (read : (Place → K) → R → E) (at : ℕ → K) (xs ys : List (NumberedRow R)) → read_rows read at (xs ++ ys) ≡ read_rows read at xs ++ read_rows read at ys
rows_of_both read at [] ys = refl
rows_of_both read at (x ∷ xs) ys = ap (λ (l : List _). read_row read at x ++ l) (rows_of_both read at xs ys) ∙ sym (append_assoc (read_row read at x) (read_rows read at xs) (read_rows read at ys))

module _ {R T K E : Type 0} (reading : Reading K E R T) (positions : List (List ℕ)) (first : ℕ) (moved : List ℕ) where
  -- a piece of rows that may be placed may be placed
  pub piece_first : (rows front : List (ItemRow (Ruled R))) (n : ℕ) → front ≡ take n rows → MayBePlaced reading positions first moved rows → MayBePlaced reading positions first moved front
  piece_first rows front n is m =
      let parts = sym (take-append-drop n rows) in
      subst (MayBePlaced reading positions first moved) (sym is) (
        each_left (λ row. AreOn positions row.rules.at row.ends.items) (take n rows) (drop n rows) (subst (Each (λ row. AreOn positions row.rules.at row.ends.items)) parts m.0),
        each_left (IsRowBelow reading.places first (first + length moved)) (map (placed_row positions) (take n rows)) (map (placed_row positions) (drop n rows))
            (subst (Each (IsRowBelow reading.places first (first + length moved))) (ap (map (placed_row positions)) parts ∙ map_both (placed_row positions) (take n rows) (drop n rows)) m.1),
      )

  -- and so may the rest
  pub piece_second : (rows back : List (ItemRow (Ruled R))) (n : ℕ) → back ≡ drop n rows → MayBePlaced reading positions first moved rows → MayBePlaced reading positions first moved back
  piece_second rows back n is m =
      let parts = sym (take-append-drop n rows) in
      subst (MayBePlaced reading positions first moved) (sym is) (
        each_right (λ row. AreOn positions row.rules.at row.ends.items) (take n rows) (drop n rows) (subst (Each (λ row. AreOn positions row.rules.at row.ends.items)) parts m.0),
        each_right (IsRowBelow reading.places first (first + length moved)) (map (placed_row positions) (take n rows)) (map (placed_row positions) (drop n rows))
            (subst (Each (IsRowBelow reading.places first (first + length moved))) (ap (map (placed_row positions)) parts ∙ map_both (placed_row positions) (take n rows) (drop n rows)) m.1),
      )

  -- the rules of two pieces are those of the whole
  pub pieces_placed : (rows front back : List (ItemRow (Ruled R))) (n : ℕ) → front ≡ take n rows → back ≡ drop n rows → (old some more all : List T) → all ≡ some ++ more
      → AddsRules reading positions first moved old front some → AddsRules reading positions first moved [] back more → AddsRules reading positions first moved old rows all
  pieces_placed rows front back n is_front is_back old some more all is a b =
      let whole : front ++ back ≡ rows = ap (λ (l : List (ItemRow (Ruled R))). l ++ back) is_front ∙ ap (λ (l : List (ItemRow (Ruled R))). take n rows ++ l) is_back ∙ take-append-drop n rows in
      subst (λ (l : List T). AddsRules reading positions first moved old rows l) (sym is)
      (subst (λ (l : List (ItemRow (Ruled R))). AddsRules reading positions first moved old l (some ++ more)) whole (
        (λ at.
            map_both (reading.read_positions at) some more
            ∙ ap (λ (l : List E). l ++ map (reading.read_positions at) more) (a.0 at)
            ∙ ap (λ (l : List E). (map (reading.read_positions at) old ++ read_rows reading.read_places (λ k. at (moved_to first moved k)) (map (placed_row positions) front)) ++ l) (b.0 at)
            ∙ append_assoc (map (reading.read_positions at) old) (read_rows reading.read_places (λ k. at (moved_to first moved k)) (map (placed_row positions) front)) (read_rows reading.read_places (λ k. at (moved_to first moved k)) (map (placed_row positions) back))
            ∙ ap (λ (l : List E). map (reading.read_positions at) old ++ l)
            (sym (ap (read_rows reading.read_places (λ k. at (moved_to first moved k))) (map_both (placed_row positions) front back)
            ∙ rows_of_both reading.read_places (λ k. at (moved_to first moved k)) (map (placed_row positions) front) (map (placed_row positions) back)))),
        (λ bound f low old_low.
            each_append (λ rule. Each (λ k. k < bound) (reading.positions rule)) some more (a.1 bound f low old_low) (b.1 bound f low tt)),
      ))
