-- What several workers gathered is a whole round; where rows leave an item too little, no reached
-- set is within the limit.
use Rattle.std.proofs.Common.{◌≡◌, ◌⊎◌, inl, inr, ℕ, zero, suc, ◌+◌, ◌-◌, ◌<◌, ◌≤◌, Bool, true, List, [], ◌∷◌, ◌++◌, Option, Some, None, length, map, take, get_or, slice_get, length-append, append_assoc, append-nil, refl, sym, ap, subst, ◌∙◌, arith}
use Rattle.std.specs.Prelude.{slice_index_or}
use Rattle.tib_lex.specs.Lists.{Has, Distinct, Along, total}
use Rattle.tib_lex.proofs.Lists.{total_append}
use Rattle.std.proofs.lemmas.List.{take_more}
use Rattle.tib_table.specs.Known.{on, Names, AreShelves}
use Rattle.tib_table.specs.declared.number.Number.{Number}
use Rattle.tib_workers.specs.Rows.{NameOn, AreRowsFrom, IsSlot, AreSlots, LeaveTooLittle, parts_in, slot_parts, parts_of_slots}
use Rattle.tib_workers.specs.declared.row.Row.{Row}
use Rattle.tib_workers.proofs.Rowing.{parts_append}
use Rattle.tib_expand.specs.EdgeLists.{Lists, Exceeds, IsEnd, key_at}
use Rattle.tib_expand.specs.Reached.{Exploration, AreEdges, IsBeyond, Leads}
use Rattle.tib_expand.specs.Reading.{Reading}
use Rattle.tib_hunt.specs.Known.{NameEnds}
use Rattle.tib_hunt.specs.declared.lookups.Ruled.{Ruled}
use Rattle.tib_hunt.specs.Held.{IsBetween, edges_so_far}
use Rattle.tib_hunt.specs.RoundLaw.{IsLackedAt, IsOutcome}
use Rattle.tib_hunt.specs.Shelved.{IsKnownRow, edges_of_rows, AreWorked, AreApart}
use Rattle.tib_hunt.specs.Jobs.{items_in, IsLackedEnd, GivesEdges, ItemExceeds}
use Rattle.tib_expand.proofs.Reaching.{Laws, later, later_is, fewer_parts, more_parts}
use Rattle.tib_hunt.proofs.Holding.{leads_on}
use Rattle.tib_expand.proofs.Members.{Lists-parts, Lists-to, total_fewer}
use Rattle.tib_hunt.proofs.OnShelves.{got_has}
use Rattle.tib_hunt.proofs.WrittenRuns.{written_down}
use Rattle.tib_hunt.proofs.KnownEnds.{named_of, split_named, split_either}

module _ {K : Type 0} where
  place_of : (ks : List K) (k : K) → Has ks k → (n : ℕ) × (slice_get ks n ≡ Some k)
  place_of [] k h = absurd h
  place_of (x ∷ xs) k (inl e) = (0, ap (λ (y : K). Some y) e)
  place_of (x ∷ xs) k (inr h) = let r = place_of xs k h in (suc r.0, r.1)

  -- if no key has two places, none is there twice
  once_at : (ks : List K) → ((s t : ℕ) (k : K) → slice_get ks s ≡ Some k → slice_get ks t ≡ Some k → s ≡ t) → Distinct ks
  once_at [] f = tt
  once_at (x ∷ xs) f = (
    (λ h. let p = place_of xs x h in let e = f 0 (suc p.0) x refl p.1 in absurd (omega arith)),
    once_at xs (λ s t k a b. let e = f (suc s) (suc t) k a b in omega arith),
  )

  some : (xs : List K) (n : ℕ) → n < length xs → K
  some [] n l = absurd (omega arith)
  some (x ∷ xs) n l = x

module _ {K O E : Type 0} (p : Exploration K O E) (laws : Laws p) where
  -- the edges of the first n positions, from those of more
  front_edges : (order : List K) (n m : ℕ) (fs : List E) → AreEdges p order (later m n) fs → (es : List E) × AreEdges p order n es
  front_edges order n zero fs a = (fs, a)
  front_edges order n (suc m) fs (front, last, is, before, l) = front_edges order n m front before

  -- the edges of the first positions are those of the front of an order
  edges_back : (xs ys : List K) (n : ℕ) (es : List E) → n ≤ length xs → AreEdges p (xs ++ ys) n es → AreEdges p xs n es
  edges_back xs ys zero es low l = l
  edges_back xs ys (suc n) es low (front, last, is, before, l) =
      (front, last, is, edges_back xs ys n front (omega arith) before, Lists-to (p.edge (xs ++ ys) n) (p.edge xs n) (λ o e. laws.back xs ys n o e (omega arith)) (λ o e. laws.stay xs ys n o e (omega arith)) last l)

  -- an order has too many parts with its edges, however these are listed
  beyond_whole : (order : List K) → Leads p order order → Distinct order → (limit : ℕ) → ((es : List E) → AreEdges p order (length order) es → limit < total p.key_parts order + total p.edge_parts es) → IsBeyond p limit
  beyond_whole order leads once limit more whole fs (reached, all) =
      let f = leads.front whole reached in
      let a = total_fewer p.key_parts order whole once (leads.stand whole reached) in
      let long : length whole ≡ length order + length f.0 = ap length f.1 ∙ length-append order f.0 in
      let d : length whole ≡ later (length whole - length order) (length order) = later_is (length whole - length order) (length order) (length whole) (omega arith) in
      let all' : AreEdges p whole (later (length whole - length order) (length order)) fs = subst (λ (i : ℕ). AreEdges p whole i fs) d all in
      let e = front_edges whole (length order) (length whole - length order) fs all' in
      let b = fewer_parts p laws whole (length order) (length whole - length order) e.0 fs e.1 all' in
      let m = more e.0 (edges_back order f.0 (length order) e.0 (omega arith) (subst (λ (l : List K). AreEdges p l (length order) e.0) f.1 e.1)) in
      omega arith

module _ {P K I O E R T : Type 0} (of : P → Exploration K O E) (reading : Reading K E R T) (x : P) (order : List K) (first : ℕ) (index : I) where
  abbrev p : Exploration K O E
  p = of x

  abbrev gives : P × List K × ℕ × I → ℕ → List K → Ruled R → ℕ → Type 0
  gives = GivesEdges of reading

  abbrev about : P × List K × ℕ × I
  about = (x, order, first, index)

  abbrev AreRows : List (List K) → ℕ → List (Row (Ruled R)) → Type 0
  AreRows = AreRowsFrom gives items_in about

  abbrev sights_of : (shelves : List (List K)) (n : ℕ) (rows : List (Row (Ruled R))) → AreRows shelves n rows → List (List K)
  sights_of shelves n [] a = []
  sights_of shelves n (row ∷ rows) a = a.1.1.1.0 ∷ sights_of shelves (n + 1) rows a.2

  -- the ends of a row are named
  row_named : (shelves : List (List K)) (item : ℕ) (lacked : List K) (row : Row (Ruled R)) (given : gives about item lacked row.rules row.parts) → NameOn shelves lacked row.ends.items → NameEnds order shelves given.0 row.rules.at row.ends.items
  row_named shelves item lacked row given named = subst (λ at. NameEnds order shelves given.0 at row.ends.items) (sym given.3.1) (split_named order shelves given.0 given.3.0.items lacked row.ends.items given.3.2 named)

  named_along : (shelves : List (List K)) (n : ℕ) (rows : List (Row (Ruled R))) (a : AreRows shelves n rows) → Along (IsKnownRow reading.places order shelves) (sights_of shelves n rows a) rows
  named_along shelves n [] a = tt
  named_along shelves n (row ∷ rows) a = ((row_named shelves row.item a.1.1.0 row a.1.1.1 a.1.1.2, a.1.1.1.1.within), named_along shelves (n + 1) rows a.2)

  counted_along : (d : K) (shelves : List (List K)) (n : ℕ) (rows : List (Row (Ruled R))) (a : AreRows shelves n rows) → parts_in rows ≡ total p.edge_parts (edges_of_rows reading.read_places d order (sights_of shelves n rows a) rows)
  counted_along d shelves n [] a = refl
  counted_along d shelves n (row ∷ rows) a =
      let h = counted_along d shelves (n + 1) rows a.2 in
      let c = a.1.1.1.1.counted d in
      let t = total_append p.edge_parts (map (reading.read_places (key_at d order a.1.1.1.0)) row.rules.rules.items) (edges_of_rows reading.read_places d order (sights_of shelves (n + 1) rows a.2) rows) in
      omega arith

  -- the edges of the rows are those of the positions from m on
  edges_along : (d : K) (shelves : List (List K)) (n : ℕ) (rows : List (Row (Ruled R))) (a : AreRows shelves n rows) (m : ℕ) → m ≡ first + n → (t : ℕ) → t ≡ m + length rows
      → (front : List E) → AreEdges p order m front → AreEdges p order t (front ++ edges_of_rows reading.read_places d order (sights_of shelves n rows a) rows)
  edges_along d shelves n [] a m at t end front e =
      subst (λ (l : List E). AreEdges p order t l) (sym (append-nil front)) (subst (λ (i : ℕ). AreEdges p order i front) (let z : m ≡ t = omega arith in z) e)
  edges_along d shelves n (row ∷ rows) a m at t end front e =
      let i = a.0 in
      let place : first + row.item ≡ m = omega arith in
      let is : Lists (p.edge order m) (map (reading.read_places (key_at d order a.1.1.1.0)) row.rules.rules.items) = subst (λ (k : ℕ). Lists (p.edge order k) (map (reading.read_places (key_at d order a.1.1.1.0)) row.rules.rules.items)) place (a.1.1.1.1.edges d) in
      subst (λ (l : List E). AreEdges p order t l) (append_assoc front (map (reading.read_places (key_at d order a.1.1.1.0)) row.rules.rules.items) (edges_of_rows reading.read_places d order (sights_of shelves (n + 1) rows a.2) rows))
      (edges_along d shelves (n + 1) rows a.2 (suc m) (omega arith) t (omega arith) (front ++ map (reading.read_places (key_at d order a.1.1.1.0)) row.rules.rules.items) (front, map (reading.read_places (key_at d order a.1.1.1.0)) row.rules.rules.items, refl, e, is))

  -- an end of an item is in the order, or has a number
  end_at : (shelves : List (List K)) (n j i : ℕ) (rows : List (Row (Ruled R))) → AreRows shelves n rows → j < length rows → i ≡ first + (n + j)
      → (k : K) → IsEnd (p.edge order i) p.ends_of k → Has order k ⊎ ((m : Number) × Names shelves m.shelf m.place k)
  end_at shelves n j i [] a low at k h = absurd (omega arith)
  end_at shelves n zero i (row ∷ rows) a low at k h =
      let e = a.0 in
      let place : i ≡ first + row.item = omega arith in
      let given = a.1.1.1 in
      elim (split_either order given.0 given.3.0.items a.1.1.0 given.3.2 k ((given.2 k).1 (subst (λ (m : ℕ). IsEnd (p.edge order m) p.ends_of k) place h))) [
        | inl b ↦ inl b
        | inr b ↦ inr (named_of shelves a.1.1.0 row.ends.items a.1.1.2 k b)
      ]
  end_at shelves n (suc j) i (row ∷ rows) a low at k h = end_at shelves (n + 1) j i rows a.2 (omega arith) (omega arith) k h

  module _ (shelf_of : K → ℕ) (shelves : List (List K)) (rows : List (Row (Ruled R))) (gathered : AreRows shelves 0 rows) (whole : length rows ≡ length order - first)
      (are : AreShelves (IsLackedEnd of about) shelf_of shelves) where
    -- the order has none of the keys on the shelves
    pub gathered_apart : (lists : List (List K)) → lists ≡ shelves → AreApart order lists
    gathered_apart lists same = subst (AreApart order) (sym same) (λ shelf k h. let n = place_of (on shelves shelf) k h in (are.held shelf n.0 k n.1).0.1)

    -- the shelves are what a complete run leaves that files an item for each row
    pub gathered_run : (eq : K → K → Bool) → ((x y : K) → eq x y ≡ true → x ≡ y) → ((x : K) → eq x x ≡ true) → first ≤ length order → (lists : List (List K)) → lists ≡ shelves
        → IsOutcome eq shelf_of first (length order - first) (IsLackedAt p order) lists (length rows)
    gathered_run eq equal self low lists is = subst (λ (l : List (List K)). IsOutcome eq shelf_of first (length order - first) (IsLackedAt p order) l (length rows)) (sym is)
        (written_down eq equal self shelf_of first (length order - first) (IsLackedAt p order) shelves (length rows) are.sixteen whole
        (λ shelf k h. let n = place_of (on shelves shelf) k h in let w = are.held shelf n.0 k n.1 in (w.1, (w.0.0.0, w.0.0.1, (w.0.0.2, w.0.1))))
        (λ shelf. once_at (on shelves shelf) (λ s t k e f. (are.numbering.one_number shelf s shelf t k e f).1))
        (λ i k a l e. elim (end_at shelves 0 (i - first) i rows gathered (omega arith) (omega arith) k e.0) [
          | inl m ↦ absurd (e.1 m)
          | inr n ↦ (let w = are.held n.0.shelf n.0.place k n.1 in subst (λ (s : ℕ). Has (on shelves s) k) (sym w.1) (got_has (on shelves n.0.shelf) n.0.place k n.1))
        ]))

    -- the rows that were gathered are those of a whole round
    pub gathered_whole : (admits : K → Type 0) (rules : List T) (was limit : ℕ) → IsBetween p admits reading first order rules was limit → (made : ℕ) → made ≡ parts_in rows → parts_in rows ≤ limit - was
        → (lists : List (List K)) → lists ≡ shelves → AreWorked p reading shelf_of order first lists rows was (was + made) limit
    gathered_whole admits rules was limit b made sum few lists same =
        let low = b.low in
        subst (λ (l : List (List K)). AreWorked p reading shelf_of order first l rows was (was + made) limit) (sym same) (record {
          once = λ shelf. once_at (on shelves shelf) (λ s t k e f. (are.numbering.one_number shelf s shelf t k e f).1);
          only = λ shelf k h.
              let n = place_of (on shelves shelf) k h in
              let w = are.held shelf n.0 k n.1 in
              let below = w.0.0.1.1 in
              (w.1, (w.0.0.0, w.0.0.1.0, omega arith, w.0.0.2));
          stands = λ i k a l e. elim (end_at shelves 0 (i - first) i rows gathered (omega arith) (omega arith) k e) [
            | inl m ↦ inl m
            | inr n ↦ (let w = are.held n.0.shelf n.0.place k n.1 in inr (subst (λ (s : ℕ). Has (on shelves s) k) (sym w.1) (got_has (on shelves n.0.shelf) n.0.place k n.1)))
          ];
          sights = sights_of shelves 0 rows gathered;
          named = named_along shelves 0 rows gathered;
          edges = λ d front a. edges_along d shelves 0 rows gathered first (omega arith) (length order) (omega arith) front a;
          counted = λ d. let c = counted_along d shelves 0 rows gathered in omega arith;
          within = let w = b.held.within in omega arith;
        })

  module _ (laws : Laws p) (known : List (List K)) where
    -- one more position has at least the parts of its row
    one_least : (n : ℕ) (slot : Option (Row (Ruled R))) → IsSlot gives items_in about known n slot → (d : K) (m : ℕ) → m ≡ first + n → (es fs : List E) → AreEdges p order m es → AreEdges p order (suc m) fs
        → total p.edge_parts es + slot_parts slot ≤ total p.edge_parts fs
    one_least n None a d m at es fs e f = let h = fewer_parts p laws order m 1 es fs e f in omega arith
    one_least n (Some row) a d m at es fs e (front, last, is, before, l) =
        let i = a.0 in
        let place : first + row.item ≡ m = omega arith in
        let lists : Lists (p.edge order m) (map (reading.read_places (key_at d order a.1.1.1.0)) row.rules.rules.items) = subst (λ (k : ℕ). Lists (p.edge order k) (map (reading.read_places (key_at d order a.1.1.1.0)) row.rules.rules.items)) place (a.1.1.1.1.edges d) in
        let q = Lists-parts (p.edge order m) p.edge_parts (laws.one_edge order m) (map (reading.read_places (key_at d order a.1.1.1.0)) row.rules.rules.items) last lists l in
        let c = a.1.1.1.1.counted d in
        let h = fewer_parts p laws order m 0 es front e before in
        let s = ap (total p.edge_parts) is ∙ total_append p.edge_parts front last in
        omega arith

    -- the positions have at least the parts of the rows that are there
    slots_least : (n : ℕ) (slots : List (Option (Row (Ruled R)))) → AreSlots gives items_in about known n slots → (d : K) (m t : ℕ) → m ≡ first + n → t ≡ m + length slots → (es fs : List E) → AreEdges p order m es → AreEdges p order t fs
        → total p.edge_parts es + parts_of_slots slots ≤ total p.edge_parts fs
    slots_least n [] a d m t at end es fs e f = let h = fewer_parts p laws order m 0 es fs e (subst (λ (i : ℕ). AreEdges p order i fs) (let z : t ≡ m = omega arith in z) f) in omega arith
    slots_least n (slot ∷ slots) a d m t at end es fs e f =
        let g = front_edges p laws order (suc m) (length slots) fs (subst (λ (i : ℕ). AreEdges p order i fs) (later_is (length slots) (suc m) t (omega arith)) f) in
        let h = one_least n slot a.0 d m at es g.0 e g.1 in
        let r = slots_least (n + 1) slots a.1 d (suc m) t (omega arith) (omega arith) g.0 fs g.1 f in
        omega arith

    -- an item without a row, whose position has more parts than what is left
    slots_beyond : (n j : ℕ) (slots : List (Option (Row (Ruled R)))) → AreSlots gives items_in about known n slots → j < length slots → slice_index_or slots j None ≡ None
        → (d : K) (m t i left : ℕ) → m ≡ first + n → t ≡ m + length slots → i ≡ m + j → Exceeds (p.edge order i) p.edge_parts left
        → (es fs : List E) → AreEdges p order m es → AreEdges p order t fs → total p.edge_parts es + (parts_of_slots slots + left) < total p.edge_parts fs
    slots_beyond n j [] a low missing d m t i left at end is exceeds es fs e f = absurd (omega arith)
    slots_beyond n zero (slot ∷ slots) a low missing d m t i left at end is exceeds es fs e f =
        let g = front_edges p laws order (suc m) (length slots) fs (subst (λ (k : ℕ). AreEdges p order k fs) (later_is (length slots) (suc m) t (omega arith)) f) in
        let r = slots_least (n + 1) slots a.1 d (suc m) t (omega arith) (omega arith) g.0 fs g.1 f in
        let h = more_parts p laws order m 0 es g.0 left e (subst (λ (k : ℕ). Exceeds (p.edge order k) p.edge_parts left) (let z : i ≡ m = omega arith in z) exceeds) g.1 in
        let z = ap slot_parts missing in
        omega arith
    slots_beyond n (suc j) (slot ∷ slots) a low missing d m t i left at end is exceeds es fs e f =
        let g = front_edges p laws order (suc m) (length slots) fs (subst (λ (k : ℕ). AreEdges p order k fs) (later_is (length slots) (suc m) t (omega arith)) f) in
        let h = one_least n slot a.0 d m at es g.0 e g.1 in
        let r = slots_beyond (n + 1) j slots a.1 (omega arith) missing d (suc m) t i left (omega arith) (omega arith) (omega arith) exceeds g.0 fs g.1 f in
        omega arith

  -- where the rows of a round leave an item too little, no reached set is within the limit
  pub too_little_beyond : (laws : Laws p) (admits : K → Type 0) (rules : List T) (was limit : ℕ) → IsBetween p admits reading first order rules was limit
      → LeaveTooLittle gives items_in (ItemExceeds of) about (limit - was) → IsBeyond p limit
  too_little_beyond laws admits rules was limit b l =
      let below = l.below in
      let long = l.whole in
      let low = b.low in
      let d : K = some order first (omega arith) in
      beyond_whole p laws order (leads_on p laws b.rounds first order b.after) b.held.once limit (λ es e.
      let r = slots_beyond laws l.known 0 l.item l.slots l.rows (omega arith) l.none d first (length order) (first + l.item) ((limit - was) - parts_of_slots l.slots) (omega arith) (omega arith) (omega arith) l.more
      (edges_so_far p admits reading d order rules []) es (b.edges d) e in
      let c = b.held.counted d in
      let w = l.within in
      let u = b.held.within in
      omega arith)

-- parts of rows up to one of them
pub parts_more : {T : Type 0} (rows : List (Row T)) (i : ℕ) (row : Row T) → i < length rows → row ≡ get_or rows i row → parts_in (take (i + 1) rows) ≡ parts_in (take i rows) + row.parts
parts_more rows i row low is =
    let a = ap parts_in (take_more rows i row low ∙ ap (λ (r : Row _). take i rows ++ r ∷ []) (sym is)) in
    let b = parts_append (take i rows) (row ∷ []) in
    omega arith

-- they are no more than those of all
pub parts_fit : {T : Type 0} (rows : List (Row T)) (n : ℕ) → parts_in (take n rows) ≤ parts_in rows
parts_fit [] zero = omega arith
parts_fit [] (suc n) = omega arith
parts_fit (row ∷ rows) zero = omega arith
parts_fit (row ∷ rows) (suc n) = let a = parts_fit rows n in omega arith
