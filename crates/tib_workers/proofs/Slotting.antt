-- A place for each item, with its row or none.
use Rattle.std.proofs.Common.{◌≡◌, inl, inr, ℕ, zero, suc, ◌+◌, ◌-◌, ◌<◌, ◌≤◌, List, [], ◌∷◌, ◌++◌, Option, Some, None, map, length, length-append, length-set, Bool, true, false, refl, sym, ap, ◌∙◌, subst, arith}
use Rattle.std.specs.Prelude.{replicate, slice_index_or, slice_set}
use Rattle.std.specs.List.{All}
use Rattle.std.proofs.lemmas.List.{length-map, length-replicate}
use Rattle.std.proofs.lemmas.List.Elements.{All-pop}
use Rattle.tib_table.specs.Known.{GoOn, KeepNames}
use Rattle.tib_table.proofs.Closing.{names_kept}
use Rattle.tib_workers.specs.Rows.{IsRowOf as RowOf, AreRowsFrom as RowsFrom, IsSlot as Slot, AreSlots as Slots, IsPutIn, IsTaken as RowTaken, parts_in, slot_parts, parts_of_slots, LeaveTooLittle}
use Rattle.tib_workers.specs.declared.row.Row.{Row}
use Rattle.tib_workers.proofs.Rowing.{parts_append, row_stays, in_order_stay, go_trans}

pub no_parts : (T : Type 0) (m : ℕ) → parts_of_slots {T = T} (replicate m None) ≡ 0
no_parts T zero = refl
no_parts T (suc m) = let h = no_parts T m in omega arith

put_parts : {T : Type 0} (slots : List (Option (Row T))) (k : ℕ) (row : Row T) → k < length slots → slice_index_or slots k None ≡ None → parts_of_slots (slice_set slots k (Some row)) ≡ parts_of_slots slots + row.parts
put_parts [] k row l e = absurd (omega arith)
put_parts (s ∷ slots) zero row l e = let p = ap slot_parts e in omega arith
put_parts (s ∷ slots) (suc k) row l e = let h = put_parts slots k row (omega arith) e in omega arith

parts_as_slots : {T : Type 0} (rows : List (Row T)) (rest : List (Option (Row T))) → parts_of_slots (map Some rows ++ rest) ≡ parts_in rows + parts_of_slots rest
parts_as_slots [] rest = omega arith
parts_as_slots (row ∷ rows) rest = let h = parts_as_slots rows rest in omega arith

none_there : {T : Type 0} (rows : List (Row T)) (rest : List (Option (Row T))) → slice_index_or (map Some rows ++ None ∷ rest) (length rows) None ≡ None
none_there [] rest = refl
none_there (row ∷ rows) rest = none_there rows rest

all_both : {A : Type 0} (P : A → Type 0) (xs : List A) (x : A) → All P (xs ++ x ∷ []) → All P xs × P x
all_both P xs x a = All-pop P (xs ++ x ∷ []) xs (Some x) refl a

All-last : {A : Type 0} (P : A → Type 0) (xs : List A) (x : A) → All P (xs ++ x ∷ []) → P x
All-last P xs x a = (all_both P xs x a).1

All-front : {A : Type 0} (P : A → Type 0) (xs : List A) (x : A) → All P (xs ++ x ∷ []) → All P xs
All-front P xs x a = (all_both P xs x a).0

module _ {D K T : Type 0} (gives : D → ℕ → List K → T → ℕ → Type 0) (count_of : D → ℕ) (d : D) where
  abbrev IsRowOf : List (List K) → Row T → Type 0
  IsRowOf = RowOf gives count_of d

  abbrev AreSlots : List (List K) → ℕ → List (Option (Row T)) → Type 0
  AreSlots = Slots gives count_of d

  abbrev AreRowsFrom : List (List K) → ℕ → List (Row T) → Type 0
  AreRowsFrom = RowsFrom gives count_of d

  slot_stays : (old new : List (List K)) → KeepNames old new → (n : ℕ) (s : Option (Row T)) → Slot gives count_of d old n s → Slot gives count_of d new n s
  slot_stays old new keep n None a = tt
  slot_stays old new keep n (Some row) a = (a.0, row_stays gives count_of d old new keep row a.1)

  pub slots_stay : (old new : List (List K)) → KeepNames old new → (n : ℕ) (slots : List (Option (Row T))) → AreSlots old n slots → AreSlots new n slots
  slots_stay old new keep n [] a = tt
  slots_stay old new keep n (s ∷ slots) a = (slot_stays old new keep n s a.0, slots_stay old new keep (n + 1) slots a.1)

  pub no_rows : (known : List (List K)) (n m : ℕ) → AreSlots known n (replicate m None)
  no_rows known n zero = tt
  no_rows known n (suc m) = (tt, no_rows known (n + 1) m)

  put_there : (known : List (List K)) (n k : ℕ) (slots : List (Option (Row T))) (row : Row T) → row.item ≡ n + k → IsRowOf known row → AreSlots known n slots → AreSlots known n (slice_set slots k (Some row))
  put_there known n k [] row e is a = tt
  put_there known n zero (s ∷ slots) row e is a = ((omega arith, is), a.1)
  put_there known n (suc k) (s ∷ slots) row e is a = (a.0, put_there known (n + 1) k slots row (omega arith) is a.1)

  -- Rows are put at their places, from the last one on.
  pub record IsPutting (all rows : List (Row T)) (count : ℕ) (slots : List (Option (Row T))) (used : ℕ) : Type 0 where
    pub there : (known : List (List K)) → All (IsRowOf known) all → All (IsRowOf known) rows × AreSlots known 0 slots
    pub below : All (λ (row : Row T). row.item < count) rows
    pub long : length slots ≡ count
    pub parts : used ≡ parts_of_slots slots
    pub enough : used + parts_in rows ≤ parts_in all

  pub begin_putting : (all : List (Row T)) (count : ℕ) (slots : List (Option (Row T))) → slots ≡ replicate count None → All (λ (row : Row T). row.item < count) all → IsPutting all all count slots 0
  begin_putting all count slots e below = record {
    there = λ known a. (a, subst (AreSlots known 0) (sym e) (no_rows known 0 count));
    below = below;
    long = ap length e ∙ length-replicate count None;
    parts = sym (ap parts_of_slots e ∙ no_parts T count);
    enough = omega arith;
  }

  module _ (all rows : List (Row T)) (count : ℕ) (slots : List (Option (Row T))) (used : ℕ) (p : IsPutting all rows count slots used) (rest : List (Row T)) (row : Row T) (e : rows ≡ rest ++ row ∷ []) where
    pub its_place : row.item < length slots
    its_place = let a = All-last (λ (r : Row T). r.item < count) rest row (subst (All (λ (r : Row T). r.item < count)) e p.below) in let l = p.long in omega arith

    pub room_there : used + row.parts ≤ parts_in all
    room_there = let a = p.enough in let b = ap parts_in e in let c = parts_append rest (row ∷ []) in omega arith

    pub put_one : (slots' : List (Option (Row T))) (b : Bool) → IsPutIn row slots slots' b → (used' : ℕ) → (b ≡ true → used' ≡ used + row.parts) → (b ≡ false → used' ≡ used) → IsPutting all rest count slots' used'
    put_one slots' true i used' yes_ no_ =
        let u = yes_ refl in
        let q = put_parts slots row.item row its_place i.0 in
        let z = ap parts_of_slots i.1 in
        record {
          there = λ known a. let t = p.there known a in let m = subst (All (IsRowOf known)) e t.0 in (All-front (IsRowOf known) rest row m, subst (AreSlots known 0) (sym i.1) (put_there known 0 row.item slots row (omega arith) (All-last (IsRowOf known) rest row m) t.1));
          below = All-front (λ (r : Row T). r.item < count) rest row (subst (All (λ (r : Row T). r.item < count)) e p.below);
          long = ap length i.1 ∙ (length-set slots row.item (Some row) ∙ p.long);
          parts = let x = p.parts in omega arith;
          enough = let a = p.enough in let b = ap parts_in e in let c = parts_append rest (row ∷ []) in omega arith;
        }
    put_one slots' false i used' yes_ no_ =
        let u = no_ refl in
        let z = ap parts_of_slots i in
        record {
          there = λ known a. let t = p.there known a in (All-front (IsRowOf known) rest row (subst (All (IsRowOf known)) e t.0), subst (AreSlots known 0) (sym i) t.1);
          below = All-front (λ (r : Row T). r.item < count) rest row (subst (All (λ (r : Row T). r.item < count)) e p.below);
          long = ap length i ∙ p.long;
          parts = let x = p.parts in omega arith;
          enough = let a = p.enough in let b = ap parts_in e in let c = parts_append rest (row ∷ []) in omega arith;
        }

  as_slots : (known : List (List K)) (n : ℕ) (rows : List (Row T)) (rest : List (Option (Row T))) → AreRowsFrom known n rows → AreSlots known (n + length rows) rest → AreSlots known n (map Some rows ++ rest)
  as_slots known n [] rest a b = subst (λ (m : ℕ). AreSlots known m rest) (let e : n + 0 ≡ n = omega arith in e) b
  as_slots known n (row ∷ rows) rest a b = ((a.0, a.1), as_slots known (n + 1) rows rest a.2 (subst (λ (m : ℕ). AreSlots known m rest) (let e : n + suc (length rows) ≡ (n + 1) + length rows = omega arith in e) b))

  rows_snoc : (known : List (List K)) (n : ℕ) (rows : List (Row T)) (row : Row T) → AreRowsFrom known n rows → row.item ≡ n + length rows → IsRowOf known row → AreRowsFrom known n (rows ++ row ∷ [])
  rows_snoc known n [] row a e is = ((let f : row.item ≡ n = omega arith in f), is, tt)
  rows_snoc known n (r ∷ rows) row a e is = (a.0, a.1, rows_snoc known (n + 1) rows row a.2 (omega arith) is)

  -- The rows of the items so far, and the places of the others.
  pub record IsSettling (old known : List (List K)) (room : ℕ) (rows : List (Row T)) (rest : List (Option (Row T))) (item left : ℕ) : Type 0 where
    pub more : GoOn old known
    pub done : AreRowsFrom known 0 rows
    pub long : length rows ≡ item
    pub open_ones : AreSlots known item rest
    pub whole : item + length rest ≡ count_of d
    pub parts : (parts_in rows + parts_of_slots rest) + left ≡ room

  module _ (old known : List (List K)) (room : ℕ) (rows : List (Row T)) (rest : List (Option (Row T))) (item left : ℕ) (s : IsSettling old known room rows rest item left) where
    -- the seats learn more
    more_known : (known' : List (List K)) → GoOn known known' → (rows' : List (Row T)) (rest' : List (Option (Row T))) (item' left' : ℕ) → IsSettling old known room rows' rest' item' left' → IsSettling old known' room rows' rest' item' left'
    more_known known' go rows' rest' item' left' t = record {
      more = go_trans old known known' t.more go;
      done = in_order_stay gives count_of d known known' (names_kept known known' go) 0 rows' t.done;
      long = t.long;
      open_ones = slots_stay known known' (names_kept known known' go) item' rest' t.open_ones;
      whole = t.whole;
      parts = t.parts;
    }

    -- the next item has a row
    pub settled_there : (row : Row T) (rest' : List (Option (Row T))) → rest ≡ Some row ∷ rest' → (rows' : List (Row T)) → rows' ≡ rows ++ row ∷ [] → IsSettling old known room rows' rest' (item + 1) left
    settled_there row rest' e rows' e' =
        let o = subst (AreSlots known item) e s.open_ones in
        let l = s.long in
        let f = length-append rows (row ∷ []) in
        let g = ap length e' in
        record {
          more = s.more;
          done = subst (AreRowsFrom known 0) (sym e') (rows_snoc known 0 rows row s.done (let i = o.0.0 in omega arith) o.0.1);
          long = omega arith;
          open_ones = o.1;
          whole = let w = s.whole in let h = ap length e in omega arith;
          parts = let p = s.parts in let h = ap parts_of_slots e in let q = ap parts_in e' in let r = parts_append rows (row ∷ []) in omega arith;
        }

    -- the next item has none, and is performed
    pub settled_now : (known' : List (List K)) → GoOn known known' → (row : Row T) → row.item ≡ item → IsRowOf known' row → row.parts ≤ left → (rest' : List (Option (Row T))) → rest ≡ None ∷ rest' → (rows' : List (Row T)) → rows' ≡ rows ++ row ∷ []
        → IsSettling old known' room rows' rest' (item + 1) (left - row.parts)
    settled_now known' go row i is within rest' e rows' e' =
        let o = subst (AreSlots known item) e s.open_ones in
        let l = s.long in
        let f = length-append rows (row ∷ []) in
        let g = ap length e' in
        record {
          more = go_trans old known known' s.more go;
          done = subst (AreRowsFrom known' 0) (sym e') (rows_snoc known' 0 rows row (in_order_stay gives count_of d known known' (names_kept known known' go) 0 rows s.done) (omega arith) is);
          long = omega arith;
          open_ones = slots_stay known known' (names_kept known known' go) (item + 1) rest' o.1;
          whole = let w = s.whole in let h = ap length e in omega arith;
          parts = let p = s.parts in let h = ap parts_of_slots e in let q = ap parts_in e' in let r = parts_append rows (row ∷ []) in omega arith;
        }

    -- the next item is settled
    pub settled : (known' : List (List K)) → GoOn known known' → (slot : Option (Row T)) (row : Row T) (left' : ℕ) → RowTaken gives count_of d known' slot item row left left' → (rest' : List (Option (Row T))) → rest ≡ slot ∷ rest' → (rows' : List (Row T)) → rows' ≡ rows ++ row ∷ []
        → IsSettling old known' room rows' rest' (item + 1) left'
    settled known' go slot row left' (inl t) rest' e rows' e' = more_known known' go rows' rest' (item + 1) left' (subst (λ (n : ℕ). IsSettling old known room rows' rest' (item + 1) n) (sym t.1) (settled_there row rest' (e ∙ ap (λ (s : Option (Row T)). s ∷ rest') t.0) rows' e'))
    settled known' go slot row left' (inr t) rest' e rows' e' = subst (λ (n : ℕ). IsSettling old known' room rows' rest' (item + 1) n) (sym t.4) (settled_now known' go row t.1 t.2 t.3 rest' (e ∙ ap (λ (s : Option (Row T)). s ∷ rest') t.0) rows' e')

    -- the next item has none, and has more parts than what is left
    pub too_little : (exceeds : D → ℕ → ℕ → Type 0) (rest' : List (Option (Row T))) → rest ≡ None ∷ rest' → exceeds d item left → LeaveTooLittle gives count_of exceeds d room
    too_little exceeds rest' e more =
        let p = parts_as_slots rows (None ∷ rest') in
        let q = s.parts in
        let h = ap parts_of_slots e in
        let l = s.long in
        let w = s.whole in
        let m = ap length e in
        record {
          item = item;
          below = omega arith;
          known = known;
          slots = map Some rows ++ None ∷ rest';
          whole = (let n = length-append (map Some rows) (None ∷ rest') in let k = length-map rows (λ (r : Row T). Some r) in omega arith);
          rows = as_slots known 0 rows (None ∷ rest') s.done (subst (λ (n : ℕ). AreSlots known n (None ∷ rest')) (let z : item ≡ 0 + length rows = omega arith in z) (subst (AreSlots known item) e s.open_ones));
          none = subst (λ (n : ℕ). slice_index_or (map Some rows ++ None ∷ rest') n None ≡ None) l (none_there rows rest');
          within = omega arith;
          more = subst (exceeds d item) (let z : left ≡ room - parts_of_slots (map Some rows ++ None ∷ rest') = omega arith in z) more;
        }
