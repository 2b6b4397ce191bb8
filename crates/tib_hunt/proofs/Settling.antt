-- Rules over places are settled.
use Rattle.std.proofs.Common.{◌≡◌, ◌⊎◌, inl, inr, ℕ, zero, suc, ◌+◌, ◌-◌, ◌<◌, ◌≤◌, Bool, true, false, List, [], ◌∷◌, ◌++◌, length, map, take, slice_index, get_or, nat_lt, if◌then◌else◌, append_assoc, append-nil, refl, sym, ap, subst, ◌∙◌, arith}
use Rattle.std.proofs.lemmas.List.{take_more}
use Rattle.std.proofs.lemmas.Bool.{cases_lt}
use Rattle.tib_lex.specs.Lists.{Each}
use Rattle.tib_lex.proofs.Lists.{each_weaker, each_append}
use Rattle.tib_expand.specs.EdgeLists.{position_of, IsWithin}
use Rattle.tib_hunt.specs.Numbered.{moved_to}
use Rattle.tib_expand.specs.Reading.{Reading, AreBelow}
use Rattle.tib_hunt.specs.Rows.{NumberedRow, Settles, read_row, read_rows, IsRowBelow}
use Rattle.tib_expand.specs.declared.place.Place.{Place}
use Rattle.tib_expand.specs.declared.place.Place.TheVariants.{Known, End}

-- what holds all along holds for the element at an index
pub each_at : {A : Type 0} (P : A → Type 0) (xs : List A) (i : ℕ) (d : A) → Each P xs → i < length xs → P (get_or xs i d)
each_at P [] i d e l = absurd (omega arith)
each_at P (x ∷ xs) zero d e l = e.0
each_at P (x ∷ xs) (suc i) d e l = each_at P xs i d e.1 (omega arith)

-- a map over two lists
pub map_both : {A B : Type 0} (f : A → B) (xs ys : List A) → map f (xs ++ ys) ≡ map f xs ++ map f ys
map_both f [] ys = refl
map_both f (x ∷ xs) ys = ap (λ (l : List _). f x ∷ l) (map_both f xs ys)

index_map : (f : ℕ → ℕ) (xs : List ℕ) (i : ℕ) → i < length xs → slice_index (map f xs) i ≡ f (slice_index xs i)
index_map f [] i l = absurd (omega arith)
index_map f (x ∷ xs) zero l = refl
index_map f (x ∷ xs) (suc i) l = index_map f xs i (omega arith)

module _ (first : ℕ) (moved : List ℕ) where
  -- a number below the first one stays
  pub stays_low : (n : ℕ) → n < first → moved_to first moved n ≡ n
  stays_low n l = let b : nat_lt n first ≡ true = grind (arith, l) in ap (λ (c : Bool). if c then n else slice_index moved (n - first)) b

  -- any other number is moved
  pub goes : (n : ℕ) → first ≤ n → moved_to first moved n ≡ slice_index moved (n - first)
  goes n l = let b : nat_lt n first ≡ false = grind (arith, l) in ap (λ (c : Bool). if c then n else slice_index moved (n - first)) b

  low_after : (bound n : ℕ) → first ≤ bound → Each (λ m. m < bound) moved → n < first + length moved → moved_to first moved n < bound
  low_after bound n f all l = go (cases_lt n first)
    where
      go : (n < first) ⊎ (first ≤ n) → moved_to first moved n < bound
      go (inl a) = let e = stays_low n a in omega arith
      go (inr a) = let e = goes n a in let c = each_at (λ m. m < bound) moved (n - first) 0 all (omega arith) in omega arith

module _ {R T K E : Type 0} (reading : Reading K E R T) (first : ℕ) (moved : List ℕ) where
  -- the rules are the old ones and then these edges
  pub record Settled (old rules : List T) (edges : (ℕ → K) → List E) : Type 0 where
    pub read : (at : ℕ → K) → map (reading.read_positions at) rules ≡ map (reading.read_positions at) old ++ edges at
    pub below : (bound : ℕ) → first ≤ bound → Each (λ n. n < bound) moved → AreBelow reading.positions bound old → AreBelow reading.positions bound rules

  -- no rule is settled yet
  pub settled_none : (old : List T) → Settled old old (λ at. [])
  settled_none old = record { read = λ at. sym (append-nil (map (reading.read_positions at) old)); below = λ bound f all a. a }

  -- more rules are settled
  pub settled_more : (old rules rules' : List T) (edges more : (ℕ → K) → List E) → Settled old rules edges → Settled rules rules' more → Settled old rules' (λ at. edges at ++ more at)
  settled_more old rules rules' edges more s t = record {
    read = λ at. t.read at ∙ ap (λ (l : List E). l ++ more at) (s.read at) ∙ append_assoc (map (reading.read_positions at) old) (edges at) (more at);
    below = λ bound f all a. t.below bound f all (s.below bound f all a);
  }

  -- the same edges by another name
  pub settled_same : (old rules : List T) (edges edges' : (ℕ → K) → List E) → ((at : ℕ → K) → edges at ≡ edges' at) → Settled old rules edges → Settled old rules edges'
  settled_same old rules edges edges' same s = record { read = λ at. s.read at ∙ ap (λ (l : List E). map (reading.read_positions at) old ++ l) (same at); below = s.below }

  module _ (ends : List ℕ) where
    named_same : (at : ℕ → K) (place : Place) → IsWithin first (length ends) place → at (position_of (map (moved_to first moved) ends) place) ≡ at (moved_to first moved (position_of ends place))
    named_same at (Known p) l = ap at (sym (stays_low first moved p l))
    named_same at (End i) l = ap at (index_map (moved_to first moved) ends i l)

    lows : (bound : ℕ) (ps : List Place) → first ≤ bound → Each (λ n. n < bound) moved → Each (λ n. n < first + length moved) ends → Each (IsWithin first (length ends)) ps → Each (λ n. n < bound) (map (position_of (map (moved_to first moved) ends)) ps)
    lows bound [] f all e w = tt
    lows bound (Known p ∷ ps) f all e w = ((let l = w.0 in omega arith), lows bound ps f all e w.1)
    lows bound (End i ∷ ps) f all e w = (subst (λ (n : ℕ). n < bound) (sym (index_map (moved_to first moved) ends i w.0)) (low_after first moved bound (slice_index ends i) f all (each_at (λ n. n < first + length moved) ends i 0 e w.0)), lows bound ps f all e w.1)

    all_low : (bound : ℕ) → first ≤ bound → Each (λ n. n < bound) moved → Each (λ n. n < first + length moved) ends → (rs : List R) → Each (λ rule. Each (IsWithin first (length ends)) (reading.places rule)) rs
        → Each (Each (λ n. n < bound)) (map (λ rule. map (position_of (map (moved_to first moved) ends)) (reading.places rule)) rs)
    all_low bound f all e [] w = tt
    all_low bound f all e (r ∷ rs) w = (lows bound (reading.places r) f all e w.0, all_low bound f all e rs w.1)

    read_moved : ((rule : R) (f g : Place → K) → Each (λ place. f place ≡ g place) (reading.places rule) → reading.read_places f rule ≡ reading.read_places g rule)
        → (at : ℕ → K) (rs : List R) → Each (λ rule. Each (IsWithin first (length ends)) (reading.places rule)) rs
        → map (reading.read_places (λ place. at (position_of (map (moved_to first moved) ends) place))) rs ≡ map (reading.read_places (λ place. at (moved_to first moved (position_of ends place)))) rs
    read_moved reads at [] w = refl
    read_moved reads at (r ∷ rs) w = λ i. reads r _ _ (each_weaker (IsWithin first (length ends)) _ (reading.places r) (named_same at) w.0) i ∷ read_moved reads at rs w.1 i

  -- positions below a bound
  listed_low : (bound : ℕ) (ts : List T) → AreBelow reading.positions bound ts → Each (Each (λ n. n < bound)) (map reading.positions ts)
  listed_low bound [] a = tt
  listed_low bound (t ∷ ts) a = (a.0, listed_low bound ts a.1)

  low_listed : (bound : ℕ) (ts : List T) → Each (Each (λ n. n < bound)) (map reading.positions ts) → AreBelow reading.positions bound ts
  low_listed bound [] a = tt
  low_listed bound (t ∷ ts) a = (a.0, low_listed bound ts a.1)

  -- the rules of a row are settled where its ends have the positions to which their numbers were
  -- moved
  pub row_settled : ((rule : R) (f g : Place → K) → Each (λ place. f place ≡ g place) (reading.places rule) → reading.read_places f rule ≡ reading.read_places g rule)
      → (row : NumberedRow R) → IsRowBelow reading.places first (first + length moved) row → (ends : List ℕ) → ends ≡ map (moved_to first moved) row.ends → (old rules : List T) → Settles reading ends old row.rules rules
      → Settled old rules (λ at. read_row reading.read_places (λ n. at (moved_to first moved n)) row)
  row_settled reads row low ends same old rules settles =
      let s : Settles reading (map (moved_to first moved) row.ends) old row.rules rules = subst (λ (l : List ℕ). Settles reading l old row.rules rules) same settles in
      record {
        read = λ at. s.read at ∙ ap (λ (l : List E). map (reading.read_positions at) old ++ l) (read_moved row.ends reads at row.rules low.0);
        below = λ bound f all a. low_listed bound rules (subst (Each (Each (λ n. n < bound))) (sym s.positions)
            (each_append (Each (λ n. n < bound)) (map reading.positions old) _ (listed_low bound old a) (all_low row.ends bound f all low.1 row.rules low.0)));
      }

  rows_both : (read : (Place → K) → R → E) (at : ℕ → K) (xs ys : List (NumberedRow R)) → read_rows read at (xs ++ ys) ≡ read_rows read at xs ++ read_rows read at ys
  rows_both read at [] ys = refl
  rows_both read at (x ∷ xs) ys = ap (λ (l : List E). read_row read at x ++ l) (rows_both read at xs ys) ∙ sym (append_assoc (read_row read at x) (read_rows read at xs) (read_rows read at ys))

  -- the rows up to one of them
  pub rows_more : {A : Type 0} (row_of : A → NumberedRow R) (old rules rules' : List T) (done : List A) (row : A)
      → Settled old rules (λ at. read_rows reading.read_places (λ n. at (moved_to first moved n)) (map row_of done))
      → Settled rules rules' (λ at. read_row reading.read_places (λ n. at (moved_to first moved n)) (row_of row))
      → Settled old rules' (λ at. read_rows reading.read_places (λ n. at (moved_to first moved n)) (map row_of (done ++ row ∷ [])))
  rows_more row_of old rules rules' done row s t = settled_same old rules' _ _
      (λ at. sym (ap (read_rows reading.read_places (λ n. at (moved_to first moved n))) (map_both row_of done (row ∷ [])) ∙ rows_both reading.read_places (λ n. at (moved_to first moved n)) (map row_of done) (row_of row ∷ []) ∙ ap (λ (l : List E). read_rows reading.read_places (λ n. at (moved_to first moved n)) (map row_of done) ++ l) (append-nil (read_row reading.read_places (λ n. at (moved_to first moved n)) (row_of row)))))
      (settled_more old rules rules' _ _ s t)

  -- the same for rows that are read one after the other
  pub rows_next : {A : Type 0} (row_of : A → NumberedRow R) (old rules rules' : List T) (rows : List A) (i : ℕ) (row : A) → i < length rows → row ≡ get_or rows i row
      → Settled old rules (λ at. read_rows reading.read_places (λ n. at (moved_to first moved n)) (map row_of (take i rows)))
      → Settled rules rules' (λ at. read_row reading.read_places (λ n. at (moved_to first moved n)) (row_of row))
      → Settled old rules' (λ at. read_rows reading.read_places (λ n. at (moved_to first moved n)) (map row_of (take (i + 1) rows)))
  rows_next row_of old rules rules' rows i row low is s t = settled_same old rules' _ _
      (λ at. ap (λ l. read_rows reading.read_places (λ n. at (moved_to first moved n)) (map row_of l)) (sym (take_more rows i row low ∙ ap (λ r. take i rows ++ r ∷ []) (sym is))))
      (rows_more row_of old rules rules' (take i rows) row s t)

length_moved : (f : ℕ → ℕ) (xs : List ℕ) → length (map f xs) ≡ length xs
length_moved f [] = refl
length_moved f (x ∷ xs) = ap suc (length_moved f xs)

-- what is required of the ends of a row holds after they were moved
pub still_within : {R : Type 0} (places : R → List Place) (first bound : ℕ) (moved : List ℕ) (row : NumberedRow R) → IsRowBelow places first bound row
    → (ends : List ℕ) → ends ≡ map (moved_to first moved) row.ends → Each (λ rule. Each (IsWithin first (length ends)) (places rule)) row.rules
still_within places first bound moved row low ends same =
    subst (λ (n : ℕ). Each (λ rule. Each (IsWithin first n) (places rule)) row.rules) (sym (ap length same ∙ length_moved (moved_to first moved) row.ends)) low.0

-- what holds for all that is made of some values holds for what is made of each
pub each_back : {A B : Type 0} (P : B → Type 0) (f : A → B) (xs : List A) → Each P (map f xs) → Each (λ x. P (f x)) xs
each_back P f [] e = tt
each_back P f (x ∷ xs) e = (e.0, each_back P f xs e.1)

-- of one of them
pub each_made : {A B : Type 0} (P : B → Type 0) (f : A → B) (xs : List A) (i : ℕ) (x : A) → Each P (map f xs) → i < length xs → x ≡ get_or xs i x → P (f x)
each_made P f xs i x e l is = subst (λ y. P (f y)) (sym is) (each_at (λ y. P (f y)) xs i x (each_back P f xs e) l)

-- what holds for all holds for the next one
pub each_next : {A : Type 0} (P : A → Type 0) (all done rest : List A) (x : A) (rest' : List A) → Each P all → all ≡ done ++ rest → rest ≡ x ∷ rest' → P x
each_next {A = A} P all done rest x rest' e is next = go done (subst (Each P) (is ∙ ap (λ l. done ++ l) next) e)
  where
    go : (done : List A) → Each P (done ++ x ∷ rest') → P x
    go [] e = e.0
    go (y ∷ ys) e = go ys e.1

module _ {K E R T : Type 0} (reading : Reading K E R T) (ends : List ℕ) where
  -- no rule is settled yet
  pub settles_none : (old : List T) → Settles reading ends old [] old
  settles_none old = record { read = λ at. sym (append-nil (map (reading.read_positions at) old)); positions = sym (append-nil (map reading.positions old)) }

  snoc_both : {A B C : Type 0} (f : A → C) (g : B → C) (old new : List A) (done : List B) (t : A) (r : B) → map f new ≡ map f old ++ map g done → f t ≡ g r → map f (new ++ t ∷ []) ≡ map f old ++ map g (done ++ r ∷ [])
  snoc_both f g old new done t r s is =
      map_both f new (t ∷ []) ∙ (λ i. s i ++ is i ∷ []) ∙ append_assoc (map f old) (map g done) (g r ∷ []) ∙ ap (λ l. map f old ++ l) (sym (map_both g done (r ∷ [])))

  -- one more rule is settled
  pub settles_more : (old new : List T) (over : List R) (i : ℕ) (rule : R) → i < length over → rule ≡ get_or over i rule → Settles reading ends old (take i over) new
      → (settled : T) → ((at : ℕ → K) → reading.read_positions at settled ≡ reading.read_places (λ place. at (position_of ends place)) rule) → reading.positions settled ≡ map (position_of ends) (reading.places rule)
      → Settles reading ends old (take (i + 1) over) (new ++ settled ∷ [])
  settles_more old new over i rule low is s settled read at =
      subst (λ (l : List R). Settles reading ends old l (new ++ settled ∷ [])) (sym (take_more over i rule low ∙ ap (λ (r : R). take i over ++ r ∷ []) (sym is)))
      (record {
        read = λ name. snoc_both (reading.read_positions name) (reading.read_places (λ place. name (position_of ends place))) old new (take i over) settled rule (s.read name) (read name);
        positions = snoc_both reading.positions (λ rule. map (position_of ends) (reading.places rule)) old new (take i over) settled rule s.positions at;
      })
