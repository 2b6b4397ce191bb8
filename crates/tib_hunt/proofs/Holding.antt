-- What holds while an operation is hunted, and its steps.
use Rattle.std.proofs.Common.{◌≡◌, ◌⊎◌, inl, inr, ℕ, zero, suc, ◌+◌, ◌-◌, ◌<◌, ◌≤◌, Bool, Some, List, [], ◌∷◌, ◌++◌, length, map, slice_get, slice_index, slice_index_or, length-append, append_assoc, append-nil, ◌↔◌, refl, sym, ap, subst, ◌∙◌, arith}
use Rattle.std.proofs.lemmas.Bool.{cases_lt}
use Rattle.std.proofs.lemmas.Option.{get_or_from_slice_get, slice_get_within}
use Rattle.std.specs.declared.cmp.Ordering.{Ordering}
use Rattle.tib_lex.specs.Lists.{Has, Each, Distinct, total}
use Rattle.tib_expand.specs.EdgeLists.{AreListed, IsWithin, position_of, key_at}
use Rattle.tib_expand.specs.Reached.{Exploration, IsNew, AfterRounds, IsReached, Leads}
use Rattle.tib_hunt.specs.Numbered.{Name, IsInOrder, moved_to}
use Rattle.tib_expand.specs.Reading.{Reading, AreBelow}
use Rattle.tib_hunt.specs.Rows.{NumberedRow, read_row, read_rows, IsRowBelow}
use Rattle.tib_expand.specs.declared.place.Place.{Place}
use Rattle.tib_expand.specs.declared.place.Place.TheVariants.{Known, End}
use Rattle.tib_hunt.specs.Held.{at, edges_so_far as all_edges, IsHeld as Held, IsBetween as Between, IsWithinRound as WithinRound}
use Rattle.tib_expand.proofs.Members.{total_fewer}
use Rattle.tib_expand.proofs.Reaching.{Laws, IsHunt, in_reached}
use Rattle.tib_hunt.proofs.Settling.{Settled, each_at, stays_low, goes}
use Rattle.tib_lex.proofs.Members.{each_of, each_has, has_either, has_left, has_right}
use Rattle.tib_lex.proofs.Lists.{total_append, each_weaker, each_append}

module _ {K : Type 0} (d : K) where
  -- the keys of a front keep their numbers
  pub at_front : (xs ys : List K) (n : ℕ) → n < length xs → at d (xs ++ ys) n ≡ at d xs n
  at_front [] ys n l = absurd (omega arith)
  at_front (x ∷ xs) ys zero l = refl
  at_front (x ∷ xs) ys (suc n) l = at_front xs ys n (omega arith)

  named_end : (keys ends : List K) (ns : List ℕ) (i : ℕ) → Name keys ends ns → i < length ends → at d keys (slice_index ns i) ≡ slice_index_or ends i d
  named_end keys [] ns i a l = absurd (omega arith)
  named_end keys (x ∷ xs) [] i a l = absurd a
  named_end keys (x ∷ xs) (n ∷ ns) zero a l = get_or_from_slice_get keys n x d a.0
  named_end keys (x ∷ xs) (n ∷ ns) (suc i) a l = named_end keys xs ns i a.1 (omega arith)

  -- a place has the same key by its number as over the order and the ends
  pub same_place : (order fresh keys ends : List K) (ns : List ℕ) → keys ≡ order ++ fresh → Name keys ends ns → (place : Place) → IsWithin (length order) (length ends) place → key_at d order ends place ≡ at d keys (position_of ns place)
  same_place order fresh keys ends ns is a (Known p) l = sym (ap (λ (k : List K). at d k p) is ∙ at_front order fresh p l)
  same_place order fresh keys ends ns is a (End i) l = sym (named_end keys ends ns i a l)

-- numbers that name keys are below the count of keys
pub named_below : {K : Type 0} (keys ends : List K) (ns : List ℕ) → Name keys ends ns → Each (λ n. n < length keys) ns
named_below keys [] [] a = tt
named_below keys [] (n ∷ ns) a = absurd a
named_below keys (x ∷ xs) [] a = absurd a
named_below keys (x ∷ xs) (n ∷ ns) a = (slice_get_within keys n x a.0, named_below keys xs ns a.1)

-- there are as many numbers as ends
pub as_many : {K : Type 0} (keys ends : List K) (ns : List ℕ) → Name keys ends ns → length ns ≡ length ends
as_many keys [] [] a = refl
as_many keys [] (n ∷ ns) a = absurd a
as_many keys (x ∷ xs) [] a = absurd a
as_many keys (x ∷ xs) (n ∷ ns) a = ap suc (as_many keys xs ns a.1)

-- What holds while the positions below n are expanded, over the order at the round's beginning. The
-- keys are those of the order and then the fresh ones.
module _ {K O E R T : Type 0} {p : Exploration K O E} {admits : K → Type 0} {reading : Reading K E R T}
    {cmp : K → K → Ordering} {entries : K → ℕ} {eq : K → K → Bool} (hunt : IsHunt p admits reading cmp entries eq) where
  -- what is held, by the words of specs, for the operation of the hunt
  abbrev pub edges_so_far : K → List K → List T → List (NumberedRow R) → List E
  edges_so_far = all_edges p admits reading

  abbrev pub IsHeld : List K → List K → List T → List (NumberedRow R) → ℕ → ℕ → Type 0
  IsHeld = Held p admits reading

  abbrev pub IsBetween : ℕ → List K → List T → ℕ → ℕ → Type 0
  IsBetween = Between p admits reading

  abbrev pub IsWithinRound : List K → ℕ → ℕ → List K → List T → List (NumberedRow R) → ℕ → ℕ → Type 0
  IsWithinRound = WithinRound p admits reading

  -- readings stay when keys are appended
  pub rules_same : (d : K) (xs ys : List K) (rules : List T) → AreBelow reading.positions (length xs) rules → map (reading.read_positions (at d (xs ++ ys))) rules ≡ map (reading.read_positions (at d xs)) rules
  rules_same d xs ys [] b = refl
  rules_same d xs ys (t ∷ ts) b = λ i. hunt.lawful.reads_positions t (at d (xs ++ ys)) (at d xs) (each_weaker (λ n. n < length xs) _ (reading.positions t) (λ n l. at_front d xs ys n l) b.0) i ∷ rules_same d xs ys ts b.1 i

  rows_same : (read_at read_at' : ℕ → K) (first bound : ℕ) → first ≤ bound → ((n : ℕ) → n < bound → read_at n ≡ read_at' n) → (rows : List (NumberedRow R)) → Each (IsRowBelow reading.places first bound) rows → read_rows reading.read_places read_at rows ≡ read_rows reading.read_places read_at' rows
  rows_same f g first bound low same [] b = refl
  rows_same f g first bound low same (row ∷ rows) b = λ i. (one row b.0 i) ++ (rows_same f g first bound low same rows b.1 i)
    where
      place_same : (ends : List ℕ) → Each (λ n. n < bound) ends → (q : Place) → IsWithin first (length ends) q → f (position_of ends q) ≡ g (position_of ends q)
      place_same ends e (Known n) l = same n (omega arith)
      place_same ends e (End i) l = same (slice_index ends i) (each_at (λ n. n < bound) ends i 0 e l)

      rules_one : (ends : List ℕ) → Each (λ n. n < bound) ends → (rs : List R) → Each (λ rule. Each (IsWithin first (length ends)) (reading.places rule)) rs → map (reading.read_places (λ q. f (position_of ends q))) rs ≡ map (reading.read_places (λ q. g (position_of ends q))) rs
      rules_one ends e [] w = refl
      rules_one ends e (r ∷ rs) w = λ i. hunt.lawful.reads_places r (λ q. f (position_of ends q)) (λ q. g (position_of ends q)) (each_weaker (IsWithin first (length ends)) _ (reading.places r) (place_same ends e) w.0) i ∷ rules_one ends e rs w.1 i

      one : (row : NumberedRow R) → IsRowBelow reading.places first bound row → read_row reading.read_places f row ≡ read_row reading.read_places g row
      one row b = rules_one row.ends b.1 row.rules b.0

  rows_snoc : (f : ℕ → K) (rows : List (NumberedRow R)) (row : NumberedRow R) → read_rows reading.read_places f (rows ++ row ∷ []) ≡ read_rows reading.read_places f rows ++ read_row reading.read_places f row
  rows_snoc f [] row = append-nil (read_row reading.read_places f row)
  rows_snoc f (x ∷ xs) row = ap (λ (l : List E). read_row reading.read_places f x ++ l) (rows_snoc f xs row) ∙ sym (append_assoc (read_row reading.read_places f x) (read_rows reading.read_places f xs) (read_row reading.read_places f row))

  -- one more row
  module _ (order keys : List K) (rules : List T) (rows : List (NumberedRow R)) (parts limit : ℕ) (h : IsHeld order keys rules rows parts limit)
      (ends : List K) (rs : List R) (edge : O → E → Type 0) (ep : ℕ) (l : AreListed edge p.edge_parts reading.places reading.read_places order ends rs ep)
      (row : NumberedRow R) (same_rules : row.rules ≡ rs) (keys' : List K) (new : List K) (grown : keys' ≡ keys ++ new) (named : Name keys' ends row.ends) where
    all_keys : keys' ≡ order ++ (h.fresh ++ new)
    all_keys = grown ∙ ap (λ (x : List K). x ++ new) h.keys_are ∙ append_assoc order h.fresh new

    longer : length keys' ≡ length keys + length new
    longer = ap length grown ∙ length-append keys new

    order_within : length order ≤ length keys
    order_within = let a = ap length h.keys_are ∙ length-append order h.fresh in omega arith

    wider : (a b : ℕ) → a ≤ b → (ts : List T) → AreBelow reading.positions a ts → AreBelow reading.positions b ts
    wider a b low ts w = each_weaker (λ t. Each (λ n. n < a) (reading.positions t)) (λ t. Each (λ n. n < b) (reading.positions t)) ts (λ t e. each_weaker (λ n. n < a) (λ n. n < b) (reading.positions t) (λ n q. omega arith) e) w

    row_edges : (d : K) → read_row reading.read_places (at d keys') row ≡ map (reading.read_places (key_at d order ends)) rs
    row_edges d = ap (λ (x : List R). map (reading.read_places (λ q. at d keys' (position_of row.ends q))) x) same_rules ∙ go rs l.within
      where
        go : (xs : List R) → Each (λ rule. Each (IsWithin (length order) (length ends)) (reading.places rule)) xs → map (reading.read_places (λ q. at d keys' (position_of row.ends q))) xs ≡ map (reading.read_places (key_at d order ends)) xs
        go [] w = refl
        go (x ∷ xs) w = λ i. hunt.lawful.reads_places x (λ q. at d keys' (position_of row.ends q)) (key_at d order ends) (each_weaker (IsWithin (length order) (length ends)) _ (reading.places x) (λ q a. sym (same_place d order (h.fresh ++ new) keys' ends row.ends all_keys named q a)) w.0) i ∷ go xs w.1 i

    -- one more row adds its edges
    pub more_edges : (d : K) → edges_so_far d keys' rules (rows ++ row ∷ []) ≡ edges_so_far d keys rules rows ++ map (reading.read_places (key_at d order ends)) rs
    more_edges d =
        let a : map (reading.read_positions (at d keys')) rules ≡ map (reading.read_positions (at d keys)) rules = ap (λ (x : List K). map (reading.read_positions (at d x)) rules) grown ∙ rules_same d keys new rules (wider (length order) (length keys) order_within rules h.rules_below) in
        let b : read_rows reading.read_places (at d keys') rows ≡ read_rows reading.read_places (at d keys) rows = ap (λ (x : List K). read_rows reading.read_places (at d x) rows) grown ∙ rows_same (at d (keys ++ new)) (at d keys) (length order) (length keys) order_within (λ n q. at_front d keys new n q) rows h.rows_below in
        let c : read_rows reading.read_places (at d keys') (rows ++ row ∷ []) ≡ read_rows reading.read_places (at d keys) rows ++ map (reading.read_places (key_at d order ends)) rs = rows_snoc (at d keys') rows row ∙ (λ i. b i ++ row_edges d i) in
        (λ i. a i ++ c i) ∙ sym (append_assoc (map (reading.read_positions (at d keys)) rules) (read_rows reading.read_places (at d keys) rows) (map (reading.read_places (key_at d order ends)) rs))

    -- what is held after one more row
    pub added : (once : Distinct keys') (stand : (whole : List K) → IsReached p whole → (k : K) → Has new k → Has whole k) (allow : Each admits new)
        (parts' : ℕ) → parts' + total p.key_parts keys ≡ (parts + ep) + total p.key_parts keys' → parts' ≤ limit
        → IsHeld order keys' rules (rows ++ row ∷ []) parts' limit
    added once stand allow parts' sums low = record {
      fresh = h.fresh ++ new;
      keys_are = all_keys;
      once = once;
      leads = record {
        front = h.leads.front;
        stand = λ whole reached k m. either whole reached k (has_either keys new k (subst (λ (x : List K). Has x k) grown m));
      };
      admitted = subst (Each admits) (sym grown) (each_append admits keys new h.admitted allow);
      rules_below = h.rules_below;
      rows_below = each_append (IsRowBelow reading.places (length order) (length keys')) rows (row ∷ [])
          (each_weaker (IsRowBelow reading.places (length order) (length keys)) (IsRowBelow reading.places (length order) (length keys')) rows (λ r e. (e.0, each_weaker (λ n. n < length keys) (λ n. n < length keys') r.ends (λ n q. let g = longer in omega arith) e.1)) h.rows_below)
          ((subst (λ (x : List R). Each (λ rule. Each (IsWithin (length order) (length row.ends)) (reading.places rule)) x) (sym same_rules) (subst (λ (m : ℕ). Each (λ rule. Each (IsWithin (length order) m) (reading.places rule)) rs) (sym (as_many keys' ends row.ends named)) l.within), named_below keys' ends row.ends named), tt);
      enough = let e = h.enough in omega arith;
      counted = λ d.
          let a = h.counted d in
          let b = ap (total p.edge_parts) (more_edges d) ∙ total_append p.edge_parts (edges_so_far d keys rules rows) (map (reading.read_places (key_at d order ends)) rs) in
          let c = l.counted d in
          omega arith;
      within = low;
    }
      where
        either : (whole : List K) → IsReached p whole → (k : K) → Has keys k ⊎ Has new k → Has whole k
        either whole reached k (inl m) = h.leads.stand whole reached k m
        either whole reached k (inr m) = stand whole reached k m

  -- the end of a round: the keys are put in order, and the rows are settled
  module _ (order keys : List K) (rules : List T) (rows : List (NumberedRow R)) (parts limit : ℕ) (h : IsHeld order keys rules rows parts limit)
      (keys' : List K) (moved : List ℕ) (sorts : IsInOrder p.cmp order h.fresh keys' moved) (rules' : List T)
      (settled : Settled reading (length order) moved rules rules' (λ f. read_rows reading.read_places (λ n. f (moved_to (length order) moved n)) rows)) where
    long : length keys ≡ length order + length h.fresh
    long = ap length h.keys_are ∙ length-append order h.fresh

    long' : length keys' ≡ length order + length sorts.sorted
    long' = ap length sorts.keys_are ∙ length-append order sorts.sorted

    to_keys : (k : K) → Has keys k → Has keys' k
    to_keys k m = subst (λ (x : List K). Has x k) (sym sorts.keys_are) (go (has_either order h.fresh k (subst (λ (x : List K). Has x k) h.keys_are m)))
      where
        go : Has order k ⊎ Has h.fresh k → Has (order ++ sorts.sorted) k
        go (inl a) = has_left order sorts.sorted k a
        go (inr b) = has_right order sorts.sorted k ((sorts.same k).1 b)

    from_keys : (k : K) → Has keys' k → Has keys k
    from_keys k m = subst (λ (x : List K). Has x k) (sym h.keys_are) (go (has_either order sorts.sorted k (subst (λ (x : List K). Has x k) sorts.keys_are m)))
      where
        go : Has order k ⊎ Has sorts.sorted k → Has (order ++ h.fresh) k
        go (inl a) = has_left order h.fresh k a
        go (inr b) = has_right order h.fresh k ((sorts.same k).0 b)

    same_total : (f : K → ℕ) → total f keys ≡ total f keys'
    same_total f = let a = total_fewer f keys keys' h.once to_keys in let b = total_fewer f keys' keys sorts.once from_keys in omega arith

    place_at : (xs : List K) (n : ℕ) (d : K) → n < length xs → slice_get xs n ≡ Some (at d xs n)
    place_at [] n d l = absurd (omega arith)
    place_at (x ∷ xs) zero d l = refl
    place_at (x ∷ xs) (suc n) d l = place_at xs n d (omega arith)

    at_back : (d : K) (xs ys : List K) (n : ℕ) → length xs ≤ n → at d (xs ++ ys) n ≡ at d ys (n - length xs)
    at_back d [] ys n l = ap (at d ys) (let e : n ≡ n - 0 = omega arith in e)
    at_back d (x ∷ xs) ys zero l = absurd (omega arith)
    at_back d (x ∷ xs) ys (suc n) l = at_back d xs ys n (omega arith) ∙ ap (at d ys) (let e : n - length xs ≡ suc n - suc (length xs) = omega arith in e)

    moved_key : (d : K) (n : ℕ) → n < length keys → at d keys' (moved_to (length order) moved n) ≡ at d keys n
    moved_key d n l = go (cases_lt n (length order))
      where
        go : (n < length order) ⊎ (length order ≤ n) → at d keys' (moved_to (length order) moved n) ≡ at d keys n
        go (inl a) = ap (at d keys') (stays_low (length order) moved n a) ∙ ap (λ (x : List K). at d x n) sorts.keys_are ∙ at_front d order sorts.sorted n a ∙ sym (at_front d order h.fresh n a) ∙ sym (ap (λ (x : List K). at d x n) h.keys_are)
        go (inr b) =
            let m : n - length order < length h.fresh = (let g = long in omega arith) in
            ap (at d keys') (goes (length order) moved n b) ∙ get_or_from_slice_get keys' (slice_index moved (n - length order)) (at d h.fresh (n - length order)) d (sorts.names (n - length order) (at d h.fresh (n - length order)) (place_at h.fresh (n - length order) d m)) ∙ sym (ap (λ (x : List K). at d x n) h.keys_are ∙ at_back d order h.fresh n b)

    order_low : length order ≤ length keys
    order_low = let g = long in omega arith

    -- settled rules stand for the edges that the rows had
    pub settled_edges : (d : K) → edges_so_far d keys' rules' [] ≡ edges_so_far d keys rules rows
    settled_edges d =
        let a : map (reading.read_positions (at d keys')) rules ≡ map (reading.read_positions (at d order)) rules = ap (λ (x : List K). map (reading.read_positions (at d x)) rules) sorts.keys_are ∙ rules_same d order sorts.sorted rules h.rules_below in
        let b : map (reading.read_positions (at d keys)) rules ≡ map (reading.read_positions (at d order)) rules = ap (λ (x : List K). map (reading.read_positions (at d x)) rules) h.keys_are ∙ rules_same d order h.fresh rules h.rules_below in
        let c : read_rows reading.read_places (λ n. at d keys' (moved_to (length order) moved n)) rows ≡ read_rows reading.read_places (at d keys) rows = rows_same (λ n. at d keys' (moved_to (length order) moved n)) (at d keys) (length order) (length keys) order_low (moved_key d) rows h.rows_below in
        append-nil (map (reading.read_positions (at d keys')) rules') ∙ settled.read (at d keys') ∙ (λ i. (a ∙ sym b) i ++ c i)

    moved_low : (xs : List ℕ) (done : ℕ) → ((i : ℕ) → i < length xs → slice_index xs i < length keys') → Each (λ n. n < length keys') xs
    moved_low [] done f = tt
    moved_low (x ∷ xs) done f = (f 0 (omega arith), moved_low xs done (λ i l. f (suc i) (omega arith)))

    -- all numbers after the move are those of keys
    pub all_moved : Each (λ n. n < length keys') moved
    all_moved = moved_low moved 0 (λ i l. let m : i < length h.fresh = (let c = sorts.counted in omega arith) in low i m (some h.fresh i m))
      where
        some : (xs : List K) (i : ℕ) → i < length xs → (k : K) × (slice_get xs i ≡ Some k)
        some [] i l = absurd (omega arith)
        some (x ∷ xs) zero l = (x, refl)
        some (x ∷ xs) (suc i) l = some xs i (omega arith)

        low : (i : ℕ) → i < length h.fresh → (k : K) × (slice_get h.fresh i ≡ Some k) → slice_index moved i < length keys'
        low i l (k, e) = slice_get_within keys' (slice_index moved i) k (sorts.names i k e)

    -- what is held after the round
    pub finished : Leads p keys' keys' → IsHeld keys' keys' rules' [] parts limit
    finished leads = record {
      fresh = [];
      keys_are = sym (append-nil keys');
      once = sorts.once;
      leads = leads;
      admitted = each_of admits keys' (λ k m. each_has admits keys k h.admitted (from_keys k m));
      rules_below = settled.below (length keys') (let g = long' in omega arith) all_moved (each_weaker (λ t. Each (λ n. n < length order) (reading.positions t)) (λ t. Each (λ n. n < length keys') (reading.positions t)) rules (λ t e. each_weaker (λ n. n < length order) (λ n. n < length keys') (reading.positions t) (λ n q. let g = long' in omega arith) e) h.rules_below);
      rows_below = tt;
      enough = let e = h.enough in let t = same_total p.key_parts in omega arith;
      counted = λ d. let c = h.counted d in let t = same_total p.key_parts in let e = ap (total p.edge_parts) (settled_edges d) in omega arith;
      within = h.within;
    }

    -- the order after the round
    pub round_done : (rounds first : ℕ) → AfterRounds p rounds first order → ((k : K) → Has h.fresh k ↔ IsNew p order first k) → AfterRounds p (suc rounds) (length order) keys'
    round_done rounds first after news = (order, first, sorts.sorted, after, (sorts.ascends, λ k. ((λ m. (news k).0 ((sorts.same k).0 m)), (λ n. (sorts.same k).1 ((news k).1 n)))), refl, sorts.keys_are)

-- after a round the keys lead on
module _ {K O E : Type 0} (p : Exploration K O E) (laws : Laws p) where
  -- the order after some rounds leads on
  pub leads_on : (rounds first : ℕ) (order : List K) → AfterRounds p rounds first order → Leads p order order
  leads_on rounds first order after = record {
    front = λ whole reached. (in_reached p laws rounds first order after whole reached).0;
    stand = λ whole reached k m. let f = (in_reached p laws rounds first order after whole reached).0 in subst (λ (x : List K). Has x k) (sym f.1) (has_left order f.0 k m);
  }
