-- A round over its items: their ends go on the shelves, and their rows name them there.
use Rattle.std.proofs.Common.{◌≡◌, ◌⊎◌, inl, inr, ⊎_elim, ℕ, zero, suc, ◌+◌, ◌-◌, ◌<◌, ◌≤◌, ◌↔◌, Bool, true, false, Some, None, List, [], ◌∷◌, ◌++◌, Option, length, map, length-append, append_assoc, append-nil, if◌then◌else◌, nat_lt, refl, sym, ap, subst, ◌∙◌, arith}
use Rattle.std.specs.declared.cmp.Ordering.{Ordering}
use Rattle.std.specs.List.{list_any}
use Rattle.std.proofs.lemmas.Bool.{cases_lt}
use Rattle.std.proofs.lemmas.Bool.Decides.{nat_tests}
use Rattle.tib_lex.specs.Lists.{Has, Distinct, Along, total}
use Rattle.tib_table.specs.Known.{on}
use Rattle.tib_table.specs.declared.number.Number.{Number}
use Rattle.tib_expand.specs.EdgeLists.{IsEnd, key_at}
use Rattle.tib_expand.specs.Reached.{IfTooMany, Exploration, AfterRounds, IsReached, AreEdges, IsBeyond}
use Rattle.tib_expand.specs.Expanded.{IsEndAt}
use Rattle.tib_expand.specs.Keys.{key_parts}
use Rattle.tib_expand.specs.Reading.{Reading}
use Rattle.tib_hunt.specs.RoundModel.{Core, opened, IsItem, next_item, with_draw, with_key, with_filed}
use Rattle.tib_hunt.specs.declared.event.Event.TheVariants.{Draw, File}
use Rattle.tib_hunt.specs.RoundLaw.{IsKept}
use Rattle.tib_hunt.specs.Shelved.{all_on, with_keys, NameOn, ShelvesHaveMore, IsShelvedRow, edges_of_rows, IsWorked, IsTooMuch, IsUnderway as Underway, IsKnownRow, AreWorked}
use Rattle.tib_hunt.specs.Held.{IsBetween as Between, edges_so_far as all_edges}
use Rattle.tib_expand.specs.declared.error.HuntError.{HuntError}
use Rattle.tib_workers.specs.declared.row.Row.{Row as ItemRow}
use Rattle.tib_hunt.specs.Known.{NameEnds}
use Rattle.tib_hunt.specs.declared.lookups.Ruled.{Ruled}
use Rattle.tib_expand.proofs.Reaching.{IfTooMany-weaker, IsHunt, beyond, beyond_more, in_reached}
use Rattle.tib_hunt.proofs.Holding.{leads_on}
use Rattle.tib_table.proofs.Inserted.{any_has, not_any}
use Rattle.tib_table.proofs.Sights.{along_snoc}
use Rattle.tib_hunt.proofs.OnShelves.{still_name}
use Rattle.tib_hunt.proofs.Runs.{has_snoc, has_last, begins, kept_after, kept_keys, KeptWith}
use Rattle.tib_lex.proofs.Members.{has_either, has_left, has_right}
use Rattle.tib_lex.proofs.Lists.{total_append}

module _ {P K O E : Type 0} (of : P → Exploration K O E) (problem : P) (order : List K) (first : ℕ)
    (eq : K → K → Bool) (same : (x y : K) → eq x y ≡ true → x ≡ y) (self : (x : K) → eq x x ≡ true) (shelf_of : K → ℕ) (low : (k : K) → shelf_of k < 16)
    (s : Core K) (kept : IsKept shelf_of first (length order - first) (IsEndAt (of problem) order) s) (item : ℕ) (drawn : IsItem first s.drawn item)
    (ends : List K) (are : (k : K) → Has ends k ↔ IsEndAt (of problem) order item k) where
  with_ends : KeptWith eq same self shelf_of low first (length order - first) (IsEndAt (of problem) order) s (with_keys eq shelf_of s ends) ends
  with_ends = kept_keys eq same self shelf_of low first (length order - first) (IsEndAt (of problem) order) s ends kept (λ k h. (item, drawn, (are k).0 h))

  module _ (about : P × List K × ℕ) (is : about ≡ (problem, order, first)) where
    -- the ends of the item may be numbered
    pub ends_drawn : (k : K) → Has ends k → (i : ℕ) × IsItem about.2 s.drawn i × IsEndAt (of about.0) about.1 i k
    ends_drawn = subst (λ (a : P × List K × ℕ). (k : K) → Has ends k → (i : ℕ) × IsItem a.2 s.drawn i × IsEndAt (of a.0) a.1 i k) (sym is) (λ k h. (item, drawn, (are k).0 h))

    module _ (s' : Core K) (core : s' ≡ with_keys eq shelf_of s ends) where
      -- the item was drawn
      pub file_drawn : IsItem about.2 s'.drawn item
      file_drawn = subst (λ (a : P × List K × ℕ). IsItem a.2 s'.drawn item) (sym is) (subst (λ (n : ℕ). IsItem first n item) (sym (ap (λ (u : Core K). u.drawn) core ∙ with_ends.drawn)) drawn)

      -- the item was not filed before
      pub file_once : (Has s.filed item → ⊥) → Has s'.filed item → ⊥
      file_once out h = out (subst (λ (l : List ℕ). Has l item) (ap (λ (u : Core K). u.filed) core ∙ with_ends.filed) h)

      -- the ends of the item are on the shelves
      pub file_ends : (k : K) → IsEndAt (of about.0) about.1 item k → Has (on s'.shelves (shelf_of k)) k
      file_ends = subst (λ (a : P × List K × ℕ). (k : K) → IsEndAt (of a.0) a.1 item k → Has (on s'.shelves (shelf_of k)) k) (sym is)
          (λ k e. subst (λ (u : Core K). Has (on u.shelves (shelf_of k)) k) (sym core) (with_ends.there k ((are k).1 e)))

-- shelves as one list
pub on_all : {K : Type 0} (kss : List (List K)) (j : ℕ) (k : K) → Has (on kss j) k → Has (all_on kss) k
on_all [] j k h = absurd h
on_all (ks ∷ kss) zero k h = has_left ks (all_on kss) k h
on_all (ks ∷ kss) (suc j) k h = has_right ks (all_on kss) k (on_all kss j k h)

-- a key of all shelves is on one
pub all_somewhere : {K : Type 0} (kss : List (List K)) (k : K) → Has (all_on kss) k → (j : ℕ) × Has (on kss j) k
all_somewhere [] k h = absurd h
all_somewhere (ks ∷ kss) k h = elim (has_either ks (all_on kss) k h) [
  | inl a ↦ (0, a)
  | inr b ↦ (let r = all_somewhere kss k b in (suc r.0, r.1))
]

distinct_both : {K : Type 0} (xs ys : List K) → Distinct xs → Distinct ys → ((k : K) → Has xs k → Has ys k → ⊥) → Distinct (xs ++ ys)
distinct_both [] ys a b n = b
distinct_both (x ∷ xs) ys a b n = ((λ h. ⊎_elim a.0 (n x (inl refl)) (has_either xs ys x h)), distinct_both xs ys a.1 b (λ k h m. n k (inr h) m))

-- keys that are once on their own shelves are distinct
pub distinct_all : {K : Type 0} (shelf_of : K → ℕ) (kss : List (List K)) (j : ℕ) → ((i : ℕ) → Distinct (on kss i)) → ((i : ℕ) (k : K) → Has (on kss i) k → shelf_of k ≡ j + i) → Distinct (all_on kss)
distinct_all shelf_of [] j once own = tt
distinct_all shelf_of (ks ∷ kss) j once own =
    distinct_both ks (all_on kss) (once 0) (distinct_all shelf_of kss (j + 1) (λ i. once (suc i)) (λ i k h. own (suc i) k h ∙ (let e : j + suc i ≡ (j + 1) + i = omega arith in e)))
    (λ k h m. let r = all_somewhere kss k m in let a = own 0 k h in let b = own (suc r.0) k r.1 in absurd (omega arith))

module _ {K O E R T : Type 0} {p : Exploration K O E} {admits : K → Type 0} {reading : Reading K E R T}
    {cmp : K → K → Ordering} {entries : K → ℕ} {eq : K → K → Bool} (hunt : IsHunt p admits reading cmp entries eq) (shelf_of : K → ℕ) (low : (k : K) → shelf_of k < 16) where
  abbrev IsUnderway : List K → ℕ → ℕ → Core K → List (ItemRow (Ruled R)) → ℕ → ℕ → ℕ → Type 0
  IsUnderway = Underway p reading eq shelf_of

  abbrev ends_at : List K → ℕ → K → Type 0
  ends_at order i k = IsEnd (p.edge order i) p.ends_of k

  rows_snoc : (d : K) (order : List K) (sights : List (List K)) (rows : List (ItemRow (Ruled R))) (shelves : List (List K)) (bound : ℕ) → Along (IsShelvedRow reading.places bound shelves) sights rows → (ends : List K) (row : ItemRow (Ruled R))
      → edges_of_rows reading.read_places d order (sights ++ ends ∷ []) (rows ++ row ∷ []) ≡ edges_of_rows reading.read_places d order sights rows ++ map (reading.read_places (key_at d order ends)) row.rules.rules.items
  rows_snoc d order [] [] shelves bound a ends row = append-nil (map (reading.read_places (key_at d order ends)) row.rules.rules.items)
  rows_snoc d order [] (r ∷ rows) shelves bound a ends row = absurd a
  rows_snoc d order (e ∷ sights) [] shelves bound a ends row = absurd a
  rows_snoc d order (e ∷ sights) (r ∷ rows) shelves bound a ends row = ap (λ (l : List E). map (reading.read_places (key_at d order e)) r.rules.rules.items ++ l) (rows_snoc d order sights rows shelves bound a.1 ends row)
      ∙ sym (append_assoc (map (reading.read_places (key_at d order e)) r.rules.rules.items) (edges_of_rows reading.read_places d order sights rows) (map (reading.read_places (key_at d order ends)) row.rules.rules.items))

  -- numbers still name their keys after more keys were numbered
  name_still : (s : Core K) (ks : List K) → length s.shelves ≡ 16 → (first count : ℕ) (is_end : ℕ → K → Type 0) → IsKept shelf_of first count is_end s → ((k : K) → Has ks k → (i : ℕ) × IsItem first s.drawn i × is_end i k)
      → (ends : List K) (ns : List Number) → NameOn s.shelves ends ns → NameOn (with_keys eq shelf_of s ks).shelves ends ns
  name_still s [] wide first count is_end c drawn ends ns a = a
  name_still s (k ∷ ks) wide first count is_end c drawn ends ns a =
      let one = kept_keys eq hunt.same hunt.self shelf_of low first count is_end s (k ∷ []) c (λ x h. drawn x (go x h)) in
      name_still (with_key eq shelf_of s k) ks one.kept.wide first count is_end one.kept (λ x h. drawn x (inr h)) ends ns
      (still_name eq hunt.same hunt.self p.key_parts s.shelves (shelf_of k) k (let l = low k in omega arith) ends ns a)
    where
      go : (x : K) → Has (k ∷ []) x → Has (k ∷ ks) x
      go x (inl e) = inl e
      go x (inr h) = absurd h

  rows_still : (bound : ℕ) (shelves shelves' : List (List K)) → ((ends : List K) (ns : List Number) → NameOn shelves ends ns → NameOn shelves' ends ns) → (sights : List (List K)) (rows : List (ItemRow (Ruled R))) → Along (IsShelvedRow reading.places bound shelves) sights rows → Along (IsShelvedRow reading.places bound shelves') sights rows
  rows_still bound shelves shelves' f [] [] a = tt
  rows_still bound shelves shelves' f [] (r ∷ rows) a = absurd a
  rows_still bound shelves shelves' f (e ∷ sights) [] a = absurd a
  rows_still bound shelves shelves' f (e ∷ sights) (r ∷ rows) a = ((f e r.ends.items a.0.0, a.0.1, a.0.2), rows_still bound shelves shelves' f sights rows a.1)

  -- the ends of an item bring too many keys on the shelves
  pub told_shelves : (order : List K) (item : ℕ) (s : Core K) (parts limit : ℕ) (ends : List K) → ((k : K) → Has ends k ↔ ends_at order item k)
      → (e : HuntError) → IfTooMany limit (ShelvesHaveMore eq shelf_of (key_parts entries) s (Has ends) limit) e → IfTooMany limit (IsTooMuch p reading eq shelf_of order item s parts limit) e
  told_shelves order item s parts limit ends are e = IfTooMany-weaker limit _ _ e (λ (front, among, more).
      inr (front, (λ k m. (are k).0 (among k m)), subst (λ f. limit < total f (all_on (with_keys eq shelf_of s front).shelves)) (sym hunt.lawful.same_parts) more))

  abbrev IsItemsEnd : List K → ℕ → K → Type 0
  IsItemsEnd order first k = (i : ℕ) × (first ≤ i) × (i < length order) × ends_at order i k

  -- what is on the shelves is an end of an item
  items_end : (order : List K) (first : ℕ) → first ≤ length order → (t : Core K) → IsKept shelf_of first (length order - first) (ends_at order) t → (shelf : ℕ) (k : K) → Has (on t.shelves shelf) k → IsItemsEnd order first k
  items_end order first l t kept shelf k h =
      let o = (kept.only shelf k h).1 in
      let few = kept.few in
      let below = o.1.1 in
      (o.0, o.1.0, omega arith, o.2)

  -- what is on the shelves is in the reached order
  pub stands_whole : (order : List K) (first rounds : ℕ) → AfterRounds p rounds first order → (shelves : List (List K)) → ((shelf : ℕ) (k : K) → Has (on shelves shelf) k → IsItemsEnd order first k)
      → (whole : List K) → IsReached p whole → (k : K) → Has (all_on shelves) k → Has whole k
  stands_whole order first rounds after shelves only whole reached k h =
      let j = all_somewhere shelves k h in
      let o = only j.0 k j.1 in
      known o.0 o.1 o.2 o.3 (list_any (eq k) order) refl
    where
      known : (i : ℕ) → first ≤ i → i < length order → ends_at order i k → (c : Bool) → list_any (eq k) order ≡ c → Has whole k
      known i a l e true q = (leads_on p hunt.laws rounds first order after).stand whole reached k (any_has eq hunt.same hunt.self k order q)
      known i a l e false q = (in_reached p hunt.laws rounds first order after whole reached).1 k ((i, a, l, e), not_any eq hunt.same hunt.self k order q)

  -- nothing is drawn yet
  pub underway_none : (order : List K) (first : ℕ) (was limit : ℕ) → was ≤ limit → IsUnderway order first first opened [] was was limit
  underway_none order first was limit within = record {
    kept = begins eq hunt.same hunt.self shelf_of low first (length order - first) (ends_at order);
    filed = λ i a b. absurd (omega arith);
    only_filed = λ i h. absurd h;
    from = omega arith;
    drawn = omega arith;
    one_each = omega arith;
    sights = [];
    named = tt;
    edges = λ d front a. subst (AreEdges p order first) (sym (append-nil front)) a;
    counted = λ d. omega arith;
    within = within;
  }

  module _ (order : List K) (first n : ℕ) (s : Core K) (rows : List (ItemRow (Ruled R))) (was parts limit : ℕ) (u : IsUnderway order first n s rows was parts limit) where
    -- the next item is drawn
    pub underway_drawn : (s' : Core K) → s' ≡ with_draw (length order - first) s → first + s.drawn ≡ n → n < length order
        → IsUnderway order first n s' rows was parts limit × (first + s'.drawn ≡ n + 1) × (next_item first (length order - first) s ≡ Some n)
    underway_drawn s' is at below =
        let b : nat_lt s.drawn (length order - first) ≡ true = (let f = u.from in grind (arith, nat_tests)) in
        let t : Core K = record { drawn = s.drawn + 1; shelves = s.shelves; filed = s.filed } in
        let e : s' ≡ t = is ∙ ap (λ (c : Bool). record { drawn = if c then s.drawn + 1 else s.drawn; shelves = s.shelves; filed = s.filed }) b in
        let k : IsKept shelf_of first (length order - first) (ends_at order) (with_draw (length order - first) s) = kept_after eq hunt.same hunt.self shelf_of low first (length order - first) (ends_at order) s Draw u.kept tt in
        let v : IsUnderway order first n t rows was parts limit = record {
          kept = subst (IsKept shelf_of first (length order - first) (ends_at order)) (sym is ∙ e) k;
          filed = u.filed;
          only_filed = u.only_filed;
          from = u.from;
          drawn = (let d = u.drawn in omega arith);
          one_each = u.one_each;
          sights = u.sights;
          named = u.named;
          edges = u.edges;
          counted = u.counted;
          within = u.within;
        } in (
          subst (λ (c : Core K). IsUnderway order first n c rows was parts limit) (sym e) v,
          ap (λ (c : Core K). first + c.drawn) e ∙ (let q : first + (s.drawn + 1) ≡ n + 1 = omega arith in q),
          ap (λ (c : Bool). if c then Some (first + s.drawn) else None) b ∙ ap (λ (i : ℕ). Some i) at,
        )

    module _ {P : Type 0} (problem : P) (about : P × List K × ℕ) (is : about ≡ (problem, order, first)) (s' : Core K) (core : s' ≡ with_draw (length about.1 - about.2) s) (at : first + s.drawn ≡ n) (below : n < length order)
        (drawn : Option ℕ) (next : drawn ≡ next_item about.2 (length about.1 - about.2) s) where
      all_next : IsUnderway order first n s' rows was parts limit × (first + s'.drawn ≡ n + 1) × (next_item first (length order - first) s ≡ Some n)
      all_next = underway_drawn s' (core ∙ ap (λ (a : P × List K × ℕ). with_draw (length a.1 - a.2) s) is) at below

      -- what holds after the draw
      pub next_under : IsUnderway order first n s' rows was parts limit
      next_under = all_next.0

      -- the draw counted one item
      pub next_at : first + s'.drawn ≡ n + 1
      next_at = all_next.1

      -- the draw returned the next item
      pub next_some : drawn ≡ Some n
      next_some = next ∙ ap (λ (a : P × List K × ℕ). next_item a.2 (length a.1 - a.2) s) is ∙ all_next.2

      -- which item was drawn
      pub next_is : (item : ℕ) → drawn ≡ Some item → item ≡ n
      next_is item e = let f : Some item ≡ Some n = sym e ∙ next_some in cc

      -- the item counts as drawn
      pub next_drawn : (item : ℕ) → drawn ≡ Some item → IsItem first s'.drawn item
      next_drawn item e = let i = next_is item e in let a = next_at in let f = u.from in (omega arith, omega arith)

      -- the item was not filed before
      pub next_once : (item : ℕ) → drawn ≡ Some item → Has s'.filed item → ⊥
      next_once item e h = let i = next_is item e in let l = next_under.only_filed item h in omega arith

      -- the draw left the shelves as they were
      pub next_shelves : s'.shelves ≡ s.shelves
      next_shelves = ap (λ (c : Core K). c.shelves) core

      -- the parts are within the limit
      pub next_within : parts ≤ limit
      next_within = u.within

    module _ (at : first + s.drawn ≡ n + 1) where
      item_drawn : IsItem first s.drawn n
      item_drawn = (u.from, omega arith)

      -- the next item was not filed before
      pub not_filed : Has s.filed n → ⊥
      not_filed h = let l = u.only_filed n h in absurd (omega arith)

      -- an item was expanded
      pub underway_more : (t : Core K) (rows' : List (ItemRow (Ruled R))) (parts' : ℕ) → IsWorked p reading eq shelf_of order n s rows parts t rows' parts' limit → IsUnderway order first (n + 1) t rows' was parts' limit
      underway_more t rows' parts' w =
          let c = kept_keys eq hunt.same hunt.self shelf_of low first (length order - first) (ends_at order) s w.ends u.kept (λ k h. (n, item_drawn, (w.are_ends k).0 h)) in
          let t' : Core K = with_filed (with_keys eq shelf_of s w.ends) n in
          let next : suc n ≡ n + 1 = omega arith in
          let grown : (d : K) → edges_of_rows reading.read_places d order (u.sights ++ w.ends ∷ []) rows' ≡ edges_of_rows reading.read_places d order u.sights rows ++ map (reading.read_places (key_at d order w.ends)) w.row.rules.rules.items
          = λ d. ap (edges_of_rows reading.read_places d order (u.sights ++ w.ends ∷ [])) w.rows_are ∙ rows_snoc d order u.sights rows s.shelves (length order) u.named w.ends w.row in
          record {
            kept = subst (IsKept shelf_of first (length order - first) (ends_at order)) (sym w.core_is)
                (kept_after eq hunt.same hunt.self shelf_of low first (length order - first) (ends_at order) (with_keys eq shelf_of s w.ends) (File n) c.kept
                (subst (λ (d : ℕ). IsItem first d n) (sym c.drawn) item_drawn, (λ h. not_filed (subst (λ (l : List ℕ). Has l n) c.filed h)), (λ k e. c.there k ((w.are_ends k).1 e))));
            filed = λ i a b. subst (λ (x : Core K). Has x.filed i) (sym w.core_is) (subst (λ (l : List ℕ). Has (l ++ n ∷ []) i) (sym c.filed) (go i a b (cases_lt i n)));
            only_filed = λ i h. ⊎_elim (λ a. let l = u.only_filed i (subst (λ (l : List ℕ). Has l i) c.filed a) in omega arith) (λ (e : n ≡ i). omega arith) (has_snoc (with_keys eq shelf_of s w.ends).filed n i (subst (λ (x : Core K). Has x.filed i) w.core_is h));
            from = (let f = u.from in omega arith);
            drawn = (let e = ap (λ (x : Core K). x.drawn) w.core_is ∙ c.drawn in omega arith);
            one_each = (let e = ap length w.rows_are ∙ length-append rows (w.row ∷ []) in let o = u.one_each in omega arith);
            sights = u.sights ++ w.ends ∷ [];
            named = subst (λ (l : List (ItemRow (Ruled R))). Along (IsShelvedRow reading.places (length order) t.shelves) (u.sights ++ w.ends ∷ []) l) (sym w.rows_are)
                (along_snoc (IsShelvedRow reading.places (length order) t.shelves) u.sights rows w.ends w.row
                (rows_still (length order) s.shelves t.shelves (λ ends ns a. subst (λ (x : Core K). NameOn x.shelves ends ns) (sym w.core_is) (name_still s w.ends u.kept.wide first (length order - first) (ends_at order) u.kept (λ k h. (n, item_drawn, (w.are_ends k).0 h)) ends ns a)) u.sights rows u.named)
                (w.named, w.listed.within, w.all_numbered));
            edges = λ d front a. subst (λ (m : ℕ). AreEdges p order m (front ++ edges_of_rows reading.read_places d order (u.sights ++ w.ends ∷ []) rows')) next
                (front ++ edges_of_rows reading.read_places d order u.sights rows, map (reading.read_places (key_at d order w.ends)) w.row.rules.rules.items, ap (λ (l : List E). front ++ l) (grown d) ∙ sym (append_assoc front (edges_of_rows reading.read_places d order u.sights rows) (map (reading.read_places (key_at d order w.ends)) w.row.rules.rules.items)), u.edges d front a, w.listed.edges d);
            counted = λ d.
                let a = u.counted d in
                let b = ap (total p.edge_parts) (grown d) ∙ total_append p.edge_parts (edges_of_rows reading.read_places d order u.sights rows) (map (reading.read_places (key_at d order w.ends)) w.row.rules.rules.items) in
                let e = w.listed.counted d in
                let f = w.counted in
                omega arith;
            within = w.within;
          }
        where
          go : (i : ℕ) → first ≤ i → i < n + 1 → (i < n) ⊎ (n ≤ i) → Has (s.filed ++ n ∷ []) i
          go i a b (inl l) = has_left s.filed (n ∷ []) i (u.filed i a l)
          go i a b (inr l) = let e : n ≡ i = omega arith in subst (λ (j : ℕ). Has (s.filed ++ n ∷ []) j) e (has_last s.filed n)

      -- no more is drawn meanwhile
      pub more_at : (t : Core K) (rows' : List (ItemRow (Ruled R))) (parts' : ℕ) → IsWorked p reading eq shelf_of order n s rows parts t rows' parts' limit → first + t.drawn ≡ n + 1
      more_at t rows' parts' w =
          let c = kept_keys eq hunt.same hunt.self shelf_of low first (length order - first) (ends_at order) s w.ends u.kept (λ k h. (n, item_drawn, (w.are_ends k).0 h)) in
          ap (λ (i : ℕ). first + i) (ap (λ (x : Core K). x.drawn) w.core_is ∙ c.drawn) ∙ at

      module _ (rules : List T) (b : Between p admits reading first order rules was limit) (below : n < length order) where
        abbrev settled : K → List E
        settled d = all_edges p admits reading d order rules []

        all_so_far : (d : K) → AreEdges p order n (settled d ++ edges_of_rows reading.read_places d order u.sights rows)
        all_so_far d = u.edges d (settled d) (b.edges d)

        counted_so_far : (d : K) → parts ≡ total p.key_parts order + total p.edge_parts (settled d ++ edges_of_rows reading.read_places d order u.sights rows)
        counted_so_far d =
            let a = u.counted d in
            let c = b.held.counted d in
            let e = total_append p.edge_parts (settled d) (edges_of_rows reading.read_places d order u.sights rows) in
            omega arith

        some : (xs : List K) → n < length xs → K
        some [] l = absurd (omega arith)
        some (x ∷ xs) l = x

        -- too many edges, or too many keys on the shelves
        pub too_much : IsTooMuch p reading eq shelf_of order n s parts limit → IsBeyond p limit
        too_much (inl more) =
            let d : K = some order below in
            beyond_more p hunt.laws order order (leads_on p hunt.laws b.rounds first order b.after) b.held.once n (settled d ++ edges_of_rows reading.read_places d order u.sights rows) (omega arith) (all_so_far d) limit (limit - parts) below more
            (let c = counted_so_far d in let w = u.within in omega arith)
        too_much (inr (front, among, more)) =
            let d : K = some order below in
            let c = kept_keys eq hunt.same hunt.self shelf_of low first (length order - first) (ends_at order) s front u.kept (λ k h. (n, item_drawn, among k h)) in
            let kss : List (List K) = (with_keys eq shelf_of s front).shelves in
            let f = leads_on p hunt.laws b.rounds first order b.after in
            beyond p hunt.laws order (all_on kss)
            (record {
              front = f.front;
              stand = stands_whole order first b.rounds b.after kss (items_end order first b.low (with_keys eq shelf_of s front) c.kept);
            })
            (distinct_all shelf_of kss 0 c.kept.once (λ i k h. (c.kept.only i k h).0 ∙ (let z : i ≡ 0 + i = omega arith in z)))
            n (settled d ++ edges_of_rows reading.read_places d order u.sights rows) (omega arith) (all_so_far d) limit (omega arith)

        -- the error of an item says that no reached set is within the limit
        pub told_much : (e : HuntError) → IfTooMany limit (IsTooMuch p reading eq shelf_of order n s parts limit) e → IfTooMany limit (IsBeyond p limit) e
        told_much e = IfTooMany-weaker limit _ _ e too_much

  named_known : (order : List K) (shelves : List (List K)) (sights : List (List K)) (rows : List (ItemRow (Ruled R))) → Along (IsShelvedRow reading.places (length order) shelves) sights rows → Along (IsKnownRow reading.places order shelves) sights rows
  named_known order shelves [] [] a = tt
  named_known order shelves [] (r ∷ rows) a = absurd a
  named_known order shelves (e ∷ sights) [] a = absurd a
  named_known order shelves (e ∷ sights) (r ∷ rows) a = ((subst (λ at. NameEnds order shelves e at r.ends.items) (sym a.0.2) a.0.0, a.0.1), named_known order shelves sights rows a.1)

  -- once all items are expanded, the round is done
  pub underway_worked : (order : List K) (first : ℕ) (s : Core K) (rows : List (ItemRow (Ruled R))) (was parts limit : ℕ) → IsUnderway order first (length order) s rows was parts limit
      → (shelves : List (List K)) → s.shelves ≡ shelves → AreWorked p reading shelf_of order first shelves rows was parts limit
  underway_worked order first s rows was parts limit u shelves is = subst (λ (l : List (List K)). AreWorked p reading shelf_of order first l rows was parts limit) is (record {
    once = u.kept.once;
    only = λ shelf k h. ((u.kept.only shelf k h).0, items_end order first u.from s u.kept shelf k h);
    stands = λ i k a l e. inr (u.kept.stands i (u.filed i a l) k e);
    sights = u.sights;
    named = named_known order s.shelves u.sights rows u.named;
    edges = u.edges;
    counted = u.counted;
    within = u.within;
  })
