-- The end of a round: its keys and rows are taken from the shelves.
use Rattle.std.proofs.Common.{◌≡◌, inl, inr, ℕ, zero, suc, ◌+◌, ◌<◌, ◌≤◌, Bool, Option, Some, None, List, [], ◌∷◌, ◌++◌, length, map, slice_get, slice_index, slice_index_or, append-nil, refl, sym, ap, subst, ◌∙◌, arith}
use Rattle.std.specs.Global.{Vec}
use Rattle.std.proofs.lemmas.Option.{slice_get_within}
use Rattle.std.specs.declared.cmp.Ordering.{Ordering}
use Rattle.indexmap.specs.IndexSet.{insert_all}
use Rattle.tib_lex.specs.Lists.{Has, Each, Distinct, Along, total}
use Rattle.tib_table.specs.Known.{on, Names}
use Rattle.tib_table.specs.declared.number.Number.{Number}
use Rattle.tib_expand.specs.EdgeLists.{IsEnd, IsWithin, key_at, position_of}
use Rattle.tib_expand.specs.Reached.{IfTooMany, Exploration, AreEdges, IsBeyond, Leads}
use Rattle.tib_hunt.specs.Numbered.{Name, HaveMore}
use Rattle.tib_expand.specs.Keys.{key_parts}
use Rattle.tib_expand.specs.Reading.{Reading}
use Rattle.tib_hunt.specs.Rows.{read_rows, IsRowBelow}
use Rattle.tib_workers.specs.Rows.{NameOn}
use Rattle.tib_hunt.specs.Known.{NameAt, NameEnds, position_on, IsOn, positions_at, HavePositionsAt, end_positions, AreOn}
use Rattle.tib_hunt.specs.Shelved.{all_on, IsKnownRow, edges_of_rows, placed_row, AreWorked}
use Rattle.tib_hunt.specs.declared.lookups.EndAt.{EndAt}
use Rattle.tib_hunt.specs.declared.lookups.EndAt.TheVariants.{Position, Numbered}
use Rattle.tib_hunt.specs.declared.lookups.Ruled.{Ruled}
use Rattle.tib_hunt.specs.Held.{at, IsBetween as Between, IsWithinRound as WithinRound, edges_so_far as all_edges}
use Rattle.tib_expand.specs.declared.error.HuntError.{HuntError}
use Rattle.tib_expand.specs.declared.place.Place.{Place}
use Rattle.tib_workers.specs.declared.row.Row.{Row as ItemRow}
use Rattle.tib_expand.proofs.Reaching.{IfTooMany-weaker, IsHunt, beyond}
use Rattle.tib_hunt.proofs.Holding.{same_place, named_below, as_many, rules_same, leads_on}
use Rattle.tib_table.proofs.Inserted.{Inserted, inserted}
use Rattle.tib_hunt.proofs.KnownEnds.{got_left}
use Rattle.tib_hunt.proofs.Underway.{on_all, all_somewhere, distinct_all, stands_whole}
use Rattle.tib_lex.proofs.Members.{each_of, has_either, has_left}
use Rattle.tib_lex.proofs.Lists.{total_append, each_weaker, each_append}

module _ {K : Type 0} (keys : List K) where
  named_at : (ends : List K) (ns : List ℕ) → Name keys ends ns → (i : ℕ) (k : K) → slice_get ends i ≡ Some k → slice_get keys (slice_index ns i) ≡ Some k
  named_at [] [] a i k e = grind (arith, e)
  named_at [] (n ∷ ns) a i k e = absurd a
  named_at (x ∷ xs) [] a i k e = absurd a
  named_at (x ∷ xs) (n ∷ ns) a zero k e = a.0 ∙ e
  named_at (x ∷ xs) (n ∷ ns) a (suc i) k e = named_at xs ns a.1 i k e

  along_on : (kss : List (List K)) (nss : List (List ℕ)) → Along (Name keys) kss nss → (j : ℕ) → Name keys (on kss j) (slice_index_or nss j [])
  along_on [] [] a j = tt
  along_on [] (ns ∷ nss) a j = absurd a
  along_on (ks ∷ kss) [] a j = absurd a
  along_on (ks ∷ kss) (ns ∷ nss) a zero = a.0
  along_on (ks ∷ kss) (ns ∷ nss) a (suc j) = along_on kss nss a.1 j

  module _ (kss : List (List K)) (nss : List (List ℕ)) (named : Along (Name keys) kss nss) where
    placed_names : (ends : List K) (ns : List Number) → NameOn kss ends ns → Name keys ends (map (position_on nss) ns)
    placed_names [] [] a = tt
    placed_names [] (n ∷ ns) a = absurd a
    placed_names (x ∷ xs) [] a = absurd a
    placed_names (x ∷ xs) (n ∷ ns) a = (named_at (on kss n.shelf) (slice_index_or nss n.shelf []) (along_on kss nss named n.shelf) n.place x a.0, placed_names xs ns a.1)

    has_place : (n : Number) (x : K) → Names kss n.shelf n.place x → IsOn nss n
    has_place n x e =
        let l = slice_get_within (on kss n.shelf) n.place x e in
        let m = as_many keys (on kss n.shelf) (slice_index_or nss n.shelf []) (along_on kss nss named n.shelf) in
        omega arith

    have_places : (ends : List K) (ns : List Number) → NameOn kss ends ns → Each (IsOn nss) ns
    have_places [] [] a = tt
    have_places [] (n ∷ ns) a = absurd a
    have_places (x ∷ xs) [] a = absurd a
    have_places (x ∷ xs) (n ∷ ns) a = (has_place n x a.0, have_places xs ns a.1)

    module _ (order fresh : List K) (is : keys ≡ order ++ fresh) where
      names_at : (ends : List K) (ats : List EndAt) (ns : List Number) → NameAt order kss ends ats ns → Name keys ends (positions_at nss ats ns)
      names_at [] [] ns a = tt
      names_at [] (at ∷ ats) ns a = absurd a
      names_at (x ∷ xs) [] ns a = absurd a
      names_at (x ∷ xs) (Position n ∷ ats) ns a = (subst (λ (l : List K). slice_get l n ≡ Some x) (sym is) (got_left order fresh n x a.0), names_at xs ats ns a.1)
      names_at (x ∷ xs) (Numbered ∷ ats) [] a = absurd a
      names_at (x ∷ xs) (Numbered ∷ ats) (n ∷ ns) a = (named_at (on kss n.shelf) (slice_index_or nss n.shelf []) (along_on kss nss named n.shelf) n.place x a.0, names_at xs ats ns a.1)

      places_at : (ends : List K) (ats : List EndAt) (ns : List Number) → NameAt order kss ends ats ns → HavePositionsAt nss ats ns
      places_at [] [] ns a = tt
      places_at [] (at ∷ ats) ns a = absurd a
      places_at (x ∷ xs) [] ns a = absurd a
      places_at (x ∷ xs) (Position n ∷ ats) ns a = places_at xs ats ns a.1
      places_at (x ∷ xs) (Numbered ∷ ats) [] a = absurd a
      places_at (x ∷ xs) (Numbered ∷ ats) (n ∷ ns) a = (has_place n x a.0, places_at xs ats ns a.1)

      ends_named : (ends : List K) (at : Option (Vec EndAt)) (ns : List Number) → NameEnds order kss ends at ns → Name keys ends (end_positions nss at ns)
      ends_named ends None ns a = placed_names ends ns a
      ends_named ends (Some at) ns a = names_at ends at.items ns a

      ends_on : (ends : List K) (at : Option (Vec EndAt)) (ns : List Number) → NameEnds order kss ends at ns → AreOn nss at ns
      ends_on ends None ns a = have_places ends ns a
      ends_on ends (Some at) ns a = places_at ends at.items ns a

      -- each end of each row has a position
      pub rows_on : {R : Type 0} (places : R → List Place) (sights : List (List K)) (rows : List (ItemRow (Ruled R))) → Along (IsKnownRow places order kss) sights rows → Each (λ row. AreOn nss row.rules.at row.ends.items) rows
      rows_on places [] [] a = tt
      rows_on places [] (r ∷ rows) a = absurd a
      rows_on places (e ∷ sights) [] a = absurd a
      rows_on places (e ∷ sights) (r ∷ rows) a = (ends_on e r.rules.at r.ends.items a.0.0, rows_on places sights rows a.1)

    module _ {R E : Type 0} (places : R → List Place) (readp : (Place → K) → R → E)
        (reads : (rule : R) (f g : Place → K) → Each (λ place. f place ≡ g place) (places rule) → readp f rule ≡ readp g rule)
        (order fresh : List K) (is : keys ≡ order ++ fresh) where
      row_below : (ends : List K) (row : ItemRow (Ruled R)) → IsKnownRow places order kss ends row → IsRowBelow places (length order) (length keys) (placed_row nss row)
      row_below ends row a =
          let name : Name keys ends (end_positions nss row.rules.at row.ends.items) = ends_named order fresh is ends row.rules.at row.ends.items a.0 in (
            subst (λ (m : ℕ). Each (λ rule. Each (IsWithin (length order) m) (places rule)) row.rules.rules.items) (sym (as_many keys ends (end_positions nss row.rules.at row.ends.items) name)) a.1,
            named_below keys ends (end_positions nss row.rules.at row.ends.items) name,
          )

      pub rows_below : (sights : List (List K)) (rows : List (ItemRow (Ruled R))) → Along (IsKnownRow places order kss) sights rows → Each (IsRowBelow places (length order) (length keys)) (map (placed_row nss) rows)
      rows_below [] [] a = tt
      rows_below [] (r ∷ rows) a = absurd a
      rows_below (e ∷ sights) [] a = absurd a
      rows_below (e ∷ sights) (r ∷ rows) a = (row_below e r a.0, rows_below sights rows a.1)

      rules_read : (d : K) (ends : List K) (ns : List ℕ) → Name keys ends ns → (rs : List R) → Each (λ rule. Each (IsWithin (length order) (length ends)) (places rule)) rs
          → map (readp (λ place. at d keys (position_of ns place))) rs ≡ map (readp (key_at d order ends)) rs
      rules_read d ends ns name [] w = refl
      rules_read d ends ns name (r ∷ rs) w = λ i.
          reads r (λ place. at d keys (position_of ns place)) (key_at d order ends) (each_weaker (IsWithin (length order) (length ends)) _ (places r) (λ place l. sym (same_place d order fresh keys ends ns is name place l)) w.0) i
          ∷ rules_read d ends ns name rs w.1 i

      pub rows_read : (d : K) (sights : List (List K)) (rows : List (ItemRow (Ruled R))) → Along (IsKnownRow places order kss) sights rows → read_rows readp (at d keys) (map (placed_row nss) rows) ≡ edges_of_rows readp d order sights rows
      rows_read d [] [] a = refl
      rows_read d [] (r ∷ rows) a = absurd a
      rows_read d (e ∷ sights) [] a = absurd a
      rows_read d (e ∷ sights) (r ∷ rows) a = λ i. rules_read d e (end_positions nss r.rules.at r.ends.items) (ends_named order fresh is e r.rules.at r.ends.items a.0.0) r.rules.rules.items a.0.1 i ++ rows_read d sights rows a.1 i

module _ {K O E R T : Type 0} {p : Exploration K O E} {admits : K → Type 0} {reading : Reading K E R T}
    {cmp : K → K → Ordering} {entries : K → ℕ} {eq : K → K → Bool} (hunt : IsHunt p admits reading cmp entries eq) (shelf_of : K → ℕ) (low : (k : K) → shelf_of k < 16)
    (order : List K) (first : ℕ) (rules : List T) (was limit : ℕ) (b : Between p admits reading first order rules was limit)
    (kss : List (List K)) (rows : List (ItemRow (Ruled R))) (parts : ℕ) (u : AreWorked p reading shelf_of order first kss rows was parts limit) where
  -- where the keys of the shelves have positions, so have the ends of the rows
  pub all_placed : (keys : List K) → keys ≡ insert_all eq order (all_on kss) → (nss : List (List ℕ)) → Along (Name keys) kss nss → Each (λ row. AreOn nss row.rules.at row.ends.items) rows
  all_placed keys is nss named =
      let i = inserted eq hunt.same hunt.self (all_on kss) order in
      rows_on keys kss nss named order i.new (is ∙ i.keys_are) reading.places u.sights rows u.named

  -- each key is once on the shelves
  pub once_there : Distinct (all_on kss)
  once_there = distinct_all shelf_of kss 0 u.once (λ i k h. let o = (u.only i k h).0 in omega arith)

  ends_only : (shelf : ℕ) (k : K) → Has (on kss shelf) k → (i : ℕ) × (first ≤ i) × (i < length order) × IsEnd (p.edge order i) p.ends_of k
  ends_only shelf k h = (u.only shelf k h).1

  enough_in : total p.key_parts order ≤ parts
  enough_in = go order refl
    where
      go : (l : List K) → l ≡ order → total p.key_parts order ≤ parts
      go [] e = let z = ap (total p.key_parts) e in omega arith
      go (d ∷ l) e = let a = u.counted d in let c = b.held.enough in omega arith

  pub enough_there : total (key_parts entries) order ≤ parts
  enough_there = subst (λ f. total f order ≤ parts) hunt.lawful.same_parts enough_in

  leads : Leads p order order
  leads = leads_on p hunt.laws b.rounds first order b.after

  -- new keys that are too many
  pub too_many_new : HaveMore eq p.key_parts order (all_on kss) parts limit → IsBeyond p limit
  too_many_new ([], among, more) = let w = u.within in absurd (omega arith)
  too_many_new ((d ∷ ds), among, more) =
      let i = inserted eq hunt.same hunt.self (d ∷ ds) order in
      beyond p hunt.laws order (insert_all eq order (d ∷ ds))
      (record {
        front = leads.front;
        stand = λ whole reached k h. elim (has_either order i.new k (subst (λ (l : List K). Has l k) i.keys_are h)) [
          | inl a ↦ leads.stand whole reached k a
          | inr m ↦ stands_whole hunt shelf_of low order first b.rounds b.after kss ends_only whole reached k (among k (i.among k m))
        ];
      })
      (i.once b.held.once) (length order) (all_edges p admits reading d order rules [] ++ edges_of_rows reading.read_places d order u.sights rows) (omega arith) (u.edges d (all_edges p admits reading d order rules []) (b.edges d)) limit
      (let a = u.counted d in
      let c = b.held.counted d in
      let e = total_append p.edge_parts (all_edges p admits reading d order rules []) (edges_of_rows reading.read_places d order u.sights rows) in
      omega arith)

  pub told_new : (e : HuntError) → IfTooMany limit (HaveMore eq (key_parts entries) order (all_on kss) parts limit) e → IfTooMany limit (IsBeyond p limit) e
  told_new e = IfTooMany-weaker limit _ _ e (λ more. too_many_new (subst (λ f. HaveMore eq f order (all_on kss) parts limit) (sym hunt.lawful.same_parts) more))

  -- the new keys and the rows are taken in
  module _ (allow : (i : ℕ) (k : K) → i < length order → IsEnd (p.edge order i) p.ends_of k → admits k)
      (keys : List K) (is : keys ≡ insert_all eq order (all_on kss)) (nss : List (List ℕ)) (named : Along (Name keys) kss nss)
      (parts' : ℕ) (counted : parts' + total (key_parts entries) order ≡ parts + total (key_parts entries) keys) (within : parts' ≤ limit) where
    sums : parts' + total p.key_parts order ≡ parts + total p.key_parts keys
    sums = subst (λ f. parts' + total f order ≡ parts + total f keys) (sym hunt.lawful.same_parts) counted

    i : Inserted eq hunt.same hunt.self order (all_on kss) (insert_all eq order (all_on kss))
    i = inserted eq hunt.same hunt.self (all_on kss) order

    grown : keys ≡ order ++ i.new
    grown = is ∙ i.keys_are

    -- a new key is an end of an item
    an_end : (k : K) → Has i.new k → (n : ℕ) × (first ≤ n) × (n < length order) × IsEnd (p.edge order n) p.ends_of k
    an_end k h =
        let j = all_somewhere kss k (i.among k h) in
        ends_only j.0 k j.1

    edges_are : (d : K) → all_edges p admits reading d keys rules (map (placed_row nss) rows) ≡ all_edges p admits reading d order rules [] ++ edges_of_rows reading.read_places d order u.sights rows
    edges_are d =
        let a : map (reading.read_positions (at d keys)) rules ≡ map (reading.read_positions (at d order)) rules = ap (λ (x : List K). map (reading.read_positions (at d x)) rules) grown ∙ rules_same hunt d order i.new rules b.held.rules_below in
        let c = rows_read keys kss nss named reading.places reading.read_places hunt.lawful.reads_places order i.new grown d u.sights rows u.named in
        (λ j. a j ++ c j) ∙ ap (λ (l : List E). l ++ edges_of_rows reading.read_places d order u.sights rows) (sym (append-nil (map (reading.read_positions (at d order)) rules)))

    pub within_round : WithinRound p admits reading order first (length order) keys rules (map (placed_row nss) rows) parts' limit
    within_round = record {
      rounds = b.rounds;
      after = b.after;
      held = record {
        fresh = i.new;
        keys_are = grown;
        once = subst Distinct (sym is) (i.once b.held.once);
        leads = record {
          front = leads.front;
          stand = λ whole reached k h. elim (has_either order i.new k (subst (λ (l : List K). Has l k) grown h)) [
            | inl a ↦ leads.stand whole reached k a
            | inr m ↦ stands_whole hunt shelf_of low order first b.rounds b.after kss ends_only whole reached k (i.among k m)
          ];
        };
        admitted = subst (Each admits) (sym grown) (each_append admits order i.new b.held.admitted (each_of admits i.new (λ k h. let e = an_end k h in allow e.0 k e.2 e.3)));
        rules_below = b.held.rules_below;
        rows_below = rows_below keys kss nss named reading.places reading.read_places hunt.lawful.reads_places order i.new grown u.sights rows u.named;
        enough = let e = enough_in in let c = sums in omega arith;
        counted = λ d.
            let a = u.counted d in
            let c = b.held.counted d in
            let f = sums in
            let e = ap (total p.edge_parts) (edges_are d) ∙ total_append p.edge_parts (all_edges p admits reading d order rules []) (edges_of_rows reading.read_places d order u.sights rows) in
            omega arith;
        within = within;
      };
      from = b.low;
      low = omega arith;
      edges = λ d. subst (AreEdges p order (length order)) (sym (edges_are d)) (u.edges d (all_edges p admits reading d order rules []) (b.edges d));
      ends = λ k h out. elim (has_either order i.new k (subst (λ (l : List K). Has l k) grown h)) [
        | inl a ↦ absurd (out a)
        | inr m ↦ (an_end k m, out)
      ];
      seen = λ n k a l e. elim (u.stands n k a l e) [
        | inl m ↦ subst (λ (x : List K). Has x k) (sym grown) (has_left order i.new k m)
        | inr h ↦ subst (λ (x : List K). Has x k) (sym is) (i.there k (on_all kss (shelf_of k) k h))
      ];
    }
