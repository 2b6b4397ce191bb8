-- The steps of a hunt: the seeds, a position that is expanded, a round that ends, and what is too
-- much.
use Rattle.std.proofs.Common.{◌≡◌, inl, inr, ℕ, zero, suc, ◌+◌, ◌-◌, ◌<◌, ◌≤◌, ◌↔◌, Bool, List, [], ◌∷◌, ◌++◌, length, map, take, length-append, append_assoc, refl, sym, ap, subst, ◌∙◌, arith}
use Rattle.std.proofs.lemmas.Bool.{cases_lt}
use Rattle.std.specs.declared.cmp.Ordering.{Ordering}
use Rattle.std.specs.declared.cmp.Ordering.TheVariants.{Less}
use Rattle.indexmap.specs.IndexSet.{insert_all}
use Rattle.tib_lex.specs.Lists.{Has, Distinct, Ascends, total}
use Rattle.tib_expand.specs.EdgeLists.{AreListed, IsEnd, Exceeds, key_at}
use Rattle.tib_expand.specs.Reached.{Exploration, IsNew, AfterRounds, IsReached, AreEdges, IsBeyond, Leads}
use Rattle.tib_hunt.specs.Numbered.{Name, HaveMore, IsInOrder, moved_to}
use Rattle.tib_expand.specs.Keys.{key_parts}
use Rattle.tib_expand.specs.Reading.{Reading}
use Rattle.tib_hunt.specs.Rows.{NumberedRow, read_rows}
use Rattle.tib_expand.proofs.Reaching.{IsHunt, edges_stay, beyond, beyond_more, in_reached, seeds_reached}
use Rattle.tib_table.proofs.Sights.{take_front, total_least}
use Rattle.tib_hunt.proofs.Settling.{Settled}
use Rattle.tib_hunt.proofs.Holding.{edges_so_far, IsHeld, IsBetween, IsWithinRound, added, more_edges, finished, settled_edges, round_done, leads_on}
use Rattle.tib_table.proofs.Inserted.{Inserted, inserted}
use Rattle.tib_lex.proofs.Members.{each_of, has_either, has_left, has_right}
use Rattle.tib_lex.proofs.Lists.{total_append}

-- no key is in both parts of a list of distinct keys
pub apart_of : {K : Type 0} (xs ys : List K) (k : K) → Distinct (xs ++ ys) → Has xs k → Has ys k → ⊥
apart_of [] ys k d h m = h
apart_of (x ∷ xs) ys k d (inl e) m = d.0 (has_right xs ys x (subst (Has ys) (sym e) m))
apart_of (x ∷ xs) ys k d (inr h) m = apart_of xs ys k d.1 h m

module _ {K O E R T : Type 0} {p : Exploration K O E} {admits : K → Type 0} {reading : Reading K E R T}
    {cmp : K → K → Ordering} {entries : K → ℕ} {eq : K → K → Bool} (hunt : IsHunt p admits reading cmp entries eq) where
  -- the keys have no more parts than all together
  pub keys_counted : {order keys : List K} {rules : List T} {rows : List (NumberedRow R)} {parts limit : ℕ} → IsHeld hunt order keys rules rows parts limit → total (key_parts entries) keys ≤ parts
  keys_counted {order} {keys} {rules} {rows} {parts} held = subst (λ f. total f keys ≤ parts) hunt.lawful.same_parts held.enough

  -- there are no more keys than the limit
  pub few_keys : {order keys : List K} {rules : List T} {rows : List (NumberedRow R)} {parts limit : ℕ} → IsHeld hunt order keys rules rows parts limit → length keys ≤ limit
  few_keys {order} {keys} held = let least = total_least entries keys in let a = keys_counted held in let b = held.within in omega arith

  -- keys that are too many
  pub too_many_keys : (order keys : List K) (rules : List T) (rows : List (NumberedRow R)) (parts limit : ℕ) (h : IsHeld hunt order keys rules rows parts limit)
      (edge : O → E → Type 0) (ends : List K) (rs : List R) (ep : ℕ) → AreListed edge p.edge_parts reading.places reading.read_places order ends rs ep
      → ((k : K) → Has ends k → (Has order k → ⊥) → (whole : List K) → IsReached p whole → Has whole k)
      → (n : ℕ) → n ≤ length order → ((d : K) → AreEdges p order n (edges_so_far hunt d keys rules rows ++ map (reading.read_places (key_at d order ends)) rs))
      → parts + ep ≤ limit → HaveMore eq p.key_parts keys ends (parts + ep) limit → IsBeyond p limit
  too_many_keys order keys rules rows parts limit h edge ends rs ep l stand n low edges within ([], among, more) = absurd (omega arith)
  too_many_keys order keys rules rows parts limit h edge ends rs ep l stand n low edges within ((d ∷ ds), among, more) =
      let i = inserted eq hunt.same hunt.self (d ∷ ds) keys in
      let once = i.once h.once in
      let whole_is : insert_all eq keys (d ∷ ds) ≡ order ++ (h.fresh ++ i.new) = i.keys_are ∙ ap (λ (x : List K). x ++ i.new) h.keys_are ∙ append_assoc order h.fresh i.new in
      let leads : Leads p order (insert_all eq keys (d ∷ ds)) = record {
        front = h.leads.front;
        stand = λ whole reached k m. elim (has_either keys i.new k (subst (λ (x : List K). Has x k) i.keys_are m)) [
          | inl a ↦ h.leads.stand whole reached k a
          | inr b ↦ stand k (among k (i.among k b)) (λ o. apart_of order (h.fresh ++ i.new) k (subst Distinct whole_is once) o (has_right h.fresh i.new k b)) whole reached
        ];
      } in
      let a = h.counted d in
      let b = total_append p.edge_parts (edges_so_far hunt d keys rules rows) (map (reading.read_places (key_at d order ends)) rs) in
      let c = l.counted d in
      beyond p hunt.laws order (insert_all eq keys (d ∷ ds)) leads once n (edges_so_far hunt d keys rules rows ++ map (reading.read_places (key_at d order ends)) rs) low (edges d) limit (omega arith)

  -- a position with too many edges
  pub too_many_edges : (order keys : List K) (first n : ℕ) (rules : List T) (rows : List (NumberedRow R)) (parts limit : ℕ) → IsWithinRound hunt order first n keys rules rows parts limit → n < length order
      → Exceeds (p.edge order n) p.edge_parts (limit - parts) → IsBeyond p limit
  too_many_edges [] keys first n rules rows parts limit w low x = absurd (omega arith)
  too_many_edges (d ∷ order) keys first n rules rows parts limit w low x =
      let a = w.held.counted d in
      let b = w.held.within in
      beyond_more p hunt.laws (d ∷ order) keys w.held.leads w.held.once n (edges_so_far hunt d keys rules rows) w.low (w.edges d) limit (limit - parts) low x (omega arith)

  -- the edges of a position are added to those before
  pub with_position : (order keys : List K) (first n : ℕ) (rules : List T) (rows : List (NumberedRow R)) (parts limit : ℕ) → IsWithinRound hunt order first n keys rules rows parts limit
      → (ends : List K) (rs : List R) (ep : ℕ) → AreListed (p.edge order n) p.edge_parts reading.places reading.read_places order ends rs ep → (d : K) → AreEdges p order (suc n) (edges_so_far hunt d keys rules rows ++ map (reading.read_places (key_at d order ends)) rs)
  with_position order keys first n rules rows parts limit w ends rs ep l d = (edges_so_far hunt d keys rules rows, map (reading.read_places (key_at d order ends)) rs, refl, w.edges d, l.edges d)

  -- each end of a position that the order lacks is in the reached order
  pub stands : (order keys : List K) (first n : ℕ) (rules : List T) (rows : List (NumberedRow R)) (parts limit : ℕ) → IsWithinRound hunt order first n keys rules rows parts limit → n < length order
      → (ends : List K) → ((k : K) → Has ends k ↔ IsEnd (p.edge order n) p.ends_of k) → (k : K) → Has ends k → (Has order k → ⊥) → (whole : List K) → IsReached p whole → Has whole k
  stands order keys first n rules rows parts limit w low ends are k h fresh whole reached =
      (in_reached p hunt.laws w.rounds first order w.after whole reached).1 k ((n, w.from, low, (are k).0 h), fresh)

  -- the new ends of a position are too many
  pub too_many_ends : (order keys : List K) (first n : ℕ) (rules : List T) (rows : List (NumberedRow R)) (parts limit : ℕ) → IsWithinRound hunt order first n keys rules rows parts limit → n < length order
      → (ends : List K) (rs : List R) (ep : ℕ) → AreListed (p.edge order n) p.edge_parts reading.places reading.read_places order ends rs ep → ((k : K) → Has ends k ↔ IsEnd (p.edge order n) p.ends_of k)
      → ep ≤ limit - parts → HaveMore eq (key_parts entries) keys ends (parts + ep) limit → IsBeyond p limit
  too_many_ends order keys first n rules rows parts limit w low ends rs ep l are within more =
      too_many_keys order keys rules rows parts limit w.held (p.edge order n) ends rs ep l (stands order keys first n rules rows parts limit w low ends are) (suc n) (omega arith) (with_position order keys first n rules rows parts limit w ends rs ep l) (let b = w.held.within in omega arith)
      (subst (λ f. HaveMore eq f keys ends (parts + ep) limit) (sym hunt.lawful.same_parts) more)

  -- a position is expanded
  pub expanded : (order keys : List K) (first n : ℕ) (rules : List T) (rows : List (NumberedRow R)) (parts limit : ℕ) → IsWithinRound hunt order first n keys rules rows parts limit → n < length order
      → (ends : List K) (rs : List R) (ep : ℕ) → AreListed (p.edge order n) p.edge_parts reading.places reading.read_places order ends rs ep → ((k : K) → Has ends k ↔ IsEnd (p.edge order n) p.ends_of k)
      → ((k : K) → IsEnd (p.edge order n) p.ends_of k → admits k)
      → (row : NumberedRow R) → row.rules ≡ rs → (keys' : List K) → keys' ≡ insert_all eq keys ends → Name keys' ends row.ends → (parts' : ℕ) → parts' + total (key_parts entries) keys ≡ (parts + ep) + total (key_parts entries) keys' → parts' ≤ limit
      → IsWithinRound hunt order first (n + 1) keys' rules (rows ++ row ∷ []) parts' limit
  expanded order keys first n rules rows parts limit w low ends rs ep l are allow row same_rules keys' is named parts' sums within =
      let i = inserted eq hunt.same hunt.self ends keys in
      let grown : keys' ≡ keys ++ i.new = is ∙ i.keys_are in
      let once : Distinct keys' = subst Distinct (sym is) (i.once w.held.once) in
      let whole_is : keys' ≡ order ++ (w.held.fresh ++ i.new) = grown ∙ ap (λ (x : List K). x ++ i.new) w.held.keys_are ∙ append_assoc order w.held.fresh i.new in
      let next : suc n ≡ n + 1 = omega arith in
      record {
        rounds = w.rounds;
        after = w.after;
        held = added hunt order keys rules rows parts limit w.held ends rs (p.edge order n) ep l row same_rules keys' i.new grown named once
            (λ whole reached k m. stands order keys first n rules rows parts limit w low ends are k (i.among k m) (λ o. apart_of order (w.held.fresh ++ i.new) k (subst Distinct whole_is once) o (has_right w.held.fresh i.new k m)) whole reached)
            (each_of admits i.new (λ k m. allow k ((are k).0 (i.among k m)))) parts' (subst (λ f. parts' + total f keys ≡ (parts + ep) + total f keys') (sym hunt.lawful.same_parts) sums) within;
        from = (let f = w.from in omega arith);
        low = omega arith;
        edges = λ d. subst (λ (m : ℕ). AreEdges p order m (edges_so_far hunt d keys' rules (rows ++ row ∷ []))) next (subst (λ (es : List E). AreEdges p order (suc n) es) (sym (more_edges hunt order keys rules rows parts limit w.held ends rs (p.edge order n) ep l row same_rules keys' i.new grown named d)) (with_position order keys first n rules rows parts limit w ends rs ep l d));
        ends = λ k m out. elim (has_either keys i.new k (subst (λ (x : List K). Has x k) grown m)) [
          | inl a ↦ w.ends k a out
          | inr b ↦ ((n, w.from, low, (are k).0 (i.among k b)), out)
        ];
        seen = λ j k f q e. elim (cases_lt j n) [
          | inl a ↦ subst (λ (x : List K). Has x k) (sym grown) (has_left keys i.new k (w.seen j k f a e))
          | inr b ↦ subst (λ (x : List K). Has x k) (sym is) (i.there k ((are k).1 (subst (λ (m : ℕ). IsEnd (p.edge order m) p.ends_of k) (let z : j ≡ n = omega arith in z) e)))
        ];
      }

  -- a round begins
  pub round_begins : (first : ℕ) (keys : List K) (rules : List T) (parts limit : ℕ) → IsBetween hunt first keys rules parts limit → IsWithinRound hunt keys first first keys rules [] parts limit
  round_begins first keys rules parts limit b = record {
    rounds = b.rounds;
    after = b.after;
    held = b.held;
    from = omega arith;
    low = b.low;
    edges = b.edges;
    ends = λ k m out. absurd (out m);
    seen = λ i k f q e. absurd (omega arith);
  }

  -- a round ends
  pub round_ends : (order keys : List K) (first : ℕ) (rules : List T) (rows : List (NumberedRow R)) (parts limit : ℕ) (w : IsWithinRound hunt order first (length order) keys rules rows parts limit)
      (keys' : List K) (moved : List ℕ) (sorts : IsInOrder p.cmp order w.held.fresh keys' moved) (rules' : List T)
      (settled : Settled reading (length order) moved rules rules' (λ f. read_rows reading.read_places (λ n. f (moved_to (length order) moved n)) rows))
      → IsBetween hunt (length order) keys' rules' parts limit
  round_ends order keys first rules rows parts limit w keys' moved sorts rules' settled =
      let new_is : (k : K) → Has w.held.fresh k ↔ IsNew p order first k = λ k. (
        (λ m. w.ends k (subst (λ (x : List K). Has x k) (sym w.held.keys_are) (has_right order w.held.fresh k m)) (λ o. apart_of order w.held.fresh k (subst Distinct w.held.keys_are w.held.once) o m)),
        (λ n. elim (has_either order w.held.fresh k (subst (λ (x : List K). Has x k) w.held.keys_are (w.seen n.0.0 k n.0.1 n.0.2 n.0.3))) [ inl a ↦ absurd (n.1 a) | inr b ↦ b ]),
      ) in
      let after = round_done hunt order keys rules rows parts limit w.held keys' moved sorts rules' settled w.rounds first w.after new_is in
      let long : length keys' ≡ length order + length sorts.sorted = ap length sorts.keys_are ∙ length-append order sorts.sorted in
      record {
        rounds = suc w.rounds;
        after = after;
        held = finished hunt order keys rules rows parts limit w.held keys' moved sorts rules' settled (leads_on p hunt.laws (suc w.rounds) (length order) keys' after);
        low = omega arith;
        edges = λ d. subst (λ (es : List E). AreEdges p keys' (length order) es) (sym (settled_edges hunt order keys rules rows parts limit w.held keys' moved sorts rules' settled d))
            (grow d sorts.keys_are);
      }
    where
      grow : (d : K) → keys' ≡ order ++ sorts.sorted → AreEdges p keys' (length order) (edges_so_far hunt d keys rules rows)
      grow d is = subst (λ (x : List K). AreEdges p x (length order) (edges_so_far hunt d keys rules rows)) (sym is) (edges_stay p hunt.laws order sorts.sorted (length order) (edges_so_far hunt d keys rules rows) (omega arith) (w.edges d))

  -- the hunt begins with nothing

  nothing : (limit : ℕ) → IsHeld hunt [] [] [] [] 0 limit
  nothing limit = record {
    fresh = [];
    keys_are = refl;
    once = tt;
    leads = record { front = λ whole reached. (whole, refl); stand = λ whole reached k m. absurd m };
    admitted = tt;
    rules_below = tt;
    rows_below = tt;
    enough = omega arith;
    counted = λ d. refl;
    within = omega arith;
  }

  -- the edges of the seeds are too many
  pub seeds_exceed : (limit : ℕ) → Exceeds p.seed_edge p.edge_parts limit → IsBeyond p limit
  seeds_exceed limit x whole fs (reached, all) = let a = go (length whole) fs all in omega arith
    where
      go : (n : ℕ) (fs : List E) → AreEdges p whole n fs → limit < total p.edge_parts fs
      go zero fs l = x fs l
      go (suc n) fs (front, last, is, before, l) =
          let a = go n front before in
          let b = ap (total p.edge_parts) is ∙ total_append p.edge_parts front last in
          omega arith

  -- the seeds are too many
  pub too_many_seeds : (limit : ℕ) (ends : List K) (rs : List R) (ep : ℕ) → AreListed p.seed_edge p.edge_parts reading.places reading.read_places [] ends rs ep → ((k : K) → Has ends k ↔ p.seed k)
      → ep ≤ limit → HaveMore eq (key_parts entries) [] ends (0 + ep) limit → IsBeyond p limit
  too_many_seeds limit ends rs ep l are within more =
      too_many_keys [] [] [] [] 0 limit (nothing limit) p.seed_edge ends rs ep l (λ k m out whole reached. seeds_reached p hunt.laws whole reached k ((are k).0 m)) 0 (omega arith) (λ d. l.edges d) (omega arith)
      (subst (λ f. HaveMore eq f [] ends (0 + ep) limit) (sym hunt.lawful.same_parts) more)

  module _ (limit : ℕ) (ends : List K) (rs : List R) (ep : ℕ) (l : AreListed p.seed_edge p.edge_parts reading.places reading.read_places [] ends rs ep) (are : (k : K) → Has ends k ↔ p.seed k)
      (row : NumberedRow R) (same_rules : row.rules ≡ rs) (keys : List K) (is : keys ≡ insert_all eq [] ends) (named : Name keys ends row.ends) (parts : ℕ) (sums : parts + total p.key_parts [] ≡ (0 + ep) + total p.key_parts keys) (within : parts ≤ limit) where
    i : Inserted eq hunt.same hunt.self [] ends (insert_all eq [] ends)
    i = inserted eq hunt.same hunt.self ends []

    grown : keys ≡ [] ++ i.new
    grown = is ∙ i.keys_are

    -- the seeds and their edges are held
    pub seeds_held : IsHeld hunt [] keys [] (row ∷ []) parts limit
    seeds_held = added hunt [] [] [] [] 0 limit (nothing limit) ends rs p.seed_edge ep l row same_rules keys i.new grown named
        (subst Distinct (sym is) (i.once tt)) (λ whole reached k m. seeds_reached p hunt.laws whole reached k ((are k).0 (i.among k m)))
        (each_of admits i.new (λ k m. hunt.lawful.seeds_admitted k ((are k).0 (i.among k m)))) parts sums within

    -- with the seeds in order, the hunt is before its first round
    pub hunt_begins : (keys' : List K) (moved : List ℕ) (sorts : IsInOrder p.cmp [] keys keys' moved) (rules' : List T)
        (settled : Settled reading 0 moved [] rules' (λ f. read_rows reading.read_places (λ n. f (moved_to 0 moved n)) (row ∷ [])))
        → IsBetween hunt 0 keys' rules' parts limit
    hunt_begins keys' moved sorts rules' settled =
        let back : (k : K) → Has seeds_held.fresh k → Has i.new k = λ k m. subst (λ (x : List K). Has x k) grown (subst (λ (x : List K). Has x k) (sym seeds_held.keys_are) m) in
        let forth : (k : K) → Has keys k → Has seeds_held.fresh k = λ k m. subst (λ (x : List K). Has x k) seeds_held.keys_are m in
        let sorts' : IsInOrder p.cmp [] seeds_held.fresh keys' moved = subst (λ (x : List K). IsInOrder p.cmp [] x keys' moved) seeds_held.keys_are sorts in
        let seeds : (k : K) → Has keys' k ↔ p.seed k = λ k. (
          (λ m. (are k).0 (i.among k (back k ((sorts'.same k).0 (subst (λ (x : List K). Has x k) sorts'.keys_are m))))),
          (λ m. subst (λ (x : List K). Has x k) (sym sorts'.keys_are) ((sorts'.same k).1 (forth k (subst (λ (x : List K). Has x k) (sym is) (i.there k ((are k).1 m)))))),
        ) in
        let after : AfterRounds p 0 0 keys' = (refl, (subst (Ascends (λ a b. p.cmp a b ≡ Less)) (sym sorts'.keys_are) sorts'.ascends, seeds)) in
        record {
          rounds = 0;
          after = after;
          held = finished hunt [] keys [] (row ∷ []) parts limit seeds_held keys' moved sorts' rules' settled (leads_on p hunt.laws 0 0 keys' after);
          low = omega arith;
          edges = λ d. subst (λ (es : List E). AreEdges p keys' 0 es) (sym (settled_edges hunt [] keys [] (row ∷ []) parts limit seeds_held keys' moved sorts' rules' settled d ∙ more_edges hunt [] [] [] [] 0 limit (nothing limit) ends rs p.seed_edge ep l row same_rules keys i.new grown named d)) (l.edges d);
        }

-- the ends of edges over admitted keys are admitted
pub end_admitted : {K O E : Type 0} (edge : O → E → Type 0) (ends_of : E → List K) (admits : K → Type 0) → ((o : O) (e : E) (k : K) → edge o e → Has (ends_of e) k → admits k) → (k : K) → IsEnd edge ends_of k → admits k
end_admitted edge ends_of admits f k (o, e, is, h) = f o e k is h

-- the front of the keys is the order
pub slice_is : {K : Type 0} (order keys fresh slice : List K) (bound : ℕ) → keys ≡ order ++ fresh → slice ≡ keys → bound ≡ length order → take bound slice ≡ order
slice_is order keys fresh slice bound is same n = ap (take bound) (same ∙ is) ∙ take_front order fresh bound (sym n)
