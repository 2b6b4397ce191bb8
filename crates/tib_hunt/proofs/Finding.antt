-- A hunt from its seeds to its reached set.
use Rattle.std.proofs.Common.{◌≡◌, ℕ, ◌+◌, ◌<◌, ◌≤◌, ◌↔◌, Bool, List, [], ◌∷◌, ◌++◌, length, map, take, drop, append-nil, refl, sym, ap, subst, ◌∙◌, arith}
use Rattle.std.specs.declared.cmp.Ordering.{Ordering}
use Rattle.indexmap.specs.IndexSet.{insert_all}
use Rattle.tib_lex.specs.Lists.{Has, Each, total}
use Rattle.tib_expand.specs.EdgeLists.{AreListed}
use Rattle.tib_expand.specs.Reached.{Exploration, IsReachedSet, AreEdges, parts_of}
use Rattle.tib_hunt.specs.Numbered.{Name, IsInOrder, moved_to}
use Rattle.tib_expand.specs.Keys.{key_parts}
use Rattle.tib_expand.specs.Reading.{Reading, AreBelow}
use Rattle.tib_hunt.specs.Rows.{NumberedRow, read_rows, ReadAs, StayBelow}
use Rattle.tib_hunt.specs.Held.{at}
use Rattle.tib_expand.proofs.Reaching.{IsHunt}
use Rattle.tib_hunt.proofs.Holding.{IsHeld, IsBetween, IsWithinRound}
use Rattle.tib_table.proofs.Sights.{take_front, drop_front}
use Rattle.tib_hunt.proofs.Advancing.{round_ends, hunt_begins, seeds_held}

module _ {K O E R T : Type 0} {p : Exploration K O E} {admits : K → Type 0} {reading : Reading K E R T}
    {cmp : K → K → Ordering} {entries : K → ℕ} {eq : K → K → Bool} (hunt : IsHunt p admits reading cmp entries eq) where
  -- the order of the keys is that of the operation
  in_order : {order fresh keys : List K} {moved : List ℕ} → IsInOrder cmp order fresh keys moved → IsInOrder p.cmp order fresh keys moved
  in_order {order} {fresh} {keys} {moved} sorts = subst (λ c. IsInOrder c order fresh keys moved) (sym hunt.lawful.same_order) sorts

  -- the fresh keys follow those of the order, ascending, and the rules of the rows have the
  -- positions of their ends
  abbrev AreSettled : ℕ → List K → List K → List T → List (NumberedRow R) → List K → List T → Type 0
  AreSettled first order fresh rules rows keys' rules' =
      (moved : List ℕ) × IsInOrder cmp order fresh keys' moved × ReadAs reading first moved rules rows rules' × StayBelow reading first moved rules rules'

  -- a round on one list ends where its new keys are in order
  pub round_ends_at : (order keys : List K) (first : ℕ) (rules : List T) (rows : List (NumberedRow R)) (parts limit : ℕ) → IsWithinRound hunt order first (length order) keys rules rows parts limit
      → (keys' : List K) (rules' : List T) (parts' bound : ℕ) → bound ≡ length order → parts' ≡ parts → AreSettled bound (take bound keys) (drop bound keys) rules rows keys' rules' → IsBetween hunt (length order) keys' rules' parts' limit
  round_ends_at order keys first rules rows parts limit w keys' rules' parts' bound is same_parts (moved, sorts, read, below) =
      let t : take bound keys ≡ order = ap (take bound) w.held.keys_are ∙ take_front order w.held.fresh bound (sym is) in
      let u : drop bound keys ≡ w.held.fresh = ap (drop bound) w.held.keys_are ∙ drop_front order w.held.fresh bound (sym is) in
      subst (λ (n : ℕ). IsBetween hunt (length order) keys' rules' n limit) (sym same_parts)
      (round_ends hunt order keys first rules rows parts limit w keys' moved
      (subst (λ (l : List K). IsInOrder p.cmp order l keys' moved) u (subst (λ (l : List K). IsInOrder p.cmp l (drop bound keys) keys' moved) t (in_order sorts))) rules'
      (record {
        read = subst (λ (b : ℕ). (f : ℕ → K) → map (reading.read_positions f) rules' ≡ map (reading.read_positions f) rules ++ read_rows reading.read_places (λ n. f (moved_to b moved n)) rows) is read;
        below = subst (λ (c : ℕ). (b : ℕ) → c ≤ b → Each (λ n. n < b) moved → AreBelow reading.positions b rules → AreBelow reading.positions b rules') is below;
      }))

  -- a round on shelves ends where its fresh keys are in order
  pub fresh_round_ends : (order fresh : List K) (first : ℕ) (rules : List T) (rows : List (NumberedRow R)) (parts limit : ℕ) → IsWithinRound hunt order first (length order) (order ++ fresh) rules rows parts limit
      → (old keys' : List K) (rules' : List T) (parts' : ℕ) → old ≡ order → parts' ≡ parts → AreSettled (length old) old fresh rules rows keys' rules' → IsBetween hunt (length order) keys' rules' parts' limit
  fresh_round_ends order fresh first rules rows parts limit w old keys' rules' parts' is same_parts settled =
      let (moved, sorts, read, below) = subst (λ (o : List K). AreSettled (length o) o fresh rules rows keys' rules') is settled in
      let u : fresh ≡ w.held.fresh = sym (drop_front order fresh (length order) refl) ∙ ap (drop (length order)) w.held.keys_are ∙ drop_front order w.held.fresh (length order) refl in
      subst (λ (n : ℕ). IsBetween hunt (length order) keys' rules' n limit) (sym same_parts)
      (round_ends hunt order (order ++ fresh) first rules rows parts limit w keys' moved
      (subst (λ (l : List K). IsInOrder p.cmp order l keys' moved) u (in_order sorts)) rules' (record { read = read; below = below }))

  -- a list of no keys is empty
  pub no_keys : (keys : List K) → length keys ≡ 0 → keys ≡ []
  no_keys [] e = refl
  no_keys (k ∷ ks) e = absurd (omega arith)

  module _ (limit : ℕ) (ends : List K) (rs : List R) (ep : ℕ) (l : AreListed p.seed_edge p.edge_parts reading.places reading.read_places [] ends rs ep) (are : (k : K) → Has ends k ↔ p.seed k)
      (none : List K) (none_is : none ≡ [])
      (row : NumberedRow R) (rows : List (NumberedRow R)) (rows_are : rows ≡ row ∷ []) (same_rules : row.rules ≡ rs) (keys : List K) (is : keys ≡ insert_all eq none ends) (named : Name keys ends row.ends)
      (parts : ℕ) (sums : parts + total (key_parts entries) none ≡ (0 + ep) + total (key_parts entries) keys) (within : parts ≤ limit) where
    sums_so : parts + total p.key_parts [] ≡ (0 + ep) + total p.key_parts keys
    sums_so = subst (λ (x : List K). parts + total p.key_parts x ≡ (0 + ep) + total p.key_parts keys) none_is
        (subst (λ f. parts + total f none ≡ (0 + ep) + total f keys) (sym hunt.lawful.same_parts) sums)

    is_so : keys ≡ insert_all eq [] ends
    is_so = is ∙ ap (λ (x : List K). insert_all eq x ends) none_is

    -- what is held once the edges of the seeds are added
    pub begun : IsHeld hunt [] keys [] rows parts limit
    begun = subst (λ (x : List (NumberedRow R)). IsHeld hunt [] keys [] x parts limit) (sym rows_are)
        (seeds_held hunt limit ends rs ep l are row same_rules keys is_so named parts sums_so within)

    -- the hunt is before its first round
    pub begins_at : (keys' : List K) (rules rules' : List T) (parts' : ℕ) → rules ≡ [] → parts' ≡ parts → AreSettled 0 (take 0 keys) (drop 0 keys) rules rows keys' rules' → IsBetween hunt 0 keys' rules' parts' limit
    begins_at keys' rules rules' parts' none_yet same_parts (moved, sorts, read, below) =
        subst (λ (n : ℕ). IsBetween hunt 0 keys' rules' n limit) (sym same_parts)
        (hunt_begins hunt limit ends rs ep l are row same_rules keys is_so named parts sums_so within keys' moved
        (subst (λ (x : List K). IsInOrder p.cmp [] x keys' moved) (drop_front [] keys 0 refl) (subst (λ (x : List K). IsInOrder p.cmp x (drop 0 keys) keys' moved) (take_front [] keys 0 refl) (in_order sorts))) rules'
        (record {
          read = λ f. read f ∙ (λ i. map (reading.read_positions f) (none_yet i) ++ read_rows reading.read_places (λ n. f (moved_to 0 moved n)) (rows_are i));
          below = λ b z e a. below b z e (subst (AreBelow reading.positions b) (sym none_yet) a);
        }))

  -- where each position is expanded, the order is the reached one
  pub all_found : (first : ℕ) (keys : List K) (rules : List T) (parts limit : ℕ) → IsBetween hunt first keys rules parts limit → length keys ≤ first → (order : List K) → order ≡ keys → (d : K) → IsReachedSet p order (map (reading.read_positions (at d order)) rules)
  all_found first keys rules parts limit b all order is d =
      let whole : first ≡ length keys = (let l = b.low in omega arith) in
      let e : AreEdges p keys (length keys) (map (reading.read_positions (at d keys)) rules) = subst (λ (n : ℕ). AreEdges p keys n (map (reading.read_positions (at d keys)) rules)) whole (subst (λ (es : List E). AreEdges p keys first es) (append-nil (map (reading.read_positions (at d keys)) rules)) (b.edges d)) in
      subst (λ (o : List K). IsReachedSet p o (map (reading.read_positions (at d o)) rules)) (sym is)
      ((b.rounds, first, b.after, λ k n. let f = n.0.1 in let g = n.0.2 in absurd (omega arith)), e)

  -- the parts are those of the reached set
  pub all_counted : (first : ℕ) (keys : List K) (rules : List T) (parts limit : ℕ) → IsBetween hunt first keys rules parts limit → (order : List K) → order ≡ keys → (d : K) → parts ≡ parts_of p order (map (reading.read_positions (at d order)) rules)
  all_counted first keys rules parts limit b order is d =
      subst (λ (o : List K). parts ≡ parts_of p o (map (reading.read_positions (at d o)) rules)) (sym is)
      (b.held.counted d ∙ ap (λ (es : List E). total p.key_parts keys + total p.edge_parts es) (append-nil (map (reading.read_positions (at d keys)) rules)))
