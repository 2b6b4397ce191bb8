-- What a round makes is what a complete run of its core leaves.
use Rattle.std.proofs.Common.{◌≡◌, inl, inr, ℕ, ◌+◌, ◌-◌, ◌<◌, ◌≤◌, Bool, List, [], ◌++◌, length, take, drop, replicate, refl, sym, ap, subst, ◌∙◌, arith}
use Rattle.std.specs.declared.cmp.Ordering.{Ordering}
use Rattle.tib_lex.specs.Lists.{Has, Distinct}
use Rattle.tib_table.specs.Known.{on}
use Rattle.tib_expand.specs.Expanded.{IsEndAt}
use Rattle.tib_expand.specs.Reached.{Exploration}
use Rattle.tib_expand.specs.Reading.{Reading}
use Rattle.tib_workers.specs.declared.row.Row.{Row as ItemRow}
use Rattle.tib_hunt.specs.Numbered.{IsInOrder}
use Rattle.tib_hunt.specs.RoundModel.{Core, opened, IsItem}
use Rattle.tib_hunt.specs.RoundLaw.{IsLackedAt, IsOutcome}
use Rattle.tib_hunt.specs.Rows.{NumberedRow}
use Rattle.tib_hunt.specs.Shelved.{with_keys, IsUnderway}
use Rattle.tib_hunt.specs.States.{AppendsOutcome}
use Rattle.tib_hunt.specs.declared.lookups.Ruled.{Ruled}
use Rattle.tib_expand.proofs.Reaching.{IsHunt}
use Rattle.tib_hunt.proofs.Holding.{IsWithinRound}
use Rattle.tib_hunt.proofs.Advancing.{apart_of}
use Rattle.tib_hunt.proofs.Runs.{begins, more_drawn, kept_keys}
use Rattle.tib_hunt.proofs.Underway.{on_all, all_somewhere}
use Rattle.tib_hunt.proofs.WrittenRuns.{written_down}
use Rattle.tib_table.proofs.Sights.{take_front, drop_front}
use Rattle.tib_lex.proofs.Members.{has_either, has_right}

module _ {K O E R T : Type 0} {p : Exploration K O E} {admits : K → Type 0} {reading : Reading K E R T}
    {cmp : K → K → Ordering} {entries : K → ℕ} {eq : K → K → Bool} (hunt : IsHunt p admits reading cmp entries eq) (shelf_of : K → ℕ) (low : (k : K) → shelf_of k < 16) where
  -- one worker's round on its core leaves what a complete run leaves in which all ends are numbered
  pub underway_run : (order : List K) (first : ℕ) (s : Core K) (rows : List (ItemRow (Ruled R))) (was parts limit : ℕ) → IsUnderway p reading eq shelf_of order first (length order) s rows was parts limit
      → (shelves : List (List K)) → s.shelves ≡ shelves → IsOutcome eq shelf_of first (length order - first) (IsEndAt p order) shelves (length rows)
  underway_run order first s rows was parts limit u shelves is =
      let few = u.kept.few in
      let drawn = u.drawn in
      let from = u.from in
      let rows_are = u.one_each in
      let all : s.drawn ≡ length order - first = omega arith in
      subst (λ (l : List (List K)). IsOutcome eq shelf_of first (length order - first) (IsEndAt p order) l (length rows)) is
      (written_down eq hunt.same hunt.self shelf_of first (length order - first) (IsEndAt p order) s.shelves (length rows) u.kept.wide (omega arith)
      (subst (λ (n : ℕ). (i : ℕ) (k : K) → Has (on s.shelves i) k → (shelf_of k ≡ i) × ((j : ℕ) × IsItem first n j × IsEndAt p order j k)) all u.kept.only)
      u.kept.once
      (λ i k a l e. u.kept.stands i (u.filed i a (omega arith)) k e))

  module _ (order fresh keys : List K) (first : ℕ) (rules : List T) (rows : List (NumberedRow R)) (parts limit : ℕ) (w : IsWithinRound hunt order first (length order) keys rules rows parts limit) (is : keys ≡ order ++ fresh) where
    abbrev count : ℕ
    count = length order - first

    abbrev is_end : ℕ → K → Type 0
    is_end = IsLackedAt p order

    -- all items are drawn, and nothing is numbered
    abbrev all_drawn : Core K
    all_drawn = record { drawn = count; shelves = replicate 16 []; filed = [] }

    fresh_ends : (k : K) → Has fresh k → (i : ℕ) × IsItem first count i × is_end i k
    fresh_ends k h =
        let f = w.from in
        let n = w.ends k (subst (λ (l : List K). Has l k) (sym is) (has_right order fresh k h)) (λ o. apart_of order fresh k (subst Distinct is w.held.once) o h) in
        let a = n.0.1 in
        let b = n.0.2 in
        (n.0.0, (a, omega arith), (n.0.3, n.1))

    ends_fresh : (i : ℕ) (k : K) → first ≤ i → i < first + count → is_end i k → Has fresh k
    ends_fresh i k a b e =
        let f = w.from in
        elim (has_either order fresh k (subst (λ (l : List K). Has l k) is (w.seen i k a (omega arith) e.0))) [
          | inl o ↦ absurd (e.1 o)
          | inr h ↦ h
        ]

    -- the keys that a round appends are those that a complete run leaves
    appended : (keys' : List K) (moved : List ℕ) → IsInOrder cmp order fresh keys' moved → AppendsOutcome p eq shelf_of order first keys'
    appended keys' moved sorts =
        let r = kept_keys eq hunt.same hunt.self shelf_of low first count is_end all_drawn fresh
        (more_drawn eq hunt.same hunt.self shelf_of low first count is_end opened count (omega arith) (omega arith) (begins eq hunt.same hunt.self shelf_of low first count is_end)) fresh_ends in
        let shelves : List (List K) = (with_keys eq shelf_of all_drawn fresh).shelves in
        let only : (i : ℕ) (k : K) → Has (on shelves i) k → (shelf_of k ≡ i) × ((j : ℕ) × IsItem first count j × is_end j k) =
        subst (λ (n : ℕ). (i : ℕ) (k : K) → Has (on shelves i) k → (shelf_of k ≡ i) × ((j : ℕ) × IsItem first n j × is_end j k)) r.drawn r.kept.only in (
          sorts.sorted,
          shelves,
          sorts.keys_are,
          written_down eq hunt.same hunt.self shelf_of first count is_end shelves count r.kept.wide refl only r.kept.once (λ i k a b e. r.there k (ends_fresh i k a b e)),
          λ k. (
            (λ h. on_all shelves (shelf_of k) k (r.there k ((sorts.same k).0 h))),
            (λ h. let j = all_somewhere shelves k h in let o = (only j.0 k j.1).1 in (sorts.same k).1 (ends_fresh o.0 k o.1.0 o.1.1 o.2)),
          ),
        )

  -- the same of a round on shelves
  pub appended_fresh : (order fresh : List K) (first : ℕ) (rules : List T) (rows : List (NumberedRow R)) (parts limit : ℕ) → IsWithinRound hunt order first (length order) (order ++ fresh) rules rows parts limit
      → (old keys' : List K) → old ≡ order → (moved : List ℕ) → IsInOrder cmp old fresh keys' moved → AppendsOutcome p eq shelf_of order first keys'
  appended_fresh order fresh first rules rows parts limit w old keys' is moved sorts =
      appended order fresh (order ++ fresh) first rules rows parts limit w refl keys' moved (subst (λ (o : List K). IsInOrder cmp o fresh keys' moved) is sorts)

  -- the same of a round on one list
  pub appended_few : (order keys : List K) (first : ℕ) (rules : List T) (rows : List (NumberedRow R)) (parts limit : ℕ) → IsWithinRound hunt order first (length order) keys rules rows parts limit
      → (keys' : List K) (bound : ℕ) → bound ≡ length order → (moved : List ℕ) → IsInOrder cmp (take bound keys) (drop bound keys) keys' moved → AppendsOutcome p eq shelf_of order first keys'
  appended_few order keys first rules rows parts limit w keys' bound is moved sorts =
      let t : take bound keys ≡ order = ap (take bound) w.held.keys_are ∙ take_front order w.held.fresh bound (sym is) in
      let u : drop bound keys ≡ w.held.fresh = ap (drop bound) w.held.keys_are ∙ drop_front order w.held.fresh bound (sym is) in
      appended order w.held.fresh keys first rules rows parts limit w w.held.keys_are keys' moved
      (subst (λ (l : List K). IsInOrder cmp order l keys' moved) u (subst (λ (o : List K). IsInOrder cmp o (drop bound keys) keys' moved) t sorts))
