-- Passes to sixteen shelves, each out of a turn.
use Rattle.std.specs.Prelude.{◌≡◌, ℕ, ◌+◌, List, [], ◌∷◌, map, length, replicate, Bool, false}
use Rattle.std.specs.List.{All, IsDistinct}
use Rattle.atomic_table.specs.Seated.{TableId}
use Rattle.tib_turn.specs.Prefixes.{IsPrefix}
use Rattle.tib_turn.specs.Seen.{Seen}
use Rattle.tib_table.specs.Kept.{Kept, shelf_log, log_of, keys_in}
use Rattle.tib_table.specs.Known.{Knowledge}
use Rattle.tib_table.specs.declared.problem.Entry.{Entry}

module _ {D K : Type 0} where
  -- the list is the log of a shelf that is about d
  abbrev pub IsLogOf : D → List (Entry D K) → Type 0
  IsLogOf d es = es ≡ shelf_log d (keys_in es)

  -- what is known of a shelf
  abbrev pub known_of : Seen (Entry D K) → List K
  known_of s = keys_in s.seen

  abbrev pub lock_of : Seen (Entry D K) → TableId
  lock_of s = s.lock

-- what passes know together
abbrev pub knowledge : {D E K : Type 0} → D → List (Seen (Entry E K)) → Knowledge D K
knowledge d ss =
    record { table = record { about = d; locks = map lock_of ss }; known = map known_of ss }

module _ {D K : Type 0} where
  -- from shelf j on, the passes are out of a turn, and each knows a log of its shelf
  abbrev pub AreSeated : D → ℕ → List (Seen (Entry (D × ℕ) K)) → Type 0
  AreSeated d j [] = Unit {0}
  AreSeated d j (s ∷ ss) = (s.inside ≡ false) × IsLogOf (d, j) s.seen × AreSeated d (j + 1) ss

  -- the locks and passes of a number of new shelves
  abbrev pub AreOpened : D → ℕ → List TableId → List (Seen (Entry (D × ℕ) K)) → Type 0
  AreOpened d n zs ss = (length zs ≡ n) × (map lock_of ss ≡ zs) × (map known_of ss ≡ replicate n []) × AreSeated d 0 ss

-- the shelf that a pass knew when it was closed: what the pass has seen is the front of its log,
-- its keys are distinct, and each may be held
pub record Closes {D K : Type 0} (may_hold : D → K → Type 0) (eq : K → K → Bool)
    (pass : Seen (Entry D K)) (shelf : Kept D K) : Type 0 where
  pub more : IsPrefix pass.seen (log_of shelf)
  pub distinct : IsDistinct eq shelf.keys
  pub held : All (may_hold shelf.about) shelf.keys
