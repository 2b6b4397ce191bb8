-- Labels that are gathered one after another.
use Rattle.std.specs.Prelude.{ℕ, ◌≤◌, nat_eq, List, [], ◌∷◌, length}
use Rattle.indexmap.specs.IndexSet.{insert_key}
use Rattle.tib_apply.specs.declared.restrictions.Restrictions.TheInside.{Inside}

abbrev pub labels_in : Inside → List ℕ
labels_in r = r.labels.keys

-- their numbers, from 1, have room
abbrev pub AreFew : Inside → Type 0
AreFew r = length r.labels.keys ≤ 4000000000

-- some labels with others appended, each where it is not there yet
abbrev pub gathered : List ℕ → List ℕ → List ℕ
gathered labels [] = labels
gathered labels (f ∷ fs) = gathered (insert_key nat_eq labels f) fs
