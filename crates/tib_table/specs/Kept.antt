-- What contracts see of a shelf, and its log.
use Rattle.std.specs.Prelude.{List, [], ◌∷◌, map}
use Rattle.tib_table.specs.declared.problem.Entry.{Entry}
use Rattle.tib_table.specs.declared.problem.Entry.TheVariants.{Data, Key}

-- what the problem is about, and the keys in the order of first sight
pub record Kept (D K : Type 0) : Type 0 where
  pub about : D
  pub keys : List K

module _ {D K : Type 0} where
  -- the log of a shelf: what it is about, and then its keys
  abbrev pub shelf_log : D → List K → List (Entry D K)
  shelf_log about keys = Data about ∷ map Key keys

  abbrev pub log_of : Kept D K → List (Entry D K)
  log_of s = shelf_log s.about s.keys

  -- the keys of a log
  abbrev pub keys_in : List (Entry D K) → List K
  keys_in [] = []
  keys_in (Data d ∷ es) = keys_in es
  keys_in (Key k ∷ es) = k ∷ keys_in es

  abbrev pub keys_of : Kept D K → List K
  keys_of s = s.keys
