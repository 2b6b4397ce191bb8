-- What holds of the text of one tree and of its faults.
use Rattle.std.specs.Prelude.{◌≡◌, ℕ, List}
use Rattle.tib_lex.specs.declared.fault.FileFault.{FileFault}
use Rattle.tib_tree.specs.Trees.{Tree}
use Rattle.tib_tree.specs.OneTree.{IsTheText, IsOneTreeFault}

-- the text of one tree has no fault
abbrev pub TextsHaveNone : Type 0
TextsHaveNone = (labels : List (List ℕ)) (bytes : List ℕ) (t : Tree ℕ) (fault : FileFault) → IsTheText labels bytes t → IsOneTreeFault bytes fault → ⊥

-- bytes have one fault at most
abbrev pub FaultsAreOne : Type 0
FaultsAreOne = (bytes : List ℕ) (one other : FileFault) → IsOneTreeFault bytes one → IsOneTreeFault bytes other → one ≡ other
