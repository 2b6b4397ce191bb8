-- An index of rules.
use Rattle.std.specs.Prelude.{◌≡◌, ℕ, ◌+◌, List}
use Rattle.tib_grammar.specs.declared.Rule.{Rule}
use Rattle.tib_normal.specs.Rules.{positions_with}
use Rattle.tib_normal.specs.Index.{AreStarts, AreNumbered, held}
use Rattle.tib_normal.specs.declared.index.Index.{Index}

-- the index holds the positions of the rules of each label and rank, and where the rules of each
-- state begin
pub record IsIndex (rules : List (Rule ℕ)) (states : ℕ) (index : Index) : Type 0 where
  pub starts : AreStarts rules (states + 1) index.starts.items
  pub numbered : AreNumbered index.shapes index.buckets.items
  pub positions : (f n : ℕ) → held index.shapes index.buckets.items (f, n)
      ≡ positions_with f n rules
