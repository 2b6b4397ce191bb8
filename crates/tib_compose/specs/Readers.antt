-- The rules of the second transducer by their state and by the label and the rank that they read.
use Rattle.std.specs.Prelude.{◌≡◌, ℕ, ◌<◌, Bool, List, [], ◌∷◌, ◌++◌, length, if◌then◌else◌}
use Rattle.std.proofs.Common.{zero, suc}
use Rattle.tib_grammar.specs.Sides.{label, AreHoles}
use Rattle.tib_key_edges.specs.Positions.{positions_of}
use Rattle.tib_key_edges.specs.declared.buckets.ShapeIndex.{ShapeIndex}
use Rattle.tib_transducer.specs.Rules.{transducer_rule}
use Rattle.tib_transducer.specs.declared.TransducerRule.{TransducerRule}
use Rattle.tib_key_edges.specs.Choices.{reads_label}

-- the positions, of the first m, of the rules that lead from the state p and read the label f over
-- n variables
abbrev pub readers : List (TransducerRule ℕ) → ℕ → ℕ → ℕ → ℕ → List ℕ
readers two p f n zero = []
readers two p f n (suc m) = readers two p f n m ++ (if reads_label p f n (transducer_rule two m) then m ∷ [] else [])

-- the positions of the rules of a shape, which is a state, a label and a rank
abbrev pub readers_with : ℕ × ℕ × ℕ → List (TransducerRule ℕ) → List ℕ
readers_with s two = readers two s.0 s.1 s.2 (length two)

-- the shape of a rule: its state, and the label and the rank that it reads
abbrev pub has_shape : ℕ × ℕ × ℕ → TransducerRule ℕ → Bool
has_shape s r = reads_label s.0 s.1 s.2 r

-- an index has for each shape the positions of its rules
abbrev pub HoldsReaders : List (TransducerRule ℕ) → ShapeIndex → Type 0
HoldsReaders two index = (s : ℕ × ℕ × ℕ) → positions_of index s ≡ readers_with s two

-- the left-hand side is one label over variables
pub record IsFlat (r : TransducerRule ℕ) : Type 0 where
  pub root : ℕ
  pub is_root : r.left.label ≡ label root
  pub variables : AreHoles r.left.kids

-- each left-hand side is
abbrev pub AreFlat : List (TransducerRule ℕ) → Type 0
AreFlat rules = (n : ℕ) → n < length rules → IsFlat (transducer_rule rules n)
