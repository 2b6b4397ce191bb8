-- Transducers with canonical names and in canonical order.
use Rattle.tib_cost.specs.declared.Scale.{Scale}
use Rattle.std.specs.Prelude.{◌≡◌, ◌≤◌, ℕ, List, length}
use Rattle.std.specs.declared.cmp.Ordering.{Ordering}
use Rattle.std.specs.declared.cmp.Ordering.TheVariants.{Less}
use Rattle.std.specs.Ordering.{nat_cmp, ordering_then}
use Rattle.std.specs.Cmp.Lexicographic.{slice_cmp}
use Rattle.tib_lex.specs.Lists.{Has, Ascends}
use Rattle.tib_transducer.specs.TransducerOf.{TransducerOf}
use Rattle.tib_transducer.specs.declared.TransducerRule.{TransducerRule}
use Rattle.tib_transducer_file.specs.ByName.{line_text}
use Rattle.tib_canon.specs.Canonical.{names_of}

-- rules are in the order of their states, and those of one state in the order of their lines, as
-- they are printed without the line feed
abbrev pub move_cmp : Scale → List (List ℕ) → List (List ℕ) → TransducerRule ℕ → TransducerRule ℕ → Ordering
move_cmp scale names labels r s =
    ordering_then (nat_cmp r.state s.state)
    (slice_cmp nat_cmp (line_text scale names labels r) (line_text scale names labels s))

-- the rules have the same state and the same sides
pub record AgreeInSides (r s : TransducerRule ℕ) : Type 0 where
  pub state : r.state ≡ s.state
  pub left : r.left ≡ s.left
  pub right : r.right ≡ s.right

-- one of the rules has the state and the sides of r
pub record HasSides (rules : List (TransducerRule ℕ)) (r : TransducerRule ℕ) : Type 0 where
  pub rule : TransducerRule ℕ
  pub stands : Has rules rule
  pub agrees : AgreeInSides rule r

-- A transducer itself, with canonical names and in canonical order, over a table of labels. Its
-- states are named q0, q1 and so on by their numbers. Its rules are rules of the transducer, each
-- at the least cost of those with its state and sides, and all of these are there. They ascend by
-- their states and then by their lines. No rule is left out for being useless.
pub record IsTransducerInOrder (scale : Scale) (labels : List (List ℕ)) (t h : TransducerOf) : Type 0 where
  pub names : h.names ≡ names_of (length t.names)
  pub kept : (r : TransducerRule ℕ) → Has h.rules r → Has t.rules r
  pub least : (r s : TransducerRule ℕ) → Has h.rules r → Has t.rules s → AgreeInSides r s → r.cost ≤ s.cost
  pub whole : (r : TransducerRule ℕ) → Has t.rules r → HasSides h.rules r
  pub ascends : Ascends (λ r s. move_cmp scale h.names labels r s ≡ Less) h.rules

-- the transducer of some rules over this many states, with canonical names
abbrev pub over_numbers : ℕ → List (TransducerRule ℕ) → TransducerOf
over_numbers states rules = record { names = names_of states; rules = rules }

-- the rules have another state or other sides
abbrev pub Differ : TransducerRule ℕ → TransducerRule ℕ → Type 0
Differ r s = AgreeInSides r s → ⊥

-- one of the cheapest of the rules that agree
pub record AreMerged (rules merged : List (TransducerRule ℕ)) : Type 0 where
  pub kept : (r : TransducerRule ℕ) → Has merged r → Has rules r
  pub least : (r s : TransducerRule ℕ) → Has merged r → Has rules s → AgreeInSides r s → r.cost ≤ s.cost
  pub whole : (r : TransducerRule ℕ) → Has rules r → HasSides merged r
  pub apart : Ascends Differ merged

-- the same names and the same rules, in the order of their lines
pub record IsSortedForm (scale : Scale) (labels : List (List ℕ)) (t h : TransducerOf) : Type 0 where
  pub names : h.names ≡ t.names
  pub to : (r : TransducerRule ℕ) → Has h.rules r → Has t.rules r
  pub from : (r : TransducerRule ℕ) → Has t.rules r → Has h.rules r
  pub ascends : Ascends (λ r s. move_cmp scale h.names labels r s ≡ Less) h.rules
