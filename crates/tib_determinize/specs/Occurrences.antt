-- The places of rules, by the states that are there.
use Rattle.std.specs.Prelude.{◌≡◌, ℕ, ◌<◌, ◌%◌, nat_eq, List, length, if◌then◌else◌}
use Rattle.std.specs.Global.{Vec}
use Rattle.std.proofs.Common.{get_or}
use Rattle.tib_lex.specs.Lists.{Has}
use Rattle.tib_grammar.specs.Sides.{label}
use Rattle.tib_grammar.specs.Run.{rule_at}
use Rattle.tib_grammar.specs.declared.Rule.{Rule}
use Rattle.tib_normal.specs.Rules.{positions_with}
use Rattle.tib_determinize.specs.declared.alive.Alive.{Alive}
use Rattle.tib_determinize.specs.declared.occurrences.Occurrence.{Occurrence}
use Rattle.tib_determinize.specs.Alive.{states_of, GoesOn, Stands}
use Rattle.tib_determinize.specs.Holders.{held}
use Rattle.tib_determinize.specs.Shapes.{root_label}
use Rattle.tib_determinize.specs.Vectors.{VectorOf}

-- the bucket of a label, of this many
abbrev pub bucket : ℕ → ℕ → ℕ
bucket f many = if nat_eq many 0 then 0 else f % many

-- the place j of the rule at m
abbrev pub occurrence : List (Rule ℕ) → ℕ → ℕ → ℕ → Occurrence
occurrence rules many m j = record { bucket = bucket (root_label (rule_at rules m).right.label) many; place = j; rule = m }

-- the place j of the rule at m is held at the state that is there
abbrev pub IsHeld : List (Rule ℕ) → ℕ → List (Vec Occurrence) → ℕ → ℕ → Type 0
IsHeld rules many lists m j = Has (held lists (get_or (states_of rules m) j 0)) (occurrence rules many m j)

-- each place of the rules below a bound is held at the state that is there
abbrev pub HoldPlaces : List (Rule ℕ) → ℕ → ℕ → List (Vec Occurrence) → Type 0
HoldPlaces rules many bound lists = (m j : ℕ) → m < bound → j < length (states_of rules m) → IsHeld rules many lists m j

-- of no place of the rules is it false that it is held at the state that is there
abbrev pub LackNone : List (Rule ℕ) → ℕ → List (Vec Occurrence) → Type 0
LackNone rules many lists = (m j : ℕ) → m < length rules → j < length (states_of rules m) → (IsHeld rules many lists m j → ⊥) → ⊥

-- the places of rules that are held at a state of the vector are in their buckets
abbrev pub AreFound : VectorOf → List (Vec Occurrence) → List (Vec Occurrence) → Type 0
AreFound v lists found = (q r : ℕ) (o : Occurrence) → Has {A = ℕ × ℕ} v (q, r) → Has (held lists q) o → Has (held found o.bucket) o

-- among these are the places of the rules of the label and the rank whose states there are in the
-- vector
abbrev pub HaveStanding : List (Rule ℕ) → ℕ → ℕ → ℕ → VectorOf → List Occurrence → Type 0
HaveStanding rules many f k v places = (m j : ℕ) → j < length (states_of rules m) → Has (positions_with f k rules) m → Stands rules j v m → Has places (occurrence rules many m j)

-- the rule has the label and the rank, and nothing is multiplied yet
pub record IsBegun (rules : List (Rule ℕ)) (f k : ℕ) (a : Alive) : Type 0 where
  pub below : a.rule < length rules
  pub root : (rule_at rules a.rule).right.label ≡ label f
  pub rank : length (states_of rules a.rule) ≡ k
  pub none : a.weight ≡ 0

-- the rule at m, with the product of nothing
abbrev pub fresh : ℕ → Alive
fresh m = record { rule = m; weight = 0 }

-- of the places of rules those at j of rules of the label and the rank have their rules there, if
-- these go on where n is last at j
abbrev pub BeginAll : List (Rule ℕ) → List VectorOf → ℕ → ℕ → ℕ → ℕ → List Occurrence → List Alive → Type 0
BeginAll rules order n f k j places alive = (o : Occurrence) → Has places o → o.place ≡ j → IsBegun rules f k (fresh o.rule) → GoesOn rules order n j k o.rule → Has alive (fresh o.rule)
