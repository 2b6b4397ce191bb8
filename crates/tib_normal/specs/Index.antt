-- What an index of rules holds.
use Rattle.std.specs.Prelude.{◌≡◌, ℕ, ◌<◌, ◌≤◌, ◌&&◌, nat_eq, Bool, List, length, Some}
use Rattle.std.specs.Global.{Vec}
use Rattle.std.specs.HashMap.{HashMap, get}
use Rattle.std.proofs.Common.{get_or}
use Rattle.tib_grammar.specs.declared.Rule.{Rule}
use Rattle.tib_grammar.specs.Run.{rule_at}
use Rattle.tib_grammar.specs.ShapeBuckets.{bucket_at, lists_of}

-- p rules come before all whose left state is q or more
pub record IsStart (rules : List (Rule ℕ)) (q p : ℕ) : Type 0 where
  pub within : p ≤ length rules
  pub before : (n : ℕ) → n < p → (rule_at rules n).left < q
  pub from : (n : ℕ) → p ≤ n → n < length rules → q ≤ (rule_at rules n).left

-- the places at which the rules of the states below n begin
pub record AreStarts (rules : List (Rule ℕ)) (n : ℕ) (starts : List ℕ) : Type 0 where
  pub long : length starts ≡ n
  pub each : (q : ℕ) → q < n → IsStart rules q (get_or starts q 0)

-- whether two pairs of a label and a rank are the same
abbrev pub same_shape : ℕ × ℕ → ℕ × ℕ → Bool
same_shape s t = nat_eq s.0 t.0 && nat_eq s.1 t.1

-- what an index holds for a label and a rank
abbrev pub held : {S : Type 0} → HashMap (ℕ × ℕ) ℕ S → List (Vec ℕ) → ℕ × ℕ → List ℕ
held shapes buckets s = bucket_at (lists_of buckets) (get same_shape shapes s)

-- each shape has a bucket of its own
pub record AreNumbered {S : Type 0} (shapes : HashMap (ℕ × ℕ) ℕ S)
    (buckets : List (Vec ℕ)) : Type 0 where
  pub within : (s : ℕ × ℕ) (i : ℕ) → get same_shape shapes s ≡ Some i → i < length buckets
  pub apart : (s t : ℕ × ℕ) (i : ℕ) → get same_shape shapes s ≡ Some i →
      get same_shape shapes t ≡ Some i → s ≡ t
