-- Weights as they are written.
use Rattle.tib_cost.specs.Scale.{is_weighted, cost_in}
use Rattle.tib_cost.specs.declared.Scale.{Scale}
use Rattle.std.specs.Prelude.{◌≡◌, ◌<◌, ◌≤◌, ◌++◌, length, ℕ, ◌+◌, ◌*◌, ◌-◌, Bool, true, false, ◌&&◌, ◌==◌, nat_lt, List, [], ◌∷◌, Option, Some, None, Result, Ok, Err, if◌then◌else◌}
use Rattle.std.specs.List.{list_all}
use Rattle.tib_lex.specs.declared.fault.FaultKind.{FaultKind}
use Rattle.tib_lex.specs.declared.fault.FaultKind.TheVariants as kinds
use Rattle.tib_cost.specs.Semiring.{most}

-- the least number that is no weight
abbrev pub too_large : ℕ
too_large = most + 1

-- a decimal digit
abbrev pub is_digit : ℕ → Bool
is_digit b = nat_lt 47 b && nat_lt b 58

-- the digit 0
abbrev pub is_zero_digit : ℕ → Bool
is_zero_digit b = b == 48

-- the number that decimal digits write, after a number that was written before them
abbrev pub decimal_from : ℕ → List ℕ → ℕ
decimal_from value [] = value
decimal_from value (d ∷ digits) = decimal_from (10 * value + (d - 48)) digits

-- the number that decimal digits write
abbrev pub decimal : List ℕ → ℕ
decimal digits = decimal_from 0 digits

-- a point and what follows it, or nothing
abbrev pub behind_digits : Option (List ℕ) → List ℕ
behind_digits None = []
behind_digits (Some zeros) = 46 ∷ zeros

-- after the point, if there is one, there are zeros alone
abbrev pub AreZeros : Option (List ℕ) → Type 0
AreZeros None = Unit {0}
AreZeros (Some zeros) = list_all is_zero_digit zeros ≡ true

-- A whole weight: one or more decimal digits, and maybe a point with zeros after it. Its value is
-- that of the digits.
pub record IsWhole (text : List ℕ) (n : ℕ) : Type 0 where
  pub digits : List ℕ
  pub zeros : Option (List ℕ)
  pub some : 0 < length digits
  pub are_digits : list_all is_digit digits ≡ true
  pub are_zeros : AreZeros zeros
  pub spelled : text ≡ digits ++ behind_digits zeros
  pub value : n ≡ decimal digits

-- the weight is whole and within the limit, and it stands for this cost
pub record IsWeighed (scale : Scale) (text : List ℕ) (cost : ℕ) : Type 0 where
  pub weight : ℕ
  pub whole : IsWhole text weight
  pub within : weight ≤ most
  pub cost_is : cost ≡ cost_in scale weight

-- what a weight says of the cost: nothing where none are kept, since each cost is 0 there
abbrev pub IsCostIf : Bool → Scale → List ℕ → ℕ → Type 0
IsCostIf true scale text cost = IsWeighed scale text cost
IsCostIf false scale text cost = cost ≡ 0

-- The cost of a weight. A missing weight is the one that stands for the cost 0.
abbrev pub IsCostOf : Scale → Option (List ℕ) → ℕ → Type 0
IsCostOf scale None cost = cost ≡ 0
IsCostOf scale (Some text) cost = IsCostIf (is_weighted scale) scale text cost

-- The reading: the value of the digits up to a point, after which only zeros may come.
abbrev pub whole_from : ℕ → List ℕ → Option ℕ
whole_from value [] = Some value
whole_from value (b ∷ rest) =
    if is_digit b then whole_from (10 * value + (b - 48)) rest
    else if b == 46 && list_all is_zero_digit rest then Some value
    else None

-- the number of a whole weight, none where the text is no whole weight
abbrev pub whole : List ℕ → Option ℕ
whole [] = None
whole (b ∷ rest) = if is_digit b then whole_from (b - 48) rest else None

-- the cost of a number, or the fault of none or of one that is too large
abbrev pub small : Scale → Option ℕ → Result ℕ FaultKind
small scale None = Err kinds.NotWhole
small scale (Some n) = if nat_lt most n then Err kinds.WeightTooLarge else Ok (cost_in scale n)

-- the cost of a rule with a weight or without one
unfoldable pub cost_of : Scale → Option (List ℕ) → Result ℕ FaultKind
cost_of scale None = Ok 0
cost_of scale (Some text) = if is_weighted scale then small scale (whole text) else Ok 0
