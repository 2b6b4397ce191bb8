-- What each answer of a run says of the words, the files and the output.
use Rattle.tib_cost.specs.declared.Scale.{Scale}
use Rattle.tib_cost.specs.declared.Scale.TheVariants as scales
use Rattle.std.specs.Prelude.{◌≡◌, ℕ, ◌+◌, max, ◌<◌, Bool, true, false, List, length, Option, Some, None, IfSome, IsSome}
use Rattle.std.proofs.Common.{suc}
use Rattle.tib_io.specs.Causes.{Rose}
use Rattle.tib_transducer.specs.declared.error.ClassFault.{ClassFault}
use Rattle.tib_command.specs.Jobs.{Asked}
use Rattle.tib_command.specs.declared.job.Mode.{Mode}
use Rattle.tib_command.specs.declared.job.Mode.TheVariants as modes
use Rattle.tib_command.specs.declared.job.Operation.{Operation}
use Rattle.tib_command.specs.declared.job.Operation.TheVariants as operations
use Rattle.tib_job.specs.Kinds.{kind_at, kinds_of, file_at, bytes_at, OfFile, Told, IsOfKind, HasFault, Kind, ValuesOf, AreTexts}
use Rattle.tib_operations.specs.FileTexts.{IsShort, IsLong}
use Rattle.tib_operations.specs.Made.{Made}
use Rattle.tib_operations.specs.Weigh.{weigh_makes}
use Rattle.tib_operations.specs.Inside.{inside_makes}
use Rattle.tib_operations.specs.Normal.{normal_makes}
use Rattle.tib_operations.specs.KBest.{kbest_makes, ListsSmall, HasLargeTree}
use Rattle.tib_operations.specs.Intersect.{intersect_makes}
use Rattle.tib_operations.specs.Union.{union_makes}
use Rattle.tib_operations.specs.Difference.{difference_makes}
use Rattle.tib_operations.specs.Forward.{forward_makes, forward_demands}
use Rattle.tib_operations.specs.Compose.{compose_makes, compose_demands}
use Rattle.tib_operations.specs.Image.{image_makes}
use Rattle.tib_operations.specs.Backward.{backward_makes, backward_demands}
use Rattle.tib_operations.specs.Determinize.{determinize_makes}
use Rattle.tib_operations.specs.Demo.{demo_makes}
use Rattle.tib_operations.specs.Check.{check_makes}
use Rattle.tib_operations.specs.Prune.{prune_makes}
use Rattle.tib_operations.specs.Trim.{trim_makes}
use Rattle.tib_operations.specs.Through.{through_makes}
use Rattle.tib_operations.specs.Count.{count_makes}
use Rattle.tib_operations.specs.Runs.{runs_makes}
use Rattle.tib_operations.specs.Invert.{invert_makes, invert_demands}
use Rattle.tib_operations.specs.Domain.{domain_makes, domain_demands}
use Rattle.tib_operations.specs.Classes.{Demanded, nothing_demanded, IsMet, IsBroken}
use Rattle.tib_operations.specs.Parse.{parse_makes, parse_demands}
use Rattle.tib_operations.specs.Compare.{compare_makes, LeastIsSmall, HasLargeLeast}
use Rattle.tib_operations.specs.declared.status.Status.{Status}
use Rattle.tib_operations.specs.declared.status.Status.TheVariants as statuses

-- how the weights of a mode stand for costs
abbrev pub scale_of : Mode → Scale
scale_of modes.MinPlus = scales.Plain
scale_of modes.Bottleneck = scales.Plain
scale_of modes.Widest = scales.Reversed
scale_of modes.Boolean = scales.Unweighted

abbrev pub scale_by : Option Asked → Scale
scale_by None = scales.Plain
scale_by (Some asked) = scale_of asked.mode

-- the product of a mode
abbrev pub product_of : Mode → ℕ → ℕ → ℕ
product_of modes.MinPlus = ◌+◌
product_of modes.Bottleneck = max
product_of modes.Widest = max
product_of modes.Boolean = max

-- whether the product of a mode is the greater cost of those that have weights
abbrev pub levelled_of : Mode → Bool
levelled_of modes.MinPlus = false
levelled_of modes.Bottleneck = true
levelled_of modes.Widest = true
levelled_of modes.Boolean = false

-- what the words say in numbers that an answer depends on: how many parts are within the limit, how
-- wide the beam is, how many trees are listed, and the number of `demo`
pub record Numbers : Type 0 where
  pub limit : ℕ
  pub beam : ℕ
  pub k : ℕ
  pub demo : ℕ

abbrev pub numbers_of : Asked → Numbers
numbers_of asked = record { limit = asked.limit; beam = asked.beam; k = asked.k; demo = asked.task.demo }

-- what an operation makes of the values of its files
abbrev pub makes : (operation : Operation) → Scale → (ℕ → ℕ → ℕ) → Numbers → ValuesOf (kinds_of operation) → Made
makes operations.Weigh scale product numbers values = weigh_makes product numbers.limit values.0
makes operations.Inside scale product numbers values = inside_makes
makes operations.Normal scale product numbers values = normal_makes product numbers.limit values.0
makes operations.KBest scale product numbers values = kbest_makes product numbers.limit values.0
makes operations.Intersect scale product numbers values = intersect_makes product numbers.limit values.0 values.1.0
makes operations.Union scale product numbers values = union_makes product numbers.limit values.0 values.1.0
makes operations.Difference scale product numbers values = difference_makes product numbers.limit values.0 values.1.0
makes operations.Forward scale product numbers values = forward_makes product numbers.limit values.0 values.1.0
makes operations.Backward scale product numbers values = backward_makes product numbers.limit values.0 values.1.0
makes operations.Compose scale product numbers values = compose_makes product numbers.limit values.0 values.1.0
makes operations.Image scale product numbers values = image_makes numbers.limit values.0 values.1.0
makes operations.Parse scale product numbers values = parse_makes numbers.limit values.0 values.1.0
makes operations.Compare scale product numbers values = compare_makes numbers.limit values.0 values.1.0
makes operations.Determinize scale product numbers values = determinize_makes product numbers.limit values.0
makes operations.Check scale product numbers values = check_makes
makes operations.Prune scale product numbers values = prune_makes product numbers.limit values.0
makes operations.Trim scale product numbers values = trim_makes
makes operations.Through scale product numbers values = through_makes
makes operations.Count scale product numbers values = count_makes numbers.limit values.0
makes operations.Runs scale product numbers values = runs_makes
makes operations.Invert scale product numbers values = invert_makes
makes operations.Domain scale product numbers values = domain_makes numbers.limit values.0
makes operations.Demo scale product numbers values = demo_makes scale product numbers.limit numbers.demo

-- what class an operation demands of which file
abbrev pub demanded : (operation : Operation) → ValuesOf (kinds_of operation) → Demanded
demanded operations.Weigh values = nothing_demanded
demanded operations.Inside values = nothing_demanded
demanded operations.Normal values = nothing_demanded
demanded operations.KBest values = nothing_demanded
demanded operations.Intersect values = nothing_demanded
demanded operations.Union values = nothing_demanded
demanded operations.Difference values = nothing_demanded
demanded operations.Forward values = forward_demands values.1.0
demanded operations.Backward values = backward_demands values.0
demanded operations.Compose values = compose_demands values.1.0
demanded operations.Image values = nothing_demanded
demanded operations.Parse values = parse_demands values.0
demanded operations.Compare values = nothing_demanded
demanded operations.Determinize values = nothing_demanded
demanded operations.Check values = nothing_demanded
demanded operations.Prune values = nothing_demanded
demanded operations.Trim values = nothing_demanded
demanded operations.Through values = nothing_demanded
demanded operations.Count values = nothing_demanded
demanded operations.Runs values = nothing_demanded
demanded operations.Invert values = invert_demands values.0
demanded operations.Domain values = domain_demands values.0
demanded operations.Demo values = nothing_demanded

-- an operation names no tree that is too large: not among those that it lists, nor as the least by
-- which two grammars differ
abbrev pub ListsNoLarge : (operation : Operation) → Scale → (ℕ → ℕ → ℕ) → Numbers → List (List ℕ) → ValuesOf (kinds_of operation) → Type 0
ListsNoLarge operations.KBest scale product numbers labels values = ListsSmall product numbers.k labels values.0
ListsNoLarge operations.Compare scale product numbers labels values = LeastIsSmall labels values.0 values.1.0
ListsNoLarge operation scale product numbers labels values = Unit {0}

-- a state has a tree that is too large among those that it may have to give, or each tree by which
-- two grammars differ is too large
abbrev pub MeetsLarge : (operation : Operation) → Scale → Bool → (ℕ → ℕ → ℕ) → Numbers → List (List ℕ) → ValuesOf (kinds_of operation) → Type 0
MeetsLarge operations.KBest scale levelled product numbers labels values = HasLargeTree levelled product numbers.k labels values.0
MeetsLarge operations.Compare scale levelled product numbers labels values = HasLargeLeast values.0 values.1.0
MeetsLarge operation scale levelled product numbers labels values = ⊥

-- Files are the texts of values of which an operation makes something with more parts than the
-- limit.
pub record MakesTooMuch (operation : Operation) (scale : Scale) (product : ℕ → ℕ → ℕ) (numbers : Numbers) (bytes : ℕ → Option (List ℕ)) : Type 0 where
  pub labels : List (List ℕ)
  pub values : ValuesOf (kinds_of operation)
  pub texts : AreTexts scale labels bytes (kinds_of operation) values
  pub more : (makes operation scale product numbers values).more

-- whatever values the files are the texts of, what the operation makes of them is within the limit
abbrev pub StaysWithin : Operation → Scale → (ℕ → ℕ → ℕ) → Numbers → (ℕ → Option (List ℕ)) → Type 0
StaysWithin operation scale product numbers bytes =
    (labels : List (List ℕ)) (values : ValuesOf (kinds_of operation)) → AreTexts scale labels bytes (kinds_of operation) values →
    (makes operation scale product numbers values).within

-- Files are the texts of values of which what an operation makes is within the limit.
pub record MakesWithin (operation : Operation) (scale : Scale) (product : ℕ → ℕ → ℕ) (numbers : Numbers) (bytes : ℕ → Option (List ℕ)) : Type 0 where
  pub labels : List (List ℕ)
  pub values : ValuesOf (kinds_of operation)
  pub texts : AreTexts scale labels bytes (kinds_of operation) values
  pub within : (makes operation scale product numbers values).within

-- Files are the texts of values of which a state has a tree that is too large among those that it
-- may have to give.
pub record MeetsLargeTree (operation : Operation) (scale : Scale) (levelled : Bool) (product : ℕ → ℕ → ℕ) (numbers : Numbers) (bytes : ℕ → Option (List ℕ)) : Type 0 where
  pub labels : List (List ℕ)
  pub values : ValuesOf (kinds_of operation)
  pub texts : AreTexts scale labels bytes (kinds_of operation) values
  pub large : MeetsLarge operation scale levelled product numbers labels values

-- whatever values the files are the texts of, the operation lists no tree of them that is too large
abbrev pub StaysSmall : Operation → Scale → (ℕ → ℕ → ℕ) → Numbers → (ℕ → Option (List ℕ)) → Type 0
StaysSmall operation scale product numbers bytes =
    (labels : List (List ℕ)) (values : ValuesOf (kinds_of operation)) → AreTexts scale labels bytes (kinds_of operation) values →
    ListsNoLarge operation scale product numbers labels values

-- Files are the texts of values that are not of the class that an operation demands, and this is
-- the first rule that is not.
pub record BreaksClass (operation : Operation) (scale : Scale) (bytes : ℕ → Option (List ℕ)) (file : ℕ) (found : ℕ × ClassFault) : Type 0 where
  pub labels : List (List ℕ)
  pub values : ValuesOf (kinds_of operation)
  pub texts : AreTexts scale labels bytes (kinds_of operation) values
  pub broken : IsBroken (demanded operation values) file found

-- Files are the texts of values that are of that class.
pub record MeetsClass (operation : Operation) (scale : Scale) (bytes : ℕ → Option (List ℕ)) : Type 0 where
  pub labels : List (List ℕ)
  pub values : ValuesOf (kinds_of operation)
  pub texts : AreTexts scale labels bytes (kinds_of operation) values
  pub met : IsMet (demanded operation values)

-- whatever values the files are the texts of, they are of that class
abbrev pub StaysInClass : Operation → Scale → (ℕ → Option (List ℕ)) → Type 0
StaysInClass operation scale bytes =
    (labels : List (List ℕ)) (values : ValuesOf (kinds_of operation)) → AreTexts scale labels bytes (kinds_of operation) values →
    IsMet (demanded operation values)

-- the bytes of the files of a job, counted from 0, where they are known
abbrev pub bytes_of : Asked → (List ℕ → Option (List ℕ)) → ℕ → Option (List ℕ)
bytes_of asked held n = bytes_at held (file_at (Some asked) (suc n))

-- what the job makes of its files has more parts than its limit
abbrev pub IsTooMuch : Asked → (List ℕ → Option (List ℕ)) → Type 0
IsTooMuch asked held =
    MakesTooMuch asked.task.operation (scale_of asked.mode) (product_of asked.mode) (numbers_of asked) (bytes_of asked held)

-- what the job makes of its files is within its limit
abbrev pub IsWithin : Asked → (List ℕ → Option (List ℕ)) → Type 0
IsWithin asked held =
    StaysWithin asked.task.operation (scale_of asked.mode) (product_of asked.mode) (numbers_of asked) (bytes_of asked held)

-- the job lists no tree that is too large
abbrev pub IsSmall : Asked → (List ℕ → Option (List ℕ)) → Type 0
IsSmall asked held = StaysSmall asked.task.operation (scale_of asked.mode) (product_of asked.mode) (numbers_of asked) (bytes_of asked held)

-- a state has a tree that is too large among those that the job may ask of it
abbrev pub IsTooLarge : Asked → (List ℕ → Option (List ℕ)) → Type 0
IsTooLarge asked held =
    MeetsLargeTree asked.task.operation (scale_of asked.mode) (levelled_of asked.mode) (product_of asked.mode) (numbers_of asked) (bytes_of asked held)

-- the files of the job are of the class that its operation demands
abbrev pub IsInClass : Asked → (List ℕ → Option (List ℕ)) → Type 0
IsInClass asked held = StaysInClass asked.task.operation (scale_of asked.mode) (bytes_of asked held)

-- this rule of this file is the first that is not
abbrev pub IsOutOfClass : Asked → (List ℕ → Option (List ℕ)) → ℕ → ℕ × ClassFault → Type 0
IsOutOfClass asked held file found = BreaksClass asked.task.operation (scale_of asked.mode) (bytes_of asked held) file found

abbrev pub HasOutside : Option Asked → (List ℕ → Option (List ℕ)) → ℕ → ℕ × ClassFault → Type 0
HasOutside None held file found = ⊥
HasOutside (Some asked) held file found = IsOutOfClass asked held file found

-- no class is broken
abbrev pub HasClass : Option Asked → (List ℕ → Option (List ℕ)) → Type 0
HasClass None held = ⊥
HasClass (Some asked) held = MeetsClass asked.task.operation (scale_of asked.mode) (bytes_of asked held)

abbrev pub HasTooMany : Option Asked → (List ℕ → Option (List ℕ)) → ℕ → Type 0
HasTooMany None held limit = ⊥
HasTooMany (Some asked) held limit = (asked.limit ≡ limit) × IsTooMuch asked held

abbrev pub HasTooLarge : Option Asked → (List ℕ → Option (List ℕ)) → Type 0
HasTooLarge None held = ⊥
HasTooLarge (Some asked) held = IsTooLarge asked held

-- what is made is within the limit
abbrev pub HasWithin : Option Asked → (List ℕ → Option (List ℕ)) → Type 0
HasWithin None held = ⊥
HasWithin (Some asked) held = MakesWithin asked.task.operation (scale_of asked.mode) (product_of asked.mode) (numbers_of asked) (bytes_of asked held)

-- Each answer comes only with its cause: words that are no command, a count of faults that rose in
-- this run, a file that is too long, the first fault of a file that is not, the first rule outside
-- the class that the operation demands, a normal form or a reached set with more parts than the
-- limit of the job, or a tree that is too large among those that a state may have to give, or that
-- each tree by which two grammars differ is too large. Out of memory may come at any place.
abbrev pub HasCause : Option Asked → (List ℕ → Option (List ℕ)) → (List ℕ → ℕ) → (List ℕ → ℕ) → ℕ → ℕ → Status → Type 0
HasCause job held before now out_before out_now statuses.Done = IsSome job
HasCause job held before now out_before out_now statuses.Usage = job ≡ None
HasCause job held before now out_before out_now (statuses.BadInput file fault) =
    OfFile job file (Told held (λ bytes. IsShort bytes × HasFault (scale_by job) (kind_at job file) bytes fault))
HasCause job held before now out_before out_now (statuses.Class file rule fault) = HasOutside job held file (rule, fault)
HasCause job held before now out_before out_now (statuses.TooMany limit) = HasTooMany job held limit
HasCause job held before now out_before out_now statuses.TreeTooLarge = HasTooLarge job held
HasCause job held before now out_before out_now (statuses.ReadFault file) = OfFile job file (λ name. Rose (before name) (now name))
HasCause job held before now out_before out_now statuses.WriteFault = IsSome job × Rose out_before out_now
HasCause job held before now out_before out_now (statuses.TooLong file) = OfFile job file (Told held IsLong)
HasCause job held before now out_before out_now statuses.OutOfMemory = Unit {0}

-- the files of a job before the n-th are of their kinds, where they are known
abbrev pub AreBefore : Option Asked → (List ℕ → Option (List ℕ)) → ℕ → Type 0
AreBefore job held n = (m : ℕ) (kind : Kind) → m < n → kind_at job m ≡ Some kind → IfSome (bytes_at held (file_at job m)) (IsOfKind (scale_by job) kind)

abbrev pub file_count : Option Asked → ℕ
file_count None = 0
file_count (Some asked) = length (kinds_of asked.task.operation)

-- an answer about a file comes only where the files before it are of their kinds, one about a class
-- where all are, one about the parts where all are and no class is broken, and one about a large
-- tree where also what is made is within the limit
abbrev pub HasEarlier : Option Asked → (List ℕ → Option (List ℕ)) → Status → Type 0
HasEarlier job held (statuses.BadInput file fault) = AreBefore job held file
HasEarlier job held (statuses.ReadFault file) = AreBefore job held file
HasEarlier job held (statuses.TooLong file) = AreBefore job held file
HasEarlier job held (statuses.Class file rule fault) = AreBefore job held (file_count job + 1)
HasEarlier job held (statuses.TooMany limit) = AreBefore job held (file_count job + 1) × HasClass job held
HasEarlier job held statuses.TreeTooLarge = AreBefore job held (file_count job + 1) × HasClass job held × HasWithin job held
HasEarlier job held status = Unit {0}

-- an answer about one file, or out of memory
abbrev pub IsAbout : ℕ → Status → Type 0
IsAbout file (statuses.BadInput n fault) = n ≡ file
IsAbout file (statuses.ReadFault n) = n ≡ file
IsAbout file (statuses.TooLong n) = n ≡ file
IsAbout file statuses.OutOfMemory = Unit {0}
IsAbout file status = ⊥

-- an answer that comes before anything is written
abbrev pub IsEarly : Status → Type 0
IsEarly statuses.Done = ⊥
IsEarly statuses.Usage = ⊥
IsEarly statuses.WriteFault = ⊥
IsEarly status = Unit {0}
