-- What a run that is done has written.
use Rattle.tib_cost.specs.declared.Scale.{Scale}
use Rattle.std.specs.Prelude.{◌≡◌, ◌⊎◌, ◌<◌, ◌≤◌, ◌^◌, ℕ, Bool, List, length, Option, Some, None, IsSome}
use Rattle.tib_cost.specs.Semiring.{ProductLaws}
use Rattle.tib_io.specs.Causes.{Rose, last_count}
use Rattle.tib_command.specs.Jobs.{Asked, most_demo}
use Rattle.tib_command.specs.declared.job.Operation.{Operation}
use Rattle.tib_command.specs.declared.job.Operation.TheVariants as operations
use Rattle.tib_operations.specs.declared.status.Status.{Status}
use Rattle.tib_operations.specs.declared.status.Status.TheVariants as statuses
use Rattle.tib_job.specs.Kinds.{Kind, kind_at, kinds_of, file_at, bytes_at, OfName, IsOfKind, ValuesOf, AreTexts}
use Rattle.tib_operations.specs.FileTexts.{IsShort}
use Rattle.tib_job.specs.Causes.{Numbers, numbers_of, scale_of, product_of, makes, demanded, bytes_of, HasCause, HasEarlier, IsTooMuch, IsTooLarge, IsWithin, IsInClass}
use Rattle.tib_operations.specs.Classes.{IsMet}
use Rattle.tib_operations.specs.Weigh.{IsWeighed}
use Rattle.tib_operations.specs.Inside.{HasInsides}
use Rattle.tib_operations.specs.Normal.{HasNormalText}
use Rattle.tib_operations.specs.KBest.{HasKBestText}
use Rattle.tib_operations.specs.Intersect.{HasIntersectionText}
use Rattle.tib_operations.specs.Union.{HasUnionText}
use Rattle.tib_operations.specs.Difference.{HasDifferenceText}
use Rattle.tib_operations.specs.Forward.{HasForwardText}
use Rattle.tib_operations.specs.Backward.{HasBackwardText}
use Rattle.tib_operations.specs.Compose.{HasComposeText}
use Rattle.tib_operations.specs.Image.{HasImageText}
use Rattle.tib_operations.specs.Determinize.{HasDeterminizedText}
use Rattle.tib_operations.specs.Demo.{HasDemoText}
use Rattle.tib_operations.specs.Check.{HasClasses}
use Rattle.tib_operations.specs.Prune.{HasPruneText}
use Rattle.tib_operations.specs.Trim.{HasTrimText}
use Rattle.tib_operations.specs.Through.{HasThroughText}
use Rattle.tib_operations.specs.Count.{HasCountText}
use Rattle.tib_operations.specs.Runs.{HasRunsText}
use Rattle.tib_operations.specs.Invert.{HasInvertText}
use Rattle.tib_operations.specs.Domain.{HasDomainText}
use Rattle.tib_operations.specs.Parse.{HasParseText}
use Rattle.tib_operations.specs.Compare.{HasCompareText}

-- the text answers the operation on these values of its files
abbrev pub IsResultOf : (operation : Operation) → Scale → (ℕ → ℕ → ℕ) → Numbers → List (List ℕ) → ValuesOf (kinds_of operation) → List ℕ → Type 0
IsResultOf operations.Weigh scale product numbers labels values text = IsWeighed scale product labels values.0 values.1.0 text
IsResultOf operations.Inside scale product numbers labels values text = HasInsides scale product values.0 text
IsResultOf operations.Normal scale product numbers labels values text = HasNormalText scale product numbers.limit labels values.0 text
IsResultOf operations.KBest scale product numbers labels values text = HasKBestText scale product numbers.k labels values.0 text
IsResultOf operations.Intersect scale product numbers labels values text = HasIntersectionText scale product numbers.limit labels values.0 values.1.0 text
IsResultOf operations.Union scale product numbers labels values text = HasUnionText scale product numbers.limit labels values.0 values.1.0 text
IsResultOf operations.Difference scale product numbers labels values text = HasDifferenceText scale product numbers.limit labels values.0 values.1.0 text
IsResultOf operations.Forward scale product numbers labels values text = HasForwardText scale product numbers.limit labels values.0 values.1.0 text
IsResultOf operations.Backward scale product numbers labels values text = HasBackwardText scale product numbers.limit labels values.0 values.1.0 text
IsResultOf operations.Compose scale product numbers labels values text = HasComposeText scale product numbers.limit labels values.0 values.1.0 text
IsResultOf operations.Image scale product numbers labels values text = HasImageText scale product numbers.limit labels values.0 values.1.0 text
IsResultOf operations.Parse scale product numbers labels values text = HasParseText scale product numbers.limit labels values.0 values.1.0 text
IsResultOf operations.Compare scale product numbers labels values text = HasCompareText labels values.0 values.1.0 text
IsResultOf operations.Determinize scale product numbers labels values text = HasDeterminizedText scale product numbers.limit labels values.0 text
IsResultOf operations.Check scale product numbers labels values text = HasClasses values.0 text
IsResultOf operations.Prune scale product numbers labels values text = HasPruneText scale product numbers.beam labels values.0 text
IsResultOf operations.Trim scale product numbers labels values text = HasTrimText scale product labels values.0 text
IsResultOf operations.Through scale product numbers labels values text = HasThroughText scale product labels values.0 text
IsResultOf operations.Count scale product numbers labels values text = HasCountText values.0 text
IsResultOf operations.Runs scale product numbers labels values text = HasRunsText scale product labels values.0 text
IsResultOf operations.Invert scale product numbers labels values text = HasInvertText scale product labels values.0 text
IsResultOf operations.Domain scale product numbers labels values text = HasDomainText scale product numbers.limit labels values.0 text
IsResultOf operations.Demo scale product numbers labels values text = HasDemoText scale product numbers.limit numbers.demo text

-- The text answers the operation on files with these bytes: they are the texts of values, which are
-- of the class that is demanded, what is made of these is within the limit, and the text answers
-- the operation on them. Nothing is said of a file whose bytes are not told.
pub record IsAnswerOf (operation : Operation) (scale : Scale) (product : ℕ → ℕ → ℕ) (numbers : Numbers) (bytes : ℕ → Option (List ℕ)) (text : List ℕ) : Type 0 where
  pub labels : List (List ℕ)
  pub values : ValuesOf (kinds_of operation)
  pub texts : AreTexts scale labels bytes (kinds_of operation) values
  pub met : IsMet (demanded operation values)
  pub within : (makes operation scale product numbers values).within
  pub result_is : IsResultOf operation scale product numbers labels values text

-- the product meets its laws, and the limit is below 2 ^ 32
pub record MeetsLaws (product : ℕ → ℕ → ℕ) (limit : ℕ) : Type 0 where
  pub levelled : Bool
  pub weighed : Bool
  pub laws : ProductLaws levelled weighed product
  pub low : limit < 2 ^ 32

-- what is asked of the product and the numbers so that there is an answer: nothing where no grammar
-- is made
abbrev pub NeedsOf : Operation → (ℕ → ℕ → ℕ) → Numbers → Type 0
NeedsOf operations.Weigh product numbers = Unit {0}
NeedsOf operations.Inside product numbers = Unit {0}
NeedsOf operations.Normal product numbers = MeetsLaws product numbers.limit
NeedsOf operations.KBest product numbers = Unit {0}
NeedsOf operations.Intersect product numbers = MeetsLaws product numbers.limit
NeedsOf operations.Union product numbers = MeetsLaws product numbers.limit
NeedsOf operations.Difference product numbers = MeetsLaws product numbers.limit
NeedsOf operations.Forward product numbers = MeetsLaws product numbers.limit
NeedsOf operations.Backward product numbers = MeetsLaws product numbers.limit
NeedsOf operations.Compose product numbers = MeetsLaws product numbers.limit
NeedsOf operations.Image product numbers = MeetsLaws product numbers.limit
NeedsOf operations.Parse product numbers = MeetsLaws product numbers.limit
NeedsOf operations.Compare product numbers = Unit {0}
NeedsOf operations.Determinize product numbers = MeetsLaws product numbers.limit
NeedsOf operations.Check product numbers = Unit {0}
NeedsOf operations.Prune product numbers = MeetsLaws product numbers.limit
NeedsOf operations.Trim product numbers = MeetsLaws product numbers.limit
NeedsOf operations.Through product numbers = MeetsLaws product numbers.limit
NeedsOf operations.Count product numbers = Unit {0}
NeedsOf operations.Runs product numbers = Unit {0}
NeedsOf operations.Invert product numbers = MeetsLaws product numbers.limit
NeedsOf operations.Domain product numbers = MeetsLaws product numbers.limit
NeedsOf operations.Demo product numbers = MeetsLaws product numbers.limit × (numbers.demo ≤ most_demo)

-- the text answers the job
abbrev pub IsAnswer : Asked → (List ℕ → Option (List ℕ)) → List ℕ → Type 0
IsAnswer asked held text =
    IsAnswerOf asked.task.operation (scale_of asked.mode) (product_of asked.mode) (numbers_of asked) (bytes_of asked held) text

-- the bytes of each file of the job are known
abbrev pub AreTold : Asked → (List ℕ → Option (List ℕ)) → Type 0
AreTold asked held = (n : ℕ) (kind : Kind) → kind_at (Some asked) n ≡ Some kind → IsSome (bytes_at held (file_at (Some asked) n))

-- what is within the limit is not too much
abbrev pub WithinIsNotTooMuch : Type 0
WithinIsNotTooMuch = (asked : Asked) (held : List ℕ → Option (List ℕ)) → IsWithin asked held → IsTooMuch asked held → ⊥

-- each file of the job is known, and is of its kind, and so not too long
abbrev pub AreOfTheirKinds : Asked → (List ℕ → Option (List ℕ)) → Type 0
AreOfTheirKinds asked held =
    (n : ℕ) (kind : Kind) → kind_at (Some asked) n ≡ Some kind → OfName (bytes_at held (file_at (Some asked) n)) (IsOfKind (scale_of asked.mode) kind)

-- Each file of a job is known, not too long and of its kind, and of the class that the operation
-- demands, what the job makes is within the limit, and no state has a tree that is too large among
-- those that the job may ask of it. Of two grammars that are compared, the least tree by which they
-- differ, where there is one, is not too large.
pub record IsAnswerable (asked : Asked) (held : List ℕ → Option (List ℕ)) : Type 0 where
  pub short : (n : ℕ) (name : List ℕ) → file_at (Some asked) n ≡ Some name → OfName (held name) IsShort
  pub kinds : AreOfTheirKinds asked held
  pub class : IsInClass asked held
  pub within : IsWithin asked held
  pub small : IsTooLarge asked held → ⊥

-- no count of a file of the job rose, nor that of the output
pub record IsCalm (asked : Asked) (before now : List ℕ → ℕ) (out_before out_now : ℕ) : Type 0 where
  pub files : (n : ℕ) → OfName (file_at (Some asked) n) (λ name. Rose (before name) (now name)) → ⊥
  pub out : Rose out_before out_now → ⊥

-- a status of the job that meets the clauses of a run in which no count rose
pub record EndsCalmly (asked : Asked) (held : List ℕ → Option (List ℕ)) (status : Status) : Type 0 where
  pub before : List ℕ → ℕ
  pub now : List ℕ → ℕ
  pub out_before : ℕ
  pub out_now : ℕ
  pub calm : IsCalm asked before now out_before out_now
  pub cause : HasCause (Some asked) held before now out_before out_now status
  pub earlier : HasEarlier (Some asked) held status
  pub text : status ≡ statuses.Done → (text : List ℕ) × IsAnswer asked held text

-- an operation lists trees, and so may meet one that is too large among those of a state where none
-- that it lists is
abbrev pub ListsTrees : Operation → Type 0
ListsTrees operations.KBest = Unit {0}
ListsTrees operation = ⊥

-- of such an operation, one run listed its trees, and the other met one that is too large among
-- those of some state
abbrev pub DifferInLarge : Operation → Status → Status → Type 0
DifferInLarge operation s t =
    ListsTrees operation × (((s ≡ statuses.Done) × (t ≡ statuses.TreeTooLarge)) ⊎ ((s ≡ statuses.TreeTooLarge) × (t ≡ statuses.Done)))

-- the two are one, or memory was refused in one of the runs, or one alone met a tree that is too
-- large
abbrev pub AreOneStatus : Operation → Status → Status → Type 0
AreOneStatus operation s t = (s ≡ t) ⊎ ((s ≡ statuses.OutOfMemory) ⊎ ((t ≡ statuses.OutOfMemory) ⊎ DifferInLarge operation s t))

-- a job that can be answered, in a run in which no count rose, was answered unless memory was
-- refused
abbrev pub IsComplete : Option Asked → (List ℕ → Option (List ℕ)) → (List ℕ → ℕ) → (List ℕ → ℕ) → ℕ → ℕ → Status → Type 0
IsComplete None held before now out_before out_now status = Unit {0}
IsComplete (Some asked) held before now out_before out_now status =
    IsAnswerable asked held → IsCalm asked before now out_before out_now → (status ≡ statuses.Done) ⊎ (status ≡ statuses.OutOfMemory)

-- the output has reported room for this many bytes
abbrev pub HasRoom : Option ℕ → ℕ → Type 0
HasRoom None needed = ⊥
HasRoom (Some free) needed = needed ≤ free

-- the count of the output does not change where it is below its last value and there is room for
-- each text that answers the job
abbrev pub StandsStill : Option Asked → (List ℕ → Option (List ℕ)) → Option ℕ → ℕ → ℕ → Type 0
StandsStill None held free before now = now ≡ before
StandsStill (Some asked) held free before now = before < last_count → ((text : List ℕ) → IsAnswer asked held text → HasRoom free (length text)) → now ≡ before
