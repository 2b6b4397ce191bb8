-- What an operation gives on the values of its files: a text, or a status with its cause.
use Rattle.tib_cost.specs.declared.Scale.{Scale}
use Rattle.std.specs.Prelude.{◌≡◌, ℕ, Bool, List, Some, Result, Ok, Err, IfOk, IfErr}
use Rattle.tib_io.specs.Memory.{SinkThatGrows}
use Rattle.tib_command.specs.Jobs.{Asked}
use Rattle.tib_command.specs.declared.job.Operation.{Operation}
use Rattle.tib_operations.specs.Classes.{IsMet, IsBroken}
use Rattle.tib_operations.specs.declared.status.Status.{Status}
use Rattle.tib_operations.specs.declared.status.Status.TheVariants as statuses
use Rattle.tib_job.specs.Answers.{IsResultOf}
use Rattle.tib_job.specs.Causes.{Numbers, numbers_of, makes, demanded, MeetsLarge}
use Rattle.tib_job.specs.Kinds.{kinds_of, ValuesOf}
use Rattle.tib_job.specs.Values.{values_as}
use Rattle.tib_job.specs.declared.job_values.Values.{Values}

-- what an operation goes by besides the values of its files
pub record Setting : Type 0 where
  pub scale : Scale
  pub levelled : Bool
  pub product : ℕ → ℕ → ℕ
  pub numbers : Numbers
  pub labels : List (List ℕ)

abbrev pub setting_of : Scale → Bool → (ℕ → ℕ → ℕ) → Asked → List (List ℕ) → Setting
setting_of scale levelled product asked labels =
    record { scale = scale; levelled = levelled; product = product; numbers = numbers_of asked; labels = labels }

-- The values are of the class that the operation demands, what it makes of them is within the
-- limit, and the text answers it on them.
pub record HasText (operation : Operation) (by : Setting) (values : ValuesOf (kinds_of operation)) (text : List ℕ) : Type 0 where
  pub met : IsMet (demanded operation values)
  pub within : (makes operation by.scale by.product by.numbers values).within
  pub result_is : IsResultOf operation by.scale by.product by.numbers by.labels values text

-- why there is no text: the first rule outside the class that is demanded; where the values are of
-- it, more parts than the limit; within the limit, a tree that is too large; or memory was refused
abbrev pub HasTextFault : (operation : Operation) → Setting → ValuesOf (kinds_of operation) → Status → Type 0
HasTextFault operation by values (statuses.Class file rule fault) = IsBroken (demanded operation values) file (rule, fault)
HasTextFault operation by values (statuses.TooMany n) =
    (n ≡ by.numbers.limit) × IsMet (demanded operation values) × (makes operation by.scale by.product by.numbers values).more
HasTextFault operation by values statuses.TreeTooLarge =
    IsMet (demanded operation values) × (makes operation by.scale by.product by.numbers values).within
    × MeetsLarge operation by.scale by.levelled by.product by.numbers by.labels values
HasTextFault operation by values statuses.OutOfMemory = Unit {0}
HasTextFault operation by values status = ⊥

-- What was read has values of the operation's files, and the result is its text on these, or the
-- status of its fault on them.
pub record IsOutcome {S : Type 0} (operation : Operation) (by : Setting) (read : Values S) (result : Result SinkThatGrows Status) : Type 0 where
  pub values : ValuesOf (kinds_of operation)
  pub are : values_as read (kinds_of operation) ≡ Some values
  pub text : IfOk result (λ text. HasText operation by values text.bytes)
  pub fault : IfErr result (HasTextFault operation by values)

-- the text of what was made, where it was
abbrev pub text_part : {T : Type 0} → (T → SinkThatGrows) → Result T Status → Result SinkThatGrows Status
text_part text (Ok made) = Ok (text made)
text_part text (Err status) = Err status
