-- What holds of the answers of operations and of jobs.
use Rattle.tib_cost.specs.declared.Scale.{Scale}
use Rattle.std.specs.Prelude.{◌≡◌, ℕ, List, Option, Some}
use Rattle.tib_transducer.specs.declared.error.ClassFault.{ClassFault}
use Rattle.tib_command.specs.Jobs.{Asked, job_of}
use Rattle.tib_command.specs.declared.job.Operation.{Operation}
use Rattle.tib_job.specs.Kinds.{kinds_of, AreOfKinds, AreAllTold}
use Rattle.tib_job.specs.Causes.{Numbers, StaysInClass, StaysWithin, StaysSmall, IsInClass, IsOutOfClass, IsTooMuch, IsWithin, IsSmall}
use Rattle.tib_job.specs.Answers.{IsAnswerOf, NeedsOf, IsAnswer, AreTold, AreOfTheirKinds, EndsCalmly, AreOneStatus}
use Rattle.tib_operations.specs.declared.status.Status.{Status}

-- over known files the text of each operation is one
abbrev pub TextsAreOne : Type 0
TextsAreOne =
    (operation : Operation) (scale : Scale) (product : ℕ → ℕ → ℕ) (numbers : Numbers) (bytes : ℕ → Option (List ℕ)) (text other : List ℕ) →
    AreAllTold (kinds_of operation) bytes → IsAnswerOf operation scale product numbers bytes text →
    IsAnswerOf operation scale product numbers bytes other → text ≡ other

-- where the files of an operation are of their kinds and of the class that it demands, what it
-- makes of them is within the limit, and it lists no tree that is too large, that no text answers
-- cannot be
abbrev pub TextsExist : Type 0
TextsExist =
    (operation : Operation) (scale : Scale) (product : ℕ → ℕ → ℕ) (numbers : Numbers) (bytes : ℕ → Option (List ℕ)) →
    NeedsOf operation product numbers → AreOfKinds scale (kinds_of operation) bytes → StaysInClass operation scale bytes →
    StaysWithin operation scale product numbers bytes → StaysSmall operation scale product numbers bytes →
    ((text : List ℕ) → IsAnswerOf operation scale product numbers bytes text → ⊥) → ⊥

-- where the files of a job are known, one text answers it
abbrev pub AnswersAreOne : Type 0
AnswersAreOne =
    (asked : Asked) (held : List ℕ → Option (List ℕ)) (text other : List ℕ) → AreTold asked held → IsAnswer asked held text →
    IsAnswer asked held other → text ≡ other

-- and it is within the limit of the job
abbrev pub AnswersAreWithin : Type 0
AnswersAreWithin =
    (asked : Asked) (held : List ℕ → Option (List ℕ)) (text : List ℕ) → AreTold asked held → IsAnswer asked held text → IsWithin asked held

-- so that it is not too much
abbrev pub AnswersAreNotTooMuch : Type 0
AnswersAreNotTooMuch =
    (asked : Asked) (held : List ℕ → Option (List ℕ)) (text : List ℕ) → AreTold asked held → IsAnswer asked held text →
    IsTooMuch asked held → ⊥

-- where the files of a job are of their kinds, that it is neither within its limit nor too much
-- cannot be
abbrev pub IsWithinOrTooMuch : Type 0
IsWithinOrTooMuch =
    (asked : Asked) (held : List ℕ → Option (List ℕ)) → AreOfTheirKinds asked held → (IsWithin asked held → ⊥) →
    (IsTooMuch asked held → ⊥) → ⊥

-- an answer is of files that are of the class that the job demands
abbrev pub AnswersAreInClass : Type 0
AnswersAreInClass =
    (asked : Asked) (held : List ℕ → Option (List ℕ)) (text : List ℕ) → AreTold asked held → IsAnswer asked held text → IsInClass asked held

-- files that are of this class have no rule outside it
abbrev pub InClassIsNotOutside : Type 0
InClassIsNotOutside =
    (asked : Asked) (held : List ℕ → Option (List ℕ)) (file : ℕ) (found : ℕ × ClassFault) → IsInClass asked held →
    IsOutOfClass asked held file found → ⊥

-- where the files of a job are of their kinds, that they are neither of the class that it demands
-- nor have a first rule outside it cannot be
abbrev pub IsInClassOrOutside : Type 0
IsInClassOrOutside =
    (asked : Asked) (held : List ℕ → Option (List ℕ)) → AreOfTheirKinds asked held → (IsInClass asked held → ⊥) →
    ((file : ℕ) (found : ℕ × ClassFault) → IsOutOfClass asked held file found → ⊥) → ⊥

-- where the files of a job that words ask for are of their kinds and of the class that it demands,
-- it is within its limit, and it lists no tree that is too large, that no text answers cannot be
abbrev pub JobsAreAnswered : Type 0
JobsAreAnswered =
    (words : List (List ℕ)) (asked : Asked) (held : List ℕ → Option (List ℕ)) → job_of words ≡ Some asked →
    AreOfTheirKinds asked held → IsInClass asked held → IsWithin asked held → IsSmall asked held →
    ((text : List ℕ) → IsAnswer asked held text → ⊥) → ⊥

-- that it has neither an answer nor a rule outside that class nor too many parts, and lists no tree
-- that is too large, cannot be
abbrev pub JobsHaveOne : Type 0
JobsHaveOne =
    (words : List (List ℕ)) (asked : Asked) (held : List ℕ → Option (List ℕ)) → job_of words ≡ Some asked →
    AreOfTheirKinds asked held → IsSmall asked held → ((text : List ℕ) → IsAnswer asked held text → ⊥) →
    ((file : ℕ) (found : ℕ × ClassFault) → IsOutOfClass asked held file found → ⊥) → (IsTooMuch asked held → ⊥) → ⊥

-- an answer and too many parts it has not both
abbrev pub JobsHaveNotBoth : Type 0
JobsHaveNotBoth =
    (asked : Asked) (held : List ℕ → Option (List ℕ)) (text : List ℕ) → AreOfTheirKinds asked held → IsAnswer asked held text →
    IsTooMuch asked held → ⊥

-- nor has it an answer and a rule outside that class
abbrev pub JobsHaveNotOutside : Type 0
JobsHaveNotOutside =
    (asked : Asked) (held : List ℕ → Option (List ℕ)) (text : List ℕ) (file : ℕ) (found : ℕ × ClassFault) → AreOfTheirKinds asked held →
    IsAnswer asked held text → IsOutOfClass asked held file found → ⊥

-- a job whose files are known ends with one status in all runs in which no count rises and no
-- memory is refused, or, where it lists trees, with a list in the one and a tree that is too large
-- in the other
abbrev pub StatusesAreOne : Type 0
StatusesAreOne =
    (words : List (List ℕ)) (asked : Asked) (held : List ℕ → Option (List ℕ)) (one other : Status) → job_of words ≡ Some asked →
    AreTold asked held → EndsCalmly asked held one → EndsCalmly asked held other → AreOneStatus asked.task.operation one other
