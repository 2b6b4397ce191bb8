-- What holds of the answers of jobs, over what each operation brings.
use Rattle.tib_cost.specs.declared.Scale.{Scale}
use Rattle.std.proofs.Common.{◌≡◌, ℕ, ◌<◌, ◌≤◌, true, false, List, refl, Option, suc, arith}
use Rattle.std.specs.Prelude.{Bool, Some, None, IsSome}
use Rattle.tib_cost.specs.Semiring.{sum_laws, max_laws, boolean_laws}
use Rattle.tib_canon.proofs.Within.{distinct_texts}
use Rattle.tib_command.specs.Jobs.{Asked, job_of, most_demo}
use Rattle.tib_command.specs.declared.job.Mode.{Mode}
use Rattle.tib_command.specs.declared.job.Mode.TheVariants as modes
use Rattle.tib_command.specs.declared.job.Operation.{Operation}
use Rattle.tib_command.specs.declared.job.Operation.TheVariants as operations
use Rattle.tib_job.specs.Kinds.{kinds_of, file_at, bytes_at, OfName, IsOfKind, AreOfKinds, AreAllTold}
use Rattle.tib_transducer.specs.declared.error.ClassFault.{ClassFault}
use Rattle.tib_job.specs.Causes.{Numbers, numbers_of, scale_of, product_of, BreaksClass, MeetsClass, StaysInClass, IsInClass, IsOutOfClass, MakesTooMuch, MakesWithin, MeetsLargeTree, StaysWithin, StaysSmall, IsTooMuch, IsTooLarge, IsWithin, IsSmall, bytes_of, levelled_of}
use Rattle.tib_job.specs.Answers.{IsAnswerOf, IsAnswer, ListsTrees, AreTold, AreOfTheirKinds, MeetsLaws, NeedsOf}
use Rattle.tib_job.proofs.FileValues.{values_there, values_agree, all_sound}
use Rattle.tib_job.proofs.FilesAsked.{demo_asked, limit_asked}
use Rattle.tib_job.proofs.OfOperations.{one_demand, demand_decided, makes_either, makes_by_text, large_or_listed, result_once, result_there}

-- where P holds of the bytes of a file, they are known
is_told : (o : Option (List ℕ)) (P : List ℕ → Type 0) → OfName o P → IsSome o
is_told None P h = absurd h
is_told (Some x) P h = refl

all_told : (scale : Scale) (o : Operation) (bytes : ℕ → Option (List ℕ)) → AreOfKinds scale (kinds_of o) bytes → AreAllTold (kinds_of o) bytes
all_told scale o bytes are n kind e = is_told (bytes n) (IsOfKind scale kind) (are n kind e)

-- the class that an operation demands
module _ (o : Operation) (scale : Scale) (bytes : ℕ → Option (List ℕ)) where
  -- it is not both kept and broken
  pub class_apart : (file : ℕ) (x : ℕ × ClassFault) → StaysInClass o scale bytes → BreaksClass o scale bytes file x → ⊥
  class_apart file x inside b = (demand_decided o b.values).apart file x (inside b.labels b.values b.texts) b.broken

  -- where the files are known it is kept over each table of labels
  pub class_told : AreAllTold (kinds_of o) bytes → MeetsClass o scale bytes → StaysInClass o scale bytes
  class_told told m labels values texts =
      (one_demand m.labels labels o m.values values (values_agree scale m.labels labels (kinds_of o) bytes m.values values told m.texts.texts texts.texts)).met m.met

  -- and broken by one rule in one way
  pub break_once :
      AreAllTold (kinds_of o) bytes → (file other : ℕ) (x y : ℕ × ClassFault) → BreaksClass o scale bytes file x → BreaksClass o scale bytes other y →
      (file ≡ other) × (x.0 ≡ y.0) × (x.1 ≡ y.1)
  break_once told file other x y a b =
      (one_demand a.labels b.labels o a.values b.values (values_agree scale a.labels b.labels (kinds_of o) bytes a.values b.values told a.texts.texts b.texts.texts)).once file other x y a.broken b.broken

  -- that it is neither cannot be
  pub class_either : AreOfKinds scale (kinds_of o) bytes → (StaysInClass o scale bytes → ⊥) → ((file : ℕ) (x : ℕ × ClassFault) → BreaksClass o scale bytes file x → ⊥) → ⊥
  class_either are inside outside =
      let v = values_there scale (kinds_of o) bytes are in
      (demand_decided o v.1).either
      (λ met. inside (class_told (all_told scale o bytes are) (record { labels = v.0; values = v.1; texts = v.2; met = met })))
      (λ file x broken. outside file x (record { labels = v.0; values = v.1; texts = v.2; broken = broken }))

module _ (o : Operation) (scale : Scale) (product : ℕ → ℕ → ℕ) (numbers : Numbers) (bytes : ℕ → Option (List ℕ)) where
  -- one text
  pub one_answer : (text other : List ℕ) → AreAllTold (kinds_of o) bytes → IsAnswerOf o scale product numbers bytes text → IsAnswerOf o scale product numbers bytes other → text ≡ other
  one_answer text other told a b =
      result_once scale product numbers a.labels b.labels (distinct_texts a.labels a.texts.distinct) (distinct_texts b.labels b.texts.distinct) o a.values b.values text other
      (values_agree scale a.labels b.labels (kinds_of o) bytes a.values b.values told a.texts.texts b.texts.texts) a.result_is b.result_is

  -- within the limit or too much: not both
  pub made_apart : StaysWithin o scale product numbers bytes → MakesTooMuch o scale product numbers bytes → ⊥
  made_apart small large = (makes_either scale product numbers o large.values).apart (small large.labels large.values large.texts) large.more

  -- and that neither holds cannot be
  pub made_either : AreOfKinds scale (kinds_of o) bytes → (StaysWithin o scale product numbers bytes → ⊥) → (MakesTooMuch o scale product numbers bytes → ⊥) → ⊥
  made_either are small large =
      let v = values_there scale (kinds_of o) bytes are in
      (makes_either scale product numbers o v.1).either
      (λ w. small (λ labels values texts.
      makes_by_text scale product numbers v.0 labels (distinct_texts v.0 v.2.distinct) (distinct_texts labels texts.distinct) o v.1 values
      (values_agree scale v.0 labels (kinds_of o) bytes v.1 values (all_told scale o bytes are) v.2.texts texts.texts) w))
      (λ m. large (record { labels = v.0; values = v.1; texts = v.2; more = m }))

  -- an answer is within the limit
  pub answer_stays : (text : List ℕ) → AreAllTold (kinds_of o) bytes → IsAnswerOf o scale product numbers bytes text → StaysWithin o scale product numbers bytes
  answer_stays text told a labels values texts =
      makes_by_text scale product numbers a.labels labels (distinct_texts a.labels a.texts.distinct) (distinct_texts labels texts.distinct) o a.values values
      (values_agree scale a.labels labels (kinds_of o) bytes a.values values told a.texts.texts texts.texts) a.within

  -- where the files are known, what is within the limit over one table of labels is within it over
  -- each
  pub within_stays : AreAllTold (kinds_of o) bytes → MakesWithin o scale product numbers bytes → StaysWithin o scale product numbers bytes
  within_stays told a labels values texts =
      makes_by_text scale product numbers a.labels labels (distinct_texts a.labels a.texts.distinct) (distinct_texts labels texts.distinct) o a.values values
      (values_agree scale a.labels labels (kinds_of o) bytes a.values values told a.texts.texts texts.texts) a.within

  -- an answer, and a tree that is too large at some state, only an operation has that lists trees
  pub large_lists :
      (levelled : Bool) (text : List ℕ) → AreAllTold (kinds_of o) bytes → IsAnswerOf o scale product numbers bytes text → MeetsLargeTree o scale levelled product numbers bytes → ListsTrees o
  large_lists levelled text told a m =
      large_or_listed scale levelled product numbers m.labels a.labels (distinct_texts m.labels m.texts.distinct) (distinct_texts a.labels a.texts.distinct) o m.values a.values text
      (values_agree scale m.labels a.labels (kinds_of o) bytes m.values a.values told m.texts.texts a.texts.texts) m.large a.result_is

  -- of files of the class that is demanded
  pub answer_class : (text : List ℕ) → AreAllTold (kinds_of o) bytes → IsAnswerOf o scale product numbers bytes text → StaysInClass o scale bytes
  answer_class text told a = class_told o scale bytes told (record { labels = a.labels; values = a.values; texts = a.texts; met = a.met })

  -- what is within the limit and of that class, and lists no tree that is too large, has an answer:
  -- that it has none cannot be
  pub answer_there :
      NeedsOf o product numbers → AreOfKinds scale (kinds_of o) bytes → StaysInClass o scale bytes → StaysWithin o scale product numbers bytes → StaysSmall o scale product numbers bytes →
      ((text : List ℕ) → IsAnswerOf o scale product numbers bytes text → ⊥) → ⊥
  answer_there needs are inside small listed never =
      let v = values_there scale (kinds_of o) bytes are in
      let w = small v.0 v.1 v.2 in
      let met = inside v.0 v.1 v.2 in
      result_there scale product numbers v.0 (distinct_texts v.0 v.2.distinct) o needs v.1 (all_sound scale v.0 (kinds_of o) bytes v.1 (all_told scale o bytes are) v.2.texts) met w (listed v.0 v.1 v.2) (λ text is.
      never text (record { labels = v.0; values = v.1; texts = v.2; met = met; within = w; result_is = is }))

-- the product of each mode meets its laws
laws_of : (mode : Mode) (limit : ℕ) → limit < 4294967296 → MeetsLaws (product_of mode) limit
laws_of modes.MinPlus limit low = record { levelled = false; weighed = true; laws = sum_laws; low = low }
laws_of modes.Bottleneck limit low = record { levelled = true; weighed = true; laws = max_laws true; low = low }
laws_of modes.Widest limit low = record { levelled = true; weighed = true; laws = max_laws true; low = low }
laws_of modes.Boolean limit low = record { levelled = false; weighed = false; laws = boolean_laws; low = low }

needs_met : (o : Operation) (product : ℕ → ℕ → ℕ) (numbers : Numbers) → MeetsLaws product numbers.limit → numbers.demo ≤ most_demo → NeedsOf o product numbers
needs_met operations.Weigh product numbers m low = tt
needs_met operations.Inside product numbers m low = tt
needs_met operations.Normal product numbers m low = m
needs_met operations.KBest product numbers m low = tt
needs_met operations.Intersect product numbers m low = m
needs_met operations.Union product numbers m low = m
needs_met operations.Difference product numbers m low = m
needs_met operations.Forward product numbers m low = m
needs_met operations.Backward product numbers m low = m
needs_met operations.Compose product numbers m low = m
needs_met operations.Image product numbers m low = m
needs_met operations.Parse product numbers m low = m
needs_met operations.Compare product numbers m low = tt
needs_met operations.Determinize product numbers m low = m
needs_met operations.Check product numbers m low = tt
needs_met operations.Prune product numbers m low = m
needs_met operations.Trim product numbers m low = m
needs_met operations.Through product numbers m low = m
needs_met operations.Count product numbers m low = tt
needs_met operations.Runs product numbers m low = tt
needs_met operations.Invert product numbers m low = m
needs_met operations.Domain product numbers m low = m
needs_met operations.Demo product numbers m low = (m, low)

-- the same for jobs

module _ (asked : Asked) (held : List ℕ → Option (List ℕ)) where
  told_bytes : AreTold asked held → AreAllTold (kinds_of asked.task.operation) (bytes_of asked held)
  told_bytes told n kind e = told (suc n) kind e

  kinds_bytes : AreOfTheirKinds asked held → AreOfKinds (scale_of asked.mode) (kinds_of asked.task.operation) (bytes_of asked held)
  kinds_bytes are n kind e = are (suc n) kind e

  pub one_job_answer : (text other : List ℕ) → AreTold asked held → IsAnswer asked held text → IsAnswer asked held other → text ≡ other
  one_job_answer text other told a b = one_answer asked.task.operation (scale_of asked.mode) (product_of asked.mode) (numbers_of asked) (bytes_of asked held) text other (told_bytes told) a b

  pub outside_apart : (file : ℕ) (x : ℕ × ClassFault) → IsInClass asked held → IsOutOfClass asked held file x → ⊥
  outside_apart file x inside outside = class_apart asked.task.operation (scale_of asked.mode) (bytes_of asked held) file x inside outside

  pub inside_told : AreTold asked held → MeetsClass asked.task.operation (scale_of asked.mode) (bytes_of asked held) → IsInClass asked held
  inside_told told m = class_told asked.task.operation (scale_of asked.mode) (bytes_of asked held) (told_bytes told) m

  pub outside_once :
      AreTold asked held → (file other : ℕ) (x y : ℕ × ClassFault) → IsOutOfClass asked held file x → IsOutOfClass asked held other y → (file ≡ other) × (x.0 ≡ y.0) × (x.1 ≡ y.1)
  outside_once told file other x y a b = break_once asked.task.operation (scale_of asked.mode) (bytes_of asked held) (told_bytes told) file other x y a b

  pub inside_or_not : AreOfTheirKinds asked held → (IsInClass asked held → ⊥) → ((file : ℕ) (x : ℕ × ClassFault) → IsOutOfClass asked held file x → ⊥) → ⊥
  inside_or_not are inside outside = class_either asked.task.operation (scale_of asked.mode) (bytes_of asked held) (kinds_bytes are) inside outside

  pub answer_inside : (text : List ℕ) → AreTold asked held → IsAnswer asked held text → IsInClass asked held
  answer_inside text told a = answer_class asked.task.operation (scale_of asked.mode) (product_of asked.mode) (numbers_of asked) (bytes_of asked held) text (told_bytes told) a

  pub within_apart : IsWithin asked held → IsTooMuch asked held → ⊥
  within_apart small large = made_apart asked.task.operation (scale_of asked.mode) (product_of asked.mode) (numbers_of asked) (bytes_of asked held) small large

  pub within_or_more : AreOfTheirKinds asked held → (IsWithin asked held → ⊥) → (IsTooMuch asked held → ⊥) → ⊥
  within_or_more are small large = made_either asked.task.operation (scale_of asked.mode) (product_of asked.mode) (numbers_of asked) (bytes_of asked held) (kinds_bytes are) small large

  pub answer_within : (text : List ℕ) → AreTold asked held → IsAnswer asked held text → IsWithin asked held
  answer_within text told a = answer_stays asked.task.operation (scale_of asked.mode) (product_of asked.mode) (numbers_of asked) (bytes_of asked held) text (told_bytes told) a

  pub within_told : AreTold asked held → MakesWithin asked.task.operation (scale_of asked.mode) (product_of asked.mode) (numbers_of asked) (bytes_of asked held) → IsWithin asked held
  within_told told m = within_stays asked.task.operation (scale_of asked.mode) (product_of asked.mode) (numbers_of asked) (bytes_of asked held) (told_bytes told) m

  pub answer_apart : (text : List ℕ) → AreTold asked held → IsAnswer asked held text → IsTooMuch asked held → ⊥
  answer_apart text told a large = within_apart (answer_within text told a) large

  pub answer_lists : (text : List ℕ) → AreTold asked held → IsAnswer asked held text → IsTooLarge asked held → ListsTrees asked.task.operation
  answer_lists text told a large =
      large_lists asked.task.operation (scale_of asked.mode) (product_of asked.mode) (numbers_of asked) (bytes_of asked held) (levelled_of asked.mode) text (told_bytes told) a large

  pub kinds_are_told : AreOfTheirKinds asked held → AreTold asked held
  kinds_are_told are n kind e = is_told (bytes_at held (file_at (Some asked) n)) (IsOfKind (scale_of asked.mode) kind) (are n kind e)

  pub answered_not_outside : (text : List ℕ) (file : ℕ) (x : ℕ × ClassFault) → AreOfTheirKinds asked held → IsAnswer asked held text → IsOutOfClass asked held file x → ⊥
  answered_not_outside text file x are a outside = outside_apart file x (answer_inside text (kinds_are_told are) a) outside

  pub answered_not_more : (text : List ℕ) → AreOfTheirKinds asked held → IsAnswer asked held text → IsTooMuch asked held → ⊥
  answered_not_more text are = answer_apart text (kinds_are_told are)

  module _ (words : List (List ℕ)) (of_words : job_of words ≡ Some asked) (are : AreOfTheirKinds asked held) where
    pub job_answered : IsInClass asked held → IsWithin asked held → IsSmall asked held → ((text : List ℕ) → IsAnswer asked held text → ⊥) → ⊥
    job_answered inside small listed never =
        answer_there asked.task.operation (scale_of asked.mode) (product_of asked.mode) (numbers_of asked) (bytes_of asked held) (needs_met asked.task.operation (product_of asked.mode) (numbers_of asked) (laws_of asked.mode asked.limit (omega (arith, limit_asked words asked of_words))) (demo_asked words asked of_words))
        (kinds_bytes are) inside small listed never

    -- so it has an answer, a rule outside the class or too many parts: that it has none of them
    -- cannot be
    pub answered_or_more :
        IsSmall asked held → ((text : List ℕ) → IsAnswer asked held text → ⊥) → ((file : ℕ) (x : ℕ × ClassFault) → IsOutOfClass asked held file x → ⊥) → (IsTooMuch asked held → ⊥) → ⊥
    answered_or_more listed never outside few = inside_or_not are (λ inside. within_or_more are (λ within. job_answered inside within listed never) few) outside
