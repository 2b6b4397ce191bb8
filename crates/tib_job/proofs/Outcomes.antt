-- From the outcome of an operation on the values of its files to the answer of the run, or the
-- status with which it ends.
use Rattle.tib_cost.specs.declared.Scale.{Scale}
use Rattle.std.specs.Prelude.{◌≡◌, ℕ, ◌+◌, Bool, List, Option, Some, Result, Ok, Err, IfOk, IfErr}
use Rattle.std.proofs.Common.{subst, sym, ◌∙◌, zero, suc}
use Rattle.std.proofs.lemmas.Result.{IfOk-weaker, IfErr-weaker}
use Rattle.tib_io.specs.Memory.{SinkThatGrows}
use Rattle.tib_command.specs.Jobs.{Asked}
use Rattle.tib_command.specs.declared.job.Operation.{Operation}
use Rattle.tib_command.specs.declared.job.Operation.TheVariants as operations
use Rattle.tib_grammar.specs.GrammarOf.{GrammarOf}
use Rattle.tib_strings.specs.StringTransducerOf.{StringTransducerOf}
use Rattle.tib_operations.specs.Classes.{IsMet, IsClassFault}
use Rattle.tib_operations.specs.Demo.{HasDemoText, demo_makes}
use Rattle.tib_operations.specs.KBest.{HasKBestText, IsKBestFault, kbest_makes}
use Rattle.tib_operations.specs.Made.{IsMadeFault}
use Rattle.tib_operations.specs.declared.status.Status.{Status}
use Rattle.tib_operations.specs.declared.status.Status.TheVariants as statuses
use Rattle.tib_job.specs.Answers.{IsResultOf, IsAnswer}
use Rattle.tib_job.specs.Causes.{HasCause, HasEarlier, AreBefore, IsEarly, MeetsClass, makes, demanded, bytes_of, file_count, scale_of, product_of, levelled_of}
use Rattle.tib_operations.specs.Compare.{HasCompareText, IsCompareFault, compare_makes}
use Rattle.tib_job.specs.Kinds.{kinds_of, ValuesOf, AreTexts}
use Rattle.tib_job.specs.Outcomes.{Setting, setting_of, HasText, HasTextFault, IsOutcome, text_part}
use Rattle.tib_operations.specs.Parse.{HasParseText, IsParseTextFault, parse_demands, parse_makes}
use Rattle.tib_job.specs.Run.{FilesSeen}
use Rattle.tib_job.specs.Steps.{EndsRun}
use Rattle.tib_job.specs.Values.{AreValuesOf, values_as}
use Rattle.tib_job.specs.declared.job_values.Values.{Values}
use Rattle.tib_job.proofs.FileValues.{kinds_told}

-- what was read are values for an operation, so it has an outcome on them
pub outcome_of : {S : Type 0} {o p : Operation} {by : Setting} {read others : Values S} {result : Result SinkThatGrows Status} → o ≡ p → read ≡ others → IsOutcome p by others result → IsOutcome o by read result
outcome_of {S} {o} {p} {by} {read} {others} {result} same held h =
    subst (λ (q : Operation). IsOutcome q by read result) (sym same) (subst (λ (r : Values S). IsOutcome p by r result) (sym held) h)

-- outcomes by what the function of an operation says of its text and of its fault

module _ (o : Operation) (by : Setting) (values : ValuesOf (kinds_of o)) where
  class_fault : (s : Status) → IsClassFault (demanded o values) s → HasTextFault o by values s
  class_fault (statuses.Class file rule fault) h = h
  class_fault s h = absurd h

  made_fault : IsMet (demanded o values) → (s : Status) → IsMadeFault (makes o by.scale by.product by.numbers values).more by.numbers.limit s → HasTextFault o by values s
  made_fault met (statuses.TooMany n) h = (h.0, met, h.1)
  made_fault met statuses.OutOfMemory h = tt
  made_fault met s h = absurd h

module _ {S : Type 0} (o : Operation) {by : Setting} {values : ValuesOf (kinds_of o)} {read : Values S} (are : values_as read (kinds_of o) ≡ Some values) where
  -- the rule that breaks the class which is demanded
  pub class_outcome : (s : Status) → IsClassFault (demanded o values) s → IsOutcome o by read (Err s)
  class_outcome s h = record { values = values; are = are; text = tt; fault = class_fault o by values s h }

  -- a text, where what is demanded is met
  pub text_outcome :
      (result : Result SinkThatGrows Status) → IfOk result (λ _. IsMet (demanded o values)) → IfOk result (λ _. (makes o by.scale by.product by.numbers values).within) →
      IfOk result (λ text. IsResultOf o by.scale by.product by.numbers by.labels values text.bytes) → IfErr result (HasTextFault o by values) → IsOutcome o by read result
  text_outcome (Ok text) met within is fault = record { values = values; are = are; text = record { met = met; within = within; result_is = is }; fault = tt }
  text_outcome (Err s) met within is fault = record { values = values; are = are; text = tt; fault = fault }

  -- or more parts than the limit
  pub made_outcome :
      (result : Result SinkThatGrows Status) → IsMet (demanded o values) → IfOk result (λ _. (makes o by.scale by.product by.numbers values).within) →
      IfOk result (λ text. IsResultOf o by.scale by.product by.numbers by.labels values text.bytes) → IfErr result (IsMadeFault (makes o by.scale by.product by.numbers values).more by.numbers.limit) →
      IsOutcome o by read result
  made_outcome (Ok text) met within is fault = text_outcome (Ok text) met within is tt
  made_outcome (Err s) met within is fault = text_outcome (Err s) tt tt tt (made_fault o by values met s fault)

  -- the same for what is printed, of which the result is the text
  pub printed_outcome :
      {T : Type 0} (of : T → SinkThatGrows) (made : Result T Status) (result : Result SinkThatGrows Status) → result ≡ text_part of made → IsMet (demanded o values) →
      IfOk made (λ _. (makes o by.scale by.product by.numbers values).within) → IfOk made (λ h. IsResultOf o by.scale by.product by.numbers by.labels values (of h).bytes) →
      IfErr made (IsMadeFault (makes o by.scale by.product by.numbers values).more by.numbers.limit) → IsOutcome o by read result
  printed_outcome {T} of made result same met within is fault = subst (λ (r : Result SinkThatGrows Status). IsOutcome o by read r) (sym same) (own made within is fault)
    where
      own :
          (made : Result T Status) → IfOk made (λ _. (makes o by.scale by.product by.numbers values).within) → IfOk made (λ h. IsResultOf o by.scale by.product by.numbers by.labels values (of h).bytes) →
          IfErr made (IsMadeFault (makes o by.scale by.product by.numbers values).more by.numbers.limit) → IsOutcome o by read (text_part of made)
      own (Ok h) within is fault = made_outcome (Ok (of h)) met within is tt
      own (Err s) within is fault = made_outcome (Err s) met tt tt fault

  -- a text of an operation that makes nothing with parts and demands nothing, or memory was refused
  pub plain_outcome :
      (result : Result SinkThatGrows Status) → IsMet (demanded o values) → (makes o by.scale by.product by.numbers values).within →
      IfOk result (λ text. IsResultOf o by.scale by.product by.numbers by.labels values text.bytes) → IfErr result (λ s. s ≡ statuses.OutOfMemory) → IsOutcome o by read result
  plain_outcome (Ok text) met within is fault = text_outcome (Ok text) met within is tt
  plain_outcome (Err s) met within is fault = text_outcome (Err s) tt tt tt (subst (λ (t : Status). HasTextFault o by values t) (sym fault) tt)

-- outcomes of the operations that have faults of their own

kbest_fault : (by : Setting) (g : GrammarOf) (s : Status) → IsKBestFault by.levelled by.product by.numbers.limit by.numbers.k by.labels g s → HasTextFault operations.KBest by (g, tt) s
kbest_fault by g (statuses.TooMany n) h = (h.0, tt, h.1)
kbest_fault by g statuses.TreeTooLarge h = (tt, h.0, h.1)
kbest_fault by g statuses.OutOfMemory h = tt
kbest_fault by g s h = absurd h

demo_fault : (by : Setting) (s : Status) → IsMadeFault (demo_makes by.scale by.product by.numbers.limit by.numbers.demo).more by.numbers.limit s → HasTextFault operations.Demo by tt s
demo_fault by (statuses.TooMany n) h = (h.0, tt, h.1)
demo_fault by statuses.OutOfMemory h = tt
demo_fault by s h = absurd h

compare_fault : (by : Setting) (f g : GrammarOf) (s : Status) → IsCompareFault by.numbers.limit f g s → HasTextFault operations.Compare by (f, (g, tt)) s
compare_fault by f g (statuses.TooMany n) h = (h.0, tt, h.1)
compare_fault by f g statuses.TreeTooLarge h = (tt, h.0, h.1)
compare_fault by f g statuses.OutOfMemory h = tt
compare_fault by f g s h = absurd h

parse_fault : (by : Setting) (t : StringTransducerOf) (string : List ℕ) (s : Status) → IsParseTextFault by.numbers.limit t string s → HasTextFault operations.Parse by (t, (string, tt)) s
parse_fault by t string (statuses.Class file rule fault) h = h
parse_fault by t string (statuses.TooMany n) h = h
parse_fault by t string statuses.OutOfMemory h = tt
parse_fault by t string s h = absurd h

module _ {S : Type 0} {by : Setting} {read : Values S} where
  pub kbest_outcome :
      (g : GrammarOf) (result : Result SinkThatGrows Status) → values_as read (kinds_of operations.KBest) ≡ Some (g, tt) → IfOk result (λ _. (kbest_makes by.product by.numbers.limit g).within) →
      IfOk result (λ text. HasKBestText by.scale by.product by.numbers.k by.labels g text.bytes) →
      IfErr result (IsKBestFault by.levelled by.product by.numbers.limit by.numbers.k by.labels g) → IsOutcome operations.KBest by read result
  kbest_outcome g (Ok text) are within is fault = text_outcome operations.KBest are (Ok text) tt within is tt
  kbest_outcome g (Err s) are within is fault = text_outcome operations.KBest are (Err s) tt tt tt (kbest_fault by g s fault)

  pub demo_outcome :
      (result : Result SinkThatGrows Status) → values_as read (kinds_of operations.Demo) ≡ Some tt → IfOk result (λ _. (demo_makes by.scale by.product by.numbers.limit by.numbers.demo).within) →
      IfOk result (λ text. HasDemoText by.scale by.product by.numbers.limit by.numbers.demo text.bytes) →
      IfErr result (IsMadeFault (demo_makes by.scale by.product by.numbers.limit by.numbers.demo).more by.numbers.limit) → IsOutcome operations.Demo by read result
  demo_outcome (Ok text) are within is fault = text_outcome operations.Demo are (Ok text) tt within is tt
  demo_outcome (Err s) are within is fault = text_outcome operations.Demo are (Err s) tt tt tt (demo_fault by s fault)

  pub compare_outcome :
      (f g : GrammarOf) (result : Result SinkThatGrows Status) → values_as read (kinds_of operations.Compare) ≡ Some (f, (g, tt)) → IfOk result (λ _. (compare_makes by.numbers.limit f g).within) →
      IfOk result (λ text. HasCompareText by.labels f g text.bytes) → IfErr result (IsCompareFault by.numbers.limit f g) → IsOutcome operations.Compare by read result
  compare_outcome f g (Ok text) are within is fault = text_outcome operations.Compare are (Ok text) tt within is tt
  compare_outcome f g (Err s) are within is fault = text_outcome operations.Compare are (Err s) tt tt tt (compare_fault by f g s fault)

  pub parse_outcome :
      {T : Type 0} (of : T → SinkThatGrows) (t : StringTransducerOf) (string : List ℕ) (made : Result T Status) (result : Result SinkThatGrows Status) → result ≡ text_part of made →
      values_as read (kinds_of operations.Parse) ≡ Some (t, (string, tt)) → IfOk made (λ _. (parse_demands t).met) → IfOk made (λ _. (parse_makes by.numbers.limit t string).within) →
      IfOk made (λ h. HasParseText by.scale by.product by.numbers.limit by.labels t string (of h).bytes) → IfErr made (IsParseTextFault by.numbers.limit t string) → IsOutcome operations.Parse by read result
  parse_outcome {T} of t string made result same are met within is fault = subst (λ (r : Result SinkThatGrows Status). IsOutcome operations.Parse by read r) (sym same) (own made met within is fault)
    where
      own :
          (made : Result T Status) → IfOk made (λ _. (parse_demands t).met) → IfOk made (λ _. (parse_makes by.numbers.limit t string).within) →
          IfOk made (λ h. HasParseText by.scale by.product by.numbers.limit by.labels t string (of h).bytes) → IfErr made (IsParseTextFault by.numbers.limit t string) →
          IsOutcome operations.Parse by read (text_part of made)
      own (Ok h) met within is fault = text_outcome operations.Parse are (Ok (of h)) met within is tt
      own (Err s) met within is fault = text_outcome operations.Parse are (Err s) tt tt tt (parse_fault by t string s fault)

-- from the values of all files of a job to the run

abbrev own_setting : Asked → List (List ℕ) → Setting
own_setting asked labels = setting_of (scale_of asked.mode) (levelled_of asked.mode) (product_of asked.mode) asked labels

module _
    (asked : Asked) (held : List ℕ → Option (List ℕ)) (labels : List (List ℕ)) (values : ValuesOf (kinds_of asked.task.operation))
    (texts : AreTexts (scale_of asked.mode) labels (bytes_of asked held) (kinds_of asked.task.operation) values) where
  -- all files are of their kinds
  all_are : AreBefore (Some asked) held (file_count (Some asked) + 1)
  all_are zero kind low e = absurd (cc e)
  all_are (suc n) kind low e = kinds_told (scale_of asked.mode) labels (kinds_of asked.task.operation) (bytes_of asked held) values texts.texts n kind e

  -- a fault is the cause of its status, comes after those of the files, and before anything is
  -- written

  fault_cause : (before now : List ℕ → ℕ) (a b : ℕ) (s : Status) → HasTextFault asked.task.operation (own_setting asked labels) values s → HasCause (Some asked) held before now a b s
  fault_cause before now a b (statuses.Class file rule fault) h = record { labels = labels; values = values; texts = texts; broken = h }
  fault_cause before now a b (statuses.TooMany n) h = (sym h.0, record { labels = labels; values = values; texts = texts; more = h.2 })
  fault_cause before now a b statuses.TreeTooLarge h = record { labels = labels; values = values; texts = texts; large = h.2 }
  fault_cause before now a b statuses.OutOfMemory h = tt
  fault_cause before now a b s h = absurd h

  in_class : IsMet (demanded asked.task.operation values) → MeetsClass asked.task.operation (scale_of asked.mode) (bytes_of asked held)
  in_class met = record { labels = labels; values = values; texts = texts; met = met }

  fault_earlier : (s : Status) → HasTextFault asked.task.operation (own_setting asked labels) values s → HasEarlier (Some asked) held s
  fault_earlier (statuses.Class file rule fault) h = all_are
  fault_earlier (statuses.TooMany n) h = (all_are, in_class h.1)
  fault_earlier statuses.TreeTooLarge h = (all_are, in_class h.0, record { labels = labels; values = values; texts = texts; within = h.1 })
  fault_earlier statuses.OutOfMemory h = tt
  fault_earlier s h = absurd h

  fault_early : (s : Status) → HasTextFault asked.task.operation (own_setting asked labels) values s → IsEarly s
  fault_early (statuses.Class file rule fault) h = tt
  fault_early (statuses.TooMany n) h = tt
  fault_early statuses.TreeTooLarge h = tt
  fault_early statuses.OutOfMemory h = tt
  fault_early s h = absurd h

  text_answers : (text : List ℕ) → HasText asked.task.operation (own_setting asked labels) values text → IsAnswer asked held text
  text_answers text h = record { labels = labels; values = values; texts = texts; met = h.met; within = h.within; result_is = h.result_is }

-- the values of the files and the outcome are of one mode, and speak of the same values

record HasBoth (asked : Asked) (held : List ℕ → Option (List ℕ)) (labels : List (List ℕ)) (result : Result SinkThatGrows Status) : Type 0 where
  values : ValuesOf (kinds_of asked.task.operation)
  texts : AreTexts (scale_of asked.mode) labels (bytes_of asked held) (kinds_of asked.task.operation) values
  text : IfOk result (λ text. HasText asked.task.operation (own_setting asked labels) values text.bytes)
  fault : IfErr result (HasTextFault asked.task.operation (own_setting asked labels) values)

some_same : {A : Type 0} (a b : A) → (let o : Option A = Some a in o ≡ Some b) → a ≡ b
some_same a b e = cc e

module _
    {S : Type 0} (asked : Asked) (scale : Scale) (levelled : Bool) (product : ℕ → ℕ → ℕ) (we : scale ≡ scale_of asked.mode) (le : levelled ≡ levelled_of asked.mode) (pe : product ≡ product_of asked.mode)
    (held : List ℕ → Option (List ℕ)) (labels : List (List ℕ)) (read : Values S) (are : AreValuesOf scale labels (bytes_of asked held) asked.task.operation read) where
  both : (result : Result SinkThatGrows Status) → IsOutcome asked.task.operation (setting_of scale levelled product asked labels) read result → HasBoth asked held labels result
  both result outcome =
      let v = subst (λ (s : Scale). AreValuesOf s labels (bytes_of asked held) asked.task.operation read) we are in
      let o = subst (λ (p : ℕ → ℕ → ℕ). IsOutcome asked.task.operation (setting_of (scale_of asked.mode) (levelled_of asked.mode) p asked labels) read result) pe
      (subst (λ (l : Bool). IsOutcome asked.task.operation (setting_of (scale_of asked.mode) l product asked labels) read result) le
      (subst (λ (s : Scale). IsOutcome asked.task.operation (setting_of s levelled product asked labels) read result) we outcome)) in
      let same = some_same v.values o.values (sym v.are ∙ o.are) in
      record {
        values = o.values;
        texts = subst (λ (z : ValuesOf (kinds_of asked.task.operation)). AreTexts (scale_of asked.mode) labels (bytes_of asked held) (kinds_of asked.task.operation) z) same v.texts;
        text = o.text;
        fault = o.fault;
      }

  -- a text is an answer of the job
  pub outcome_answers : (result : Result SinkThatGrows Status) → IsOutcome asked.task.operation (setting_of scale levelled product asked labels) read result → IfOk result (λ text. IsAnswer asked held text.bytes)
  outcome_answers result outcome =
      let h = both result outcome in
      IfOk-weaker result (λ text. HasText asked.task.operation (own_setting asked labels) h.values text.bytes) _ (λ text is. text_answers asked held labels h.values h.texts text.bytes is) h.text

-- and with a status the run ends
pub outcome_ends :
    {S : Type 0} (asked : Asked) (scale : Scale) (levelled : Bool) (product : ℕ → ℕ → ℕ) → scale ≡ scale_of asked.mode → levelled ≡ levelled_of asked.mode → product ≡ product_of asked.mode →
    (before after : FilesSeen) (labels : List (List ℕ)) (read : Values S) → AreValuesOf scale labels (bytes_of asked before.held) asked.task.operation read → (result : Result SinkThatGrows Status) →
    IsOutcome asked.task.operation (setting_of scale levelled product asked labels) read result → IfErr result (EndsRun (Some asked) before after)
outcome_ends asked scale levelled product we le pe before after labels read are result outcome =
    let h = both asked scale levelled product we le pe before.held labels read are result outcome in
    IfErr-weaker result (HasTextFault asked.task.operation (own_setting asked labels) h.values) _
    (λ s is. record {
      cause = fault_cause asked before.held labels h.values h.texts before.faults after.faults 0 0 s is;
      earlier = fault_earlier asked before.held labels h.values h.texts s is;
      early = fault_early asked before.held labels h.values h.texts s is;
    }) h.fault
