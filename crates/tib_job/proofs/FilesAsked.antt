-- A job that words ask for has as many files as its operation takes, and a limit of at most
-- 20,000,000.
use Rattle.std.specs.Prelude.{◌≡◌, ℕ, ◌≤◌, nat_le, ◌==◌, ◌&&◌, Bool, true, false, not, List, [], ◌∷◌, length, Option, Some, None, option_map, option_and_then, if◌then◌else◌, refl}
use Rattle.std.specs.List.{list_any}
use Rattle.std.proofs.Common.{ap, ◌∙◌, subst, arith}
use Rattle.tib_command.specs.Words.{Text, reads, values_of, mode, depth, workers, limit, beam, place}
use Rattle.tib_lex.proofs.Spelled.{and_true}
use Rattle.std.proofs.lemmas.Bool.Decides.{nat_tests}
use Rattle.tib_command.specs.Jobs.{numeral_in, within, Asked, AskedFor, job_of, asked_by, once, mode_in, count_in, beam_in, task_in, words_in, demo_in, demo_of, takes_number, most_demo, files_in, are_files, operation_in, word_count, most_parts, most_trees, most_workers}
use Rattle.tib_command.specs.declared.job.Mode.TheVariants.{MinPlus}
use Rattle.tib_command.specs.declared.job.Operation.{Operation}
use Rattle.tib_command.specs.declared.job.Operation.TheVariants as operations
use Rattle.tib_job.specs.Kinds.{kinds_of}

then_some : {A B : Type 0} (f : A → Option B) (o : Option A) (y : B) → option_and_then f o ≡ Some y → (x : A) × (f x ≡ Some y)
then_some f None y e = absurd (cc e)
then_some f (Some x) y e = (x, e)

map_some : {A B : Type 0} (f : A → B) (o : Option A) (y : B) → option_map f o ≡ Some y → (x : A) × (o ≡ Some x) × (f x ≡ y)
map_some f None y e = absurd (cc e)
map_some f (Some x) y e = (x, refl, cc e)

some_task : (a b : AskedFor) → (let o : Option AskedFor = Some a in o ≡ Some b) → a ≡ b
some_task a b e = cc e

-- as many files as the words
abbrev HasItsFiles : AskedFor → Type 0
HasItsFiles task = length task.files ≡ length (kinds_of task.operation)

as_many_kinds : (o : Operation) → word_count o ≡ length (kinds_of o)
as_many_kinds operations.Weigh = refl
as_many_kinds operations.Inside = refl
as_many_kinds operations.Normal = refl
as_many_kinds operations.KBest = refl
as_many_kinds operations.Intersect = refl
as_many_kinds operations.Union = refl
as_many_kinds operations.Difference = refl
as_many_kinds operations.Forward = refl
as_many_kinds operations.Backward = refl
as_many_kinds operations.Compose = refl
as_many_kinds operations.Image = refl
as_many_kinds operations.Parse = refl
as_many_kinds operations.Compare = refl
as_many_kinds operations.Determinize = refl
as_many_kinds operations.Check = refl
as_many_kinds operations.Prune = refl
as_many_kinds operations.Trim = refl
as_many_kinds operations.Through = refl
as_many_kinds operations.Count = refl
as_many_kinds operations.Runs = refl
as_many_kinds operations.Invert = refl
as_many_kinds operations.Domain = refl
as_many_kinds operations.Demo = refl

first_test : (m n : ℕ) (b : Bool) → (m == n) && b ≡ true → m ≡ n
first_test m n b e = grind arith

files_many : (o : Operation) (files : List Text) (task : AskedFor) → files_in o files ≡ Some task → HasItsFiles task
files_many o files task e = by (are_files o files) refl e
  where
    by : (b : Bool) → are_files o files ≡ b → (if b then Some (record { operation = o; files = files; demo = 0 }) else None) ≡ Some task → HasItsFiles task
    by false t e = absurd (cc e)
    by true t e =
        subst HasItsFiles (some_task (record { operation = o; files = files; demo = 0 }) task e)
        (first_test (length files) (word_count o) (not (list_any (λ f. length f == 0) files)) t ∙ as_many_kinds o)

-- `demo` has no file
demo_many : (words : List Text) (task : AskedFor) → demo_in words ≡ Some task → HasItsFiles task
demo_many [] task e = absurd (cc e)
demo_many (word ∷ []) task e = subst HasItsFiles (map_some demo_of (count_in most_demo word) task e).2 refl
demo_many (word ∷ (other ∷ rest)) task e = absurd (cc e)

words_many : (o : Operation) (words : List Text) (task : AskedFor) → words_in o words ≡ Some task → HasItsFiles task
words_many o words task e = by (takes_number o) e
  where
    by : (b : Bool) → (if b then demo_in words else files_in o words) ≡ Some task → HasItsFiles task
    by true f = demo_many words task f
    by false f = files_many o words task f

task_many : (texts : List Text) (task : AskedFor) → task_in texts ≡ Some task → HasItsFiles task
task_many [] task e = absurd (cc e)
task_many (name ∷ rest) task e = let o = then_some (λ op. words_in op rest) (operation_in name) task e in words_many o.0 rest task o.1

pub files_asked : (words : List Text) (asked : Asked) → job_of words ≡ Some asked → length asked.task.files ≡ length (kinds_of asked.task.operation)
files_asked words asked e =
    let items = then_some asked_by (reads words None) asked e in
    let md = then_some _ (once MinPlus mode_in (values_of mode items.0)) asked items.1 in
    let k = then_some _ (once 1 (count_in most_trees) (values_of depth items.0)) asked md.1 in
    let w = then_some _ (once 1 (count_in most_workers) (values_of workers items.0)) asked k.1 in
    let l = then_some _ (once most_parts (count_in most_parts) (values_of limit items.0)) asked w.1 in
    let b = then_some _ (once 0 beam_in (values_of beam items.0)) asked l.1 in
    let t = map_some _ (task_in (values_of place items.0)) asked b.1 in
    subst HasItsFiles (ap (λ (a : Asked). a.task) t.2) (task_many (values_of place items.0) t.0 t.1)

-- and a limit of at most 20,000,000

then_from : {A B : Type 0} (f : A → Option B) (o : Option A) (y : B) → option_and_then f o ≡ Some y → (x : A) × (o ≡ Some x) × (f x ≡ Some y)
then_from f None y e = absurd (cc e)
then_from f (Some x) y e = (x, refl, e)

some_number : (m n : ℕ) → (let o : Option ℕ = Some m in o ≡ Some n) → m ≡ n
some_number m n e = cc e

low_test : (most n : ℕ) → nat_le 1 n && nat_le n most ≡ true → n ≤ most
low_test most n e = let both = and_true (nat_le 1 n) (nat_le n most) e in grind (arith, nat_tests)

within_low : (most n m : ℕ) → within 1 most n ≡ Some m → m ≤ most
within_low most n m e = by (nat_le 1 n && nat_le n most) refl e
  where
    by : (b : Bool) → nat_le 1 n && nat_le n most ≡ b → (if b then Some n else None) ≡ Some m → m ≤ most
    by false t e = absurd (cc e)
    by true t e = subst (λ k. k ≤ most) (some_number n m e) (low_test most n t)

once_low : (values : List Text) (m : ℕ) → once most_parts (count_in most_parts) values ≡ Some m → m ≤ most_parts
once_low [] m e = let same : most_parts ≡ m = some_number most_parts m e in omega (arith, same)
once_low (v ∷ []) m e = let n = then_from (within 1 most_parts) (numeral_in 12 v) m e in within_low most_parts n.0 m n.2
once_low (v ∷ (w ∷ rest)) m e = absurd (cc e)

pub limit_asked : (words : List Text) (asked : Asked) → job_of words ≡ Some asked → asked.limit ≤ most_parts
limit_asked words asked e =
    let items = then_some asked_by (reads words None) asked e in
    let md = then_some _ (once MinPlus mode_in (values_of mode items.0)) asked items.1 in
    let k = then_some _ (once 1 (count_in most_trees) (values_of depth items.0)) asked md.1 in
    let w = then_some _ (once 1 (count_in most_workers) (values_of workers items.0)) asked k.1 in
    let l = then_from _ (once most_parts (count_in most_parts) (values_of limit items.0)) asked w.1 in
    let b = then_some _ (once 0 beam_in (values_of beam items.0)) asked l.2 in
    let t = map_some _ (task_in (values_of place items.0)) asked b.1 in
    subst (λ n. n ≤ most_parts) (ap (λ (a : Asked). a.limit) t.2) (once_low (values_of limit items.0) l.0 l.1)

-- and a number of `demo` of at most 16, which is 0 for other operations

abbrev IsDemoLow : AskedFor → Type 0
IsDemoLow task = task.demo ≤ most_demo

files_low : (o : Operation) (files : List Text) (task : AskedFor) → files_in o files ≡ Some task → IsDemoLow task
files_low o files task e = by (are_files o files) e
  where
    by : (b : Bool) → (if b then Some (record { operation = o; files = files; demo = 0 }) else None) ≡ Some task → IsDemoLow task
    by false e = absurd (cc e)
    by true e = subst IsDemoLow (some_task (record { operation = o; files = files; demo = 0 }) task e) (omega arith)

number_low : (words : List Text) (task : AskedFor) → demo_in words ≡ Some task → IsDemoLow task
number_low [] task e = absurd (cc e)
number_low (word ∷ []) task e =
    let n = map_some demo_of (count_in most_demo word) task e in
    let numeral = then_from (within 1 most_demo) (numeral_in 12 word) n.0 n.1 in
    subst IsDemoLow n.2 (within_low most_demo numeral.0 n.0 numeral.2)
number_low (word ∷ (other ∷ rest)) task e = absurd (cc e)

words_low : (o : Operation) (words : List Text) (task : AskedFor) → words_in o words ≡ Some task → IsDemoLow task
words_low o words task e = by (takes_number o) e
  where
    by : (b : Bool) → (if b then demo_in words else files_in o words) ≡ Some task → IsDemoLow task
    by true f = number_low words task f
    by false f = files_low o words task f

task_low : (texts : List Text) (task : AskedFor) → task_in texts ≡ Some task → IsDemoLow task
task_low [] task e = absurd (cc e)
task_low (name ∷ rest) task e = let o = then_some (λ op. words_in op rest) (operation_in name) task e in words_low o.0 rest task o.1

pub demo_asked : (words : List Text) (asked : Asked) → job_of words ≡ Some asked → asked.task.demo ≤ most_demo
demo_asked words asked e =
    let items = then_some asked_by (reads words None) asked e in
    let md = then_some _ (once MinPlus mode_in (values_of mode items.0)) asked items.1 in
    let k = then_some _ (once 1 (count_in most_trees) (values_of depth items.0)) asked md.1 in
    let w = then_some _ (once 1 (count_in most_workers) (values_of workers items.0)) asked k.1 in
    let l = then_some _ (once most_parts (count_in most_parts) (values_of limit items.0)) asked w.1 in
    let b = then_some _ (once 0 beam_in (values_of beam items.0)) asked l.1 in
    let t = map_some _ (task_in (values_of place items.0)) asked b.1 in
    subst IsDemoLow (ap (λ (a : Asked). a.task) t.2) (task_low (values_of place items.0) t.0 t.1)
