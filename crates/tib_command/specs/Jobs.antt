-- The job that the words ask for.
use Rattle.std.specs.Prelude.{ℕ, ◌==◌, ◌&&◌, Bool, true, false, not, List, [], ◌∷◌, map, Option, Some, None, length}
use Rattle.std.specs.Prelude.{if◌then◌else◌, codes, option_map, option_and_then, nat_le, unwrap_or}
use Rattle.std.specs.List.{list_any}
use Rattle.std.specs.String.{string_bytes}
use Rattle.std.specs.Str.{bytes_eq, all_ascii_digits}
use Rattle.std.specs.Str.Parse.{digits_value}
use Rattle.tib_cost.specs.Semiring.{most}
pub use Rattle.tib_lex.specs.Limits.{most_parts}
use Rattle.tib_command.specs.declared.job.Mode.{Mode}
use Rattle.tib_command.specs.declared.job.Mode.TheVariants as m
use Rattle.tib_command.specs.declared.job.Operation.{Operation}
use Rattle.tib_command.specs.declared.job.Operation.TheVariants as o
use Rattle.tib_command.specs.declared.job.Job.{Job}
use Rattle.tib_command.specs.declared.values.AskedFor.{AskedFor as Read}
use Rattle.std.specs.Borrow.{Bor}
use Rattle.tib_command.specs.Words.{Text, Item, reads, values_of, mode, depth, workers, limit, beam, place}

abbrev pub mode_in : Text → Option Mode
mode_in text = if bytes_eq text (codes "minplus") then Some m.MinPlus
    else (if bytes_eq text (codes "bottleneck") then Some m.Bottleneck
    else (if bytes_eq text (codes "widest") then Some m.Widest
    else (if bytes_eq text (codes "boolean") then Some m.Boolean else None)))

-- decimal digits, at least one and at most this many
abbrev pub is_numeral : ℕ → Text → Bool
is_numeral digits text = nat_le 1 (length text) && (nat_le (length text) digits && all_ascii_digits text)

abbrev pub numeral_in : ℕ → Text → Option ℕ
numeral_in digits text = if is_numeral digits text then Some (digits_value 10 text) else None

abbrev pub within : ℕ → ℕ → ℕ → Option ℕ
within least most n = if nat_le least n && nat_le n most then Some n else None

-- their value, where it lies within the bounds
abbrev pub number_in : ℕ → ℕ → ℕ → Text → Option ℕ
number_in digits least most text = option_and_then (within least most) (numeral_in digits text)

-- a count from 1 on, in one to twelve digits
abbrev pub count_in : ℕ → Text → Option ℕ
count_in most text = number_in 12 1 most text

-- an option that occurs at most once, read from its values
abbrev pub once : {X : Type 0} → X → (Text → Option X) → List Text → Option X
once default read [] = Some default
once default read (v ∷ []) = read v
once default read (v ∷ w ∷ rest) = None

abbrev pub operation_in : Text → Option Operation
operation_in text = if bytes_eq text (codes "weigh") then Some o.Weigh
    else (if bytes_eq text (codes "inside") then Some o.Inside
    else (if bytes_eq text (codes "normal") then Some o.Normal
    else (if bytes_eq text (codes "kbest") then Some o.KBest
    else (if bytes_eq text (codes "intersect") then Some o.Intersect
    else (if bytes_eq text (codes "union") then Some o.Union
    else (if bytes_eq text (codes "difference") then Some o.Difference
    else (if bytes_eq text (codes "forward") then Some o.Forward
    else (if bytes_eq text (codes "backward") then Some o.Backward
    else (if bytes_eq text (codes "compose") then Some o.Compose
    else (if bytes_eq text (codes "image") then Some o.Image
    else (if bytes_eq text (codes "parse") then Some o.Parse
    else (if bytes_eq text (codes "compare") then Some o.Compare
    else (if bytes_eq text (codes "determinize") then Some o.Determinize
    else (if bytes_eq text (codes "check") then Some o.Check
    else (if bytes_eq text (codes "prune") then Some o.Prune
    else (if bytes_eq text (codes "trim") then Some o.Trim
    else (if bytes_eq text (codes "through") then Some o.Through
    else (if bytes_eq text (codes "count") then Some o.Count
    else (if bytes_eq text (codes "runs") then Some o.Runs
    else (if bytes_eq text (codes "invert") then Some o.Invert
    else (if bytes_eq text (codes "domain") then Some o.Domain
    else (if bytes_eq text (codes "demo") then Some o.Demo else None))))))))))))))))))))))

-- how many file names follow the operation
abbrev pub word_count : Operation → ℕ
word_count o.Weigh = 2
word_count o.Inside = 1
word_count o.Normal = 1
word_count o.KBest = 1
word_count o.Intersect = 2
word_count o.Union = 2
word_count o.Difference = 2
word_count o.Forward = 2
word_count o.Backward = 2
word_count o.Compose = 2
word_count o.Image = 2
word_count o.Parse = 2
word_count o.Compare = 2
word_count o.Determinize = 1
word_count o.Check = 1
word_count o.Prune = 1
word_count o.Trim = 1
word_count o.Through = 1
word_count o.Count = 1
word_count o.Runs = 1
word_count o.Invert = 1
word_count o.Domain = 1
word_count o.Demo = 0

-- whether a number takes the place of file names
abbrev pub takes_number : Operation → Bool
takes_number o.Demo = true
takes_number operation = false

-- what the positional words say: the operation, its files, and the number of `demo`, which is 0 for
-- the others
pub record AskedFor : Type 0 where
  pub operation : Operation
  pub files : List Text
  pub demo : ℕ

abbrev pub are_files : Operation → List Text → Bool
are_files op files = (length files == word_count op) && not (list_any (λ f. length f == 0) files)

-- the greatest number of trees that may be asked for
abbrev pub most_trees : ℕ
most_trees = 10000

-- the greatest number of workers
abbrev pub most_workers : ℕ
most_workers = 16

-- the greatest beam, which is the greatest cost
abbrev pub most_beam : ℕ
most_beam = most

-- a beam, in one to sixteen digits
abbrev pub beam_in : Text → Option ℕ
beam_in text = number_in 16 0 most_beam text

-- as many file names as the operation takes, none of them empty
abbrev pub files_in : Operation → List Text → Option AskedFor
files_in op files =
    if are_files op files then Some (record { operation = op; files = files; demo = 0 }) else None

-- the greatest number that `demo` takes
abbrev pub most_demo : ℕ
most_demo = 16

abbrev pub demo_of : ℕ → AskedFor
demo_of n = record { operation = o.Demo; files = []; demo = n }

-- one word that is a number from 1 on, in one to twelve digits
abbrev pub demo_in : List Text → Option AskedFor
demo_in [] = None
demo_in (word ∷ []) = option_map demo_of (count_in most_demo word)
demo_in (word ∷ other ∷ rest) = None

-- what follows the operation
abbrev pub words_in : Operation → List Text → Option AskedFor
words_in op words = if takes_number op then demo_in words else files_in op words

abbrev pub task_in : List Text → Option AskedFor
task_in [] = None
task_in (name ∷ rest) = option_and_then (λ op. words_in op rest) (operation_in name)

pub record Asked : Type 0 where
  pub mode : Mode
  pub k : ℕ
  pub workers : ℕ
  pub limit : ℕ
  pub beam : ℕ
  pub task : AskedFor

abbrev pub asked_by : List Item → Option Asked
asked_by items =
    option_and_then (λ md. option_and_then (λ k. option_and_then (λ w. option_and_then (λ l. option_and_then (λ b.
    option_map (λ t. record { mode = md; k = k; workers = w; limit = l; beam = b; task = t })
    (task_in (values_of place items)))
    (once 0 beam_in (values_of beam items)))
    (once most_parts (count_in most_parts) (values_of limit items)))
    (once 1 (count_in most_workers) (values_of workers items)))
    (once 1 (count_in most_trees) (values_of depth items)))
    (once m.MinPlus mode_in (values_of mode items))

-- what the words ask for, where they are of the language
abbrev pub job_of : List Text → Option Asked
job_of words = option_and_then asked_by (reads words None)

abbrev pub meaning : Job → Asked
meaning job = record {
  mode = job.mode;
  k = job.k;
  workers = job.workers;
  limit = job.limit;
  beam = job.beam;
  task = record {
    operation = job.operation;
    files = map (λ s. string_bytes s) job.files.items;
    demo = job.demo;
  };
}

-- the texts that `clap` gives for an argument
abbrev pub texts_of : Option (Bor (List (Bor Text))) → List Text
texts_of values = unwrap_or (option_map (λ vs. map (λ v. v.now) vs.now) values) []

abbrev pub task_meaning : Read → AskedFor
task_meaning t = record { operation = t.operation; files = map (λ s. string_bytes s) t.files.items; demo = t.demo }
