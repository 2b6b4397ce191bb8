-- What the files of a job hold.
use Rattle.tib_cost.specs.declared.Scale.{Scale}
use Rattle.tib_cost.specs.declared.Scale.TheVariants as scales
use Rattle.std.specs.Prelude.{◌≡◌, ◌⊎◌, ℕ, List, [], ◌∷◌, Option, Some, None, IfSome, IsSome, slice_get}
use Rattle.std.proofs.Common.{zero, suc}
use Rattle.tib_lex.specs.declared.fault.FileFault.{FileFault}
use Rattle.tib_lex.specs.declared.fault.ReadError.{ReadError}
use Rattle.tib_lex.specs.declared.fault.ReadError.TheVariants as errors
use Rattle.tib_tree.specs.Grows.{AreDistinct}
use Rattle.tib_tree.specs.Trees.{Tree}
use Rattle.tib_tree.specs.TreesText.{IsFirstFault as IsFirstTreeFault}
use Rattle.tib_tree.specs.OneTree.{IsOneTreeFault}
use Rattle.tib_grammar.specs.GrammarOf.{GrammarOf}
use Rattle.tib_grammar_file.specs.Faults.{IsFirstFault}
use Rattle.tib_transducer.specs.TransducerOf.{TransducerOf}
use Rattle.tib_transducer_file.specs.Faults.{IsFirstFault as IsFirstTransducerFault}
use Rattle.tib_strings.specs.StringTransducerOf.{StringTransducerOf}
use Rattle.tib_strings.specs.StringText.{ReadsAsString}
use Rattle.tib_strings.specs.StringFaults.{IsFirstStringFault}
use Rattle.tib_strings.specs.TransducerText.{ReadsAs as ReadsAsStringTransducer}
use Rattle.tib_strings.specs.FileFaults.{IsFirstFault as IsFirstStringTransducerFault}
use Rattle.tib_command.specs.Jobs.{Asked}
use Rattle.tib_operations.specs.FileTexts.{IsShort, IsRead, ListsTrees, IsTransducerRead}
use Rattle.tib_command.specs.declared.job.Operation.{Operation}
use Rattle.tib_command.specs.declared.job.Operation.TheVariants as operations

-- what a file holds; of a grammar of which only its trees count, and no costs, it is the support
pub data Kind : Type 0 where
  of_grammar : Kind
  of_support : Kind
  of_trees : Kind
  of_one_tree : Kind
  of_transducer : Kind
  of_string_transducer : Kind
  of_string : Kind

-- what the files of an operation hold, in order
abbrev pub kinds_of : Operation → List Kind
kinds_of operations.Weigh = of_grammar ∷ of_trees ∷ []
kinds_of operations.Inside = of_grammar ∷ []
kinds_of operations.Normal = of_grammar ∷ []
kinds_of operations.KBest = of_grammar ∷ []
kinds_of operations.Intersect = of_grammar ∷ of_grammar ∷ []
kinds_of operations.Union = of_grammar ∷ of_grammar ∷ []
kinds_of operations.Difference = of_grammar ∷ of_support ∷ []
kinds_of operations.Forward = of_grammar ∷ of_transducer ∷ []
kinds_of operations.Backward = of_transducer ∷ of_grammar ∷ []
kinds_of operations.Compose = of_transducer ∷ of_transducer ∷ []
kinds_of operations.Image = of_one_tree ∷ of_transducer ∷ []
kinds_of operations.Parse = of_string_transducer ∷ of_string ∷ []
kinds_of operations.Compare = of_support ∷ of_support ∷ []
kinds_of operations.Determinize = of_grammar ∷ []
kinds_of operations.Check = of_transducer ∷ []
kinds_of operations.Prune = of_grammar ∷ []
kinds_of operations.Trim = of_grammar ∷ []
kinds_of operations.Through = of_grammar ∷ []
kinds_of operations.Count = of_support ∷ []
kinds_of operations.Runs = of_grammar ∷ []
kinds_of operations.Invert = of_transducer ∷ []
kinds_of operations.Domain = of_transducer ∷ []
kinds_of operations.Demo = []

-- the operation is one of these
abbrev pub IsAmong : List Operation → Operation → Type 0
IsAmong [] o = ⊥
IsAmong (p ∷ []) o = o ≡ p
IsAmong (p ∷ (q ∷ ps)) o = (o ≡ p) ⊎ IsAmong (q ∷ ps) o

-- the operations on one grammar
abbrev pub of_one_grammar : List Operation
of_one_grammar =
    operations.Inside ∷ operations.Normal ∷ operations.KBest ∷ operations.Determinize ∷ operations.Prune ∷ operations.Trim ∷ operations.Through ∷ operations.Runs ∷ []

-- on two grammars
abbrev pub of_two_grammars : List Operation
of_two_grammars = operations.Intersect ∷ operations.Union ∷ []

-- and on one transducer
abbrev pub of_one_transducer : List Operation
of_one_transducer = operations.Check ∷ operations.Invert ∷ operations.Domain ∷ []

-- the operations that take two files
abbrev pub of_two_files : List Operation
of_two_files =
    operations.Weigh ∷ operations.Intersect ∷ operations.Union ∷ operations.Difference ∷ operations.Forward ∷ operations.Backward
    ∷ operations.Compose ∷ operations.Image ∷ operations.Parse ∷ operations.Compare ∷ []

-- what the n-th file of a job holds, from 1 on
abbrev pub kind_at : Option Asked → ℕ → Option Kind
kind_at None n = None
kind_at (Some asked) zero = None
kind_at (Some asked) (suc n) = slice_get (kinds_of asked.task.operation) n

-- the name of the n-th file of a job, from 1 on
abbrev pub file_at : Option Asked → ℕ → Option (List ℕ)
file_at None n = None
file_at (Some asked) zero = None
file_at (Some asked) (suc n) = slice_get asked.task.files n

-- the bytes of a file, where they are known
abbrev pub bytes_at : (List ℕ → Option (List ℕ)) → Option (List ℕ) → Option (List ℕ)
bytes_at held None = None
bytes_at held (Some name) = held name

abbrev pub OfName : Option (List ℕ) → (List ℕ → Type 0) → Type 0
OfName None P = ⊥
OfName (Some name) P = P name

-- P holds of the name of this file, which the job has
abbrev pub OfFile : Option Asked → ℕ → (List ℕ → Type 0) → Type 0
OfFile job n P = OfName (file_at job n) P

-- where the bytes of a file are known, P holds of them
abbrev pub Told : (List ℕ → Option (List ℕ)) → (List ℕ → Type 0) → List ℕ → Type 0
Told held P name = IfSome (held name) P

-- what the text of a file of the kind stands for
abbrev pub ValueOf : Kind → Type 0
ValueOf of_grammar = GrammarOf
ValueOf of_support = GrammarOf
ValueOf of_trees = List (Tree ℕ)
ValueOf of_one_tree = Tree ℕ
ValueOf of_transducer = TransducerOf
ValueOf of_string_transducer = StringTransducerOf
ValueOf of_string = List ℕ

-- the tree-to-string transducer of the text, with no side too large
abbrev pub IsStringTransducerRead : Scale → List (List ℕ) → StringTransducerOf → List ℕ → Type 0
IsStringTransducerRead scale labels t bytes = IsShort bytes × ReadsAsStringTransducer scale labels bytes t

-- the labels of the words of the text, which are not too many
abbrev pub IsStringRead : List (List ℕ) → List ℕ → List ℕ → Type 0
IsStringRead labels string bytes = IsShort bytes × ReadsAsString labels bytes string

-- the grammar of the text in Boolean, whose rules cost nothing
abbrev pub IsSupportRead : List (List ℕ) → GrammarOf → List ℕ → Type 0
IsSupportRead labels g bytes = IsRead scales.Unweighted labels g bytes

-- the bytes are not too many, and are the text of the value over a table of labels; a support is
-- read in Boolean whatever the mode
abbrev pub IsTextOf : Scale → List (List ℕ) → (kind : Kind) → ValueOf kind → List ℕ → Type 0
IsTextOf scale labels of_grammar g bytes = IsRead scale labels g bytes
IsTextOf scale labels of_support g bytes = IsSupportRead labels g bytes
IsTextOf scale labels of_trees trees bytes = ListsTrees labels trees bytes
IsTextOf scale labels of_one_tree one bytes = ListsTrees labels (one ∷ []) bytes
IsTextOf scale labels of_transducer t bytes = IsTransducerRead scale labels t bytes
IsTextOf scale labels of_string_transducer t bytes = IsStringTransducerRead scale labels t bytes
IsTextOf scale labels of_string string bytes = IsStringRead labels string bytes

-- the bytes are the text of a value of the kind
abbrev pub IsOfKind : Scale → Kind → List ℕ → Type 0
IsOfKind scale kind bytes = (labels : List (List ℕ)) × (value : ValueOf kind) × IsTextOf scale labels kind value bytes

-- values for the files of a job, in order
abbrev pub ValuesOf : List Kind → Type 0
ValuesOf [] = Unit {0}
ValuesOf (kind ∷ kinds) = ValueOf kind × ValuesOf kinds

-- files, where their bytes are known, are the texts of these values over one table of labels; files
-- are counted from 0
abbrev pub AreTextsOf : Scale → List (List ℕ) → (ℕ → Option (List ℕ)) → (kinds : List Kind) → ValuesOf kinds → Type 0
AreTextsOf scale labels bytes [] values = Unit {0}
AreTextsOf scale labels bytes (kind ∷ kinds) values =
    IfSome (bytes 0) (IsTextOf scale labels kind values.0) × AreTextsOf scale labels (λ n. bytes (suc n)) kinds values.1

-- The same over a table that has each label once: over one with a label twice, two rules that are
-- written alike would be two.
pub record AreTexts (scale : Scale) (labels : List (List ℕ)) (bytes : ℕ → Option (List ℕ)) (kinds : List Kind) (values : ValuesOf kinds) : Type 0 where
  pub distinct : AreDistinct labels
  pub texts : AreTextsOf scale labels bytes kinds values

-- each file is known, and is of its kind
abbrev pub AreOfKinds : Scale → List Kind → (ℕ → Option (List ℕ)) → Type 0
AreOfKinds scale kinds bytes = (n : ℕ) (kind : Kind) → slice_get kinds n ≡ Some kind → OfName (bytes n) (IsOfKind scale kind)

-- each file is known
abbrev pub AreAllTold : List Kind → (ℕ → Option (List ℕ)) → Type 0
AreAllTold kinds bytes = (n : ℕ) (kind : Kind) → slice_get kinds n ≡ Some kind → IsSome (bytes n)

-- the fault of the bytes as the text of a value of the kind: the first of their lines, or of one
-- tree that there is none or are several
abbrev pub HasFault : Scale → Option Kind → List ℕ → FileFault → Type 0
HasFault scale None bytes fault = ⊥
HasFault scale (Some of_grammar) bytes fault = IsFirstFault scale bytes fault
HasFault scale (Some of_support) bytes fault = IsFirstFault scales.Unweighted bytes fault
HasFault scale (Some of_trees) bytes fault = IsFirstTreeFault bytes fault
HasFault scale (Some of_one_tree) bytes fault = IsOneTreeFault bytes fault
HasFault scale (Some of_transducer) bytes fault = IsFirstTransducerFault scale bytes fault
HasFault scale (Some of_string_transducer) bytes fault = IsFirstStringTransducerFault scale bytes fault
HasFault scale (Some of_string) bytes fault = IsFirstStringFault bytes fault

-- why the bytes gave no value of the kind: they have this fault, or memory was refused
abbrev pub IsReadError : Scale → Kind → List ℕ → ReadError → Type 0
IsReadError scale kind bytes (errors.Fault fault) = HasFault scale (Some kind) bytes fault
IsReadError scale kind bytes errors.OutOfMemory = Unit {0}

-- bytes of a kind have no fault as such
abbrev pub KindsHaveNoFault : Type 0
KindsHaveNoFault = (scale : Scale) (kind : Kind) (bytes : List ℕ) (fault : FileFault) → HasFault scale (Some kind) bytes fault → IsOfKind scale kind bytes → ⊥
