-- Faults of files: a file of its kind has none, and each file has one at most.
use Rattle.tib_cost.specs.declared.Scale.{Scale}
use Rattle.tib_cost.specs.declared.Scale.TheVariants.{Unweighted}
use Rattle.std.specs.Prelude.{◌≡◌, ℕ, List, Option, Some, None, Result, Ok, Err, IfSome}
use Rattle.std.proofs.Common.{sym, ◌∙◌}
use Rattle.tib_lex.specs.declared.fault.FileFault.{FileFault}
use Rattle.tib_tree.specs.Written.{Item}
use Rattle.tib_tree.specs.File.{trees_of}
use Rattle.tib_tree.proofs.TreesText.{texts_exact, faults_exact}
use Rattle.tib_grammar_file.proofs.FirstFaults.{fault_once}
use Rattle.tib_grammar_file.proofs.TextRead.{no_text}
use Rattle.tib_grammar_file.specs.FaultLaws.{TextsHaveNone}
use Rattle.tib_transducer_file.proofs.FaultsOnce.{fault_once as transducer_fault_once, no_text as no_transducer_text}
use Rattle.tib_strings.proofs.FaultsOnce.{fault_once as string_transducer_fault_once, no_text as no_string_transducer_text}
use Rattle.tib_strings.proofs.Strings.{no_fault as no_string_text, one_fault as one_string_fault}
use Rattle.tib_tree.specs.Laws.{FaultsAlone}
use Rattle.tib_tree.specs.OneTreeLaws.{TextsHaveNone as TreesHaveNone}
use Rattle.tib_tree.proofs.Exact.{no_fault as no_tree_fault, one_fault as one_tree_fault}
use Rattle.tib_job.specs.Kinds.{Kind, of_grammar, of_support, of_trees, of_one_tree, of_transducer, of_string_transducer, of_string, bytes_at, OfName, Told, HasFault, KindsHaveNoFault}

-- what holds of the bytes of a file where they are known, and that they are known
pub told_both : (held : List ℕ → Option (List ℕ)) (o : Option (List ℕ)) (P Q : List ℕ → Type 0) → OfName o (Told held P) → OfName (bytes_at held o) Q → (x : List ℕ) × P x × Q x
told_both held None P Q a b = absurd a
told_both held (Some name) P Q a b = both (held name) a b
  where
    both : (o : Option (List ℕ)) → IfSome o P → OfName o Q → (x : List ℕ) × P x × Q x
    both None a b = absurd b
    both (Some x) a b = (x, a, b)

ok_or_err : (r : Result (List (List Item)) FileFault) (x : List (List Item)) (e : FileFault) → r ≡ Ok x → r ≡ Err e → ⊥
ok_or_err r x e a b =
    let same : (let o : Result (List (List Item)) FileFault = Ok x in o ≡ Err e) = sym a ∙ b in
    absurd (cc same)

err_same : {T : Type 0} (r : Result T FileFault) (a b : FileFault) → r ≡ Err a → r ≡ Err b → a ≡ b
err_same {T} r a b e f =
    let same : (let o : Result T FileFault = Err a in o ≡ Err b) = sym e ∙ f in
    cc same

-- bytes of a kind have no fault as such
pub no_fault : TextsHaveNone → FaultsAlone → TreesHaveNone → KindsHaveNoFault
no_fault grammars trees one scale of_grammar bytes fault h is = grammars scale bytes fault h is.0 is.1 is.2.1
no_fault grammars trees one scale of_support bytes fault h is = grammars Unweighted bytes fault h is.0 is.1 is.2.1
no_fault grammars trees one scale of_trees bytes fault h is = trees is.0 bytes is.1 fault is.2.1 is.2.2 h
no_fault grammars trees one scale of_one_tree bytes fault h is = one is.0 bytes is.1 fault (is.2.1, is.2.2) h
no_fault grammars trees one scale of_transducer bytes fault h is = no_transducer_text scale bytes fault h is.0 is.1 is.2.1
no_fault grammars trees one scale of_string_transducer bytes fault h is = no_string_transducer_text scale bytes fault h is.0 is.1 is.2.1
no_fault grammars trees one scale of_string bytes fault h is = no_string_text bytes fault h is.0 is.1 is.2.1

-- the same by the lemmas, for the laws
pub faulty_kind : KindsHaveNoFault
faulty_kind scale of_grammar bytes fault h is = no_text scale bytes fault h is.0 is.1 is.2.1
faulty_kind scale of_support bytes fault h is = no_text Unweighted bytes fault h is.0 is.1 is.2.1
faulty_kind scale of_trees bytes fault h is =
    let read = (texts_exact is.0 bytes is.1).1 (is.2.1, is.2.2) in
    ok_or_err (trees_of bytes) read.0 fault read.1 ((faults_exact bytes fault).1 h)
faulty_kind scale of_one_tree bytes fault h is = no_tree_fault is.0 bytes is.1 fault (is.2.1, is.2.2) h
faulty_kind scale of_transducer bytes fault h is = no_transducer_text scale bytes fault h is.0 is.1 is.2.1
faulty_kind scale of_string_transducer bytes fault h is = no_string_transducer_text scale bytes fault h is.0 is.1 is.2.1
faulty_kind scale of_string bytes fault h is = no_string_text bytes fault h is.0 is.1 is.2.1

-- and no two faults
pub one_fault : (scale : Scale) (kind : Kind) (bytes : List ℕ) (a b : FileFault) → HasFault scale (Some kind) bytes a → HasFault scale (Some kind) bytes b → a ≡ b
one_fault scale of_grammar bytes a b e f = fault_once scale bytes a b e f
one_fault scale of_support bytes a b e f = fault_once Unweighted bytes a b e f
one_fault scale of_trees bytes a b e f = err_same (trees_of bytes) a b ((faults_exact bytes a).1 e) ((faults_exact bytes b).1 f)
one_fault scale of_one_tree bytes a b e f = one_tree_fault bytes a b e f
one_fault scale of_transducer bytes a b e f = transducer_fault_once scale bytes a b e f
one_fault scale of_string_transducer bytes a b e f = string_transducer_fault_once scale bytes a b e f
one_fault scale of_string bytes a b e f = one_string_fault bytes a b e f
