-- From a file of a job to the answer of the run.
use Rattle.tib_cost.specs.declared.Scale.{Scale}
use Rattle.std.specs.Prelude.{◌≡◌, ℕ, ◌-◌, ◌≤◌, ◌<◌, ◌⊎◌, List, length, Option, Some, None, IfSome, slice_get}
use Rattle.std.proofs.Common.{subst, sym, ◌∙◌, arith, ap, zero, suc, inl, inr, map, get_or, [], ◌∷◌}
use Rattle.tib_io.specs.Causes.{Rose}
use Rattle.tib_lex.specs.declared.fault.FileFault.{FileFault}
use Rattle.tib_tree.specs.Grows.{Grows, AreDistinct}
use Rattle.tib_command.specs.Jobs.{Asked}
use Rattle.tib_operations.specs.declared.status.Status.{Status}
use Rattle.tib_operations.specs.declared.status.Status.TheVariants as statuses
use Rattle.tib_job.specs.Kinds.{Kind, kind_at, kinds_of, file_at, bytes_at, OfName, OfFile, Told, ValueOf, IsTextOf, IsOfKind, AreTexts, HasFault}
use Rattle.tib_operations.specs.FileTexts.{IsShort}
use Rattle.tib_job.specs.Causes.{HasCause, AreBefore, HasEarlier, IsAbout, IsEarly, bytes_of, scale_of, scale_by}
use Rattle.tib_job.proofs.FileValues.{told_grown}

-- the name of a file by its place among the job's files
pub name_at : {A : Type 0} (f : A → List ℕ) (xs : List A) (i : ℕ) (x : A) → i < length xs → x ≡ get_or xs i x → slice_get (map f xs) i ≡ Some (f x)
name_at f [] i x h e = absurd (omega arith)
name_at f (y ∷ ys) zero x h e = ap (λ z. Some (f z)) (sym e)
name_at f (y ∷ ys) (suc i) x h e = name_at f ys i x (omega arith) e

pub file_named : (asked : Asked) (n : ℕ) (name : List ℕ) → 1 ≤ n → slice_get asked.task.files (n - 1) ≡ Some name → file_at (Some asked) n ≡ Some name
file_named asked zero name h e = absurd (omega arith)
file_named asked (suc m) name h e =
    let same : suc m - 1 ≡ m = omega arith in
    subst (λ k. slice_get asked.task.files k ≡ Some name) same e

-- what holds of the name of a file
pub of_file : (job : Option Asked) (n : ℕ) (name : List ℕ) (P : List ℕ → Type 0) → file_at job n ≡ Some name → P name → OfFile job n P
of_file job n name P at h = subst (λ (o : Option (List ℕ)). OfName o P) (sym at) h

pub if_some : {P Q : List ℕ → Type 0} (o : Option (List ℕ)) → ((x : List ℕ) → P x → Q x) → IfSome o P → IfSome o Q
if_some None f h = tt
if_some (Some x) f h = f x h

pub name_map : (o : Option (List ℕ)) (P Q : List ℕ → Type 0) → ((x : List ℕ) → P x → Q x) → OfName o P → OfName o Q
name_map None P Q f h = absurd h
name_map (Some name) P Q f h = f name h

pub told_map : (held : List ℕ → Option (List ℕ)) (o : Option (List ℕ)) (P Q : List ℕ → Type 0) → ((x : List ℕ) → P x → Q x) → OfName o (Told held P) → OfName o (Told held Q)
told_map held o P Q f h = name_map o (Told held P) (Told held Q) (λ name k. if_some (held name) f k) h

pub told_some : (held : List ℕ → Option (List ℕ)) (o : Option (List ℕ)) (P : List ℕ → Type 0) → OfName o (Told held P) → IfSome (bytes_at held o) P
told_some held None P h = tt
told_some held (Some name) P h = h

-- the first fault of the bytes of a file
pub fault_told :
    (job : Option Asked) (held : List ℕ → Option (List ℕ)) (n : ℕ) (kind : Kind) (scale : Scale) (read : List ℕ) (fault : FileFault) → kind_at job n ≡ Some kind → scale ≡ scale_by job →
    HasFault scale (Some kind) read fault → OfFile job n (Told held (λ bytes. (read ≡ bytes) × IsShort bytes)) →
    OfFile job n (Told held (λ bytes. IsShort bytes × HasFault (scale_by job) (kind_at job n) bytes fault))
fault_told job held n kind scale read fault at we f h =
    told_map held (file_at job n) (λ bytes. (read ≡ bytes) × IsShort bytes) (λ bytes. IsShort bytes × HasFault (scale_by job) (kind_at job n) bytes fault)
    (λ bytes p. (p.1, subst (λ k. HasFault (scale_by job) k bytes fault) (sym at) (subst (λ w. HasFault w (Some kind) bytes fault) we (subst (λ b. HasFault scale (Some kind) b fault) p.0 f)))) h

-- a cause within a later part of a run is one of the run
pub cause_earlier :
    (job : Option Asked) (held : List ℕ → Option (List ℕ)) (before middle now : List ℕ → ℕ) (a b : ℕ) (s : Status) → ((x : List ℕ) → before x ≤ middle x) → HasCause job held middle now a b s →
    HasCause job held before now a b s
cause_earlier job held before middle now a b statuses.Done up h = h
cause_earlier job held before middle now a b statuses.Usage up h = h
cause_earlier job held before middle now a b (statuses.BadInput n fault) up h = h
cause_earlier job held before middle now a b (statuses.Class n rule fault) up h = h
cause_earlier job held before middle now a b (statuses.TooMany limit) up h = h
cause_earlier job held before middle now a b statuses.TreeTooLarge up h = h
cause_earlier job held before middle now a b (statuses.ReadFault n) up h =
    name_map (file_at job n) (λ name. Rose (middle name) (now name)) (λ name. Rose (before name) (now name)) (λ name r. omega (arith, up name, r)) h
cause_earlier job held before middle now a b statuses.WriteFault up h = h
cause_earlier job held before middle now a b (statuses.TooLong n) up h = h
cause_earlier job held before middle now a b statuses.OutOfMemory up h = tt

-- before the first file there is none
pub before_first : (job : Option Asked) (held : List ℕ → Option (List ℕ)) → AreBefore job held 1
before_first None held m kind h e = absurd (cc e)
before_first (Some asked) held zero kind h e = absurd (cc e)
before_first (Some asked) held (suc m) kind h e = absurd (omega (arith, h))

pub some_kind : (a b : Kind) → (let o : Option Kind = Some a in o ≡ Some b) → a ≡ b
some_kind a b e = cc e

-- and one more file is of its kind
pub before_more :
    (job : Option Asked) (held : List ℕ → Option (List ℕ)) (n : ℕ) (kind : Kind) → AreBefore job held n → kind_at job n ≡ Some kind → IfSome (bytes_at held (file_at job n)) (IsOfKind (scale_by job) kind) →
    AreBefore job held (suc n)
before_more job held n kind before at h m k l e = elim (lower m n (omega (arith, l))) [
  | inl less ↦ before m k less e
  | inr same ↦
      let kinds : kind ≡ k = some_kind kind k (sym at ∙ ap (kind_at job) (sym same) ∙ e) in
      subst (λ z. IfSome (bytes_at held (file_at job m)) (IsOfKind (scale_by job) z)) kinds (subst (λ z. IfSome (bytes_at held (file_at job z)) (IsOfKind (scale_by job) kind)) (sym same) h)
]
  where
    lower : (m n : ℕ) → m ≤ n → (m < n) ⊎ (m ≡ n)
    lower m n h = grind arith

pub about_early : (file : ℕ) (s : Status) → IsAbout file s → IsEarly s
about_early file statuses.Done h = absurd h
about_early file statuses.Usage h = absurd h
about_early file (statuses.BadInput n fault) h = tt
about_early file (statuses.Class n rule fault) h = absurd h
about_early file (statuses.TooMany limit) h = tt
about_early file statuses.TreeTooLarge h = absurd h
about_early file (statuses.ReadFault n) h = tt
about_early file statuses.WriteFault h = absurd h
about_early file (statuses.TooLong n) h = tt
about_early file statuses.OutOfMemory h = tt

pub about_earlier : (job : Option Asked) (held : List ℕ → Option (List ℕ)) (file : ℕ) (s : Status) → IsAbout file s → AreBefore job held file → HasEarlier job held s
about_earlier job held file statuses.Done h b = tt
about_earlier job held file statuses.Usage h b = tt
about_earlier job held file (statuses.BadInput n fault) h b = subst (AreBefore job held) (sym h) b
about_earlier job held file (statuses.Class n rule fault) h b = absurd h
about_earlier job held file (statuses.TooMany limit) h b = absurd h
about_earlier job held file statuses.TreeTooLarge h b = absurd h
about_earlier job held file (statuses.ReadFault n) h b = subst (AreBefore job held) (sym h) b
about_earlier job held file statuses.WriteFault h b = tt
about_earlier job held file (statuses.TooLong n) h b = subst (AreBefore job held) (sym h) b
about_earlier job held file statuses.OutOfMemory h b = tt

-- where the first file was read, the files before the second are of their kinds
pub before_second :
    (asked : Asked) (held : List ℕ → Option (List ℕ)) (labels : List (List ℕ)) (kind other : Kind) (value : ValueOf kind) → kinds_of asked.task.operation ≡ kind ∷ (other ∷ []) →
    OfFile (Some asked) 1 (Told held (IsTextOf (scale_of asked.mode) labels kind value)) → AreBefore (Some asked) held 2
before_second asked held labels kind other value same h =
    before_more (Some asked) held 1 kind (before_first (Some asked) held) (ap (λ (ks : List Kind). slice_get ks 0) same)
    (if_some (bytes_at held (file_at (Some asked) 1)) (λ bytes t. (labels, value, t)) (told_some held (file_at (Some asked) 1) (IsTextOf (scale_of asked.mode) labels kind value) h))

-- the values of one file, and of two, over the last table of labels

pub one_file :
    (asked : Asked) (held : List ℕ → Option (List ℕ)) (labels : List (List ℕ)) (kind : Kind) (value : ValueOf kind) → AreDistinct labels →
    OfFile (Some asked) 1 (Told held (IsTextOf (scale_of asked.mode) labels kind value)) → AreTexts (scale_of asked.mode) labels (bytes_of asked held) (kind ∷ []) (value, tt)
one_file asked held labels kind value distinct h = record { distinct = distinct; texts = (told_some held (file_at (Some asked) 1) (IsTextOf (scale_of asked.mode) labels kind value) h, tt) }

pub two_files :
    (asked : Asked) (held later : List ℕ → Option (List ℕ)) (early labels : List (List ℕ)) (first second : Kind) (one : ValueOf first) (two : ValueOf second) → AreDistinct labels → Grows early labels →
    later ≡ held → OfFile (Some asked) 1 (Told held (IsTextOf (scale_of asked.mode) early first one)) → OfFile (Some asked) 2 (Told later (IsTextOf (scale_of asked.mode) labels second two)) →
    AreTexts (scale_of asked.mode) labels (bytes_of asked held) (first ∷ (second ∷ [])) (one, (two, tt))
two_files asked held later early labels first second one two distinct grows same h k =
    let own : Scale = scale_of asked.mode in
    let here : OfFile (Some asked) 2 (Told held (IsTextOf own labels second two)) = subst (λ (t : List ℕ → Option (List ℕ)). OfFile (Some asked) 2 (Told t (IsTextOf own labels second two))) same k in
    record {
      distinct = distinct;
      texts = (
        told_grown own early labels first one (bytes_of asked held 0) grows (told_some held (file_at (Some asked) 1) (IsTextOf own early first one) h),
        (told_some held (file_at (Some asked) 2) (IsTextOf own labels second two) here, tt),
      );
    }
