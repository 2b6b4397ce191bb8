-- A job whose files are known ends with one status in runs in which no count rises, unless memory
-- was refused.
use Rattle.tib_cost.specs.declared.Scale.{Scale}
use Rattle.std.specs.Prelude.{◌≡◌, ℕ, ◌+◌, ◌<◌, ◌⊎◌, List, [], ◌∷◌, length, Option, Some, None, IfSome, IsSome, slice_get, refl}
use Rattle.std.proofs.Common.{arith, ap, sym, ◌∙◌, subst, zero, suc, inl, inr}
use Rattle.tib_lex.specs.declared.fault.FileFault.{FileFault}
use Rattle.tib_command.specs.Jobs.{Asked}
use Rattle.tib_operations.specs.declared.status.Status.{Status}
use Rattle.tib_operations.specs.declared.status.Status.TheVariants as statuses
use Rattle.tib_job.specs.Kinds.{Kind, of_grammar, of_support, of_trees, of_one_tree, of_transducer, of_string_transducer, of_string, kinds_of, kind_at, file_at, bytes_at, OfName, OfFile, Told, IsOfKind, HasFault}
use Rattle.tib_operations.specs.FileTexts.{IsShort, IsLong}
use Rattle.tib_job.specs.Causes.{IsInClass, IsOutOfClass, IsTooMuch, IsTooLarge, IsWithin, scale_of, bytes_of}
use Rattle.tib_job.specs.Answers.{IsAnswer, AreTold, EndsCalmly, AreOneStatus}
use Rattle.tib_job.proofs.Faults.{faulty_kind, one_fault}
use Rattle.tib_job.proofs.FileValues.{kinds_told}
use Rattle.tib_job.proofs.OfJobs.{answer_apart, answer_lists, answer_inside, outside_apart, outside_once, inside_told, within_apart, within_told}
use Rattle.tib_job.proofs.Reached.{some_kind, told_some}
use Rattle.tib_lex.proofs.Lists.{some_same}

-- places in a list

slice_below : {A : Type 0} (xs : List A) (n : ℕ) (x : A) → slice_get xs n ≡ Some x → n < length xs
slice_below [] n x e = absurd (cc e)
slice_below (y ∷ xs) zero x e = omega arith
slice_below (y ∷ xs) (suc n) x e = let b : n < length xs = slice_below xs n x e in omega (arith, b)

slice_some : {A : Type 0} (xs : List A) (n : ℕ) → n < length xs → (x : A) × (slice_get xs n ≡ Some x)
slice_some [] n h = absurd (omega arith)
slice_some (x ∷ xs) zero h = (x, refl)
slice_some (x ∷ xs) (suc n) h = slice_some xs n (omega arith)

-- a file of its kind is not too long
kind_short : (scale : Scale) (kind : Kind) (x : List ℕ) → IsOfKind scale kind x → IsShort x
kind_short scale of_grammar x is = is.2.0
kind_short scale of_support x is = is.2.0
kind_short scale of_trees x is = is.2.0
kind_short scale of_one_tree x is = is.2.0
kind_short scale of_transducer x is = is.2.0
kind_short scale of_string_transducer x is = is.2.0
kind_short scale of_string x is = is.2.0

holds : (o : Option (List ℕ)) (x : List ℕ) (P : List ℕ → Type 0) → o ≡ Some x → IfSome o P → P x
holds o x P e h = let there : IfSome (Some x) P = subst (λ z. IfSome z P) e h in there

some_of : (o : Option (List ℕ)) (P : List ℕ → Type 0) → IsSome o → IfSome o P → (x : List ℕ) × (o ≡ Some x) × P x
some_of None P s h = absurd (cc s)
some_of (Some x) P s h = (x, refl, h)

named : (o : Option (List ℕ)) (P : List ℕ → Type 0) → OfName o P → (name : List ℕ) × (o ≡ Some name)
named None P h = absurd h
named (Some name) P h = (name, refl)

in_order : (m n : ℕ) → (m < n) ⊎ ((n < m) ⊎ (m ≡ n))
in_order m n = grind arith

module _ (asked : Asked) (held : List ℕ → Option (List ℕ)) where
  abbrev scale : Scale
  scale = scale_of asked.mode

  abbrev bytes : ℕ → Option (List ℕ)
  bytes n = bytes_at held (file_at (Some asked) n)

  abbrev IsSound : ℕ → Type 0
  IsSound n = (kind : Kind) → kind_at (Some asked) n ≡ Some kind → IfSome (bytes n) (IsOfKind scale kind)

  -- the n-th file is not of its kind, and those before it are
  record Stops (n : ℕ) : Type 0 where
    before : (m : ℕ) → m < n → IsSound m
    kind : Kind
    is : kind_at (Some asked) n ≡ Some kind
    text : List ℕ
    has : bytes n ≡ Some text
    bad : IsOfKind scale kind text → ⊥

  -- what a status says in a run in which no count rises
  abbrev Says : Status → Type 0
  Says statuses.Done = ((n : ℕ) → IsSound n) × ((text : List ℕ) × IsAnswer asked held text)
  Says statuses.Usage = ⊥
  Says (statuses.BadInput n fault) = (s : Stops n) × IsShort s.text × HasFault scale (Some s.kind) s.text fault
  Says (statuses.Class file rule fault) = ((n : ℕ) → IsSound n) × IsOutOfClass asked held file (rule, fault)
  Says (statuses.TooMany limit) = ((n : ℕ) → IsSound n) × (asked.limit ≡ limit) × IsTooMuch asked held × IsInClass asked held
  Says statuses.TreeTooLarge = ((n : ℕ) → IsSound n) × IsWithin asked held × IsInClass asked held × IsTooLarge asked held
  Says (statuses.ReadFault n) = ⊥
  Says statuses.WriteFault = ⊥
  Says (statuses.TooLong n) = (s : Stops n) × (IsLong s.text)
  Says statuses.OutOfMemory = Unit {0}

  never_stops : ((n : ℕ) → IsSound n) → (n : ℕ) → Stops n → ⊥
  never_stops sound n s = s.bad (holds (bytes n) s.text (IsOfKind scale s.kind) s.has (sound n s.kind s.is))

  before_stop : (m n : ℕ) → Stops m → Stops n → m < n → ⊥
  before_stop m n s t h = s.bad (holds (bytes m) s.text (IsOfKind scale s.kind) s.has (t.before m h s.kind s.is))

  one_stop : (m n : ℕ) → Stops m → Stops n → m ≡ n
  one_stop m n s t = elim (in_order m n) [
    | inl h ↦ absurd (before_stop m n s t h)
    | inr r ↦ elim r [ inl h ↦ absurd (before_stop n m t s h) | inr e ↦ e ]
  ]

  one_text : (m n : ℕ) (s : Stops m) (t : Stops n) → s.text ≡ t.text
  one_text m n s t = some_same s.text t.text (sym s.has ∙ ap bytes (one_stop m n s t) ∙ t.has)

  same_fault : (m n : ℕ) (a b : FileFault) (s : Stops m) (t : Stops n) → HasFault scale (Some s.kind) s.text a → HasFault scale (Some t.kind) t.text b → a ≡ b
  same_fault m n a b s t h k =
      let kind : s.kind ≡ t.kind = some_kind s.kind t.kind (sym s.is ∙ ap (kind_at (Some asked)) (one_stop m n s t) ∙ t.is) in
      one_fault scale t.kind t.text a b (subst (λ z. HasFault scale (Some z) t.text a) kind (subst (λ z. HasFault scale (Some s.kind) z a) (one_text m n s t) h)) k

  short_and_long : (m n : ℕ) (s : Stops m) (t : Stops n) → IsShort s.text → IsLong t.text → ⊥
  short_and_long m n s t h k = omega (arith, h, k, ap length (one_text m n s t))

  module _ (told : AreTold asked held) where
    one_of : (s t : Status) → Says s → Says t → AreOneStatus asked.task.operation s t
    one_of statuses.Done statuses.Done a b = inl refl
    one_of statuses.Done statuses.Usage a b = absurd b
    one_of statuses.Done (statuses.BadInput n f) a b = absurd (never_stops a.0 n b.0)
    one_of statuses.Done (statuses.Class f r x) a b = absurd (outside_apart asked held f (r, x) (answer_inside asked held a.1.0 told a.1.1) b.1)
    one_of statuses.Done (statuses.TooMany l) a b = absurd (answer_apart asked held a.1.0 told a.1.1 b.2)
    one_of statuses.Done statuses.TreeTooLarge a b = inr (inr (inr (answer_lists asked held a.1.0 told a.1.1 b.3, inl (refl, refl))))
    one_of statuses.Done (statuses.ReadFault n) a b = absurd b
    one_of statuses.Done statuses.WriteFault a b = absurd b
    one_of statuses.Done (statuses.TooLong n) a b = absurd (never_stops a.0 n b.0)
    one_of statuses.Done statuses.OutOfMemory a b = inr (inr (inl refl))
    one_of statuses.Usage t a b = absurd a
    one_of (statuses.BadInput m e) statuses.Done a b = absurd (never_stops b.0 m a.0)
    one_of (statuses.BadInput m e) statuses.Usage a b = absurd b
    one_of (statuses.BadInput m e) (statuses.BadInput n f) a b = inl (λ i. statuses.BadInput (one_stop m n a.0 b.0 i) (same_fault m n e f a.0 b.0 a.2 b.2 i))
    one_of (statuses.BadInput m e) (statuses.Class f r x) a b = absurd (never_stops b.0 m a.0)
    one_of (statuses.BadInput m e) (statuses.TooMany l) a b = absurd (never_stops b.0 m a.0)
    one_of (statuses.BadInput m e) statuses.TreeTooLarge a b = absurd (never_stops b.0 m a.0)
    one_of (statuses.BadInput m e) (statuses.ReadFault n) a b = absurd b
    one_of (statuses.BadInput m e) statuses.WriteFault a b = absurd b
    one_of (statuses.BadInput m e) (statuses.TooLong n) a b = absurd (short_and_long m n a.0 b.0 a.1 b.1)
    one_of (statuses.BadInput m e) statuses.OutOfMemory a b = inr (inr (inl refl))
    one_of (statuses.Class g q y) statuses.Done a b = absurd (outside_apart asked held g (q, y) (answer_inside asked held b.1.0 told b.1.1) a.1)
    one_of (statuses.Class g q y) statuses.Usage a b = absurd b
    one_of (statuses.Class g q y) (statuses.BadInput n f) a b = absurd (never_stops a.0 n b.0)
    one_of (statuses.Class g q y) (statuses.Class f r x) a b =
        let same = outside_once asked held told g f (q, y) (r, x) a.1 b.1 in
        inl (λ i. statuses.Class (same.0 i) (same.1 i) (same.2 i))
    one_of (statuses.Class g q y) (statuses.TooMany l) a b = absurd (outside_apart asked held g (q, y) b.3 a.1)
    one_of (statuses.Class g q y) statuses.TreeTooLarge a b = absurd (outside_apart asked held g (q, y) b.2 a.1)
    one_of (statuses.Class g q y) (statuses.ReadFault n) a b = absurd b
    one_of (statuses.Class g q y) statuses.WriteFault a b = absurd b
    one_of (statuses.Class g q y) (statuses.TooLong n) a b = absurd (never_stops a.0 n b.0)
    one_of (statuses.Class g q y) statuses.OutOfMemory a b = inr (inr (inl refl))
    one_of (statuses.TooMany k) statuses.Done a b = absurd (answer_apart asked held b.1.0 told b.1.1 a.2)
    one_of (statuses.TooMany k) statuses.Usage a b = absurd b
    one_of (statuses.TooMany k) (statuses.BadInput n f) a b = absurd (never_stops a.0 n b.0)
    one_of (statuses.TooMany k) (statuses.Class f r x) a b = absurd (outside_apart asked held f (r, x) a.3 b.1)
    one_of (statuses.TooMany k) (statuses.TooMany l) a b = inl (ap (λ (z : ℕ). statuses.TooMany z) (sym a.1 ∙ b.1))
    one_of (statuses.TooMany k) statuses.TreeTooLarge a b = absurd (within_apart asked held b.1 a.2)
    one_of (statuses.TooMany k) (statuses.ReadFault n) a b = absurd b
    one_of (statuses.TooMany k) statuses.WriteFault a b = absurd b
    one_of (statuses.TooMany k) (statuses.TooLong n) a b = absurd (never_stops a.0 n b.0)
    one_of (statuses.TooMany k) statuses.OutOfMemory a b = inr (inr (inl refl))
    one_of statuses.TreeTooLarge statuses.Done a b = inr (inr (inr (answer_lists asked held b.1.0 told b.1.1 a.3, inr (refl, refl))))
    one_of statuses.TreeTooLarge statuses.Usage a b = absurd b
    one_of statuses.TreeTooLarge (statuses.BadInput n f) a b = absurd (never_stops a.0 n b.0)
    one_of statuses.TreeTooLarge (statuses.Class f r x) a b = absurd (outside_apart asked held f (r, x) a.2 b.1)
    one_of statuses.TreeTooLarge (statuses.TooMany l) a b = absurd (within_apart asked held a.1 b.2)
    one_of statuses.TreeTooLarge statuses.TreeTooLarge a b = inl refl
    one_of statuses.TreeTooLarge (statuses.ReadFault n) a b = absurd b
    one_of statuses.TreeTooLarge statuses.WriteFault a b = absurd b
    one_of statuses.TreeTooLarge (statuses.TooLong n) a b = absurd (never_stops a.0 n b.0)
    one_of statuses.TreeTooLarge statuses.OutOfMemory a b = inr (inr (inl refl))
    one_of (statuses.ReadFault m) t a b = absurd a
    one_of statuses.WriteFault t a b = absurd a
    one_of (statuses.TooLong m) statuses.Done a b = absurd (never_stops b.0 m a.0)
    one_of (statuses.TooLong m) statuses.Usage a b = absurd b
    one_of (statuses.TooLong m) (statuses.BadInput n f) a b = absurd (short_and_long n m b.0 a.0 b.1 a.1)
    one_of (statuses.TooLong m) (statuses.Class f r x) a b = absurd (never_stops b.0 m a.0)
    one_of (statuses.TooLong m) (statuses.TooMany l) a b = absurd (never_stops b.0 m a.0)
    one_of (statuses.TooLong m) statuses.TreeTooLarge a b = absurd (never_stops b.0 m a.0)
    one_of (statuses.TooLong m) (statuses.ReadFault n) a b = absurd b
    one_of (statuses.TooLong m) statuses.WriteFault a b = absurd b
    one_of (statuses.TooLong m) (statuses.TooLong n) a b = inl (ap (λ (z : ℕ). statuses.TooLong z) (one_stop m n a.0 b.0))
    one_of (statuses.TooLong m) statuses.OutOfMemory a b = inr (inr (inl refl))
    one_of statuses.OutOfMemory t a b = inr (inl refl)

    -- the bytes of a file, with its kind
    module _ (as_many : length asked.task.files ≡ length (kinds_of asked.task.operation)) where
      has_kind : (n : ℕ) (name : List ℕ) → file_at (Some asked) n ≡ Some name → (kind : Kind) × (kind_at (Some asked) n ≡ Some kind)
      has_kind zero name e = absurd (cc e)
      has_kind (suc n) name e = slice_some (kinds_of asked.task.operation) n (omega (arith, as_many, slice_below asked.task.files n name e))

      record HasBytes (n : ℕ) (P : List ℕ → Type 0) : Type 0 where
        kind : Kind
        is : kind_at (Some asked) n ≡ Some kind
        text : List ℕ
        has : bytes n ≡ Some text
        given : P text

      told_of : (n : ℕ) (P : List ℕ → Type 0) → OfFile (Some asked) n (Told held P) → HasBytes n P
      told_of n P h =
          let name = named (file_at (Some asked) n) (Told held P) h in
          let k = has_kind n name.0 name.1 in
          let b = some_of (bytes n) P (told n k.0 k.1) (told_some held (file_at (Some asked) n) P h) in
          record { kind = k.0; is = k.1; text = b.0; has = b.1; given = b.2 }

      all_before : (n : ℕ) (kind : Kind) → kind_at (Some asked) n ≡ Some kind → n < length (kinds_of asked.task.operation) + 1
      all_before zero kind e = absurd (cc e)
      all_before (suc n) kind e = let b = slice_below (kinds_of asked.task.operation) n kind e in omega (arith, b)

      all_sound : (text : List ℕ) → IsAnswer asked held text → (n : ℕ) → IsSound n
      all_sound text a zero kind e = absurd (cc e)
      all_sound text a (suc n) kind e = kinds_told scale a.labels (kinds_of asked.task.operation) (bytes_of asked held) a.values a.texts.texts n kind e

      says : (s : Status) → EndsCalmly asked held s → Says s
      says statuses.Done e = let t = e.text refl in (all_sound t.0 t.1, t)
      says statuses.Usage e = let never : (let o : Option Asked = Some asked in o ≡ None) = e.cause in absurd (cc never)
      says (statuses.BadInput n fault) e =
          let b = told_of n (λ x. IsShort x × HasFault scale (kind_at (Some asked) n) x fault) e.cause in
          let f : HasFault scale (Some b.kind) b.text fault = subst (λ k. HasFault scale k b.text fault) b.is b.given.1 in (
            record { before = λ m h kind is. e.earlier m kind h is; kind = b.kind; is = b.is; text = b.text; has = b.has; bad = λ k. faulty_kind scale b.kind b.text fault f k },
            b.given.0,
            f,
          )
      says (statuses.Class file rule fault) e = (λ n kind is. e.earlier n kind (all_before n kind is) is, e.cause)
      says (statuses.TooMany limit) e = (λ n kind is. e.earlier.0 n kind (all_before n kind is) is, e.cause.0, e.cause.1, inside_told asked held told e.earlier.1)
      says statuses.TreeTooLarge e = (λ n kind is. e.earlier.0 n kind (all_before n kind is) is, within_told asked held told e.earlier.2, inside_told asked held told e.earlier.1, e.cause)
      says (statuses.ReadFault n) e = e.calm.files n e.cause
      says statuses.WriteFault e = e.calm.out e.cause.1
      says (statuses.TooLong n) e =
          let b = told_of n IsLong e.cause in (
            record { before = λ m h kind is. e.earlier m kind h is; kind = b.kind; is = b.is; text = b.text; has = b.has; bad = λ k. omega (arith, b.given, kind_short scale b.kind b.text k) },
            b.given,
          )
      says statuses.OutOfMemory e = tt

      pub one_status : (s t : Status) → EndsCalmly asked held s → EndsCalmly asked held t → AreOneStatus asked.task.operation s t
      one_status s t a b = one_of s t (says s a) (says t b)
