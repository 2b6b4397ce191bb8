-- A job that can be answered is answered, unless memory was refused, where no count rose.
use Rattle.std.specs.Prelude.{◌≡◌, ℕ, ◌⊎◌, List, Option, Some, None, IfSome, refl}
use Rattle.std.proofs.Common.{arith, subst, inl, inr}
use Rattle.tib_lex.specs.declared.fault.FileFault.{FileFault}
use Rattle.tib_command.specs.Jobs.{Asked}
use Rattle.tib_operations.specs.declared.status.Status.{Status}
use Rattle.tib_operations.specs.declared.status.Status.TheVariants as statuses
use Rattle.tib_job.specs.Kinds.{Kind, kind_at, file_at, OfName, OfFile, Told, IsOfKind, HasFault, KindsHaveNoFault}
use Rattle.tib_operations.specs.FileTexts.{IsShort, IsLong}
use Rattle.tib_job.specs.Causes.{HasCause, HasTooMany, scale_of, bytes_of}
use Rattle.tib_job.specs.Answers.{IsAnswerable, IsCalm, IsComplete, WithinIsNotTooMuch}
use Rattle.tib_job.proofs.Faults.{told_both}
use Rattle.tib_job.proofs.OfJobs.{class_apart}

named : (o : Option (List ℕ)) (P : List ℕ → Type 0) → OfName o P → (name : List ℕ) × (o ≡ Some name) × P name
named None P h = absurd h
named (Some name) P h = (name, refl, h)

module _ (no_fault : KindsHaveNoFault) (apart : WithinIsNotTooMuch) where
  module _ (asked : Asked) (held : List ℕ → Option (List ℕ)) (given : IsAnswerable asked held) where
    -- what fails of each short file fails of none
    refuted : (n : ℕ) (P : List ℕ → Type 0) → ((x : List ℕ) → IsShort x → P x → ⊥) → OfFile (Some asked) n (Told held P) → ⊥
    refuted n P f h =
        let m = named (file_at (Some asked) n) (Told held P) h in
        both (held m.0) m.2 (given.short n m.0 m.1)
      where
        both : (o : Option (List ℕ)) → IfSome o P → OfName o IsShort → ⊥
        both None a b = b
        both (Some x) a b = f x b a

    -- no file has a fault
    faultless : (n : ℕ) (fault : FileFault) → OfFile (Some asked) n (Told held (λ bytes. IsShort bytes × HasFault (scale_of asked.mode) (kind_at (Some asked) n) bytes fault)) → ⊥
    faultless n fault h = go (kind_at (Some asked) n) refl
      where
        has : (k : Option Kind) → kind_at (Some asked) n ≡ k → OfFile (Some asked) n (Told held (λ bytes. IsShort bytes × HasFault (scale_of asked.mode) k bytes fault))
        has k e = subst (λ z. OfFile (Some asked) n (Told held (λ bytes. IsShort bytes × HasFault (scale_of asked.mode) z bytes fault))) e h

        go : (k : Option Kind) → kind_at (Some asked) n ≡ k → ⊥
        go None e = refuted n (λ bytes. IsShort bytes × HasFault (scale_of asked.mode) None bytes fault) (λ x s p. p.1) (has None e)
        go (Some kind) e =
            let b = told_both held (file_at (Some asked) n) (λ bytes. IsShort bytes × HasFault (scale_of asked.mode) (Some kind) bytes fault) (IsOfKind (scale_of asked.mode) kind) (has (Some kind) e) (given.kinds n kind e) in
            no_fault (scale_of asked.mode) kind b.0 fault b.1.1 b.2

    -- none is too long
    not_long : (n : ℕ) → OfFile (Some asked) n (Told held IsLong) → ⊥
    not_long n h = refuted n IsLong (λ x s p. omega (arith, s, p)) h

    -- and what is made is within the limit
    not_large : (limit : ℕ) → HasTooMany (Some asked) held limit → ⊥
    not_large limit h = apart asked held given.within h.1

    pub answered :
        (before now : List ℕ → ℕ) (out_before out_now : ℕ) (s : Status) → IsCalm asked before now out_before out_now → HasCause (Some asked) held before now out_before out_now s →
        (s ≡ statuses.Done) ⊎ (s ≡ statuses.OutOfMemory)
    answered before now out_before out_now statuses.Done calm h = inl refl
    answered before now out_before out_now statuses.Usage calm h = absurd (cc h)
    answered before now out_before out_now (statuses.BadInput file fault) calm h = absurd (faultless file fault h)
    answered before now out_before out_now (statuses.Class file rule fault) calm h = absurd (class_apart asked.task.operation (scale_of asked.mode) (bytes_of asked held) file (rule, fault) given.class h)
    answered before now out_before out_now (statuses.TooMany limit) calm h = absurd (not_large limit h)
    answered before now out_before out_now statuses.TreeTooLarge calm h = absurd (given.small h)
    answered before now out_before out_now (statuses.ReadFault file) calm h = absurd (calm.files file h)
    answered before now out_before out_now statuses.WriteFault calm h = absurd (calm.out h.1)
    answered before now out_before out_now (statuses.TooLong file) calm h = absurd (not_long file h)
    answered before now out_before out_now statuses.OutOfMemory calm h = inr refl

  -- the clause of a run
  pub complete :
      (job : Option Asked) (held : List ℕ → Option (List ℕ)) (before now : List ℕ → ℕ) (out_before out_now : ℕ) (s : Status) → HasCause job held before now out_before out_now s →
      IsComplete job held before now out_before out_now s
  complete None held before now out_before out_now s h = tt
  complete (Some asked) held before now out_before out_now s h = λ given calm. answered asked held given before now out_before out_now s calm h
