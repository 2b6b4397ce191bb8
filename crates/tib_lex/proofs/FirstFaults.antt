-- A reader of lines gives the first fault, where each line is read as what it holds or as its
-- fault.
use Rattle.std.proofs.Common.{◌≡◌, ℕ, inl, inr, List, [], ◌∷◌, ◌++◌, ap, sym, ◌∙◌, suc, Option, subst}
use Rattle.std.specs.Prelude.{Some, None, Result, Ok, Err}
use Rattle.tib_lex.specs.Lines.{front, with_line, each_line}
use Rattle.tib_lex.specs.FirstFault.{FirstFault}
use Rattle.tib_lex.specs.declared.fault.FaultKind.{FaultKind}
use Rattle.tib_lex.specs.declared.fault.FileFault.{FileFault}

-- what is read from a line is what it holds, or its fault
abbrev pub Fits : {X : Type 0} → (List ℕ → Type 0) → (List ℕ → FaultKind → Type 0) → List ℕ → Result X FaultKind → Type 0
Fits Holds HasFault line (Ok held) = Holds line
Fits Holds HasFault line (Err kind) = HasFault line kind

-- a fault after some values is the fault of what follows them
pub front_err : {X F : Type 0} (done : List X) (r : Result (List X) F) (fault : F) → front done r ≡ Err fault → r ≡ Err fault
front_err done (Ok more) fault e = let bad : Ok (done ++ more) ≡ Err fault = e in absurd (cc)
front_err done (Err f) fault e = e

fault_at : {X : Type 0} (Holds : List ℕ → Type 0) (HasFault : List ℕ → FaultKind → Type 0) (n : ℕ) (line : List ℕ) (lines : List (List ℕ)) (fault : FileFault) (r : Result (Option X) FaultKind) (more : Result (List X) FileFault) → Fits Holds HasFault line r → (more ≡ Err fault → FirstFault Holds HasFault (suc n) lines fault) → with_line n r more ≡ Err fault → FirstFault Holds HasFault n (line ∷ lines) fault
fault_at Holds HasFault n line lines fault (Ok None) more h ih e = inr (h, ih e)
fault_at Holds HasFault n line lines fault (Ok (Some x)) more h ih e = inr (h, ih (front_err (x ∷ []) more fault e))
fault_at Holds HasFault n line lines fault (Err kind) more h ih e =
    let same : record { line = n; kind = kind } ≡ fault = cc in
    let k : kind ≡ fault.kind = ap (λ (f : FileFault). f.kind) same in
    let l : fault.line ≡ n = sym (ap (λ (f : FileFault). f.line) same) in
    inl (l, subst (λ (x : FaultKind). HasFault line x) k h)

-- a fault that is read is the first
pub fault_found : {X : Type 0} (read : List ℕ → Result (Option X) FaultKind) (Holds : List ℕ → Type 0) (HasFault : List ℕ → FaultKind → Type 0) → ((line : List ℕ) → Fits Holds HasFault line (read line)) → (n : ℕ) (lines : List (List ℕ)) (fault : FileFault) → each_line read n lines ≡ Err fault → FirstFault Holds HasFault n lines fault
fault_found read Holds HasFault fits n [] fault e = absurd (cc)
fault_found read Holds HasFault fits n (line ∷ lines) fault e = fault_at Holds HasFault n line lines fault (read line) (each_line read (suc n) lines) (fits line) (fault_found read Holds HasFault fits (suc n) lines fault) e

skipped : {X : Type 0} (n : ℕ) (r : Result (Option X) FaultKind) (more : Result (List X) FileFault) (fault : FileFault) → (held : Option X) × (r ≡ Ok held) → more ≡ Err fault → with_line n r more ≡ Err fault
skipped n r more fault (None, e) f = ap (λ x. with_line n x more) e ∙ f
skipped n r more fault (Some x, e) f = ap (λ y. with_line n y more) e ∙ ap (front (x ∷ [])) f

-- and the first fault is read
pub fault_is : {X : Type 0} (read : List ℕ → Result (Option X) FaultKind) (Holds : List ℕ → Type 0) (HasFault : List ℕ → FaultKind → Type 0) → ((line : List ℕ) → Holds line → (held : Option X) × (read line ≡ Ok held)) → ((line : List ℕ) (kind : FaultKind) → HasFault line kind → read line ≡ Err kind) → (n : ℕ) (lines : List (List ℕ)) (fault : FileFault) → FirstFault Holds HasFault n lines fault → each_line read n lines ≡ Err fault
fault_is read Holds HasFault held bad n [] fault h = absurd h
fault_is read Holds HasFault held bad n (line ∷ lines) fault (inl (l, h)) =
    ap (λ r. with_line n r (each_line read (suc n) lines)) (bad line fault.kind h) ∙ ap (λ (k : ℕ). Err (record { line = k; kind = fault.kind })) (sym l)
fault_is read Holds HasFault held bad n (line ∷ lines) fault (inr (h, more)) = skipped n (read line) (each_line read (suc n) lines) fault (held line h) (fault_is read Holds HasFault held bad (suc n) lines fault more)
