-- The function that says what a grammar file holds, and its first fault.
use Rattle.tib_cost.specs.declared.Scale.{Scale}
use Rattle.std.proofs.Common.{◌≡◌, ℕ, inl, inr, List, [], ◌∷◌, ap, sym, ◌∙◌, subst, Option, suc}
use Rattle.std.specs.Prelude.{Some, None, Result, Ok, Err}
use Rattle.tib_lex.proofs.FirstFaults.{fault_found, fault_is}
use Rattle.tib_lex.specs.FirstFault.{FirstFault}
use Rattle.tib_lex.specs.Lines.{lines_of}
use Rattle.tib_lex.specs.declared.fault.FaultKind.{FaultKind}
use Rattle.tib_lex.specs.declared.fault.FaultKind.TheVariants as kinds
use Rattle.tib_lex.specs.declared.fault.FileFault.{FileFault}
use Rattle.tib_lex.specs.declared.fault.ReadError.{ReadError}
use Rattle.tib_lex.specs.declared.fault.ReadError.TheVariants as errors
use Rattle.tib_lex.proofs.Results.{err_same}
use Rattle.tib_grammar_file.specs.Rule.{rule_line}
use Rattle.tib_grammar_file.specs.RawGrammar.{ReadsRaw}
use Rattle.tib_grammar_file.specs.Reading.{fault_at, start_line, started, with_start, rules_from, grammar_from, grammar_of}
use Rattle.tib_grammar_file.specs.Faults.{HasStartFault, FirstFaultFromStart, HasRuleFault, HoldsRule, IsFirstFault, IsCause}
use Rattle.tib_grammar_file.proofs.FaultyLines.{rule_says, fault_read, held_read, StartSays, start_says, start_fault_read}
use Rattle.tib_grammar_file.proofs.RowsRead.{start_forth, no_start_forth}

-- the rules
rules_found : (scale : Scale) (n : ℕ) (lines : List (List ℕ)) (fault : FileFault) → rules_from scale n lines ≡ Err fault → FirstFault (HoldsRule scale) (HasRuleFault scale) n lines fault
rules_found scale n lines fault e = fault_found (rule_line scale) (HoldsRule scale) (HasRuleFault scale) (rule_says scale) n lines fault e

rules_are : (scale : Scale) (n : ℕ) (lines : List (List ℕ)) (fault : FileFault) → FirstFault (HoldsRule scale) (HasRuleFault scale) n lines fault → rules_from scale n lines ≡ Err fault
rules_are scale n lines fault h = fault_is (rule_line scale) (HoldsRule scale) (HasRuleFault scale) (held_read scale) (fault_read scale) n lines fault h

-- a fault at a line has its number and its kind
pub same_fault : (n : ℕ) (kind : FaultKind) (fault : FileFault) → fault_at n kind ≡ fault → (fault.line ≡ n) × (kind ≡ fault.kind)
same_fault n kind fault e = (sym (ap (λ (f : FileFault). f.line) e), ap (λ (f : FileFault). f.kind) e)

-- where a start before rules is a fault, the rules are
pub started_err : {R : Type 0} (start : List ℕ) (rules : Result (List R) FileFault) (fault : FileFault) → started start rules ≡ Err fault → rules ≡ Err fault
started_err {R} start (Ok rules) fault e = let bad : Result (List ℕ × List R) FileFault = Ok (start, rules) in let f : bad ≡ Err fault = e in absurd (cc)
started_err start (Err f) fault e = cc

abbrev First : Scale → ℕ → List (List ℕ) → FileFault → Type 0
First scale n lines fault = FirstFaultFromStart (HoldsRule scale) (HasRuleFault scale) n lines fault

-- a fault of a file is the first, where those of its rules and of what follows its first line are
pub start_fault :
    {R : Type 0} (Holds : List ℕ → Type 0) (HasFault : List ℕ → FaultKind → Type 0) (n : ℕ) (line : List ℕ) (lines : List (List ℕ)) (fault : FileFault)
    (r : Result (Option (List ℕ)) FaultKind) (rules : Result (List R) FileFault) (more : Result (List ℕ × List R) FileFault) →
    StartSays line r → (rules ≡ Err fault → FirstFault Holds HasFault (suc n) lines fault) → (more ≡ Err fault → FirstFaultFromStart Holds HasFault (suc n) lines fault) →
    with_start n r rules more ≡ Err fault → FirstFaultFromStart Holds HasFault n (line ∷ lines) fault
start_fault Holds HasFault n line lines fault (Ok None) rules more h behind ih e = inl (h, ih e)
start_fault Holds HasFault n line lines fault (Ok (Some start)) rules more h behind ih e = inr (inr (h, behind (started_err start rules fault e)))
start_fault Holds HasFault n line lines fault (Err kind) rules more h behind ih e =
    let s = same_fault n kind fault (cc) in
    inr (inl (s.0, subst (λ (k : FaultKind). HasStartFault line k) s.1 h))

found : (scale : Scale) (n : ℕ) (lines : List (List ℕ)) (fault : FileFault) → grammar_from scale n lines ≡ Err fault → First scale n lines fault
found scale n [] fault e = let s = same_fault 1 kinds.NoStart fault (cc) in (s.0, sym s.1)
found scale n (line ∷ lines) fault e =
    start_fault (HoldsRule scale) (HasRuleFault scale) n line lines fault (start_line line) (rules_from scale (suc n) lines) (grammar_from scale (suc n) lines)
    (start_says line) (rules_found scale (suc n) lines fault) (found scale (suc n) lines fault) e

there : (scale : Scale) (n : ℕ) (lines : List (List ℕ)) (fault : FileFault) → First scale n lines fault → grammar_from scale n lines ≡ Err fault
there scale n [] fault h = ap (λ (k : ℕ). Err (fault_at k kinds.NoStart)) (sym h.0) ∙ ap (λ (k : FaultKind). Err (fault_at fault.line k)) (sym h.1)
there scale n (line ∷ lines) fault (inl (blank, more)) =
    ap (λ r. with_start n r (rules_from scale (suc n) lines) (grammar_from scale (suc n) lines)) (no_start_forth line blank) ∙ there scale (suc n) lines fault more
there scale n (line ∷ lines) fault (inr (inl (l, h))) =
    ap (λ r. with_start n r (rules_from scale (suc n) lines) (grammar_from scale (suc n) lines)) (start_fault_read line fault.kind h) ∙ ap (λ (k : ℕ). Err (fault_at k fault.kind)) (sym l)
there scale n (line ∷ lines) fault (inr (inr (h, more))) =
    ap (λ r. with_start n r (rules_from scale (suc n) lines) (grammar_from scale (suc n) lines)) (start_forth line h.start h.has h.plain)
    ∙ ap (started h.start) (rules_are scale (suc n) lines fault more)

pub faults_exact : (scale : Scale) (bytes : List ℕ) (fault : FileFault) → (grammar_of scale bytes ≡ Err fault → IsFirstFault scale bytes fault) × (IsFirstFault scale bytes fault → grammar_of scale bytes ≡ Err fault)
unfolding grammar_of
faults_exact scale bytes fault = (found scale 1 (lines_of bytes) fault, there scale 1 (lines_of bytes) fault)

pub fault_once : (scale : Scale) (bytes : List ℕ) (fault other : FileFault) → IsFirstFault scale bytes fault → IsFirstFault scale bytes other → fault ≡ other
fault_once scale bytes fault other h k =
    err_same fault other (sym ((faults_exact scale bytes fault).1 h) ∙ (faults_exact scale bytes other).1 k)

-- what the reader returns
pub cause_of : (w v : Scale) (before names texts : List (List ℕ)) (bytes : List ℕ) (error : ReadError) → v ≡ w → ReadsRaw before names texts (Err error) (grammar_of v bytes) → IsCause w bytes error
cause_of w v before names texts bytes (errors.Fault fault) same h = (faults_exact w bytes fault).0 (subst (λ (x : Scale). grammar_of x bytes ≡ Err fault) same h)
cause_of w v before names texts bytes errors.OutOfMemory same h = tt
