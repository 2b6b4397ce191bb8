-- What is read of a string file is what it holds.
use Rattle.std.proofs.Common.{◌≡◌, ℕ, ◌≤◌, inl, inr, List, [], ◌∷◌, length, refl, ap, sym, ◌∙◌, Option, suc}
use Rattle.std.specs.Prelude.{Some, None, Result, Ok, Err}
use Rattle.tib_lex.specs.Lists.{Each}
use Rattle.tib_lex.specs.declared.fault.FaultKind.{FaultKind}
use Rattle.tib_lex.specs.declared.fault.FaultKind.TheVariants as kinds
use Rattle.tib_lex.specs.declared.fault.FileFault.{FileFault}
use Rattle.tib_tree.specs.Trees.{most_nodes}
use Rattle.tib_tree.specs.Written.{Item}
use Rattle.tib_grammar_file.specs.Reading.{fault_at}
use Rattle.tib_strings.specs.StringText.{IsBlank, HasString}
use Rattle.tib_strings.specs.StringFaults.{LineHolds, FaultBehind, FaultFrom}
use Rattle.tib_strings.specs.StringReading.{string_line, more_line, with_more, rest_from, unless, with_list, string_from}
use Rattle.tib_strings.proofs.LineFacts.{line_holds, line_is, MoreHolds, more_holds, more_is}

-- a fault, by its line and its kind
pub fault_same : (fault : FileFault) (n : ℕ) (kind : FaultKind) → fault.line ≡ n → fault.kind ≡ kind → fault_at n kind ≡ fault
fault_same fault n kind l k =
    let line : n ≡ fault.line = sym l in
    let what : kind ≡ fault.kind = sym k in
    λ i. record { line = line i; kind = what i }

-- lines after that of the string
abbrev pub RestHolds : ℕ → List (List ℕ) → Option FileFault → Type 0
RestHolds n lines None = Each IsBlank lines
RestHolds n lines (Some fault) = FaultBehind n lines fault

rest_at : (n : ℕ) (line : List ℕ) (lines : List (List ℕ)) (o : Option FaultKind) (more : Option FileFault) → MoreHolds line o → RestHolds (suc n) lines more → RestHolds n (line ∷ lines) (with_more n o more)
rest_at n line lines (Some kind) more h k = inl (refl, h)
rest_at n line lines None None h k = (h, k)
rest_at n line lines None (Some fault) h k = inr (h, k)

rest_holds : (n : ℕ) (lines : List (List ℕ)) → RestHolds n lines (rest_from n lines)
rest_holds n [] = tt
rest_holds n (line ∷ lines) = rest_at n line lines (more_line line) (rest_from (suc n) lines) (more_holds line) (rest_holds (suc n) lines)

rest_is : (n : ℕ) (lines : List (List ℕ)) (o : Option FileFault) → RestHolds n lines o → rest_from n lines ≡ o
rest_is n [] None h = refl
rest_is n [] (Some fault) h = absurd h
rest_is n (line ∷ lines) None h = ap (λ o. with_more n o (rest_from (suc n) lines)) (more_is line None h.0) ∙ rest_is (suc n) lines None h.1
rest_is n (line ∷ lines) (Some fault) (inl (l, h)) =
    ap (λ o. with_more n o (rest_from (suc n) lines)) (more_is line (Some fault.kind) h) ∙ ap (λ (f : FileFault). Some f) (fault_same fault n fault.kind l refl)
rest_is n (line ∷ lines) (Some fault) (inr (blank, h)) = ap (λ o. with_more n o (rest_from (suc n) lines)) (more_is line None blank) ∙ rest_is (suc n) lines (Some fault) h

-- all lines
abbrev pub FileHolds : ℕ → List (List ℕ) → Result (List Item) FileFault → Type 0
FileHolds n lines (Ok items) = HasString lines items × (length items ≤ most_nodes)
FileHolds n lines (Err fault) = FaultFrom n lines fault

file_at : (n : ℕ) (line : List ℕ) (lines : List (List ℕ)) (r : Result (Option (List Item)) FaultKind) (rest : Option FileFault) (more : Result (List Item) FileFault) → LineHolds line r → RestHolds (suc n) lines rest → FileHolds (suc n) lines more → FileHolds n (line ∷ lines) (with_list n r rest more)
file_at n line lines (Err kind) rest more h k m = inl (refl, h)
file_at n line lines (Ok None) rest (Ok items) h k m = (inl (h, m.0), m.1)
file_at n line lines (Ok None) rest (Err fault) h k m = inr (inl (h, m))
file_at n line lines (Ok (Some items)) None more h k m = (inr (h.0, k), h.1)
file_at n line lines (Ok (Some items)) (Some fault) more h k m = inr (inr ((items, h), k))

pub file_holds : (n : ℕ) (lines : List (List ℕ)) → FileHolds n lines (string_from n lines)
file_holds n [] = (refl, refl)
file_holds n (line ∷ lines) = file_at n line lines (string_line line) (rest_from (suc n) lines) (string_from (suc n) lines) (line_holds line) (rest_holds (suc n) lines) (file_holds (suc n) lines)

pub file_is : (n : ℕ) (lines : List (List ℕ)) (r : Result (List Item) FileFault) → FileHolds n lines r → string_from n lines ≡ r
file_is n [] (Ok items) h = absurd h.0
file_is n [] (Err fault) h = ap (λ (f : FileFault). Err f) (fault_same fault 1 kinds.BadString h.0 h.1)
file_is n (line ∷ lines) (Ok items) (inl (blank, h), small) =
    ap (λ r. with_list n r (rest_from (suc n) lines) (string_from (suc n) lines)) (line_is line (Ok None) blank) ∙ file_is (suc n) lines (Ok items) (h, small)
file_is n (line ∷ lines) (Ok items) (inr (list, blank), small) =
    ap (λ r. with_list n r (rest_from (suc n) lines) (string_from (suc n) lines)) (line_is line (Ok (Some items)) (list, small))
    ∙ ap (λ o. unless o items) (rest_is (suc n) lines None blank)
file_is n (line ∷ lines) (Err fault) (inl (l, h)) =
    ap (λ r. with_list n r (rest_from (suc n) lines) (string_from (suc n) lines)) (line_is line (Err fault.kind) h)
    ∙ ap (λ (f : FileFault). Err f) (fault_same fault n fault.kind l refl)
file_is n (line ∷ lines) (Err fault) (inr (inl (blank, h))) =
    ap (λ r. with_list n r (rest_from (suc n) lines) (string_from (suc n) lines)) (line_is line (Ok None) blank) ∙ file_is (suc n) lines (Err fault) h
file_is n (line ∷ lines) (Err fault) (inr (inr (list, h))) =
    ap (λ r. with_list n r (rest_from (suc n) lines) (string_from (suc n) lines)) (line_is line (Ok (Some list.0)) list.1)
    ∙ ap (λ o. unless o list.0) (rest_is (suc n) lines (Some fault) h)
