-- How a transducer file begins, whatever is read of a rule line.
use Rattle.std.proofs.Common.{◌≡◌, ℕ, ◌+◌, ◌≤◌, List, length, drop, ap, sym, ◌∙◌, subst, arith, Bool, true, false, suc, Option}
use Rattle.std.specs.Prelude.{slice_range, Result, Ok, Err}
use Rattle.std.proofs.lemmas.List.{drop_all}
use Rattle.tib_lex.specs.Lines.{lines_of, each_line}
use Rattle.tib_lex.specs.NextLine.{IsNextLine}
use Rattle.tib_lex.specs.FaultOf.{file_error_of}
use Rattle.tib_lex.specs.declared.lines.Line.{Line}
use Rattle.tib_lex.specs.declared.fault.FaultKind.{FaultKind}
use Rattle.tib_lex.specs.declared.fault.FaultKind.TheVariants as kinds
use Rattle.tib_lex.specs.declared.fault.ReadError.{ReadError}
use Rattle.tib_lex.specs.declared.fault.LineError.{LineError}
use Rattle.tib_lex.specs.declared.fault.LineError.TheVariants as line_errors
use Rattle.tib_tree.specs.Grows.{Adds}
use Rattle.tib_grammar_file.specs.RawGrammar.{IsStartLine}
use Rattle.tib_grammar_file.specs.Reading.{fault_at, start_line, with_start}
use Rattle.tib_transducer_file.specs.Begins.{Began, IsBegun}
use Rattle.tib_transducer_file.specs.Reading.{file_from}
use Rattle.tib_transducer_file.specs.Rule.{RuleLine}

line_there : (rule : List ℕ → Result (Option RuleLine) FaultKind) (n at : ℕ) (bytes : List ℕ) (line : Line) → IsNextLine bytes n at line → file_from rule n (lines_of (drop at bytes)) ≡ with_start n (start_line (slice_range bytes line.start line.end)) (each_line rule (n + 1) (lines_of (drop line.next bytes))) (file_from rule (n + 1) (lines_of (drop line.next bytes)))
line_there rule n at bytes line is =
    let m : suc n ≡ n + 1 = omega arith in
    ap (file_from rule n) is.lines
    ∙ ap (λ (k : ℕ). with_start n (start_line (slice_range bytes line.start line.end)) (each_line rule k (lines_of (drop line.next bytes))) (file_from rule k (lines_of (drop line.next bytes)))) m

-- no start so far
pub record Waits (before names : List (List ℕ)) (bytes : List ℕ) (at n : ℕ) : Type 0 where
  pub read : (rule : List ℕ → Result (Option RuleLine) FaultKind) → file_from rule n (lines_of (drop at bytes)) ≡ file_from rule 1 (lines_of bytes)
  pub same : names ≡ before

pub waits_on : (z a b : List (List ℕ)) (bytes : List ℕ) (at n : ℕ) (line : Line) (text : List ℕ) (found : Bool) → IsNextLine bytes n at line → text ≡ slice_range bytes line.start line.end → found ≡ false → IsStartLine a b (Ok found) (start_line text) → Waits z a bytes at n → Waits z b bytes line.next (n + 1)
waits_on z a b bytes at n line text true next is e h w = cc
waits_on z a b bytes at n line text false next is e (none, same) w = record {
  read = λ rule. sym (line_there rule n at bytes line next ∙ ap (λ r. with_start n r (each_line rule (n + 1) (lines_of (drop line.next bytes))) (file_from rule (n + 1) (lines_of (drop line.next bytes)))) (sym (ap start_line is) ∙ none)) ∙ w.read rule;
  same = same ∙ w.same;
}

pub begins : (z a b : List (List ℕ)) (bytes : List ℕ) (at n : ℕ) (line : Line) (text : List ℕ) (found : Bool) → IsNextLine bytes n at line → text ≡ slice_range bytes line.start line.end → found ≡ true → n ≤ at + 1 → IsStartLine a b (Ok found) (start_line text) → Waits z a bytes at n → Began bytes z b (record { at = line.next; number = n + 1 })
begins z a b bytes at n line text false next is e few h w = cc
begins z a b bytes at n line text true next is e few (start, some, adds) w = record {
  start = start;
  read = λ rule. sym (w.read rule) ∙ line_there rule n at bytes line next ∙ ap (λ r. with_start n r (each_line rule (n + 1) (lines_of (drop line.next bytes))) (file_from rule (n + 1) (lines_of (drop line.next bytes)))) (sym (ap start_line is) ∙ some);
  adds = subst (λ (x : List (List ℕ)). Adds x start b) w.same adds;
  some = omega (arith, next.goes_on);
  place = next.ahead;
  few = omega (arith, few, next.goes_on);
}

failed_as : (z a b : List (List ℕ)) (bytes : List ℕ) (at n m : ℕ) (line : Line) (text : List ℕ) (error : LineError) → n ≡ m → IsNextLine bytes n at line → text ≡ slice_range bytes line.start line.end → IsStartLine a b (Err error) (start_line text) → Waits z a bytes at n → IsBegun bytes z b (Err (file_error_of m error))
failed_as z a b bytes at n m line text (line_errors.Fault kind) e next is h w =
    λ rule. sym (w.read rule) ∙ line_there rule n at bytes line next
    ∙ ap (λ r. with_start n r (each_line rule (n + 1) (lines_of (drop line.next bytes))) (file_from rule (n + 1) (lines_of (drop line.next bytes)))) (sym (ap start_line is) ∙ h)
    ∙ ap (λ (k : ℕ). Err (fault_at k kind)) e
failed_as z a b bytes at n m line text line_errors.OutOfMemory e next is h w = tt

pub start_failed : (z a b : List (List ℕ)) (bytes : List ℕ) (at n : ℕ) (line : Line) (text : List ℕ) (error : LineError) (r : ReadError) → IsNextLine bytes n at line → text ≡ slice_range bytes line.start line.end → r ≡ file_error_of line.number error → IsStartLine a b (Err error) (start_line text) → Waits z a bytes at n → IsBegun bytes z b (Err r)
start_failed z a b bytes at n line text error r next is e h w =
    subst (λ (x : ReadError). IsBegun bytes z b (Err x)) (sym e) (failed_as z a b bytes at n line.number line text error (sym next.numbered) next is h w)

pub no_start : (z a : List (List ℕ)) (bytes : List ℕ) (at n : ℕ) → at ≡ length bytes → Waits z a bytes at n → (rule : List ℕ → Result (Option RuleLine) FaultKind) → file_from rule 1 (lines_of bytes) ≡ Err (fault_at 1 kinds.NoStart)
no_start z a bytes at n h w = λ rule. sym (w.read rule) ∙ ap (λ (x : List ℕ). file_from rule n (lines_of x)) (drop_all at bytes (omega arith))
