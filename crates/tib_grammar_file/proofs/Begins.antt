-- How a grammar file begins.
use Rattle.tib_cost.specs.declared.Scale.{Scale}
use Rattle.std.proofs.Common.{◌≡◌, ℕ, ◌+◌, ◌<◌, ◌≤◌, List, [], ◌∷◌, length, drop, refl, ap, sym, ◌∙◌, subst, arith, Option, Bool, true, false, suc}
use Rattle.std.specs.Prelude.{slice_range, Some, None, Result, Ok, Err}
use Rattle.std.proofs.lemmas.List.{drop_all}
use Rattle.tib_lex.specs.Line.{words_of, words_at}
use Rattle.tib_lex.specs.Lines.{lines_of}
use Rattle.tib_lex.specs.NextLine.{IsNextLine}
use Rattle.tib_lex.specs.FaultOf.{file_error_of}
use Rattle.tib_lex.specs.declared.lines.Line.{Line}
use Rattle.tib_lex.specs.declared.token.Token.{Token}
use Rattle.tib_lex.specs.declared.fault.FaultKind.TheVariants as kinds
use Rattle.tib_lex.specs.declared.fault.ReadError.{ReadError}
use Rattle.tib_lex.specs.declared.fault.ReadError.TheVariants as errors
use Rattle.tib_lex.specs.declared.fault.LineError.{LineError}
use Rattle.tib_lex.specs.declared.fault.LineError.TheVariants as line_errors
use Rattle.tib_tree.specs.Grows.{Adds}
use Rattle.tib_grammar_file.specs.Rule.{has_dot}
use Rattle.tib_grammar_file.specs.RawFile.{IsRawFile}
use Rattle.tib_grammar_file.specs.RawGrammar.{IsStartLine, Began, IsBegun, ReadsRaw}
use Rattle.tib_grammar_file.specs.Reading.{fault_at, start_of, plain_start, start_line, started, with_start, rules_from, grammar_from, grammar_of}
use Rattle.tib_grammar_file.specs.declared.raw.RawRules.{RawRules}
use Rattle.tib_grammar_file.specs.declared.start.Begun.{Begun}

pub bad_start : (line : List ℕ) → words_of line ≡ None → start_line line ≡ Err kinds.BadToken
unfolding start_line
bad_start line e = rw e refl

pub blank_start : (line : List ℕ) (ts : List Token) → words_of line ≡ Some (words_at line ts) → length ts ≡ 0 → start_line line ≡ Ok None
unfolding start_line
blank_start line [] e h = rw e refl
blank_start line (t ∷ ts) e h = absurd (omega arith)

pub some_start : (line : List ℕ) (ts us : List Token) (o : Option (List ℕ)) → words_of line ≡ Some (words_at line ts) → 0 < length ts → us ≡ ts → start_of (words_at line us) ≡ o → start_line line ≡ plain_start o
unfolding start_line
some_start line [] us o w h e s = absurd (omega arith)
some_start line (t ∷ ts) us o w h e s = let k : start_of (words_at line (t ∷ ts)) ≡ o = ap (λ (xs : List Token). start_of (words_at line xs)) (sym e) ∙ s in rw (w, k) refl

pub dotted_start : (text : List ℕ) → has_dot text ≡ true → plain_start (Some text) ≡ Err kinds.BadRule
dotted_start text e = rw e refl

pub plainly : (text : List ℕ) → has_dot text ≡ false → plain_start (Some text) ≡ Ok (Some text)
plainly text e = rw e refl

line_there : (scale : Scale) (n at : ℕ) (bytes : List ℕ) (line : Line) → IsNextLine bytes n at line → grammar_from scale n (lines_of (drop at bytes)) ≡ with_start n (start_line (slice_range bytes line.start line.end)) (rules_from scale (n + 1) (lines_of (drop line.next bytes))) (grammar_from scale (n + 1) (lines_of (drop line.next bytes)))
line_there scale n at bytes line is =
    let m : suc n ≡ n + 1 = omega arith in
    ap (grammar_from scale n) is.lines
    ∙ ap (λ (k : ℕ). with_start n (start_line (slice_range bytes line.start line.end)) (rules_from scale k (lines_of (drop line.next bytes))) (grammar_from scale k (lines_of (drop line.next bytes)))) m

-- no start so far
pub record Waits (before names : List (List ℕ)) (bytes : List ℕ) (at n : ℕ) : Type 0 where
  pub read : (scale : Scale) → grammar_from scale n (lines_of (drop at bytes)) ≡ grammar_from scale 1 (lines_of bytes)
  pub same : names ≡ before

pub waits_on : (z a b : List (List ℕ)) (bytes : List ℕ) (at n : ℕ) (line : Line) (text : List ℕ) (found : Bool) → IsNextLine bytes n at line → text ≡ slice_range bytes line.start line.end → found ≡ false → IsStartLine a b (Ok found) (start_line text) → Waits z a bytes at n → Waits z b bytes line.next (n + 1)
waits_on z a b bytes at n line text true next is e h w = cc
waits_on z a b bytes at n line text false next is e (none, same) w = record {
  read = λ scale. sym (line_there scale n at bytes line next ∙ ap (λ r. with_start n r (rules_from scale (n + 1) (lines_of (drop line.next bytes))) (grammar_from scale (n + 1) (lines_of (drop line.next bytes)))) (sym (ap start_line is) ∙ none)) ∙ w.read scale;
  same = same ∙ w.same;
}

pub begins : (z a b : List (List ℕ)) (bytes : List ℕ) (at n : ℕ) (line : Line) (text : List ℕ) (found : Bool) → IsNextLine bytes n at line → text ≡ slice_range bytes line.start line.end → found ≡ true → n ≤ at + 1 → IsStartLine a b (Ok found) (start_line text) → Waits z a bytes at n → Began bytes z b (record { at = line.next; number = n + 1 })
begins z a b bytes at n line text false next is e few h w = cc
begins z a b bytes at n line text true next is e few (start, some, adds) w = record {
  start = start;
  read = λ scale. sym (w.read scale) ∙ line_there scale n at bytes line next ∙ ap (λ r. with_start n r (rules_from scale (n + 1) (lines_of (drop line.next bytes))) (grammar_from scale (n + 1) (lines_of (drop line.next bytes)))) (sym (ap start_line is) ∙ some);
  adds = subst (λ (x : List (List ℕ)). Adds x start b) w.same adds;
  place = next.ahead;
  few = omega (arith, few, next.goes_on);
}

failed_as : (z a b : List (List ℕ)) (bytes : List ℕ) (at n m : ℕ) (line : Line) (text : List ℕ) (error : LineError) → n ≡ m → IsNextLine bytes n at line → text ≡ slice_range bytes line.start line.end → IsStartLine a b (Err error) (start_line text) → Waits z a bytes at n → IsBegun bytes z b (Err (file_error_of m error))
failed_as z a b bytes at n m line text (line_errors.Fault kind) e next is h w =
    λ scale. sym (w.read scale) ∙ line_there scale n at bytes line next
    ∙ ap (λ r. with_start n r (rules_from scale (n + 1) (lines_of (drop line.next bytes))) (grammar_from scale (n + 1) (lines_of (drop line.next bytes)))) (sym (ap start_line is) ∙ h)
    ∙ ap (λ (k : ℕ). Err (fault_at k kind)) e
failed_as z a b bytes at n m line text line_errors.OutOfMemory e next is h w = tt

pub start_failed : (z a b : List (List ℕ)) (bytes : List ℕ) (at n : ℕ) (line : Line) (text : List ℕ) (error : LineError) (r : ReadError) → IsNextLine bytes n at line → text ≡ slice_range bytes line.start line.end → r ≡ file_error_of line.number error → IsStartLine a b (Err error) (start_line text) → Waits z a bytes at n → IsBegun bytes z b (Err r)
start_failed z a b bytes at n line text error r next is e h w =
    subst (λ (x : ReadError). IsBegun bytes z b (Err x)) (sym e) (failed_as z a b bytes at n line.number line text error (sym next.numbered) next is h w)

pub no_start : (z a : List (List ℕ)) (bytes : List ℕ) (at n : ℕ) → at ≡ length bytes → Waits z a bytes at n → (scale : Scale) → grammar_from scale 1 (lines_of bytes) ≡ Err (fault_at 1 kinds.NoStart)
no_start z a bytes at n h w = λ scale. sym (w.read scale) ∙ ap (λ (x : List ℕ). grammar_from scale n (lines_of x)) (drop_all at bytes (omega arith))

-- the whole file
pub whole_read : (scale : Scale) (z a b t : List (List ℕ)) (bytes : List ℕ) (begun : Begun) (r : Result RawRules ReadError) → Began bytes z a begun → IsRawFile a b t r (rules_from scale begun.number (lines_of (drop begun.at bytes))) → ReadsRaw z b t r (grammar_of scale bytes)
unfolding grammar_of
whole_read scale z a b t bytes begun (Ok raw) g (lines, read, are, added) = record {
  start = g.start;
  lines = lines;
  read = g.read scale ∙ ap (started g.start) read;
  rules_are = are;
  added = (a, g.adds, added);
}
whole_read scale z a b t bytes begun (Err (errors.Fault fault)) g h = g.read scale ∙ ap (started g.start) h
whole_read scale z a b t bytes begun (Err errors.OutOfMemory) g h = tt

pub whole_failed : (scale : Scale) (z a t : List (List ℕ)) (bytes : List ℕ) (error : ReadError) → IsBegun bytes z a (Err error) → ReadsRaw z a t (Err error) (grammar_of scale bytes)
unfolding grammar_of
whole_failed scale z a t bytes (errors.Fault fault) h = h scale
whole_failed scale z a t bytes errors.OutOfMemory h = tt
