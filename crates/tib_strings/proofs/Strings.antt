-- What holds of the texts of strings.
use Rattle.std.proofs.Common.{◌≡◌, ◌⊎◌, ℕ, ◌<◌, ◌≤◌, inl, inr, List, [], ◌∷◌, length, map, refl, ap, sym, ◌∙◌, subst, arith, suc}
use Rattle.std.specs.Prelude.{Option, Some, None, Result, Ok, Err, slice_range, drop, ◌+◌}
use Rattle.std.proofs.lemmas.Option.{get_or_from_slice_get, slice_get_within}
use Rattle.tib_lex.specs.Line.{words_at}
use Rattle.tib_lex.specs.Lines.{lines_of}
use Rattle.tib_lex.specs.Lists.{Along, Each, Has, Distinct}
use Rattle.tib_lex.specs.FaultOf.{file_error_of}
use Rattle.tib_lex.specs.NextLine.{IsNextLine}
use Rattle.tib_lex.specs.declared.lines.Line.{Line}
use Rattle.tib_lex.specs.declared.token.Token.{Token}
use Rattle.tib_lex.specs.declared.fault.FileFault.{FileFault}
use Rattle.tib_lex.specs.declared.fault.LineError.{LineError}
use Rattle.tib_lex.specs.declared.fault.LineError.TheVariants as line_errors
use Rattle.tib_lex.specs.declared.fault.ReadError.{ReadError}
use Rattle.tib_lex.specs.declared.fault.ReadError.TheVariants as errors
use Rattle.tib_tree.specs.Grows.{AddsAll}
use Rattle.tib_tree.specs.Trees.{most_nodes}
use Rattle.tib_tree.specs.Written.{Item}
use Rattle.tib_grammar_file.proofs.OneGrammar.{number_same}
use Rattle.tib_grammar_file.proofs.PrintedStates.{gathered, all_added}
use Rattle.tib_grammar_file.proofs.SomeText.{numbered, all_distinct}
use Rattle.tib_strings.specs.Listed.{item_of, texts_of, IsNamed}
use Rattle.tib_strings.specs.StringText.{StringText, ReadsAsString, words_of_string}
use Rattle.tib_strings.specs.StringFaults.{IsFirstStringFault, IsStringCause}
use Rattle.tib_strings.specs.StringReading.{string_line, more_line, with_more, rest_from, unless, with_list, string_from, string_in}
use Rattle.tib_strings.specs.Found.{IsListed, IsSkipped, FoundString, IsStringFound, IsRest}
use Rattle.tib_strings.specs.StringLaws.{GivesStringFaults, TextsHaveNone, FirstIsOne, TextOrFault, TextsMeanOne, TextHasOne}
use Rattle.tib_strings.proofs.FileFacts.{FileHolds, file_holds, file_is}

pub faults_exact : GivesStringFaults
unfolding string_in
faults_exact bytes fault = (λ e. subst (λ r. FileHolds 1 (lines_of bytes) r) e (file_holds 1 (lines_of bytes)), λ h. file_is 1 (lines_of bytes) (Err fault) h)

-- as many labels as words
pub as_many : (labels : List (List ℕ)) (s : List ℕ) (is : List Item) → Along (IsNamed labels) s is → length s ≡ length is
as_many labels [] [] h = refl
as_many labels [] (i ∷ is) h = absurd h
as_many labels (f ∷ s) [] h = absurd h
as_many labels (f ∷ s) (i ∷ is) h = ap suc (as_many labels s is h.1)

text_read : (labels : List (List ℕ)) (bytes s : List ℕ) (text : StringText labels bytes s) → length s ≤ most_nodes → string_from 1 (lines_of bytes) ≡ Ok text.items
text_read labels bytes s text small = file_is 1 (lines_of bytes) (Ok text.items) (text.written, omega (arith, small, as_many labels s text.items text.words))

pub no_fault : TextsHaveNone
no_fault bytes fault h labels s (text, small) =
    let bad : (let o : Result (List Item) FileFault = Ok text.items in o ≡ Err fault) = sym (text_read labels bytes s text small) ∙ file_is 1 (lines_of bytes) (Err fault) h in
    cc

pub one_fault : FirstIsOne
one_fault bytes fault other h k =
    let same : (let o : Result (List Item) FileFault = Err fault in o ≡ Err other) = sym (file_is 1 (lines_of bytes) (Err fault) h) ∙ file_is 1 (lines_of bytes) (Err other) k in
    cc same

-- some string over a table that has the texts of the words
pub some_string : (labels : List (List ℕ)) (is : List Item) → ((t : List ℕ) → Has (texts_of is) t → Has labels t) → (s : List ℕ) × Along (IsNamed labels) s is
some_string labels [] h = ([], tt)
some_string labels (i ∷ is) h =
    let f = numbered labels i.text (h i.text (inl refl)) in
    let more = some_string labels is (λ t k. h t (inr k)) in
    (f.0 ∷ more.0, (f.1, more.1))

pub text_or_fault : TextOrFault
text_or_fault bytes = by (string_from 1 (lines_of bytes)) (file_holds 1 (lines_of bytes))
  where
    by : (r : Result (List Item) FileFault) → FileHolds 1 (lines_of bytes) r → ((labels : List (List ℕ)) × (s : List ℕ) × Distinct labels × ReadsAsString labels bytes s) ⊎ ((fault : FileFault) × IsFirstStringFault bytes fault)
    by (Ok is) h =
        let l = gathered [] (texts_of is) in
        let s = some_string l.0 is (all_added [] (texts_of is) l.0 l.1) in
        inl (l.0, s.0, all_distinct [] (texts_of is) l.0 l.1 tt, (record { items = is; written = h.0; words = s.1 }, omega (arith, h.1, as_many l.0 s.0 is s.1)))
    by (Err fault) h = inr (fault, h)

-- the texts of labels are those of the words
pub texts_are : (labels : List (List ℕ)) (s : List ℕ) (is : List Item) → Along (IsNamed labels) s is → words_of_string labels s ≡ texts_of is
texts_are labels [] [] h = refl
texts_are labels [] (i ∷ is) h = absurd h
texts_are labels (f ∷ s) [] h = absurd h
texts_are labels (f ∷ s) (i ∷ is) h = cc (get_or_from_slice_get labels f i.text [] h.0, texts_are labels s is h.1)

pub labels_below : (labels : List (List ℕ)) (s : List ℕ) (is : List Item) → Along (IsNamed labels) s is → Each (λ f. f < length labels) s
labels_below labels [] [] h = tt
labels_below labels [] (i ∷ is) h = absurd h
labels_below labels (f ∷ s) [] h = absurd h
labels_below labels (f ∷ s) (i ∷ is) h = (slice_get_within labels f i.text h.0, labels_below labels s is h.1)

items_once : (is js : List Item) (r : Result (List Item) FileFault) → r ≡ Ok is → r ≡ Ok js → is ≡ js
items_once is js r e f =
    let same : (let o : Result (List Item) FileFault = Ok is in o ≡ Ok js) = sym e ∙ f in
    cc same

pub one_text : TextsMeanOne
one_text labels others bytes s r (text, small) (other, few) =
    texts_are labels s text.items text.words
    ∙ ap texts_of (items_once text.items other.items (string_from 1 (lines_of bytes)) (text_read labels bytes s text small) (text_read others bytes r other few))
    ∙ sym (texts_are others r other.items other.words)

string_once : (labels : List (List ℕ)) (s r : List ℕ) (is : List Item) → Distinct labels → Along (IsNamed labels) s is → Along (IsNamed labels) r is → s ≡ r
string_once labels [] [] [] d h k = refl
string_once labels (f ∷ s) r [] d h k = absurd h
string_once labels [] (g ∷ r) [] d h k = absurd k
string_once labels [] r (i ∷ is) d h k = absurd h
string_once labels (f ∷ s) [] (i ∷ is) d h k = absurd k
string_once labels (f ∷ s) (g ∷ r) (i ∷ is) d h k = cc (number_same labels f g i.text d h.0 k.0, string_once labels s r is d h.1 k.1)

pub one_string : TextHasOne
one_string labels bytes s r d (text, small) (other, few) =
    let same : text.items ≡ other.items = items_once text.items other.items (string_from 1 (lines_of bytes)) (text_read labels bytes s text small) (text_read labels bytes r other few) in
    string_once labels s r text.items d text.words (subst (λ (is : List Item). Along (IsNamed labels) r is) (sym same) other.words)

-- what a reader answers
module _ (bytes : List ℕ) (n at : ℕ) (line : Line) (text : List ℕ) (error : LineError) (r : ReadError) (next : IsNextLine bytes n at line) (cut : text ≡ slice_range bytes line.start line.end) (told : r ≡ file_error_of n error) where
  pub none_found : (ts : List Token) → IsListed text ts (Err error) → string_from n (lines_of (drop at bytes)) ≡ string_from 1 (lines_of bytes) → IsStringFound bytes ts (Err r)
  none_found ts h left = subst (λ (x : ReadError). IsStringFound bytes ts (Err x)) (sym told) (by error h)
    where
      by : (e : LineError) → IsListed text ts (Err e) → IsStringFound bytes ts (Err (file_error_of n e))
      by (line_errors.Fault kind) h =
          sym left ∙ ap (string_from n) next.lines
          ∙ ap (λ o. with_list n o (rest_from (suc n) (lines_of (drop line.next bytes))) (string_from (suc n) (lines_of (drop line.next bytes)))) (subst (λ (l : List ℕ). string_line l ≡ Err kind) cut h)
      by line_errors.OutOfMemory h = tt

  pub rest_fails : (wanted : Option FileFault) → IsSkipped text (Err error) → rest_from n (lines_of (drop at bytes)) ≡ wanted → IsRest wanted (Err r)
  rest_fails wanted h left = subst (λ (x : ReadError). IsRest wanted (Err x)) (sym told) (by error h)
    where
      by : (e : LineError) → IsSkipped text (Err e) → IsRest wanted (Err (file_error_of n e))
      by (line_errors.Fault kind) h =
          sym left ∙ ap (rest_from n) next.lines
          ∙ ap (λ o. with_more n o (rest_from (suc n) (lines_of (drop line.next bytes)))) (subst (λ (l : List ℕ). more_line l ≡ Some kind) cut h)
      by line_errors.OutOfMemory h = tt

pub cause_found : (bytes : List ℕ) (ts : List Token) (error : ReadError) → IsStringFound bytes ts (Err error) → IsStringCause bytes error
cause_found bytes ts (errors.Fault fault) h = subst (λ r. FileHolds 1 (lines_of bytes) r) h (file_holds 1 (lines_of bytes))
cause_found bytes ts errors.OutOfMemory h = tt

pub cause_behind : (bytes : List ℕ) (ts : List Token) (line : Line) (error : ReadError) → FoundString bytes ts line → IsRest (rest_from (line.number + 1) (lines_of (drop line.next bytes))) (Err error) → IsStringCause bytes error
cause_behind bytes ts line (errors.Fault fault) found h =
    subst (λ r. FileHolds 1 (lines_of bytes) r) (found.read ∙ ap (λ o. unless o (map item_of (words_at (slice_range bytes line.start line.end) ts))) h) (file_holds 1 (lines_of bytes))
cause_behind bytes ts line errors.OutOfMemory found h = tt

module _ (labels : List (List ℕ)) (bytes : List ℕ) (ts : List Token) (line : Line) (text : List ℕ) (tokens : List Token) (s : List ℕ) (cut : text ≡ slice_range bytes line.start line.end) (same : tokens ≡ ts) (words : Along (IsNamed labels) s (map item_of (words_at text tokens))) where
  named : Along (IsNamed labels) s (map item_of (words_at (slice_range bytes line.start line.end) ts))
  named =
      subst (λ (us : List Token). Along (IsNamed labels) s (map item_of (words_at (slice_range bytes line.start line.end) us))) same
      (subst (λ (l : List ℕ). Along (IsNamed labels) s (map item_of (words_at l tokens))) cut words)

  pub text_found : FoundString bytes ts line → rest_from (line.number + 1) (lines_of (drop line.next bytes)) ≡ None → ReadsAsString labels bytes s
  text_found found rest =
      let is : List Item = map item_of (words_at (slice_range bytes line.start line.end) ts) in
      let held : FileHolds 1 (lines_of bytes) (Ok is) = subst (λ r. FileHolds 1 (lines_of bytes) r) (found.read ∙ ap (λ o. unless o is) rest) (file_holds 1 (lines_of bytes)) in
      (record { items = is; written = held.0; words = named }, omega (arith, held.1, as_many labels s is named))

  pub words_added : (old : List (List ℕ)) → AddsAll old (texts_of (map item_of (words_at text tokens))) labels → AddsAll old (words_of_string labels s) labels
  words_added old h = subst (λ (texts : List (List ℕ)). AddsAll old texts labels) (sym (texts_are labels s (map item_of (words_at text tokens)) words)) h
