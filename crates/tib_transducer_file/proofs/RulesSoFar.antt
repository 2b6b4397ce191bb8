-- How the rules of a file are read, whatever they are: they stand for lines in larger tables too.
use Rattle.std.proofs.Common.{◌≡◌, ℕ, ◌+◌, ◌≤◌, inl, inr, List, [], ◌∷◌, ◌++◌, length, drop, refl, ap, sym, ◌∙◌, subst, arith, append_assoc, append-nil, Option}
use Rattle.std.specs.Prelude.{slice_range, Some, None, Result, Ok, Err}
use Rattle.std.proofs.lemmas.List.{length-append}
use Rattle.std.proofs.lemmas.Grind.{flat_map-append}
use Rattle.tib_lex.specs.Lines.{lines_of, front, each_line}
use Rattle.tib_lex.specs.NextLine.{IsNextLine}
use Rattle.tib_lex.specs.FaultOf.{file_error_of}
use Rattle.tib_lex.specs.Lists.{Along}
use Rattle.tib_lex.specs.declared.lines.Line.{Line}
use Rattle.tib_lex.specs.declared.fault.FaultKind.{FaultKind}
use Rattle.tib_lex.specs.declared.fault.FileFault.{FileFault}
use Rattle.tib_lex.specs.declared.fault.ReadError.{ReadError}
use Rattle.tib_lex.specs.declared.fault.LineError.{LineError}
use Rattle.tib_lex.specs.declared.fault.LineError.TheVariants as line_errors
use Rattle.tib_lex.proofs.LinesRead.{front_none, front_more, none_left}
use Rattle.tib_lex.proofs.Alongs.{along_more}
use Rattle.tib_tree.specs.Grows.{Grows, AddsAll}
use Rattle.tib_grammar_file.proofs.Alongs.{along_changes}
use Rattle.tib_grammar_file.proofs.RawRead.{step}
use Rattle.tib_transducer_file.specs.Rule.{RuleLine, state_of}
use Rattle.tib_transducer_file.specs.Value.{states_in, states_of}
use Rattle.tib_transducer_file.specs.Added.{labels_of, labels_in}
use Rattle.tib_transducer_file.specs.Built.{AddsLine, AreFileRules}
use Rattle.tib_transducer_file.proofs.SidesRead.{adds_append}

states_append : (xs : List RuleLine) (x : RuleLine) → states_of (xs ++ x ∷ []) ≡ states_of xs ++ (state_of x.parts ∷ states_in x.parts.right)
states_append [] x = ap (λ (ss : List (List ℕ)). state_of x.parts ∷ ss) (append-nil (states_in x.parts.right))
states_append (y ∷ xs) x =
    ap (λ (ss : List (List ℕ)). state_of y.parts ∷ (states_in y.parts.right ++ ss)) (states_append xs x)
    ∙ ap (λ (ss : List (List ℕ)). state_of y.parts ∷ ss) (sym (append_assoc (states_in y.parts.right) (states_of xs) (state_of x.parts ∷ states_in x.parts.right)))

-- the labels of one line more
labels_append : (xs : List RuleLine) (x : RuleLine) → labels_in (xs ++ x ∷ []) ≡ labels_in xs ++ labels_of x.parts
labels_append xs x = flat_map-append (λ (line : RuleLine). labels_of line.parts) xs (x ∷ []) ∙ ap (λ (ts : List (List ℕ)). labels_in xs ++ ts) (append-nil (labels_of x.parts))

-- what was read so far
pub record SoFar {R : Type 0} (Is : List (List ℕ) → List (List ℕ) → R → RuleLine → Type 0) (before names held labels : List (List ℕ)) (rules : List R) (left wanted : Result (List RuleLine) FileFault) : Type 0 where
  pub done : List RuleLine
  pub rules_are : Along (Is names labels) rules done
  pub added : AddsAll before (states_of done) names
  pub texts : AddsAll held (labels_in done) labels
  pub same : front done left ≡ wanted

module _ {R : Type 0} (Is : List (List ℕ) → List (List ℕ) → R → RuleLine → Type 0) (grows : (n m a b : List (List ℕ)) → Grows n m → Grows a b → (rule : R) (line : RuleLine) → Is n a rule line → Is m b rule line) where
  -- none has been read
  pub starts : (names labels : List (List ℕ)) (rules : List R) (wanted : Result (List RuleLine) FileFault) → rules ≡ [] → SoFar Is names names labels labels rules wanted wanted
  starts names labels rules wanted e = record {
    done = [];
    rules_are = subst (λ (rs : List R). Along (Is names labels) rs []) (sym e) tt;
    added = refl;
    texts = refl;
    same = front_none wanted;
  }

  -- one more line
  pub goes : (one : List ℕ → Result (Option RuleLine) FaultKind) (z a b y t u : List (List ℕ)) (old now : List R) (n at : ℕ) (line : Line) (bytes : List ℕ) (wanted : Result (List RuleLine) FileFault) → IsNextLine bytes n at line → Grows a b → Grows t u → AddsLine Is a b t u old now (Ok tt) (one (slice_range bytes line.start line.end)) → SoFar Is z a y t old (each_line one n (lines_of (drop at bytes))) wanted → SoFar Is z b y u now (each_line one (n + 1) (lines_of (drop line.next bytes))) wanted
  goes one z a b y t u old now n at line bytes wanted next g h (inl (none, names, labels, same)) so = record {
    done = so.done;
    rules_are = subst (λ (rs : List R). Along (Is b u) rs so.done) (sym same) (along_changes (Is a t) (Is b u) old so.done (grows a b t u g h) so.rules_are);
    added = subst (λ (x : List (List ℕ)). AddsAll z (states_of so.done) x) (sym names) so.added;
    texts = subst (λ (x : List (List ℕ)). AddsAll y (labels_in so.done) x) (sym labels) so.texts;
    same = step one wanted so.done n at bytes line (Ok None) next none so.same;
  }
  goes one z a b y t u old now n at line bytes wanted next g h (inr (rule, some, adds)) so = record {
    done = so.done ++ rule ∷ [];
    rules_are = subst (λ (rs : List R). Along (Is b u) rs (so.done ++ rule ∷ [])) (sym adds.last) (along_more (Is b u) old so.done adds.rule rule (along_changes (Is a t) (Is b u) old so.done (grows a b t u g h) so.rules_are) adds.is);
    added = subst (λ (ss : List (List ℕ)). AddsAll z ss b) (sym (states_append so.done rule)) (adds_append z a b (states_of so.done) (state_of rule.parts ∷ states_in rule.parts.right) so.added adds.adds);
    texts = subst (λ (ss : List (List ℕ)). AddsAll y ss u) (sym (labels_append so.done rule)) (adds_append y t u (labels_in so.done) (labels_of rule.parts) so.texts adds.texts);
    same = sym (front_more so.done rule (each_line one (n + 1) (lines_of (drop line.next bytes)))) ∙ step one wanted so.done n at bytes line (Ok (Some rule)) next some so.same;
  }

  -- a line has one rule at most
  pub one_more : (a b t u : List (List ℕ)) (old now : List R) (wanted : Result (Option RuleLine) FaultKind) → AddsLine Is a b t u old now (Ok tt) wanted → length now ≤ length old + 1
  one_more a b t u old now wanted (inl (none, names, labels, same)) = omega (arith, ap length same)
  one_more a b t u old now wanted (inr (rule, some, adds)) = omega (arith, ap length adds.last, length-append old (adds.rule ∷ []))

  failed_as : (one : List ℕ → Result (Option RuleLine) FaultKind) (z a b y t u : List (List ℕ)) (old now : List R) (n m at : ℕ) (line : Line) (bytes : List ℕ) (wanted : Result (List RuleLine) FileFault) (error : LineError) → n ≡ m → IsNextLine bytes n at line → AddsLine Is a b t u old now (Err error) (one (slice_range bytes line.start line.end)) → SoFar Is z a y t old (each_line one n (lines_of (drop at bytes))) wanted → AreFileRules Is z b y u (Err (file_error_of m error)) wanted
  failed_as one z a b y t u old now n m at line bytes wanted (line_errors.Fault kind) e next h so =
      sym (step one wanted so.done n at bytes line (Err kind) next h so.same) ∙ ap (λ (k : ℕ). Err (record { line = k; kind = kind })) e
  failed_as one z a b y t u old now n m at line bytes wanted line_errors.OutOfMemory e next h so = tt

  -- a line with a fault
  pub failed : (one : List ℕ → Result (Option RuleLine) FaultKind) (z a b y t u : List (List ℕ)) (old now : List R) (n at : ℕ) (line : Line) (text bytes : List ℕ) (wanted : Result (List RuleLine) FileFault) (error : LineError) (r : ReadError) → IsNextLine bytes n at line → text ≡ slice_range bytes line.start line.end → r ≡ file_error_of line.number error → AddsLine Is a b t u old now (Err error) (one text) → SoFar Is z a y t old (each_line one n (lines_of (drop at bytes))) wanted → AreFileRules Is z b y u (Err r) wanted
  failed one z a b y t u old now n at line text bytes wanted error r next is e h so =
      subst (λ (x : ReadError). AreFileRules Is z b y u (Err x) wanted) (sym e)
      (failed_as one z a b y t u old now n line.number at line bytes wanted error (sym next.numbered) next (subst (λ (x : List ℕ). AddsLine Is a b t u old now (Err error) (one x)) is h) so)

  -- the end of the file
  pub ended : (one : List ℕ → Result (Option RuleLine) FaultKind) (z a y t : List (List ℕ)) (rules : List R) (n at : ℕ) (bytes : List ℕ) (wanted : Result (List RuleLine) FileFault) → at ≡ length bytes → SoFar Is z a y t rules (each_line one n (lines_of (drop at bytes))) wanted → (lines : List RuleLine) × (wanted ≡ Ok lines) × Along (Is a t) rules lines × AddsAll z (states_of lines) a × AddsAll y (labels_in lines) t
  ended one z a y t rules n at bytes wanted h so =
      (so.done, sym so.same ∙ ap (front so.done) (none_left one bytes n at h) ∙ ap Ok (append-nil so.done), so.rules_are, so.added, so.texts)
