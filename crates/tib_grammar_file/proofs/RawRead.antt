-- How the rules of a file are read.
use Rattle.std.proofs.Common.{◌≡◌, ℕ, ◌+◌, ◌-◌, ◌<◌, ◌≤◌, inl, inr, List, [], ◌∷◌, ◌++◌, length, get_or, drop, refl, ap, sym, ◌∙◌, subst, arith, append_assoc, append-nil, Option}
use Rattle.std.specs.Prelude.{slice_range, Some, None, Result, Ok, Err, map}
use Rattle.std.proofs.lemmas.List.{drop_all, map-append, length-append, length-take, length-drop}
use Rattle.tib_lex.specs.Lines.{HasNoFeed, lines_of, front, with_line, each_line}
use Rattle.tib_lex.specs.NextLine.{IsNextLine}
use Rattle.tib_lex.specs.FaultOf.{file_error_of}
use Rattle.tib_lex.specs.Lists.{Along}
use Rattle.tib_lex.specs.declared.lines.Line.{Line}
use Rattle.tib_lex.specs.declared.fault.FaultKind.{FaultKind}
use Rattle.tib_lex.specs.declared.fault.FileFault.{FileFault}
use Rattle.tib_lex.specs.declared.fault.ReadError.{ReadError}
use Rattle.tib_lex.specs.declared.fault.LineError.{LineError}
use Rattle.tib_lex.specs.declared.fault.LineError.TheVariants as line_errors
use Rattle.tib_lex.proofs.NoFeeds.{line_plain}
use Rattle.tib_lex.proofs.LinesRead.{front_none, front_more, line_read, none_left}
use Rattle.tib_lex.proofs.Alongs.{along_more, along_append}
use Rattle.tib_tree.specs.Grows.{Grows, Adds, AddsAll}
use Rattle.tib_tree.specs.Written.{Item}
use Rattle.tib_tree.specs.Shape.{item_at, items_back}
use Rattle.tib_tree.specs.declared.shape.Place.{Place}
use Rattle.tib_tree.proofs.NodesRead.{back_more}
use Rattle.tib_grammar_file.specs.Rule.{RuleLine}
use Rattle.tib_grammar_file.specs.Raw.{IsRaw, IsRawRule, AreRawRules, AddsNodes, AddsRule, AddsLine, all_nodes}
use Rattle.tib_grammar_file.specs.RawFile.{IsRawFile}
use Rattle.tib_grammar_file.specs.Value.{left_of}
use Rattle.tib_grammar_file.specs.declared.raw.RawItem.{RawItem}
use Rattle.tib_grammar_file.specs.declared.raw.RawRule.{RawRule}
use Rattle.tib_grammar_file.specs.declared.raw.RawRules.{RawRules}
use Rattle.tib_grammar_file.proofs.Alongs.{along_changes, along_long}

pub item_grows : (a b : List (List ℕ)) → Grows a b → (s : RawItem) (i : Item) → IsRaw a s i → IsRaw b s i
item_grows a b g s i h = (g.kept s.text i.text h.0, h.1, h.2)

-- how much longer nodes are
pub nodes_long : (texts : List (List ℕ)) (before now : List RawItem) (is : List Item) → AddsNodes texts before now is → length now ≡ length before + length is
nodes_long texts before now is h = omega (arith, ap length h.last, length-append before h.more, along_long (IsRaw texts) h.more is h.are)

-- nothing was added yet
pub no_nodes : (texts : List (List ℕ)) (before now : List RawItem) (line : List ℕ) (places : List Place) (n : ℕ) → n ≡ length places → now ≡ before → AddsNodes texts before now (items_back line (drop n places))
no_nodes texts before now line places n e same = record {
  more = [];
  are = subst (λ (ps : List Place). Along (IsRaw texts) [] (items_back line ps)) (sym (ap (λ (k : ℕ). drop k places) e ∙ drop_all (length places) places (omega arith))) tt;
  last = same ∙ sym (append-nil before);
}

pub nodes_step : (line : List ℕ) (places : List Place) (i : ℕ) (d : Place) (a b : List (List ℕ)) (before now later : List RawItem) (s : RawItem) → 0 < i → i ≤ length places → AddsNodes a before now (items_back line (drop i places)) → Grows a b → IsRaw b s (item_at line (get_or places (i - 1) d)) → later ≡ now ++ s ∷ [] → AddsNodes b before later (items_back line (drop (i - 1) places))
nodes_step line places i d a b before now later s h k all g new e = record {
  more = all.more ++ s ∷ [];
  are = subst (λ (is : List Item). Along (IsRaw b) (all.more ++ s ∷ []) is) (sym (back_more line places i d h k))
      (along_more (IsRaw b) all.more (items_back line (drop i places)) s (item_at line (get_or places (i - 1) d)) (along_changes (IsRaw a) (IsRaw b) all.more (items_back line (drop i places)) (item_grows a b g) all.are) new);
  last = e ∙ ap (λ (xs : List RawItem). xs ++ s ∷ []) all.last ∙ append_assoc before all.more (s ∷ []);
}

head_grows : (a b : List (List ℕ)) → Grows a b → (raw : RawRule) (line : RuleLine) → IsRawRule a raw line → IsRawRule b raw line
head_grows a b g raw line r = record { left = g.kept raw.left line.left r.left; nodes = r.nodes; cost = r.cost }

pub raw_grows : (a b t u : List (List ℕ)) (rules : List RawRule) (nodes : List RawItem) (lines : List RuleLine) → Grows a b → Grows t u → AreRawRules a t rules nodes lines → AreRawRules b u rules nodes lines
raw_grows a b t u rules nodes lines g h r = record {
  heads = along_changes (IsRawRule a) (IsRawRule b) rules lines (head_grows a b g) r.heads;
  bodies = along_changes (IsRaw t) (IsRaw u) nodes (all_nodes lines) (item_grows t u h) r.bodies;
}

all_more : (lines : List RuleLine) (line : RuleLine) → all_nodes (lines ++ line ∷ []) ≡ all_nodes lines ++ line.nodes
all_more [] line = append-nil line.nodes
all_more (l ∷ lines) line = ap (λ (is : List Item). l.nodes ++ is) (all_more lines line) ∙ sym (append_assoc l.nodes (all_nodes lines) line.nodes)

-- a rule after those that were read
raw_more : (before names texts : List (List ℕ)) (old now : RawRules) (lines : List RuleLine) (line : RuleLine) → AreRawRules names texts old.rules.items old.nodes.items lines → AddsRule before names texts old now line → AreRawRules names texts now.rules.items now.nodes.items (lines ++ line ∷ [])
raw_more before names texts old now lines line r h = record {
  heads = subst (λ (rs : List RawRule). Along (IsRawRule names) rs (lines ++ line ∷ [])) (sym h.head) (along_more (IsRawRule names) old.rules.items lines h.raw line r.heads h.is);
  bodies = subst (λ (ns : List RawItem). Along (IsRaw texts) ns (all_nodes (lines ++ line ∷ []))) (sym h.body.last)
      (subst (λ (is : List Item). Along (IsRaw texts) (old.nodes.items ++ h.body.more) is) (sym (all_more lines line))
      (along_append (IsRaw texts) old.nodes.items h.body.more (all_nodes lines) line.nodes r.bodies h.body.are));
}

adds_more : (a m b : List (List ℕ)) (texts : List (List ℕ)) (text : List ℕ) → AddsAll a texts m → Adds m text b → AddsAll a (texts ++ text ∷ []) b
adds_more a m b [] text h k = (b, subst (λ (x : List (List ℕ)). Adds x text b) h k, refl)
adds_more a m b (t ∷ ts) text (n, first, others) k = (n, first, adds_more n m b ts text others k)

-- what was read so far
pub record SoFar (before names texts : List (List ℕ)) (raw : RawRules) (left wanted : Result (List RuleLine) FileFault) : Type 0 where
  pub done : List RuleLine
  pub rules_are : AreRawRules names texts raw.rules.items raw.nodes.items done
  pub added : AddsAll before (map left_of done) names
  pub same : front done left ≡ wanted

none_raw : (names texts : List (List ℕ)) (rules : List RawRule) (nodes : List RawItem) → rules ≡ [] → nodes ≡ [] → AreRawRules names texts rules nodes []
none_raw names texts rules nodes e f = record {
  heads = subst (λ (rs : List RawRule). Along (IsRawRule names) rs []) (sym e) tt;
  bodies = subst (λ (ns : List RawItem). Along (IsRaw texts) ns []) (sym f) tt;
}

pub starts : (names texts : List (List ℕ)) (raw : RawRules) (wanted : Result (List RuleLine) FileFault) → raw.rules.items ≡ [] → raw.nodes.items ≡ [] → SoFar names names texts raw wanted wanted
starts names texts raw wanted e f = record {
  done = [];
  rules_are = none_raw names texts raw.rules.items raw.nodes.items e f;
  added = refl;
  same = front_none wanted;
}

-- what is read from the lines from here, by what is read from the next one
pub step :
    {R : Type 0} (one : List ℕ → Result (Option R) FaultKind) (wanted : Result (List R) FileFault) (done : List R) (n at : ℕ) (bytes : List ℕ) (line : Line) (r : Result (Option R) FaultKind) →
    IsNextLine bytes n at line → one (slice_range bytes line.start line.end) ≡ r → front done (each_line one n (lines_of (drop at bytes))) ≡ wanted →
    front done (with_line n r (each_line one (n + 1) (lines_of (drop line.next bytes)))) ≡ wanted
step one wanted done n at bytes line r is e w = ap (front done) (ap (λ x. with_line n x (each_line one (n + 1) (lines_of (drop line.next bytes)))) (sym e) ∙ sym (line_read one bytes n at line is)) ∙ w

pub goes : (one : List ℕ → Result (Option RuleLine) FaultKind) (z a b t u : List (List ℕ)) (old now : RawRules) (n at : ℕ) (line : Line) (bytes : List ℕ) (wanted : Result (List RuleLine) FileFault) → IsNextLine bytes n at line → Grows a b → Grows t u → AddsLine a b u old now (Ok tt) (one (slice_range bytes line.start line.end)) → SoFar z a t old (each_line one n (lines_of (drop at bytes))) wanted → SoFar z b u now (each_line one (n + 1) (lines_of (drop line.next bytes))) wanted
goes one z a b t u old now n at line bytes wanted next g h (inl (none, names, same)) so = record {
  done = so.done;
  rules_are = subst (λ (r : RawRules). AreRawRules b u r.rules.items r.nodes.items so.done) (sym same) (raw_grows a b t u old.rules.items old.nodes.items so.done g h so.rules_are);
  added = subst (λ (x : List (List ℕ)). AddsAll z (map left_of so.done) x) (sym names) so.added;
  same = step one wanted so.done n at bytes line (Ok None) next none so.same;
}
goes one z a b t u old now n at line bytes wanted next g h (inr (rule, some, adds)) so = record {
  done = so.done ++ rule ∷ [];
  rules_are = raw_more a b u old now so.done rule (raw_grows a b t u old.rules.items old.nodes.items so.done g h so.rules_are) adds;
  added = subst (λ (x : List (List ℕ)). AddsAll z x b) (sym (map-append left_of so.done (rule ∷ []))) (adds_more z a b (map left_of so.done) rule.left so.added adds.adds);
  same = sym (front_more so.done rule (each_line one (n + 1) (lines_of (drop line.next bytes)))) ∙ step one wanted so.done n at bytes line (Ok (Some rule)) next some so.same;
}

failed_as : (one : List ℕ → Result (Option RuleLine) FaultKind) (z a b t u : List (List ℕ)) (old now : RawRules) (n m at : ℕ) (line : Line) (bytes : List ℕ) (wanted : Result (List RuleLine) FileFault) (error : LineError) → n ≡ m → IsNextLine bytes n at line → AddsLine a b u old now (Err error) (one (slice_range bytes line.start line.end)) → SoFar z a t old (each_line one n (lines_of (drop at bytes))) wanted → IsRawFile z b u (Err (file_error_of m error)) wanted
failed_as one z a b t u old now n m at line bytes wanted (line_errors.Fault kind) e next h so =
    sym (step one wanted so.done n at bytes line (Err kind) next h so.same) ∙ ap (λ (k : ℕ). Err (record { line = k; kind = kind })) e
failed_as one z a b t u old now n m at line bytes wanted line_errors.OutOfMemory e next h so = tt

pub failed : (one : List ℕ → Result (Option RuleLine) FaultKind) (z a b t u : List (List ℕ)) (old now : RawRules) (n at : ℕ) (line : Line) (text bytes : List ℕ) (wanted : Result (List RuleLine) FileFault) (error : LineError) (r : ReadError) → IsNextLine bytes n at line → text ≡ slice_range bytes line.start line.end → r ≡ file_error_of line.number error → AddsLine a b u old now (Err error) (one text) → SoFar z a t old (each_line one n (lines_of (drop at bytes))) wanted → IsRawFile z b u (Err r) wanted
failed one z a b t u old now n at line text bytes wanted error r next is e h so =
    subst (λ (x : ReadError). IsRawFile z b u (Err x) wanted) (sym e)
    (failed_as one z a b t u old now n line.number at line bytes wanted error (sym next.numbered) next (subst (λ (x : List ℕ). AddsLine a b u old now (Err error) (one x)) is h) so)

pub ended : (one : List ℕ → Result (Option RuleLine) FaultKind) (z a t : List (List ℕ)) (raw : RawRules) (n at : ℕ) (bytes : List ℕ) (wanted : Result (List RuleLine) FileFault) → at ≡ length bytes → SoFar z a t raw (each_line one n (lines_of (drop at bytes))) wanted → (lines : List RuleLine) × (wanted ≡ Ok lines) × AreRawRules a t raw.rules.items raw.nodes.items lines × AddsAll z (map left_of lines) a
ended one z a t raw n at bytes wanted h so =
    (so.done, sym so.same ∙ ap (front so.done) (none_left one bytes n at h) ∙ ap Ok (append-nil so.done), so.rules_are, so.added)

-- the bytes of a line lie before the next one, and have no line feed
pub text_within : (bytes : List ℕ) (n at : ℕ) (line : Line) (text : List ℕ) → IsNextLine bytes n at line → text ≡ slice_range bytes line.start line.end → at + length text ≤ line.next
text_within bytes n at line text is e =
    let l : length text ≡ line.end - line.start = omega (arith, ap length e, length-take (line.end - line.start) (drop line.start bytes), length-drop line.start bytes, is.order, is.within) in
    elim is.behind [
      | inl h ↦ omega (arith, l, is.starts, is.order, h.1)
      | inr h ↦ omega (arith, l, is.starts, is.order, h.1)
    ]

pub text_no_feed : (bytes : List ℕ) (n at : ℕ) (line : Line) (text : List ℕ) → IsNextLine bytes n at line → text ≡ slice_range bytes line.start line.end → HasNoFeed text
text_no_feed bytes n at line text is e = subst (λ (t : List ℕ). HasNoFeed t) (sym e) (line_plain bytes n at line is)
