-- The grammar that is read is the one whose text the bytes are.
use Rattle.tib_cost.specs.declared.Scale.{Scale}
use Rattle.std.proofs.Common.{◌≡◌, ℕ, ◌+◌, ◌<◌, ◌≤◌, inl, inr, List, [], ◌∷◌, ◌++◌, length, length-append, take, refl, ap, sym, ◌∙◌, subst, arith, Bool, true, false, zero, suc}
use Rattle.std.specs.Prelude.{Result, Err, slice_get, Some, Ok, map, cond, ◌==◌}
use Rattle.std.proofs.lemmas.List.{length-map, map-append, take_more, take_all}
use Rattle.std.specs.Global.{Vec}
use Rattle.std.proofs.lemmas.Option.{slice_get_within, get_or_from_slice_get}
use Rattle.tib_lex.specs.Grammar.{Word, name, IsWord}
use Rattle.tib_lex.specs.Lines.{lines_of, push_byte}
use Rattle.tib_lex.specs.Lists.{Along, Each}
use Rattle.tib_lex.proofs.HasLines.{lines_read, lines_split}
use Rattle.tib_tree.specs.Grows.{Adds, AddsAll}
use Rattle.tib_tree.specs.Trees.{Trees, none, tree, only, preorder, preorder_of}
use Rattle.tib_tree.specs.Written.{Item, items, Written, end, leaf, head}
use Rattle.tib_grammar.specs.Sides.{Symbol, label as symbol_label, hole, holes}
use Rattle.tib_grammar.specs.Range.{AllBelow, IsInRange, AreInRange}
use Rattle.tib_grammar.specs.GrammarOf.{GrammarOf}
use Rattle.tib_grammar.specs.StateName.{IsStateName, AreStateNames}
use Rattle.tib_grammar.specs.declared.Rule.{Rule}
use Rattle.tib_grammar.proofs.Members.{each_more, distinct_more}
use Rattle.tib_grammar_file.specs.Rule.{RuleLine, rule_line_of}
use Rattle.tib_grammar_file.specs.Reading.{grammar_of}
use Rattle.tib_grammar_file.specs.GrammarText.{HaveTokens, SpellsRuleOf, first_text, GrammarText, IsSmallRule, AreSmallRules, Means}
use Rattle.tib_grammar_file.specs.Value.{IsNode, IsRule, IsGrammarOf, left_of}
use Rattle.tib_grammar_file.specs.Built.{IsSource}
use Rattle.tib_grammar_file.specs.Faults.{IsFirstFault}
use Rattle.tib_grammar_file.specs.Read.{ReadsAs}
use Rattle.tib_grammar_file.specs.Printed.{LabelsBelow, AreLabelled}
use Rattle.tib_lex.specs.declared.fault.FileFault.{FileFault}
use Rattle.tib_grammar_file.specs.RawGrammar.{IsRawGrammar}
use Rattle.tib_grammar_file.specs.Resolve.{IsSmallTree}
use Rattle.tib_grammar_file.specs.declared.raw.RawRules.{RawRules}
use Rattle.tib_grammar_file.proofs.AddedLabels.{one_longer}
use Rattle.tib_grammar_file.proofs.Alongs.{along_long}
use Rattle.tib_grammar_file.proofs.Meanings.{side_means, meant_side, meant_count, preorder_whole}
use Rattle.tib_grammar_file.proofs.FirstFaults.{faults_exact}
use Rattle.tib_grammar_file.proofs.RowsRead.{IsRow, IsFew, begun_back, begun_forth}
use Rattle.tib_grammar_file.proofs.WholeWeights.{cost_back, cost_forth}
use Rattle.tib_lex.specs.Limits.{most_bytes}
use Rattle.tib_grammar.proofs.Below.{below_append}
use Rattle.tib_lex.proofs.Members.{has_contains}

-- a rule that stands for a line is spelled by its tokens
rule_spelled : (scale : Scale) (names labels : List (List ℕ)) (words : List Word) (line : RuleLine) (rule : Rule ℕ) → IsRow scale words line → IsRule names labels rule line → SpellsRuleOf scale names labels words rule
rule_spelled scale names labels words line rule row is = record {
  left = line.left;
  right = row.spelled.tree;
  weight = row.weight;
  words_are = row.spelled.spelled;
  plain = row.spelled.plain;
  left_is = is.left;
  right_is = side_means names labels row.spelled.tree rule.right (subst (λ (is : List Item). Along (IsNode names labels) (preorder_of rule.right) is) (sym row.spelled.nodes) is.right);
  cost_is = cost_back scale row.weight rule.cost (row.cost ∙ ap (λ k. Ok k) (sym is.cost));
}

rules_spelled : (scale : Scale) (names labels : List (List ℕ)) (rows : List (List Word)) (lines : List RuleLine) (rules : List (Rule ℕ)) → Along (IsRow scale) rows lines → Along (IsRule names labels) rules lines → Along (SpellsRuleOf scale names labels) rows rules
rules_spelled scale names labels [] [] [] a b = tt
rules_spelled scale names labels [] [] (r ∷ rules) a b = absurd b
rules_spelled scale names labels [] (l ∷ lines) rules a b = absurd a
rules_spelled scale names labels (w ∷ rows) [] rules a b = absurd a
rules_spelled scale names labels (w ∷ rows) (l ∷ lines) [] a b = absurd b
rules_spelled scale names labels (w ∷ rows) (l ∷ lines) (r ∷ rules) a b =
    (rule_spelled scale names labels w l r a.0 b.0, rules_spelled scale names labels rows lines rules a.1 b.1)

lefts_same : (scale : Scale) (rows : List (List Word)) (lines : List RuleLine) → Along (IsRow scale) rows lines → map left_of lines ≡ map first_text rows
lefts_same scale [] [] a = refl
lefts_same scale [] (l ∷ lines) a = absurd a
lefts_same scale (w ∷ rows) [] a = absurd a
lefts_same scale (w ∷ rows) (l ∷ lines) a =
    ap (λ (t : List ℕ). t ∷ map left_of lines) (ap first_text a.0.spelled.spelled)
    ∙ ap (λ (ts : List (List ℕ)). first_text w ∷ ts) (lefts_same scale rows lines a.1)

-- what is read is the text of the grammar that stands for it
pub text_back : (scale : Scale) (labels : List (List ℕ)) (bytes : List ℕ) (g : GrammarOf) (start : List ℕ) (lines : List RuleLine) → grammar_of scale bytes ≡ Ok (start, lines) → IsGrammarOf labels g start lines → GrammarText scale labels bytes g
unfolding grammar_of
text_back scale labels bytes g start lines e is =
    let b = begun_back scale 1 (lines_of bytes) start lines e in
    record {
      lines = lines_of bytes;
      start = start;
      rows = b.rows;
      lines_are = (lines_split (lines_of bytes) bytes).1 refl;
      tokens = b.tokens;
      plain = b.plain;
      states = subst (λ (ts : List (List ℕ)). AddsAll [] (start ∷ ts) g.names) (lefts_same scale b.rows lines b.are) is.names;
      rules = rules_spelled scale g.names labels b.rows lines g.rules b.are is.rules;
    }

few_small : (names labels : List (List ℕ)) (rules : List (Rule ℕ)) (lines : List RuleLine) → Along (IsRule names labels) rules lines → Each IsFew lines → AreSmallRules rules
few_small names labels [] [] a f = tt
few_small names labels [] (l ∷ lines) a f = absurd a
few_small names labels (r ∷ rules) [] a f = absurd a
few_small names labels (r ∷ rules) (l ∷ lines) a f =
    (omega (arith, along_long (IsNode names labels) (preorder_of r.right) l.nodes a.0.right, f.0), few_small names labels rules lines a.1 f.1)

pub small_back : (scale : Scale) (labels : List (List ℕ)) (bytes : List ℕ) (g : GrammarOf) (start : List ℕ) (lines : List RuleLine) → grammar_of scale bytes ≡ Ok (start, lines) → IsGrammarOf labels g start lines → AreSmallRules g.rules
unfolding grammar_of
small_back scale labels bytes g start lines e is =
    few_small g.names labels g.rules lines is.rules (begun_back scale 1 (lines_of bytes) start lines e).few

-- the lines that rules stand for
record Lines (scale : Scale) (names labels : List (List ℕ)) (rows : List (List Word)) (rules : List (Rule ℕ)) : Type 0 where
  pub lines : List RuleLine
  pub are : Along (IsRow scale) rows lines
  pub rules_are : Along (IsRule names labels) rules lines
  pub few : Each IsFew lines

one_line : (scale : Scale) (names labels : List (List ℕ)) (words : List Word) (rule : Rule ℕ) → SpellsRuleOf scale names labels words rule → IsSmallRule rule → (line : RuleLine) × IsRow scale words line × IsRule names labels rule line × IsFew line
one_line scale names labels words rule s small =
    let nodes : Along (IsNode names labels) (preorder_of rule.right) (items s.right) = meant_side names labels s.right rule.right s.right_is in (
      rule_line_of s.left (items s.right) rule.cost,
      record {
        weight = s.weight;
        spelled = record { plain = s.plain; tree = s.right; one = sym (meant_count names labels (only rule.right) s.right s.right_is); nodes = refl; spelled = s.words_are };
        cost = cost_forth scale s.weight rule.cost s.cost_is;
      },
      record { left = s.left_is; right = nodes; cost = refl },
      omega (arith, along_long (IsNode names labels) (preorder_of rule.right) (items s.right) nodes, small),
    )

all_lines : (scale : Scale) (names labels : List (List ℕ)) (rows : List (List Word)) (rules : List (Rule ℕ)) → Along (SpellsRuleOf scale names labels) rows rules → AreSmallRules rules → Lines scale names labels rows rules
all_lines scale names labels [] [] a s = record { lines = []; are = tt; rules_are = tt; few = tt }
all_lines scale names labels [] (r ∷ rules) a s = absurd a
all_lines scale names labels (w ∷ rows) [] a s = absurd a
all_lines scale names labels (w ∷ rows) (r ∷ rules) a s =
    let one = one_line scale names labels w r a.0 s.0 in
    let more = all_lines scale names labels rows rules a.1 s.1 in
    record { lines = one.0 ∷ more.lines; are = (one.1, more.are); rules_are = (one.2, more.rules_are); few = (one.3, more.few) }

-- a grammar within the limit is read from its text
pub record IsReadAs (scale : Scale) (labels : List (List ℕ)) (bytes : List ℕ) (g : GrammarOf) : Type 0 where
  pub start : List ℕ
  pub lines : List RuleLine
  pub read : grammar_of scale bytes ≡ Ok (start, lines)
  pub is : IsGrammarOf labels g start lines

pub text_forth : (scale : Scale) (labels : List (List ℕ)) (bytes : List ℕ) (g : GrammarOf) → GrammarText scale labels bytes g → AreSmallRules g.rules → IsReadAs scale labels bytes g
unfolding grammar_of
text_forth scale labels bytes g t s =
    let l = all_lines scale g.names labels t.rows g.rules t.rules s in
    let same : lines_of bytes ≡ t.lines = lines_read t.lines bytes t.lines_are in
    record {
      start = t.start;
      lines = l.lines;
      read = begun_forth scale 1 (lines_of bytes) t.start t.rows l.lines (subst (λ (ls : List (List ℕ)). HaveTokens ls ((name t.start ∷ []) ∷ t.rows)) (sym same) t.tokens) t.plain l.are l.few;
      is = record {
        names = subst (λ (ts : List (List ℕ)). AddsAll [] (t.start ∷ ts) g.names) (sym (lefts_same scale t.rows l.lines l.are)) t.states;
        rules = l.rules_are;
      };
    }

-- the first word of each row is one of the format
abbrev pub FirstIsWord : List Word → Type 0
FirstIsWord [] = Unit {0}
FirstIsWord (word ∷ words) = IsWord word

pub first_words : (lines : List (List ℕ)) (rows : List (List Word)) → HaveTokens lines rows → Each FirstIsWord rows
first_words [] rows t = subst (λ (rs : List (List Word)). Each FirstIsWord rs) (sym t) tt
first_words (line ∷ lines) rows (inl (blank, t)) = first_words lines rows t
first_words (line ∷ lines) rows (inr (word, words, more, has, e, t)) =
    subst (λ (rs : List (List Word)). Each FirstIsWord rs) (sym e) (has.are.1.is_word, first_words lines more t)

left_is_name : (scale : Scale) (words : List Word) (line : RuleLine) → IsRow scale words line → FirstIsWord words → IsStateName line.left
left_is_name scale words line row f =
    record { is_name = subst (λ (ws : List Word). FirstIsWord ws) (sym row.spelled.spelled) f; no_stop = row.spelled.plain }

lefts_are_names : (scale : Scale) (rows : List (List Word)) (lines : List RuleLine) → Along (IsRow scale) rows lines → Each FirstIsWord rows → Each IsStateName (map left_of lines)
lefts_are_names scale [] [] a f = tt
lefts_are_names scale [] (l ∷ lines) a f = absurd a
lefts_are_names scale (w ∷ rows) [] a f = absurd a
lefts_are_names scale (w ∷ rows) (l ∷ lines) a f = (left_is_name scale w l a.0 f.0, lefts_are_names scale rows lines a.1 f.1)

one_name : (before : List (List ℕ)) (text : List ℕ) (now : List (List ℕ)) → Adds before text now → AreStateNames before → IsStateName text → AreStateNames now
one_name before text now (inl (held, same)) a n = subst (λ (ts : List (List ℕ)). AreStateNames ts) (sym same) a
one_name before text now (inr (new, same)) a n =
    subst (λ (ts : List (List ℕ)). AreStateNames ts) (sym same)
    (record { each = each_more IsStateName before text a.each n; distinct = distinct_more before text a.distinct (λ h. new (has_contains before text h)) })

pub all_names : (before texts now : List (List ℕ)) → AddsAll before texts now → AreStateNames before → Each IsStateName texts → AreStateNames now
all_names before [] now same a e = subst (λ (ts : List (List ℕ)). AreStateNames ts) (sym same) a
all_names before (text ∷ texts) now (middle, adds, more) a e = all_names middle texts now more (one_name before text middle adds a e.0) e.1

-- the names that were read are state names
pub names_are : (scale : Scale) (bytes : List ℕ) (start : List ℕ) (lines : List RuleLine) (names : List (List ℕ)) → grammar_of scale bytes ≡ Ok (start, lines) → AddsAll [] (start ∷ map left_of lines) names → AreStateNames names
unfolding grammar_of
names_are scale bytes start lines names e added =
    let b = begun_back scale 1 (lines_of bytes) start lines e in
    let f = first_words (lines_of bytes) ((name start ∷ []) ∷ b.rows) b.tokens in
    all_names [] (start ∷ map left_of lines) names added (record { each = tt; distinct = tt })
    (record { is_name = f.0; no_stop = b.plain }, lefts_are_names scale b.rows lines b.are f.1)

some_more : (before : List (List ℕ)) (text : List ℕ) (now : List (List ℕ)) → Adds before text now → (0 < length now) × (length before ≤ length now)
some_more before text now (inl (held, same)) = (omega (arith, held.1, ap length same), omega (arith, ap length same))
some_more before text now (inr (new, same)) =
    let l = length-append before (text ∷ []) in
    (omega (arith, l, ap length same), omega (arith, l, ap length same))

grows_long : (before texts now : List (List ℕ)) → AddsAll before texts now → length before ≤ length now
grows_long before [] now same = omega (arith, ap length same)
grows_long before (text ∷ texts) now (middle, adds, more) = omega (arith, (some_more before text middle adds).1, grows_long middle texts now more)

pub some_name : (start : List ℕ) (texts names : List (List ℕ)) → AddsAll [] (start ∷ texts) names → 0 < length names
some_name start texts names (middle, adds, more) = omega (arith, (some_more [] start middle adds).0, grows_long middle texts names more)

-- the states of rules that stand for lines have names
along_split : {X Y : Type 0} (R : X → Y → Type 0) (xs us : List X) (ys : List Y) → Along R (xs ++ us) ys → (zs : List Y) × (vs : List Y) × Along R xs zs × Along R us vs
along_split R [] us ys h = ([], ys, tt, h)
along_split R (x ∷ xs) us [] h = absurd h
along_split R (x ∷ xs) us (y ∷ ys) h = let s = along_split R xs us ys h.1 in (y ∷ s.0, s.1, (h.0, s.2), s.3)

holes_below : (names labels : List (List ℕ)) (ts : Trees (Symbol ℕ ℕ)) (is : List Item) → Along (IsNode names labels) (preorder ts) is → AllBelow (length names) (holes ts)
holes_below names labels none is h = tt
holes_below names labels (tree s kids rest) [] h = absurd h
holes_below names labels (tree (symbol_label f) kids rest) (i ∷ is) h =
    let s = along_split (IsNode names labels) (preorder kids) (preorder rest) is h.1 in
    below_append (length names) (holes kids) (holes rest) (holes_below names labels kids s.0 s.2) (holes_below names labels rest s.1 s.3)
holes_below names labels (tree (hole q) kids rest) (i ∷ is) h =
    let s = along_split (IsNode names labels) (preorder kids) (preorder rest) is h.1 in
    (slice_get_within names q i.text h.0.0.1, holes_below names labels rest s.1 s.3)

in_range : (names labels : List (List ℕ)) (rule : Rule ℕ) (line : RuleLine) → IsRule names labels rule line → IsInRange (length names) rule
in_range names labels rule line r = (
  slice_get_within names rule.left line.left r.left,
  holes_below names labels (only rule.right) line.nodes (subst (λ (xs : List (Symbol ℕ ℕ × ℕ)). Along (IsNode names labels) xs line.nodes) (sym (preorder_whole rule.right)) r.right),
)

pub all_in_range : (names labels : List (List ℕ)) (rules : List (Rule ℕ)) (lines : List RuleLine) → Along (IsRule names labels) rules lines → AreInRange (length names) rules
all_in_range names labels [] lines a m h = absurd (omega arith)
all_in_range names labels (r ∷ rules) [] a m h = absurd a
all_in_range names labels (r ∷ rules) (l ∷ lines) a zero h = in_range names labels r l a.0
all_in_range names labels (r ∷ rules) (l ∷ lines) a (suc m) h = all_in_range names labels rules lines a.1 m (omega arith)

-- a file has no more lines than bytes, and no more rules than lines
lines_long : (bytes : List ℕ) → length (lines_of bytes) ≤ length bytes
lines_long [] = omega arith
lines_long (b ∷ bytes) = by (b == 10) (lines_long bytes)
  where
    pushed : (lines : List (List ℕ)) (n : ℕ) → length lines ≤ n → length (push_byte b lines) ≤ suc n
    pushed [] n h = omega arith
    pushed (line ∷ lines) n h = omega arith

    by : (c : Bool) → length (lines_of bytes) ≤ length bytes → length (cond c ([] ∷ lines_of bytes) (push_byte b (lines_of bytes))) ≤ suc (length bytes)
    by true h = omega arith
    by false h = pushed (lines_of bytes) (length bytes) h

rows_long : (lines : List (List ℕ)) (rows : List (List Word)) → HaveTokens lines rows → length rows ≤ length lines
rows_long [] rows t = omega (arith, ap length t)
rows_long (line ∷ lines) rows (inl (blank, t)) = omega (arith, rows_long lines rows t)
rows_long (line ∷ lines) rows (inr (word, words, more, has, e, t)) = omega (arith, rows_long lines more t, ap length e)

adds_long : (before texts now : List (List ℕ)) → AddsAll before texts now → length now ≤ length before + length texts
adds_long before [] now same = omega (arith, ap length same)
adds_long before (text ∷ texts) now (middle, adds, more) = omega (arith, one_longer before text middle adds, adds_long middle texts now more)

pub all_small : (scale : Scale) (rows : List (List Word)) (lines : List RuleLine) → Along (IsRow scale) rows lines → Each IsFew lines → Each IsSmallTree lines
all_small scale [] [] a f = tt
all_small scale [] (l ∷ lines) a f = absurd a
all_small scale (w ∷ rows) [] a f = absurd a
all_small scale (w ∷ rows) (l ∷ lines) a f =
    (record { tree = record { tree = a.0.spelled.tree; one = a.0.spelled.one; nodes = a.0.spelled.nodes }; few = f.0 }, all_small scale rows lines a.1 f.1)

-- what was read makes a grammar
pub is_source : (scale : Scale) (bytes : List ℕ) (names texts : List (List ℕ)) (raw : RawRules) → length bytes ≤ most_bytes → (r : IsRawGrammar [] names texts raw (grammar_of scale bytes)) → IsSource names texts raw r.start r.lines
unfolding grammar_of
is_source scale bytes names texts raw short r =
    let b = begun_back scale 1 (lines_of bytes) r.start r.lines r.read in
    let few : suc (length b.rows) ≤ length (lines_of bytes) = rows_long (lines_of bytes) ((name r.start ∷ []) ∷ b.rows) b.tokens in
    let long : length b.rows ≡ length r.lines = along_long (IsRow scale) b.rows r.lines b.are in
    record {
      added = r.added;
      sound = names_are scale bytes r.start r.lines names r.read r.added;
      raw_is = record { rules = r.rules_are; trees = all_small scale b.rows r.lines b.are b.few };
      few_names = omega (arith, adds_long [] (r.start ∷ map left_of r.lines) names r.added, length-map r.lines left_of, few, long, lines_long bytes);
      few_rules = omega (arith, few, long, lines_long bytes);
    }

pub reads_as : (scale : Scale) (labels : List (List ℕ)) (bytes : List ℕ) (names texts : List (List ℕ)) (raw : RawRules) (g : GrammarOf) → length bytes ≤ most_bytes → IsRawGrammar [] names texts raw (grammar_of scale bytes) → ((start : List ℕ) (lines : List RuleLine) → IsSource names texts raw start lines → IsGrammarOf labels g start lines) → ReadsAs scale labels bytes g
reads_as scale labels bytes names texts raw g short r all =
    let is = all r.start r.lines (is_source scale bytes names texts raw short r) in
    record { text = text_back scale labels bytes g r.start r.lines r.read is; small = small_back scale labels bytes g r.start r.lines r.read is }

-- the texts of a table, one after another
pub texts_start : (names : List (List ℕ)) (texts : List (Vec ℕ)) → texts ≡ [] → map (λ t. t.items) texts ≡ take 0 names
texts_start names texts e = ap (map (λ t. t.items)) e

pub texts_step : (names : List (List ℕ)) (n : ℕ) (texts more : List (Vec ℕ)) (copy : Vec ℕ) (text : List ℕ) → slice_get names n ≡ Some text → copy.items ≡ text → more ≡ texts ++ copy ∷ [] → map (λ t. t.items) texts ≡ take n names → map (λ t. t.items) more ≡ take (n + 1) names
texts_step names n texts more copy text at same e h =
    ap (map (λ t. t.items)) e
    ∙ map-append (λ t. t.items) texts (copy ∷ [])
    ∙ ap (λ (ts : List (List ℕ)). ts ++ copy.items ∷ []) h
    ∙ ap (λ (t : List ℕ). take n names ++ t ∷ []) (same ∙ sym (get_or_from_slice_get names n text [] at))
    ∙ sym (take_more names n [] (slice_get_within names n text at))

pub texts_end : (names : List (List ℕ)) (n : ℕ) (texts : List (Vec ℕ)) → length names ≤ n → map (λ t. t.items) texts ≡ take n names → map (λ t. t.items) texts ≡ names
texts_end names n texts h e = e ∙ take_all n names h

-- rules that stand for lines are in range of the names, which have a start
pub built_over : (names texts labels states : List (List ℕ)) (raw : RawRules) (start : List ℕ) (lines : List RuleLine) (rules : List (Rule ℕ)) → IsSource names texts raw start lines → states ≡ names → Along (IsRule names labels) rules lines → (0 < length states) × AreInRange (length states) rules × (length rules ≤ most_bytes)
built_over names texts labels states raw start lines rules s same are = (
  omega (arith, ap length same, some_name start (map left_of lines) names s.added),
  subst (λ (n : ℕ). AreInRange n rules) (sym (ap length same)) (all_in_range names labels rules lines are),
  omega (arith, along_long (IsRule names labels) rules lines are, s.few_rules),
)

pub built : (names texts labels states : List (List ℕ)) (raw : RawRules) (start : List ℕ) (lines : List RuleLine) (rules : List (Rule ℕ)) (g : GrammarOf) → IsSource names texts raw start lines → states ≡ names → g.names ≡ states → g.rules ≡ rules → Along (IsRule names labels) rules lines → IsGrammarOf labels g start lines
built names texts labels states raw start lines rules g s same n r are =
    let e : g.names ≡ names = n ∙ same in
    record {
      names = subst (λ (ts : List (List ℕ)). AddsAll [] (start ∷ map left_of lines) ts) (sym e) s.added;
      rules = subst (λ (rs : List (Rule ℕ)). Along (IsRule g.names labels) rs lines) (sym r) (subst (λ (ts : List (List ℕ)). Along (IsRule ts labels) rules lines) (sym e) are);
    }

pub raw_from : (scale : Scale) (bytes : List ℕ) (before names texts : List (List ℕ)) (raw : RawRules) → before ≡ [] → IsRawGrammar before names texts raw (grammar_of scale bytes) → IsRawGrammar [] names texts raw (grammar_of scale bytes)
raw_from scale bytes before names texts raw e r = subst (λ (b : List (List ℕ)). IsRawGrammar b names texts raw (grammar_of scale bytes)) e r

pub source_of : (scale : Scale) (bytes : List ℕ) (before names texts : List (List ℕ)) (raw : RawRules) → length bytes ≤ most_bytes → before ≡ [] → IsRawGrammar before names texts raw (grammar_of scale bytes) → (start : List ℕ) × (lines : List RuleLine) × IsSource names texts raw start lines
source_of scale bytes before names texts raw short e r =
    let f = raw_from scale bytes before names texts raw e r in
    (f.start, f.lines, is_source scale bytes names texts raw short f)

pub read_as : (w v : Scale) (labels : List (List ℕ)) (bytes : List ℕ) (before names texts : List (List ℕ)) (raw : RawRules) (g : GrammarOf) → v ≡ w → before ≡ [] → length bytes ≤ most_bytes → IsRawGrammar before names texts raw (grammar_of v bytes) → ((start : List ℕ) (lines : List RuleLine) → IsSource names texts raw start lines → IsGrammarOf labels g start lines) → ReadsAs w labels bytes g
read_as w v labels bytes before names texts raw g same empty short r all =
    reads_as w labels bytes names texts raw g short (raw_from w bytes before names texts raw empty (subst (λ (x : Scale). IsRawGrammar before names texts raw (grammar_of x bytes)) same r)) all

-- the labels of what is meant are in the table
means_below : (names labels : List (List ℕ)) (ts : Trees (Symbol ℕ ℕ)) (f : Written) → Means names labels ts f → LabelsBelow (length labels) ts
means_below names labels none f h = tt
means_below names labels (tree s kids rest) end h = absurd h
means_below names labels (tree (symbol_label g) kids rest) (leaf quoted text more) h =
    (slice_get_within labels g text h.0.1, subst (λ (ks : Trees (Symbol ℕ ℕ)). LabelsBelow (length labels) ks) (sym h.1) tt, means_below names labels rest more h.2)
means_below names labels (tree (hole q) kids rest) (leaf quoted text more) h = means_below names labels rest more h.2
means_below names labels (tree (symbol_label g) kids rest) (head quoted text below more) h =
    (slice_get_within labels g text h.0, means_below names labels kids below h.1, means_below names labels rest more h.2)
means_below names labels (tree (hole q) kids rest) (head quoted text below more) h = absurd h.0

rules_labelled : (scale : Scale) (names labels : List (List ℕ)) (rows : List (List Word)) (rules : List (Rule ℕ)) → Along (SpellsRuleOf scale names labels) rows rules → AreLabelled (length labels) rules
rules_labelled scale names labels rows [] a m h = absurd (omega arith)
rules_labelled scale names labels [] (r ∷ rules) a m h = absurd a
rules_labelled scale names labels (w ∷ rows) (r ∷ rules) a zero h = means_below names labels (only r.right) a.0.right a.0.right_is
rules_labelled scale names labels (w ∷ rows) (r ∷ rules) a (suc m) h = rules_labelled scale names labels rows rules a.1 m (omega arith)

pub text_labelled : (scale : Scale) (labels : List (List ℕ)) (bytes : List ℕ) (g : GrammarOf) → ReadsAs scale labels bytes g → AreLabelled (length labels) g.rules
text_labelled scale labels bytes g r = rules_labelled scale g.names labels r.text.rows g.rules r.text.rules

-- a file with a fault is no grammar's text
ok_or_err : (p : List ℕ × List RuleLine) (f : FileFault) → (let r : Result (List ℕ × List RuleLine) FileFault = Err f in r ≡ Ok p) → ⊥
ok_or_err p f e = cc

pub no_text : (scale : Scale) (bytes : List ℕ) (fault : FileFault) → IsFirstFault scale bytes fault → (labels : List (List ℕ)) (g : GrammarOf) → ReadsAs scale labels bytes g → ⊥
no_text scale bytes fault h labels g r =
    let t = text_forth scale labels bytes g r.text r.small in
    ok_or_err (t.start, t.lines) fault (sym ((faults_exact scale bytes fault).1 h) ∙ t.read)
