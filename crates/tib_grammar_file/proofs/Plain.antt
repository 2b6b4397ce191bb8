-- Rules that were read can be printed.
use Rattle.tib_cost.specs.Scale.{cost_within}
use Rattle.tib_cost.specs.declared.Scale.TheVariants as scales
use Rattle.tib_cost.specs.declared.Scale.{Scale}
use Rattle.std.proofs.Common.{◌≤◌, ◌≡◌, ℕ, ◌<◌, inl, inr, Bool, true, false, Option, List, [], ◌∷◌, ◌++◌, length, get_or, refl, sym, ◌∙◌, subst, arith}
use Rattle.std.specs.Prelude.{Some, None, slice_get, cond, ◌==◌, ◌||◌}
use Rattle.std.specs.List.{list_all}
use Rattle.std.proofs.lemmas.List.Folds.{list_all-append}
use Rattle.std.proofs.lemmas.Option.{slice_get-get_or, slice_get_within, get_or_from_slice_get}
use Rattle.tib_lex.specs.Grammar.{Word, open_, close, hash, arrow, name, label, escape, spelling, HasWords}
use Rattle.tib_lex.specs.Line.{text_of}
use Rattle.tib_lex.specs.Lines.{not_feed, HasNoFeed, HasLines}
use Rattle.tib_lex.specs.Lists.{Along, Each}
use Rattle.tib_lex.proofs.Spelled.{and_true}
use Rattle.tib_tree.specs.Grows.{Grows}
use Rattle.tib_tree.specs.Trees.{Trees, none, tree, only}
use Rattle.tib_tree.specs.Written.{Written, end, leaf, head, word_for, spell}
use Rattle.tib_grammar.specs.Sides.{Symbol, label as symbol_label, hole}
use Rattle.tib_grammar.specs.GrammarOf.{GrammarOf}
use Rattle.tib_grammar.specs.Run.{rule_at, no_rule}
use Rattle.tib_grammar.specs.declared.Rule.{Rule}
use Rattle.tib_grammar.proofs.Members.{has_at, each_has}
use Rattle.tib_grammar_file.specs.GrammarText.{HaveTokens, Means, SpellsRuleOf, GrammarText}
use Rattle.tib_grammar_file.specs.Printable.{IsPlainCost, HavePlainLabels, IsPrintable, ArePrintable}
use Rattle.tib_grammar_file.specs.Printed.{LabelsBelow, AreLabelled}
use Rattle.tib_grammar_file.specs.Rule.{weight_words}
use Rattle.tib_grammar_file.specs.Weight.{IsWeighed, IsCostOf}
use Rattle.tib_cost.specs.Semiring.{most}
use Rattle.tib_lex.proofs.Lists.{each_parts}

pub labels_below : (labels : List (List ℕ)) (ts : Trees (Symbol ℕ ℕ)) → HavePlainLabels labels ts → LabelsBelow (length labels) ts
labels_below labels none h = tt
labels_below labels (tree (symbol_label f) kids rest) h = (h.0, labels_below labels kids h.2, labels_below labels rest h.3)
labels_below labels (tree (hole q) kids rest) h = labels_below labels rest h.1

pub are_labelled : (scale : Scale) (labels : List (List ℕ)) (rules : List (Rule ℕ)) → ArePrintable scale labels rules → AreLabelled (length labels) rules
are_labelled scale labels rules p m h = labels_below labels (only (rule_at rules m).right) (p m h).right

-- a label with its text in the table
label_plain : (labels : List (List ℕ)) (f : ℕ) (text : List ℕ) → slice_get labels f ≡ Some text → HasNoFeed text → (f < length labels) × HasNoFeed (get_or labels f [])
label_plain labels f text e h = (slice_get_within labels f text e, subst (λ (t : List ℕ). HasNoFeed t) (sym (get_or_from_slice_get labels f text [] e)) h)

-- what can be printed stays so when the table grows

labels_stay : (early labels : List (List ℕ)) (ts : Trees (Symbol ℕ ℕ)) → Grows early labels → HavePlainLabels early ts → HavePlainLabels labels ts
labels_stay early labels none g h = tt
labels_stay early labels (tree (symbol_label f) kids rest) g h =
    let own = label_plain labels f (get_or early f []) (g.kept f (get_or early f []) (slice_get-get_or early f [] h.0)) h.1 in
    (own.0, own.1, labels_stay early labels kids g h.2, labels_stay early labels rest g h.3)
labels_stay early labels (tree (hole q) kids rest) g h = (labels_stay early labels kids g h.0, labels_stay early labels rest g h.1)

pub stays : (scale : Scale) (early labels : List (List ℕ)) (rules : List (Rule ℕ)) → ArePrintable scale early rules → Grows early labels → ArePrintable scale labels rules
stays scale early labels rules p g m h = record { right = labels_stay early labels (only (rule_at rules m).right) g (p m h).right; cost = (p m h).cost }

-- no token of a line has a line feed

-- each of two texts that have no line feed in one has none
pub free_parts : (xs ys : List ℕ) → HasNoFeed (xs ++ ys) → HasNoFeed xs × HasNoFeed ys
free_parts xs ys h = let t = and_true (list_all not_feed xs) (list_all not_feed ys) (sym (list_all-append not_feed xs ys) ∙ h) in (t.0, t.1)

-- what follows a byte that was escaped has no line feed
pub free_front : (c : Bool) (x : ℕ) (xs : List ℕ) → HasNoFeed (cond c (92 ∷ (x ∷ xs)) (x ∷ xs)) → HasNoFeed (x ∷ xs)
free_front true x xs h = h
free_front false x xs h = h

free_unquoted : (text : List ℕ) → HasNoFeed (escape text) → HasNoFeed text
free_unquoted [] h = refl
free_unquoted (x ∷ xs) h = let t = and_true (not_feed x) (list_all not_feed (escape xs)) (free_front (x == 34 || x == 92) x (escape xs) h) in rw t.0 (free_unquoted xs t.1)

abbrev IsFree : Word → Type 0
IsFree word = HasNoFeed (text_of word)

word_free : (word : Word) → HasNoFeed (spelling word) → IsFree word
word_free open_ h = refl
word_free close h = refl
word_free hash h = refl
word_free arrow h = refl
word_free (name text) h = h
word_free (label text) h = free_unquoted text (free_parts (escape text) (34 ∷ []) h).0

words_free : (words : List Word) (line : List ℕ) → HasNoFeed line → HasWords words line → Each IsFree words
words_free [] line f h = tt
words_free (word ∷ words) line f h =
    let own : HasNoFeed h.rest = (free_parts h.blanks h.rest (subst (λ (l : List ℕ). HasNoFeed l) h.parts f)).1 in
    let parts = free_parts (spelling word) h.are.0 (subst (λ (l : List ℕ). HasNoFeed l) h.are.1.spelled own) in
    (word_free word parts.0, words_free words h.are.0 parts.1 h.are.2)

-- no line of a file has a line feed
pub lines_free : (lines : List (List ℕ)) (bytes : List ℕ) → HasLines lines bytes → Each HasNoFeed lines
lines_free [] bytes h = tt
lines_free (line ∷ lines) bytes (f, inl e) = (f, subst (λ (ls : List (List ℕ)). Each HasNoFeed ls) (sym e.last) tt)
lines_free (line ∷ lines) bytes (f, inr (rest, e, more)) = (f, lines_free lines rest more)

rows_free : (lines : List (List ℕ)) (rows : List (List Word)) → HaveTokens lines rows → Each HasNoFeed lines → Each (Each IsFree) rows
rows_free [] rows h f = subst (λ (rs : List (List Word)). Each (Each IsFree) rs) (sym h) tt
rows_free (line ∷ lines) rows (inl (blank, more)) f = rows_free lines rows more f.1
rows_free (line ∷ lines) rows (inr (word, words, more, has, e, t)) f =
    subst (λ (rs : List (List Word)). Each (Each IsFree) rs) (sym e) (words_free (word ∷ words) line f.0 has, rows_free lines more t f.1)

-- the labels of trees that are written in such tokens

-- the text of a word without line feed has none
pub text_free : (quoted : Bool) (text : List ℕ) → IsFree (word_for quoted text) → HasNoFeed text
text_free true text h = h
text_free false text h = h

trees_plain : (names labels : List (List ℕ)) (ts : Trees (Symbol ℕ ℕ)) (w : Written) → Means names labels ts w → Each IsFree (spell w) → HavePlainLabels labels ts
trees_plain names labels none w m e = tt
trees_plain names labels (tree s kids rest) end m e = absurd m
trees_plain names labels (tree (symbol_label f) kids rest) (leaf quoted text more) m e =
    let own = label_plain labels f text m.0.1 (text_free quoted text e.0) in
    (own.0, own.1, subst (HavePlainLabels labels) (sym m.1) tt, trees_plain names labels rest more m.2 e.1)
trees_plain names labels (tree (hole q) kids rest) (leaf quoted text more) m e = (subst (HavePlainLabels labels) (sym m.1) tt, trees_plain names labels rest more m.2 e.1)
trees_plain names labels (tree (symbol_label f) kids rest) (head quoted text below more) m e =
    let own = label_plain labels f text m.0 (text_free quoted text e.0) in
    let parts = each_parts IsFree (spell below) (close ∷ spell more) e.1.1 in
    (own.0, own.1, trees_plain names labels kids below m.1 parts.0, trees_plain names labels rest more m.2 parts.1.1)
trees_plain names labels (tree (hole q) kids rest) (head quoted text below more) m e = absurd m.0

-- a weight that was read is within the greatest
pub weighed_within : (scale : Scale) (text : List ℕ) (cost : ℕ) → IsWeighed scale text cost → cost ≤ most
weighed_within scale text cost h = subst (λ (c : ℕ). c ≤ most) (sym h.cost_is) (cost_within scale h.weight h.within)

-- a cost that was read can be printed
pub plain_cost : (scale : Scale) (weight : Option (List ℕ)) (cost : ℕ) → IsCostOf scale weight cost → IsPlainCost scale cost
plain_cost scales.Unweighted None cost h = h
plain_cost scales.Plain None cost h = omega arith
plain_cost scales.Reversed None cost h = omega arith
plain_cost scales.Unweighted (Some text) cost h = h
plain_cost scales.Plain (Some text) cost h = weighed_within scales.Plain text cost h
plain_cost scales.Reversed (Some text) cost h = weighed_within scales.Reversed text cost h

rule_plain : (scale : Scale) (names labels : List (List ℕ)) (words : List Word) (r : Rule ℕ) → SpellsRuleOf scale names labels words r → Each IsFree words → IsPrintable scale labels r
rule_plain scale names labels words r s e =
    let own : Each IsFree (name s.left ∷ (arrow ∷ (spell s.right ++ weight_words s.weight))) = subst (λ (ws : List Word). Each IsFree ws) (sym s.words_are) e in
    record {
      right = trees_plain names labels (only r.right) s.right s.right_is (each_parts IsFree (spell s.right) (weight_words s.weight) own.1.1).0;
      cost = plain_cost scale s.weight r.cost s.cost_is;
    }

rules_plain :
    (scale : Scale) (names labels : List (List ℕ)) (rows : List (List Word)) (rules : List (Rule ℕ)) → Along (SpellsRuleOf scale names labels) rows rules → Each (Each IsFree) rows → Each (IsPrintable scale labels) rules
rules_plain scale names labels [] [] a e = tt
rules_plain scale names labels [] (r ∷ rules) a e = absurd a
rules_plain scale names labels (row ∷ rows) [] a e = absurd a
rules_plain scale names labels (row ∷ rows) (r ∷ rules) a e = (rule_plain scale names labels row r a.0 e.0, rules_plain scale names labels rows rules a.1 e.1)

pub read_plain : (scale : Scale) (labels : List (List ℕ)) (bytes : List ℕ) (g : GrammarOf) → GrammarText scale labels bytes g → ArePrintable scale labels g.rules
read_plain scale labels bytes g t m h =
    let free = rows_free t.lines ((name t.start ∷ []) ∷ t.rows) t.tokens (lines_free t.lines bytes t.lines_are) in
    each_has (IsPrintable scale labels) g.rules (rule_at g.rules m) (rules_plain scale g.names labels t.rows g.rules t.rules free.1) (has_at g.rules m no_rule h)
