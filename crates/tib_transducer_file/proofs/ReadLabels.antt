-- The labels of a transducer that was read have no line feed, and its rules can be printed.
use Rattle.tib_cost.specs.declared.Scale.{Scale}
use Rattle.std.proofs.Common.{◌≡◌, ℕ, ◌+◌, ◌-◌, ◌≤◌, inl, inr, Bool, true, false, Option, List, [], ◌∷◌, ◌++◌, length, drop, length-append, refl, sym, ◌∙◌, subst, arith, zero, suc}
use Rattle.std.specs.Prelude.{Some, None, slice_get, slice_range, cond, ◌==◌}
use Rattle.std.specs.List.{list_all}
use Rattle.std.proofs.lemmas.List.{take_all}
use Rattle.std.proofs.lemmas.List.Folds.{list_all-append}
use Rattle.std.proofs.lemmas.Option.{slice_get_within, get_or_from_slice_get}
use Rattle.tib_lex.specs.Grammar.{Word, name, spelling}
use Rattle.tib_lex.specs.Line.{text_of, unescape, word_of}
use Rattle.tib_lex.specs.Lines.{lines_of, not_feed, HasNoFeed}
use Rattle.tib_lex.specs.Lists.{Along, Each}
use Rattle.tib_lex.specs.declared.token.Kind.{Kind}
use Rattle.tib_lex.specs.declared.token.Kind.TheVariants as kinds
use Rattle.tib_lex.specs.declared.token.Token.{Token}
use Rattle.tib_lex.proofs.HasLines.{lines_split}
use Rattle.tib_lex.proofs.Lists.{each_append, each_parts}
use Rattle.tib_lex.proofs.NoFeeds.{text_plain}
use Rattle.tib_lex.proofs.Spelled.{and_true}
use Rattle.tib_tree.specs.Machine.{IsTree}
use Rattle.tib_tree.specs.Trees.{Trees, none, tree, only, preorder, preorder_of}
use Rattle.tib_tree.specs.Written.{Written, end, leaf, head, word_for, spell, Item, items}
use Rattle.tib_grammar.specs.Sides.{Symbol, label as symbol_label, hole, holes}
use Rattle.tib_grammar_file.specs.Printable.{IsPlainCost}
use Rattle.tib_grammar_file.specs.Rule.{weight_words}
use Rattle.tib_grammar_file.proofs.Plain.{plain_cost, free_parts, lines_free}
use Rattle.tib_transducer.specs.Rules.{variables_of}
use Rattle.tib_transducer.specs.declared.Variable.{Variable}
use Rattle.tib_transducer.specs.declared.Pair.{Pair}
use Rattle.tib_transducer.specs.declared.TransducerRule.{TransducerRule}
use Rattle.tib_transducer_file.specs.Forms.{number_size, number_of, behind_number, is_quoted, written_label, label_behind, ending, variable_of, stop_at, behind_stop, leaf_text, variable_if, variable_in, pair_in, takes_next, joins, left_words}
use Rattle.tib_transducer_file.specs.Pieces.{Piece, meaning, meanings, HasPieces}
use Rattle.tib_transducer_file.specs.Rule.{Parts, RuleLine, label_of, numbers_in}
use Rattle.tib_transducer_file.specs.TransducerText.{HasParts, SpellsLine, HaveRules, HaveStart, IsSmallRule}
use Rattle.tib_transducer_file.specs.Value.{IsAsked, IsLeftSymbol, IsLeftNode, IsRootItem, IsLeftSide, IsRightSymbol, IsRightNode, IsRule}
use Rattle.tib_transducer_file.specs.ByName.{IsPlainLabel, IsPlainAsked, IsPlainOnLeft, IsPlainOnRight, IsPrintable}

-- parts of what has no line feed

free_both : (xs ys : List ℕ) → HasNoFeed xs → HasNoFeed ys → HasNoFeed (xs ++ ys)
free_both xs ys h k = list_all-append not_feed xs ys ∙ rw h k

free_drop : (n : ℕ) (xs : List ℕ) → HasNoFeed xs → HasNoFeed (drop n xs)
free_drop zero xs h = h
free_drop (suc n) [] h = refl
free_drop (suc n) (x ∷ xs) h = free_drop n xs (and_true (not_feed x) (list_all not_feed xs) h).1

whole_slice : (xs : List ℕ) → slice_range xs 0 (length xs) ≡ xs
whole_slice xs = take_all (length xs - 0) xs (omega arith)

word_free : (kind : Kind) (bytes : List ℕ) → HasNoFeed bytes → HasNoFeed (text_of (word_of kind bytes))
word_free kind bytes h =
    let t : Token = record { kind = kind; start = 0; end = length bytes } in
    subst (λ (l : List ℕ). HasNoFeed (text_of (word_of kind l))) (whole_slice bytes) (text_plain bytes t h)

written_free : (text : List ℕ) → HasNoFeed text → HasNoFeed (written_label text)
written_free text h = by (is_quoted text)
  where
    by : (b : Bool) → HasNoFeed (cond b (unescape (slice_range text 1 (length text - 1))) text)
    by true = word_free kinds.Quoted text h
    by false = h

-- tokens and words
abbrev IsFreePiece : Piece → Type 0
IsFreePiece p = HasNoFeed p.bytes

abbrev IsFree : Word → Type 0
IsFree word = HasNoFeed (text_of word)

abbrev IsFreeItem : Item → Type 0
IsFreeItem i = HasNoFeed i.text

pieces_free : (pieces : List Piece) (line : List ℕ) → HasNoFeed line → HasPieces pieces line → Each IsFreePiece pieces
pieces_free [] line f h = tt
pieces_free (p ∷ pieces) line f h =
    let own : HasNoFeed h.2.rest = (free_parts h.2.blanks h.2.rest (subst (λ (l : List ℕ). HasNoFeed l) h.2.parts f)).1 in
    let parts = free_parts (spelling (meaning p)) h.2.are.0 (subst (λ (l : List ℕ). HasNoFeed l) h.2.are.1.spelled own) in
    (subst (λ (l : List ℕ). HasNoFeed l) (sym h.1) parts.0, pieces_free pieces h.2.are.0 parts.1 h.2.are.2)

means_free : (pieces : List Piece) → Each IsFreePiece pieces → Each IsFree (meanings pieces)
means_free [] f = tt
means_free (p ∷ pieces) f = (word_free p.kind p.bytes f.0, means_free pieces f.1)

joins_free : (root : Bool) (pieces : List Piece) → Each IsFreePiece pieces → Each IsFree (joins root pieces)
joins_free root [] f = tt
joins_free root (p ∷ []) f = (word_free p.kind p.bytes f.0, tt)
joins_free root (p ∷ (q ∷ behind)) f = by (takes_next root p q behind) (joins_free false behind f.1.1) (joins_free false (q ∷ behind) f.1)
  where
    by : (b : Bool) → Each IsFree (joins false behind) → Each IsFree (joins false (q ∷ behind)) → Each IsFree (cond b (name (p.bytes ++ q.bytes) ∷ joins false behind) (meaning p ∷ joins false (q ∷ behind)))
    by true taken rest = (free_both p.bytes q.bytes f.0 f.1.0, taken)
    by false taken rest = (word_free p.kind p.bytes f.0, rest)

item_free : (quoted : Bool) (text : List ℕ) → IsFree (word_for quoted text) → HasNoFeed text
item_free true text h = h
item_free false text h = h

items_free : (w : Written) → Each IsFree (spell w) → Each IsFreeItem (items w)
items_free end f = tt
items_free (leaf quoted text more) f = (item_free quoted text f.0, items_free more f.1)
items_free (head quoted text below more) f =
    let parts = each_parts IsFree (spell below) _ f.1.1 in
    (item_free quoted text f.0, each_append IsFreeItem (items below) (items more) (items_free below parts.0) (items_free more parts.1.1))

tree_free : (words : List Word) (is : List Item) → IsTree words is → Each IsFree words → Each IsFreeItem is
tree_free words is t f = subst (λ (js : List Item). Each IsFreeItem js) t.nodes (items_free t.tree (subst (λ (ws : List Word). Each IsFree ws) (sym t.spelled) f))

-- the items of a rule line
record IsFreeRule (p : Parts) : Type 0 where
  pub root : IsFreeItem p.root
  pub below : Each IsFreeItem p.below
  pub right : Each IsFreeItem p.right

parts_free : (line : List ℕ) (p : Parts) → HasNoFeed line → HasParts line p → IsFreeRule p
parts_free line p f h =
    let s = h.spells in
    let pieces : Each IsFreePiece (s.front ++ s.arrow ∷ s.back) = subst (λ (ps : List Piece). Each IsFreePiece ps) s.are (pieces_free h.pieces line f h.has) in
    let split = each_parts IsFreePiece s.front (s.arrow ∷ s.back) pieces in
    let left : Each IsFreeItem (p.root ∷ p.below) = tree_free (left_words s.front) (p.root ∷ p.below) s.left (joins_free true s.front split.0) in
    let words : Each IsFree (s.right_words ++ weight_words p.weight) = subst (λ (ws : List Word). Each IsFree ws) (sym s.behind) (means_free s.back split.1.1) in
    record { root = left.0; below = left.1; right = tree_free s.right_words p.right s.right (each_parts IsFree s.right_words (weight_words p.weight) words).0 }

-- labels of left sides
label_plain : (labels : List (List ℕ)) (f : ℕ) (text : List ℕ) → slice_get labels f ≡ Some text → HasNoFeed text → IsPlainLabel labels f
label_plain labels f text e h = (slice_get_within labels f text e, subst (λ (t : List ℕ). HasNoFeed t) (sym (get_or_from_slice_get labels f text [] e)) h)

abbrev IsFreeAsked : Option (List ℕ) → Type 0
IsFreeAsked None = Unit {0}
IsFreeAsked (Some text) = HasNoFeed text

asked_plain : (labels : List (List ℕ)) (a : Option ℕ) (o : Option (List ℕ)) → IsAsked labels a o → IsFreeAsked o → IsPlainAsked labels a
asked_plain labels None o h f = tt
asked_plain labels (Some g) None h f = absurd h
asked_plain labels (Some g) (Some text) h f = label_plain labels g text h f

behind_free : (bytes : List ℕ) → HasNoFeed bytes → IsFreeAsked (label_behind bytes)
behind_free [] h = tt
behind_free (b ∷ bytes) h = written_free (b ∷ bytes) h

abbrev IsFreeVariable : Option (ℕ × Option (List ℕ)) → Type 0
IsFreeVariable None = Unit {0}
IsFreeVariable (Some v) = IsFreeAsked v.1

ending_free : (n : ℕ) (bytes : List ℕ) → HasNoFeed bytes → IsFreeVariable (ending n bytes)
ending_free n [] h = tt
ending_free n (b ∷ bytes) h = by (b == 58)
  where
    by : (c : Bool) → IsFreeVariable (cond c (Some (n, label_behind bytes)) None)
    by true = behind_free bytes (and_true (not_feed b) (list_all not_feed bytes) h).1
    by false = tt

variable_free : (text : List ℕ) → HasNoFeed text → IsFreeVariable (variable_of text)
unfolding variable_of
variable_free text h = by (number_size text == 0)
  where
    by : (c : Bool) → IsFreeVariable (cond c None (ending (number_of text) (behind_number text)))
    by true = tt
    by false = ending_free (number_of text) (behind_number text) (free_drop (number_size text + 1) text h)

leaf_free : (quoted : Bool) (kids : Option ℕ) (text : List ℕ) → HasNoFeed text → IsFreeVariable (variable_if (leaf_text quoted kids text))
leaf_free true kids text h = tt
leaf_free false None text h = variable_free text h
leaf_free false (Some n) text h = tt

left_plain : (labels : List (List ℕ)) (s : Symbol ℕ Variable) (o : Option (ℕ × Option (List ℕ))) (text : List ℕ) → IsLeftSymbol labels s o text → HasNoFeed text → IsFreeVariable o → IsPlainOnLeft labels s
left_plain labels (symbol_label f) None text h t v = label_plain labels f text h t
left_plain labels (symbol_label f) (Some x) text h t v = absurd h
left_plain labels (hole x) None text h t v = absurd h
left_plain labels (hole x) (Some y) text h t v = asked_plain labels x.label y.1 h v

lefts_plain : (labels : List (List ℕ)) (ss : List (Symbol ℕ Variable × ℕ)) (is : List Item) → Along (IsLeftNode labels) ss is → Each IsFreeItem is → Each (λ s. IsPlainOnLeft labels s.0) ss
lefts_plain labels [] is h f = tt
lefts_plain labels (s ∷ ss) [] h f = absurd h
lefts_plain labels (s ∷ ss) (i ∷ is) h f = (left_plain labels s.0 (variable_in i) i.text h.0.0 f.0 (leaf_free i.quoted i.kids i.text f.0), lefts_plain labels ss is h.1 f.1)

root_plain : (labels : List (List ℕ)) (s : Symbol ℕ Variable × ℕ) (text : List ℕ) (kids : Option ℕ) → IsRootItem labels s text kids → HasNoFeed text → IsPlainOnLeft labels s.0
root_plain labels (symbol_label f, rank) text kids h t = label_plain labels f text h.0 t
root_plain labels (hole x, rank) text kids h t = absurd h

side_plain : (labels : List (List ℕ)) (ss : List (Symbol ℕ Variable × ℕ)) (p : Parts) → IsLeftSide labels ss p → IsFreeRule p → Each (λ s. IsPlainOnLeft labels s.0) ss
side_plain labels [] p h f = absurd h
side_plain labels (s ∷ ss) p h f =
    (root_plain labels s (label_of p) p.root.kids h.0 (written_free (behind_stop p.root.text) (free_drop (stop_at p.root.text + 1) p.root.text f.root)), lefts_plain labels ss p.below h.1 f.below)

-- labels of right sides
right_plain : (names labels : List (List ℕ)) (numbers : List ℕ) (s : Symbol ℕ (Pair ℕ)) (o : Option (List ℕ × ℕ)) (text : List ℕ) → IsRightSymbol names labels numbers s o text → HasNoFeed text → IsPlainOnRight labels s
right_plain names labels numbers (symbol_label f) None text h t = label_plain labels f text h t
right_plain names labels numbers (symbol_label f) (Some q) text h t = absurd h
right_plain names labels numbers (hole x) o text h t = tt

rights_plain : (names labels : List (List ℕ)) (numbers : List ℕ) (ss : List (Symbol ℕ (Pair ℕ) × ℕ)) (is : List Item) → Along (IsRightNode names labels numbers) ss is → Each IsFreeItem is → Each (λ s. IsPlainOnRight labels s.0) ss
rights_plain names labels numbers [] is h f = tt
rights_plain names labels numbers (s ∷ ss) [] h f = absurd h
rights_plain names labels numbers (s ∷ ss) (i ∷ is) h f = (right_plain names labels numbers s.0 (pair_in i) i.text h.0.0 f.0, rights_plain names labels numbers ss is h.1 f.1)

-- there are no more variables than nodes
holes_few : {P : Type 0} (ts : Trees (Symbol ℕ P)) → length (holes ts) ≤ length (preorder ts)
holes_few none = omega arith
holes_few (tree (symbol_label f) kids rest) = omega (arith, holes_few kids, holes_few rest, length-append (holes kids) (holes rest), length-append (preorder kids) (preorder rest))
holes_few (tree (hole p) kids rest) = omega (arith, holes_few rest, length-append (preorder kids) (preorder rest))

few_variables : (r : TransducerRule ℕ) → IsSmallRule r → length (variables_of r.left) ≤ 1000000000
few_variables r s =
    let n : length (preorder r.left.kids ++ []) ≡ length (preorder r.left.kids) + 0 = length-append (preorder r.left.kids) [] in
    omega (arith, holes_few (only r.left), s.0, n)

rule_printable : (scale : Scale) (names labels : List (List ℕ)) (bytes : List ℕ) (r : TransducerRule ℕ) (line : RuleLine) → HasNoFeed bytes → SpellsLine scale bytes line → IsRule names labels r line → IsSmallRule r → IsPrintable scale labels r
rule_printable scale names labels bytes r line f h is small =
    let free : IsFreeRule line.parts = parts_free bytes line.parts f h.parts in
    record {
      left = side_plain labels (preorder_of r.left) line.parts is.left free;
      right = rights_plain names labels (numbers_in line.parts.below) (preorder_of r.right) line.parts.right is.right free.right;
      few = few_variables r small;
      cost = subst (λ (c : ℕ). IsPlainCost scale c) (sym is.cost) (plain_cost scale line.parts.weight line.cost h.cost);
    }

-- the lines of a file

abbrev IsHeld : Scale → RuleLine → Type 0
IsHeld scale rule = (line : List ℕ) × HasNoFeed line × SpellsLine scale line rule

rules_held : (scale : Scale) (lines : List (List ℕ)) (rules : List RuleLine) → Each HasNoFeed lines → HaveRules scale lines rules → Each (IsHeld scale) rules
rules_held scale [] rules f h = subst (λ (rs : List RuleLine). Each (IsHeld scale) rs) (sym h) tt
rules_held scale (line ∷ lines) rules f (inl (blank, more)) = rules_held scale lines rules f.1 more
rules_held scale (line ∷ lines) rules f (inr (rule, others, e, spells, more)) =
    subst (λ (rs : List RuleLine). Each (IsHeld scale) rs) (sym e) ((line, f.0, spells), rules_held scale lines others f.1 more)

start_held : (scale : Scale) (lines : List (List ℕ)) (start : List ℕ) (rules : List RuleLine) → Each HasNoFeed lines → HaveStart scale lines start rules → Each (IsHeld scale) rules
start_held scale [] start rules f h = absurd h
start_held scale (line ∷ lines) start rules f (inl (blank, more)) = start_held scale lines start rules f.1 more
start_held scale (line ∷ lines) start rules f (inr (has, plain, more)) = rules_held scale lines rules f.1 more

file_held : (scale : Scale) (bytes start : List ℕ) (rules : List RuleLine) → HaveStart scale (lines_of bytes) start rules → Each (IsHeld scale) rules
file_held scale bytes start rules h = start_held scale (lines_of bytes) start rules (lines_free (lines_of bytes) bytes ((lines_split (lines_of bytes) bytes).1 refl)) h

all_printable : (scale : Scale) (names labels : List (List ℕ)) (rules : List (TransducerRule ℕ)) (lines : List RuleLine) → Along (IsRule names labels) rules lines → Each (IsHeld scale) lines → Each IsSmallRule rules → Each (IsPrintable scale labels) rules
all_printable scale names labels [] lines a f s = tt
all_printable scale names labels (r ∷ rules) [] a f s = absurd a
all_printable scale names labels (r ∷ rules) (l ∷ lines) a f s =
    (rule_printable scale names labels f.0.0 r l f.0.1 f.0.2 a.0 s.0, all_printable scale names labels rules lines a.1 f.1 s.1)

pub rules_printable : (scale : Scale) (bytes start : List ℕ) (names labels : List (List ℕ)) (rules : List (TransducerRule ℕ)) (lines : List RuleLine) → HaveStart scale (lines_of bytes) start lines → Along (IsRule names labels) rules lines → Each IsSmallRule rules → Each (IsPrintable scale labels) rules
rules_printable scale bytes start names labels rules lines h a s = all_printable scale names labels rules lines a (file_held scale bytes start lines h) s
