-- The labels and costs of a transducer that was read can be written.
use Rattle.tib_cost.specs.declared.Scale.TheVariants as scales
use Rattle.tib_cost.specs.declared.Scale.{Scale}
use Rattle.std.proofs.Common.{◌≡◌, ℕ, ◌+◌, ◌-◌, ◌<◌, Bool, true, false, Option, List, [], ◌∷◌, ◌++◌, length, take, drop, get_or, refl, ap, sym, ◌∙◌, subst, arith, zero, suc}
use Rattle.std.specs.Prelude.{Some, None, slice_get, slice_range, not, ◌==◌, ◌||◌, if◌then◌else◌}
use Rattle.std.specs.List.{list_all}
use Rattle.std.proofs.lemmas.List.Folds.{list_all-append}
use Rattle.std.proofs.lemmas.Option.{slice_get_within, slice_get-get_or, get_or_from_slice_get}
use Rattle.tib_lex.specs.Grammar.{Word, open_, close, hash, arrow, name, label as word_label, escape, spelling}
use Rattle.tib_lex.specs.Line.{unescape, text_of}
use Rattle.tib_lex.specs.Lines.{not_feed, HasNoFeed, lines_of, push_byte}
use Rattle.tib_lex.specs.Lists.{Along, Each}
use Rattle.tib_lex.proofs.Booleans.{and-true, and-both}
use Rattle.tib_lex.proofs.Lists.{each_append, each_parts}
use Rattle.tib_lex.proofs.NoFeeds.{unescaped}
use Rattle.tib_tree.specs.Grows.{Grows}
use Rattle.tib_tree.specs.Machine.{IsTree}
use Rattle.tib_tree.specs.Trees.{Tree, Trees, none, tree, only, preorder, preorder_of}
use Rattle.tib_tree.specs.Written.{Written, Item, end, leaf, head, spell, items}
use Rattle.tib_tree.specs.Nodes.{rank_of}
use Rattle.tib_grammar.specs.Items.{pair_of, pairs_of}
use Rattle.tib_grammar.specs.Sides.{Symbol, label, hole, Side as SideFor, HolesAreLeaves}
use Rattle.tib_grammar.proofs.Holes.{HolesAreLeaves-items}
use Rattle.tib_grammar_file.specs.Printable.{IsPlainCost}
use Rattle.tib_grammar_file.specs.Rule.{weight_words}
use Rattle.tib_grammar_file.proofs.Plain.{free_front, text_free, plain_cost}
use Rattle.tib_transducer.specs.TransducerOf.{TransducerOf}
use Rattle.tib_transducer.specs.Range.{AreShaped, EndInHoles}
use Rattle.tib_transducer.specs.Rules.{transducer_rule}
use Rattle.tib_transducer.specs.declared.Variable.{Variable}
use Rattle.tib_transducer.specs.declared.Pair.{Pair}
use Rattle.tib_transducer.specs.declared.TransducerRule.{TransducerRule}
use Rattle.tib_transducer_file.specs.Forms.{variable_in, pair_in, stop_at, behind_stop, is_quoted, takes_next, joins, left_words}
use Rattle.tib_transducer_file.specs.Pieces.{Piece, meaning, meanings, HasPieces}
use Rattle.tib_transducer_file.specs.Rule.{Parts, SpellsRule, RuleLine, label_of, numbers_in}
use Rattle.tib_transducer_file.specs.TransducerText.{SpellsLine, ReadsAs}
use Rattle.tib_transducer_file.specs.Value.{IsLeftSymbol, IsLeftNode, IsRootItem, IsLeftSide, IsRightSymbol, IsRightNode, IsRule}
use Rattle.tib_transducer_file.proofs.RulesHave.{file_has}
use Rattle.tib_transducer_file.proofs.ShapesRead.{pair_rank, rules_shaped, left_ends, item_from, items_from}
use Rattle.tib_operations.specs.Moves.{AreLabelsPlain, IsPlainMove, ArePlainMoves}

-- bytes without a line feed: their pieces, and what is in quotes

free_parts : (xs ys : List ℕ) → HasNoFeed (xs ++ ys) → HasNoFeed xs × HasNoFeed ys
free_parts xs ys h = and-true (list_all not_feed xs) (list_all not_feed ys) (sym (list_all-append not_feed xs ys) ∙ h)

free_both : (xs ys : List ℕ) → HasNoFeed xs → HasNoFeed ys → HasNoFeed (xs ++ ys)
free_both xs ys h k = list_all-append not_feed xs ys ∙ and-both (list_all not_feed xs) (list_all not_feed ys) h k

taken : (n : ℕ) (xs : List ℕ) → HasNoFeed xs → HasNoFeed (take n xs)
taken zero xs h = refl
taken (suc n) [] h = refl
taken (suc n) (x ∷ xs) h = let b = and-true (not_feed x) (list_all not_feed xs) h in and-both (not_feed x) (list_all not_feed (take n xs)) b.0 (taken n xs b.1)

dropped : (n : ℕ) (xs : List ℕ) → HasNoFeed xs → HasNoFeed (drop n xs)
dropped zero xs h = h
dropped (suc n) [] h = refl
dropped (suc n) (x ∷ xs) h = dropped n xs (and-true (not_feed x) (list_all not_feed xs) h).1

free_unquoted : (text : List ℕ) → HasNoFeed (escape text) → HasNoFeed text
free_unquoted [] h = refl
free_unquoted (x ∷ xs) h =
    let t = and-true (not_feed x) (list_all not_feed (escape xs)) (free_front (x == 34 || x == 92) x (escape xs) h) in
    and-both (not_feed x) (list_all not_feed xs) t.0 (free_unquoted xs t.1)

free_written : (quoted : Bool) (text : List ℕ) → HasNoFeed text → HasNoFeed (if quoted then unescape (slice_range text 1 (length text - 1)) else text)
free_written true text h = unescaped (slice_range text 1 (length text - 1)) (taken (length text - 1 - 1) (drop 1 text) (dropped 1 text h))
free_written false text h = h

-- the label of a root
free_label : (p : Parts) → HasNoFeed p.root.text → HasNoFeed (label_of p)
free_label p h = free_written (is_quoted (behind_stop p.root.text)) (behind_stop p.root.text) (dropped (stop_at p.root.text + 1) p.root.text h)

-- the lines of a file
free_push : (b : ℕ) (lines : List (List ℕ)) → not_feed b ≡ true → Each HasNoFeed lines → Each HasNoFeed (push_byte b lines)
free_push b [] e h = (and-both (not_feed b) true e refl, tt)
free_push b (line ∷ lines) e h = (and-both (not_feed b) (list_all not_feed line) e h.0, h.1)

pub free_lines : (bytes : List ℕ) → Each HasNoFeed (lines_of bytes)
free_lines [] = tt
free_lines (b ∷ rest) = by (b == 10) refl (free_lines rest)
  where
    by : (t : Bool) → (b == 10) ≡ t → Each HasNoFeed (lines_of rest) → Each HasNoFeed (if t then [] ∷ lines_of rest else push_byte b (lines_of rest))
    by true e more = (refl, more)
    by false e more = free_push b (lines_of rest) (ap not e) more

-- the tokens of a line

abbrev IsFree : Word → Type 0
IsFree word = HasNoFeed (text_of word)

word_free : (word : Word) → HasNoFeed (spelling word) → IsFree word
word_free open_ h = refl
word_free close h = refl
word_free hash h = refl
word_free arrow h = refl
word_free (name text) h = h
word_free (word_label text) h = free_unquoted text (free_parts (escape text) (34 ∷ []) (free_parts (34 ∷ []) (escape text ++ 34 ∷ []) h).1).0

pub record IsFreePiece (p : Piece) : Type 0 where
  bytes : HasNoFeed p.bytes
  word : IsFree (meaning p)

pub pieces_free : (pieces : List Piece) (line : List ℕ) → HasNoFeed line → HasPieces pieces line → Each IsFreePiece pieces
pieces_free [] line f h = tt
pieces_free (p ∷ pieces) line f h =
    let own : HasNoFeed h.2.rest = (free_parts h.2.blanks h.2.rest (subst HasNoFeed h.2.parts f)).1 in
    let parts = free_parts (spelling (meaning p)) h.2.are.0 (subst HasNoFeed h.2.are.1.spelled own) in (
      record { bytes = subst HasNoFeed (sym h.1) parts.0; word = word_free (meaning p) parts.0 },
      pieces_free pieces h.2.are.0 parts.1 h.2.are.2,
    )

join_step : (t : Bool) (p q : Piece) (behind more : List Word) → IsFreePiece p → IsFreePiece q → Each IsFree behind → Each IsFree more → Each IsFree (if t then name (p.bytes ++ q.bytes) ∷ behind else meaning p ∷ more)
join_step true p q behind more h k e f = (free_both p.bytes q.bytes h.bytes k.bytes, e)
join_step false p q behind more h k e f = (h.word, f)

joins_free : (root : Bool) (pieces : List Piece) → Each IsFreePiece pieces → Each IsFree (joins root pieces)
joins_free root [] h = tt
joins_free root (p ∷ []) h = (h.0.word, tt)
joins_free root (p ∷ (q ∷ behind)) h =
    join_step (takes_next root p q behind) p q (joins false behind) (joins false (q ∷ behind)) h.0 h.1.0 (joins_free false behind h.1.1) (joins_free false (q ∷ behind) h.1)

meanings_free : (pieces : List Piece) → Each IsFreePiece pieces → Each IsFree (meanings pieces)
meanings_free [] h = tt
meanings_free (p ∷ pieces) h = (h.0.word, meanings_free pieces h.1)

-- the items of a tree

abbrev pub IsFreeItem : Item → Type 0
IsFreeItem i = HasNoFeed i.text

items_free : (w : Written) → Each IsFree (spell w) → Each IsFreeItem (items w)
items_free end h = tt
items_free (leaf quoted text rest) h = (text_free quoted text h.0, items_free rest h.1)
items_free (head quoted text kids rest) h =
    let parts = each_parts IsFree (spell kids) (close ∷ spell rest) h.1.1 in
    (text_free quoted text h.0, each_append IsFreeItem (items kids) (items rest) (items_free kids parts.0) (items_free rest parts.1.1))

-- the items of a left-hand side
pub left_free : (front : List Piece) (p : Parts) → IsTree (left_words front) (p.root ∷ p.below) → Each IsFreePiece front → Each IsFreeItem (p.root ∷ p.below)
left_free front p left f = subst (Each IsFreeItem) left.nodes (items_free left.tree (subst (Each IsFree) (sym left.spelled) (joins_free true front f)))

record AreFreeParts (p : Parts) : Type 0 where
  left : Each IsFreeItem (p.root ∷ p.below)
  right : Each IsFreeItem p.right

parts_free : (pieces : List Piece) (p : Parts) → Each IsFreePiece pieces → SpellsRule pieces p → AreFreeParts p
parts_free pieces p f s =
    let split = each_parts IsFreePiece s.front (s.arrow ∷ s.back) (subst (Each IsFreePiece) s.are f) in
    let words = each_parts IsFree s.right_words (weight_words p.weight) (subst (Each IsFree) (sym s.behind) (meanings_free s.back split.1.1)) in
    record {
      left = left_free s.front p s.left split.0;
      right = subst (Each IsFreeItem) s.right.nodes (items_free s.right.tree (subst (Each IsFree) (sym s.right.spelled) words.0));
    }

-- a rule of a line

module _ (names labels : List (List ℕ)) where
  abbrev IsPlainNode : {P : Type 0} → Symbol ℕ P × ℕ → Type 0
  IsPlainNode (label f, rank) = (f < length labels) × HasNoFeed (get_or labels f [])
  IsPlainNode (hole x, rank) = Unit {0}

  label_plain : (f : ℕ) (text : List ℕ) → slice_get labels f ≡ Some text → HasNoFeed text → (f < length labels) × HasNoFeed (get_or labels f [])
  label_plain f text e h = (slice_get_within labels f text e, subst HasNoFeed (sym (get_or_from_slice_get labels f text [] e)) h)

  trees_plain : {P : Type 0} (ts : Trees (Symbol ℕ P)) → Each IsPlainNode (preorder ts) → AreLabelsPlain labels ts
  trees_plain none h = tt
  trees_plain (tree (label f) kids rest) h = let parts = each_parts IsPlainNode (preorder kids) (preorder rest) h.1 in (h.0.0, h.0.1, trees_plain kids parts.0, trees_plain rest parts.1)
  trees_plain (tree (hole x) kids rest) h = let parts = each_parts IsPlainNode (preorder kids) (preorder rest) h.1 in (trees_plain kids parts.0, trees_plain rest parts.1)

  side_plain : {P : Type 0} (s : Tree (Symbol ℕ P)) → Each IsPlainNode (preorder_of s) → AreLabelsPlain labels (only s)
  side_plain {P} s h = at s.label s.kids h
    where
      at : (l : Symbol ℕ P) (kids : Trees (Symbol ℕ P)) → Each IsPlainNode (preorder_of (record { label = l; kids = kids })) → AreLabelsPlain labels (tree l kids none)
      at (label f) kids h = (h.0.0, h.0.1, trees_plain kids h.1, tt)
      at (hole x) kids h = (trees_plain kids h.1, tt)

  left_node : (s : Symbol ℕ Variable) (rank : ℕ) (o : Option (ℕ × Option (List ℕ))) (text : List ℕ) → IsLeftSymbol labels s o text → HasNoFeed text → IsPlainNode (s, rank)
  left_node (label f) rank None text h e = label_plain f text h e
  left_node (label f) rank (Some v) text h e = absurd h
  left_node (hole x) rank o text h e = tt

  left_nodes : (ss : List (Symbol ℕ Variable × ℕ)) (is : List Item) → Along (IsLeftNode labels) ss is → Each IsFreeItem is → Each IsPlainNode ss
  left_nodes [] is a e = tt
  left_nodes (s ∷ ss) [] a e = absurd a
  left_nodes (s ∷ ss) (i ∷ is) a e = (left_node s.0 s.1 (variable_in i) i.text a.0.0 e.0, left_nodes ss is a.1 e.1)

  root_node : (s : Symbol ℕ Variable × ℕ) (text : List ℕ) (kids : Option ℕ) → IsRootItem labels s text kids → HasNoFeed text → IsPlainNode s
  root_node (label f, rank) text kids h e = label_plain f text h.0 e
  root_node (hole x, rank) text kids h e = absurd h

  left_side : (ss : List (Symbol ℕ Variable × ℕ)) (p : Parts) → IsLeftSide labels ss p → Each IsFreeItem (p.root ∷ p.below) → Each IsPlainNode ss
  left_side [] p h f = absurd h
  left_side (s ∷ ss) p h f = (root_node s (label_of p) p.root.kids h.0 (free_label p f.0), left_nodes ss p.below h.1 f.1)

  -- a left-hand side can be written
  pub left_plain : (s : SideFor ℕ Variable) (p : Parts) → IsLeftSide labels (preorder_of s) p → Each IsFreeItem (p.root ∷ p.below) → AreLabelsPlain labels (only s)
  left_plain s p h f = side_plain s (left_side (preorder_of s) p h f)

  right_node : (numbers : List ℕ) (s : Symbol ℕ (Pair ℕ)) (rank : ℕ) (o : Option (List ℕ × ℕ)) (text : List ℕ) → IsRightSymbol names labels numbers s o text → HasNoFeed text → IsPlainNode (s, rank)
  right_node numbers (label f) rank None text h e = label_plain f text h e
  right_node numbers (label f) rank (Some q) text h e = absurd h
  right_node numbers (hole x) rank o text h e = tt

  right_nodes : (numbers : List ℕ) (ss : List (Symbol ℕ (Pair ℕ) × ℕ)) (is : List Item) → Along (IsRightNode names labels numbers) ss is → Each IsFreeItem is → Each IsPlainNode ss
  right_nodes numbers [] is a e = tt
  right_nodes numbers (s ∷ ss) [] a e = absurd a
  right_nodes numbers (s ∷ ss) (i ∷ is) a e = (right_node numbers s.0 s.1 (pair_in i) i.text a.0.0 e.0, right_nodes numbers ss is a.1 e.1)

-- a line of which nothing has a line feed, and its cost
record IsPlainLine (scale : Scale) (line : RuleLine) : Type 0 where
  parts : AreFreeParts line.parts
  cost : IsPlainCost scale line.cost

plain_line : (scale : Scale) (line : List ℕ) (rule : RuleLine) → HasNoFeed line → SpellsLine scale line rule → IsPlainLine scale rule
plain_line scale line rule f s = record {
  parts = parts_free s.parts.pieces rule.parts (pieces_free s.parts.pieces line f s.parts.has) s.parts.spells;
  cost = plain_cost scale rule.parts.weight rule.cost s.cost;
}

plain_rules :
    (scale : Scale) (names labels : List (List ℕ)) (rules : List (TransducerRule ℕ)) (lines : List RuleLine) → Along (IsRule names labels) rules lines → Each (IsPlainLine scale) lines →
    (m : ℕ) → m < length rules → IsPlainMove scale labels (transducer_rule rules m)
plain_rules scale names labels [] lines a e m h = absurd (omega arith)
plain_rules scale names labels (r ∷ rules) [] a e m h = absurd a
plain_rules scale names labels (r ∷ rules) (l ∷ lines) a e zero h = record {
  left = left_plain names labels r.left l.parts a.0.left e.0.parts.left;
  right = side_plain names labels r.right (right_nodes names labels (numbers_in l.parts.below) (preorder_of r.right) l.parts.right a.0.right e.0.parts.right);
  cost = subst (IsPlainCost scale) (sym a.0.cost) e.0.cost;
}
plain_rules scale names labels (r ∷ rules) (l ∷ lines) a e (suc m) h = plain_rules scale names labels rules lines a.1 e.1 m (omega arith)

pub moves_plain : (scale : Scale) (labels : List (List ℕ)) (bytes : List ℕ) (t : TransducerOf) → ReadsAs scale labels bytes t → ArePlainMoves scale labels t.rules
moves_plain scale labels bytes t r =
    plain_rules scale t.names labels t.rules r.text.lines r.text.rules (file_has HasNoFeed (IsPlainLine scale) scale (plain_line scale) (lines_of bytes) r.text.start r.text.lines (free_lines bytes) r.text.written)

-- what can be written stays so when the table grows

pub labels_grown : {P : Type 0} (early labels : List (List ℕ)) (ts : Trees (Symbol ℕ P)) → Grows early labels → AreLabelsPlain early ts → AreLabelsPlain labels ts
labels_grown early labels none g h = tt
labels_grown early labels (tree (label f) kids rest) g h =
    let own = label_plain [] labels f (get_or early f []) (g.kept f (get_or early f []) (slice_get-get_or early f [] h.0)) h.1 in
    (own.0, own.1, labels_grown early labels kids g h.2, labels_grown early labels rest g h.3)
labels_grown early labels (tree (hole x) kids rest) g h = (labels_grown early labels kids g h.0, labels_grown early labels rest g h.1)

pub moves_grown : (scale : Scale) (early labels : List (List ℕ)) (rules : List (TransducerRule ℕ)) → Grows early labels → ArePlainMoves scale early rules → ArePlainMoves scale labels rules
moves_grown scale early labels rules g p m h = record {
  left = labels_grown early labels (only (transducer_rule rules m).left) g (p m h).left;
  right = labels_grown early labels (only (transducer_rule rules m).right) g (p m h).right;
  cost = (p m h).cost;
}

-- nothing is below a variable or a pair

module _ (names labels : List (List ℕ)) (numbers : List ℕ) where
  right_pair : (s : Symbol ℕ (Pair ℕ)) (rank : ℕ) (i : Item) (o : Option (List ℕ × ℕ)) → pair_in i ≡ o → IsRightSymbol names labels numbers s o i.text → rank ≡ rank_of i.kids → pair_of (item_from (s, rank)) ≡ (s, rank)
  right_pair (label f) rank i o e h r = refl
  right_pair (hole x) rank i None e h r = absurd h
  right_pair (hole x) rank i (Some v) e h r = ap (λ (n : ℕ). (hole x, n)) (sym (r ∙ pair_rank i.quoted i.kids i.text v e))

  right_pairs : (ss : List (Symbol ℕ (Pair ℕ) × ℕ)) (is : List Item) → Along (IsRightNode names labels numbers) ss is → pairs_of (items_from ss) ≡ ss
  right_pairs [] is h = refl
  right_pairs (s ∷ ss) [] h = absurd h
  right_pairs (s ∷ ss) (i ∷ is) h =
      ap (λ (x : Symbol ℕ (Pair ℕ) × ℕ). x ∷ pairs_of (items_from ss)) (right_pair s.0 s.1 i (pair_in i) refl h.0.0 h.0.1) ∙ ap (λ (xs : List (Symbol ℕ (Pair ℕ) × ℕ)). s ∷ xs) (right_pairs ss is h.1)

  right_ends : (s : SideFor ℕ (Pair ℕ)) (is : List Item) → Along (IsRightNode names labels numbers) (preorder_of s) is → HolesAreLeaves (only s)
  right_ends s is h = HolesAreLeaves-items (items_from (preorder_of s)) s (right_pairs (preorder_of s) is h)

rules_end : (names labels : List (List ℕ)) (rules : List (TransducerRule ℕ)) (lines : List RuleLine) → Along (IsRule names labels) rules lines → EndInHoles rules
rules_end names labels [] lines a m h = absurd (omega arith)
rules_end names labels (r ∷ rules) [] a m h = absurd a
rules_end names labels (r ∷ rules) (l ∷ lines) a zero h = (left_ends labels r.left l.parts a.0.left, right_ends names labels (numbers_in l.parts.below) r.right l.parts.right a.0.right)
rules_end names labels (r ∷ rules) (l ∷ lines) a (suc m) h = rules_end names labels rules lines a.1 m (omega arith)

-- what holds of a transducer that was read
pub record IsSoundTransducer (scale : Scale) (labels : List (List ℕ)) (t : TransducerOf) : Type 0 where
  pub shaped : AreShaped t.rules
  pub leaves : EndInHoles t.rules
  pub plain : ArePlainMoves scale labels t.rules

pub transducer_sound : (scale : Scale) (labels : List (List ℕ)) (bytes : List ℕ) (t : TransducerOf) → ReadsAs scale labels bytes t → IsSoundTransducer scale labels t
transducer_sound scale labels bytes t r = record {
  shaped = rules_shaped t.names labels t.rules r.text.lines r.text.rules;
  leaves = rules_end t.names labels t.rules r.text.lines r.text.rules;
  plain = moves_plain scale labels bytes t r;
}
