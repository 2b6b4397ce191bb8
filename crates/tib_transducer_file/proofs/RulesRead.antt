-- The parts that are read of tokens are those of the rule that they spell, whatever its right side
-- is.
use Rattle.std.proofs.Common.{◌≡◌, ℕ, ◌+◌, ◌<◌, ◌≤◌, List, [], ◌∷◌, ◌++◌, length, take, drop, get_or, refl, ap, sym, ◌∙◌, subst, arith, Bool, true, false, Option, suc, length-append}
use Rattle.std.specs.Prelude.{Some, None, nat_lt, cond, not}
use Rattle.std.specs.List.{list_any}
use Rattle.std.proofs.lemmas.Bool.Decides.{nat_tests}
use Rattle.std.proofs.lemmas.List.{take-append-drop, drop_more, length-map}
use Rattle.tib_lex.specs.Grammar.{Word, open_, close, hash, arrow, name, label}
use Rattle.tib_lex.specs.Line.{word_of}
use Rattle.tib_lex.proofs.Spelled.{and_true}
use Rattle.std.proofs.lemmas.List.Sums.{prefix_len_stops}
use Rattle.tib_lex.specs.declared.token.Kind.{Kind}
use Rattle.tib_lex.specs.declared.token.Kind.TheVariants as token_kinds
use Rattle.tib_tree.specs.Written.{Written, Item, end, leaf, head, word_for, spell}
use Rattle.tib_tree.specs.Machine.{nodes_of, IsTree}
use Rattle.tib_tree.proofs.Read.{tree_back}
use Rattle.tib_grammar_file.specs.Rule.{weight_words, weight_in, front_of, with_nodes, Parts as RightParts, parts as right_of}
use Rattle.tib_grammar_file.proofs.RulesRead.{weight_read, front_read, together}
use Rattle.tib_transducer_file.specs.Pieces.{Piece, piece, meaning, meanings}
use Rattle.tib_transducer_file.specs.Forms.{is_stray, is_kind, takes_next, joins, left_words}
use Rattle.tib_transducer_file.specs.Rule.{Parts, parts, has_state, SpellsRuleBy, SpellsRule, is_no_arrow, arrow_at, with_right, with_left, right_by, parts_at, parts_by, parts_of}
use Rattle.tib_transducer_file.specs.Formats.{IsFormat, tree_read, tree_few, trees}

no_parts : (p : Parts) → ◌≡◌ {A = Option Parts} None (Some p) → ⊥
no_parts p e = cc

stray_back : (root : Item) (below : List Item) (g : RightParts) (b : Bool) (p : Parts) → cond b None (Some (parts root below g.nodes g.weight)) ≡ Some p → (b ≡ false) × (parts root below g.nodes g.weight ≡ p)
stray_back root below g true p e = absurd (no_parts p e)
stray_back root below g false p e = (refl, cc)

no_piece : Piece
no_piece = piece false token_kinds.Arrow []

arrow_kind : (k : Kind) → not (is_kind token_kinds.Arrow k) ≡ false → k ≡ token_kinds.Arrow
arrow_kind token_kinds.Arrow e = refl
arrow_kind token_kinds.Open e = cc
arrow_kind token_kinds.Close e = cc
arrow_kind token_kinds.Hash e = cc
arrow_kind token_kinds.Name e = cc
arrow_kind token_kinds.Quoted e = cc

-- trees have no arrow
abbrev HasNoArrow : List Word → Type 0
HasNoArrow [] = Unit {0}
HasNoArrow (arrow ∷ words) = ⊥
HasNoArrow (word ∷ words) = HasNoArrow words

no_arrow_append : (xs ys : List Word) → HasNoArrow xs → HasNoArrow ys → HasNoArrow (xs ++ ys)
no_arrow_append [] ys h k = k
no_arrow_append (arrow ∷ xs) ys h k = absurd h
no_arrow_append (open_ ∷ xs) ys h k = no_arrow_append xs ys h k
no_arrow_append (close ∷ xs) ys h k = no_arrow_append xs ys h k
no_arrow_append (hash ∷ xs) ys h k = no_arrow_append xs ys h k
no_arrow_append (name t ∷ xs) ys h k = no_arrow_append xs ys h k
no_arrow_append (label t ∷ xs) ys h k = no_arrow_append xs ys h k

no_arrow_word : (q : Bool) (t : List ℕ) (words : List Word) → HasNoArrow words → HasNoArrow (word_for q t ∷ words)
no_arrow_word true t words h = h
no_arrow_word false t words h = h

no_arrow_tree : (f : Written) → HasNoArrow (spell f)
no_arrow_tree end = tt
no_arrow_tree (leaf q t rest) = no_arrow_word q t (spell rest) (no_arrow_tree rest)
no_arrow_tree (head q t kids rest) = no_arrow_word q t (open_ ∷ (spell kids ++ (close ∷ spell rest))) (no_arrow_append (spell kids) (close ∷ spell rest) (no_arrow_tree kids) (no_arrow_tree rest))

no_arrow_piece : (k : Kind) (bytes : List ℕ) (words : List Word) → HasNoArrow (word_of k bytes ∷ words) → (not (is_kind token_kinds.Arrow k) ≡ true) × HasNoArrow words
no_arrow_piece token_kinds.Arrow bytes words h = absurd h
no_arrow_piece token_kinds.Open bytes words h = (refl, h)
no_arrow_piece token_kinds.Close bytes words h = (refl, h)
no_arrow_piece token_kinds.Hash bytes words h = (refl, h)
no_arrow_piece token_kinds.Name bytes words h = (refl, h)
no_arrow_piece token_kinds.Quoted bytes words h = (refl, h)

name_no_arrow : (k : Kind) → is_kind token_kinds.Name k ≡ true → not (is_kind token_kinds.Arrow k) ≡ true
name_no_arrow token_kinds.Arrow e = cc
name_no_arrow token_kinds.Open e = refl
name_no_arrow token_kinds.Close e = refl
name_no_arrow token_kinds.Hash e = refl
name_no_arrow token_kinds.Name e = refl
name_no_arrow token_kinds.Quoted e = refl

quoted_no_arrow : (k : Kind) → is_kind token_kinds.Quoted k ≡ true → not (is_kind token_kinds.Arrow k) ≡ true
quoted_no_arrow token_kinds.Arrow e = cc
quoted_no_arrow token_kinds.Open e = refl
quoted_no_arrow token_kinds.Close e = refl
quoted_no_arrow token_kinds.Hash e = refl
quoted_no_arrow token_kinds.Name e = refl
quoted_no_arrow token_kinds.Quoted e = refl

-- an arrow after these tokens is the first one
abbrev PassAll : List Piece → Type 0
PassAll pieces = (mark : Piece) (back : List Piece) → is_no_arrow mark ≡ false → arrow_at (pieces ++ mark ∷ back) ≡ length pieces

pass_none : PassAll []
pass_none mark back e = rw e refl

pass_more : (p : Piece) (pieces : List Piece) → is_no_arrow p ≡ true → PassAll pieces → PassAll (p ∷ pieces)
pass_more p pieces e all mark back f = let n : 1 + arrow_at (pieces ++ mark ∷ back) ≡ suc (arrow_at (pieces ++ mark ∷ back)) = omega arith in rw (e, n) (ap suc (all mark back f))

joined_pass : (b : Bool) (p q : Piece) (behind : List Piece) (taken rest : List Word) → (b ≡ true → (is_no_arrow p ≡ true) × (is_no_arrow q ≡ true)) → HasNoArrow (cond b (name (p.bytes ++ q.bytes) ∷ taken) (meaning p ∷ rest)) → (HasNoArrow taken → PassAll behind) → (HasNoArrow rest → PassAll (q ∷ behind)) → PassAll (p ∷ (q ∷ behind))
joined_pass true p q behind taken rest t h one two = let k = t refl in pass_more p (q ∷ behind) k.0 (pass_more q behind k.1 (one h))
joined_pass false p q behind taken rest t h one two = let k = no_arrow_piece p.kind p.bytes rest h in pass_more p (q ∷ behind) k.0 (two k.1)

both_pass : (root : Bool) (p q : Piece) (behind : List Piece) → takes_next root p q behind ≡ true → (is_no_arrow p ≡ true) × (is_no_arrow q ≡ true)
both_pass root p q behind e =
    let a = and_true _ _ e in
    let b = and_true _ _ a.0 in
    let c = and_true _ _ b.0 in
    (name_no_arrow p.kind c.0, quoted_no_arrow q.kind c.1)

all_pass : (root : Bool) (pieces : List Piece) → HasNoArrow (joins root pieces) → PassAll pieces
all_pass root [] h = pass_none
all_pass root (p ∷ []) h = pass_more p [] (no_arrow_piece p.kind p.bytes [] h).0 pass_none
all_pass root (p ∷ (q ∷ behind)) h = joined_pass (takes_next root p q behind) p q behind (joins false behind) (joins false (q ∷ behind)) (both_pass root p q behind) h (all_pass false behind) (all_pass false (q ∷ behind))

kind_arrow : (k : Kind) → k ≡ token_kinds.Arrow → not (is_kind token_kinds.Arrow k) ≡ false
kind_arrow k e = ap (λ (x : Kind). not (is_kind token_kinds.Arrow x)) e

take_front : {A : Type 0} (xs ys : List A) → take (length xs) (xs ++ ys) ≡ xs
take_front [] ys = refl
take_front (x ∷ xs) ys = ap (λ zs. x ∷ zs) (take_front xs ys)

drop_front : {A : Type 0} (xs ys : List A) (y : A) → drop (length xs + 1) (xs ++ y ∷ ys) ≡ ys
drop_front [] ys y = refl
drop_front (x ∷ xs) ys y = let n : suc (length xs) + 1 ≡ suc (length xs + 1) = omega arith in rw n (drop_front xs ys y)

joined_few : (b : Bool) (w v : Word) (taken rest : List Word) (n : ℕ) → length taken ≤ n → length rest ≤ suc n → length (cond b (w ∷ taken) (v ∷ rest)) ≤ suc (suc n)
joined_few true w v taken rest n h k = omega arith
joined_few false w v taken rest n h k = omega arith

joins_few : (root : Bool) (pieces : List Piece) → length (joins root pieces) ≤ length pieces
joins_few root [] = omega arith
joins_few root (p ∷ []) = omega arith
joins_few root (p ∷ (q ∷ behind)) = joined_few (takes_next root p q behind) (name (p.bytes ++ q.bytes)) (meaning p) (joins false behind) (joins false (q ∷ behind)) (length behind) (joins_few false behind) (joins_few false (q ∷ behind))

module _ {Right : List Word → List Item → Type 0} {read : List Word → Option (List Item)} (format : IsFormat Right read) where
  -- a right side and a weight
  record RightAt (words : List Word) (nodes : List Item) (weight : Option (List ℕ)) : Type 0 where
    pub front : List Word
    pub is : Right front nodes
    pub behind : front ++ weight_words weight ≡ words

  right_at : (words : List Word) (w : Option (List ℕ)) (o : Option (List Item)) (g : RightParts) → weight_in words ≡ w → read (front_of w words) ≡ o → with_nodes [] w o ≡ Some g → RightAt words g.nodes g.weight
  right_at words w None g we n e = let bad : None ≡ Some g = e in absurd (cc)
  right_at words w (Some is) g we n e =
      let same : right_of [] is w ≡ g = cc in
      subst (λ (r : RightParts). RightAt words r.nodes r.weight) same (record { front = front_of w words; is = format.back (front_of w words) is n; behind = together words w we })

  right_back : (words : List Word) (g : RightParts) → right_by read words ≡ Some g → RightAt words g.nodes g.weight
  right_back words g e = right_at words (weight_in words) (read (front_of (weight_in words) words)) g refl refl e

  right_forth : (words : List Word) (nodes : List Item) (weight : Option (List ℕ)) → RightAt words nodes weight → right_by read words ≡ Some (right_of [] nodes weight)
  right_forth words nodes weight r =
      ap (right_by read) (sym r.behind)
      ∙ ap (λ (v : Option (List ℕ)). with_nodes [] v (read (front_of v (r.front ++ weight_words weight)))) (weight_read r.front weight (format.plain r.front nodes r.is))
      ∙ ap (λ (ws : List Word). with_nodes [] weight (read ws)) (front_read r.front weight)
      ∙ ap (with_nodes [] weight) (format.forth r.front nodes r.is)

  -- what was taken apart was together
  record Whole (front : List Piece) (back : List Word) (p : Parts) : Type 0 where
    pub left : IsTree (left_words front) (p.root ∷ p.below)
    pub state : has_state p.root ≡ true
    pub right : RightAt back p.right p.weight
    pub leaves : list_any is_stray p.right ≡ false

  sides_back : (front : List Piece) (back : List Word) (root : Item) (below : List Item) (o : Option RightParts) (b : Bool) (p : Parts) → IsTree (left_words front) (root ∷ below) → has_state root ≡ b → right_by read back ≡ o → cond b (with_right root below o) None ≡ Some p → Whole front back p
  sides_back front back root below o false p t s r e = absurd (no_parts p e)
  sides_back front back root below None true p t s r e = absurd (no_parts p e)
  sides_back front back root below (Some g) true p t s r e =
      let b = stray_back root below g (list_any is_stray g.nodes) p e in
      subst (λ (x : Parts). Whole front back x) b.1 (record { left = t; state = s; right = right_back back g r; leaves = b.0 })

  left_back : (front : List Piece) (back : List Word) (o : Option (List Item)) (p : Parts) → nodes_of (left_words front) ≡ o → with_left o (right_by read back) ≡ Some p → Whole front back p
  left_back front back None p n e = absurd (no_parts p e)
  left_back front back (Some []) p n e = absurd (no_parts p e)
  left_back front back (Some (root ∷ below)) p n e = sides_back front back root below (right_by read back) (has_state root) p (tree_back (left_words front) (root ∷ below) n) refl refl e

  split_back : (pieces : List Piece) (n : ℕ) (b : Bool) (p : Parts) → n ≡ arrow_at pieces → nat_lt n (length pieces) ≡ b → cond b (with_left (nodes_of (left_words (take n pieces))) (right_by read (meanings (drop (n + 1) pieces)))) None ≡ Some p → SpellsRuleBy Right pieces p
  split_back pieces n false p a h e = absurd (no_parts p e)
  split_back pieces n true p a h e =
      let w = left_back (take n pieces) (meanings (drop (n + 1) pieces)) (nodes_of (left_words (take n pieces))) p refl e in
      let within : n < length pieces = grind (arith, nat_tests) in
      let stops = prefix_len_stops is_no_arrow pieces no_piece (omega (arith, a, within)) in
      record {
        front = take n pieces;
        arrow = get_or pieces n no_piece;
        back = drop (n + 1) pieces;
        right_words = w.right.front;
        are = sym (take-append-drop n pieces) ∙ ap (λ (ps : List Piece). take n pieces ++ ps) (drop_more pieces n no_piece within);
        is_arrow = arrow_kind (get_or pieces n no_piece).kind (ap (λ (m : ℕ). is_no_arrow (get_or pieces m no_piece)) a ∙ stops);
        left = w.left;
        state = w.state;
        behind = w.right.behind;
        right = w.right.is;
        leaves = w.leaves;
      }

  -- the parts that are read of tokens are what they spell
  pub spelled_back : (pieces : List Piece) (p : Parts) → parts_by read pieces ≡ Some p → SpellsRuleBy Right pieces p
  unfolding parts_by
  spelled_back pieces p e = split_back pieces (arrow_at pieces) (nat_lt (arrow_at pieces) (length pieces)) p refl refl e

  -- tokens that spell a rule are read as it
  pub spelled_forth : (pieces : List Piece) (p : Parts) → SpellsRuleBy Right pieces p → parts_by read pieces ≡ Some p
  unfolding parts_by
  spelled_forth pieces p s =
      let words : HasNoArrow (left_words s.front) = subst HasNoArrow s.left.spelled (no_arrow_tree s.left.tree) in
      let at : arrow_at (s.front ++ s.arrow ∷ s.back) ≡ length s.front = all_pass true s.front words s.arrow s.back (kind_arrow s.arrow.kind s.is_arrow) in
      let long = length-append s.front (s.arrow ∷ s.back) in
      let t : nat_lt (length s.front) (length (s.front ++ s.arrow ∷ s.back)) ≡ true = grind (arith, nat_tests) in
      let left : nodes_of (left_words s.front) ≡ Some (p.root ∷ p.below) = tree_read (left_words s.front) (p.root ∷ p.below) s.left in
      let right : right_by read (meanings s.back) ≡ Some (right_of [] p.right p.weight) = right_forth (meanings s.back) p.right p.weight (record { front = s.right_words; is = s.right; behind = s.behind }) in
      let state = s.state in
      let leaves = s.leaves in
      ap (λ (ps : List Piece). parts_at read (arrow_at ps) ps) s.are
      ∙ ap (λ (n : ℕ). parts_at read n (s.front ++ s.arrow ∷ s.back)) at
      ∙ rw t
      (ap (λ (ps : List Piece). with_left (nodes_of (left_words ps)) (right_by read (meanings (drop (length s.front + 1) (s.front ++ s.arrow ∷ s.back))))) (take_front s.front (s.arrow ∷ s.back))
      ∙ ap (λ (ps : List Piece). with_left (nodes_of (left_words s.front)) (right_by read (meanings ps))) (drop_front s.front s.back s.arrow)
      ∙ ap (λ (o : Option (List Item)). with_left o (right_by read (meanings s.back))) left
      ∙ ap (λ (o : Option RightParts). with_left (Some (p.root ∷ p.below)) o) right
      ∙ rw (state, leaves) refl)

  -- a rule has no more nodes than tokens
  pub rule_few : (pieces : List Piece) (p : Parts) → SpellsRuleBy Right pieces p → length p.below + length p.right + 2 ≤ length pieces
  rule_few pieces p s =
      let l = tree_few (left_words s.front) (p.root ∷ p.below) s.left in
      let r = format.few s.right_words p.right s.right in
      let j = joins_few true s.front in
      let b = length-append s.right_words (weight_words p.weight) in
      let m = length-map s.back meaning in
      omega (arith, l, r, j, b, m, ap length s.behind, ap length s.are, length-append s.front (s.arrow ∷ s.back))

-- the same with a tree on the right
pub parts_forth : (pieces : List Piece) (p : Parts) → SpellsRule pieces p → parts_of pieces ≡ Some p
parts_forth pieces p s = spelled_forth trees pieces p s
