-- Rules of one state are determined by their lines.
use Rattle.tib_cost.specs.declared.Scale.{Scale}
use Rattle.std.proofs.Common.{◌≡◌, ℕ, List, [], ◌∷◌, ◌++◌, get_or, refl, ap, sym, ◌∙◌, subst, zero, suc, inl, inr, append_assoc, append-nil, Option}
use Rattle.std.specs.Prelude.{Some, None, slice_get}
use Rattle.tib_lex.proofs.Lists.{head_is}
use Rattle.tib_lex.specs.Lists.{Has, Along, Distinct}
use Rattle.tib_tree.specs.Trees.{Trees, none, tree, only, count, preorder, preorder_of, parse, parse_of}
use Rattle.tib_tree.specs.Written.{Item}
use Rattle.tib_grammar.specs.Sides.{Symbol, Side, label, hole, holes, holes_of, HolesAreLeaves}
use Rattle.tib_grammar.specs.StateName.{AreStateNames}
use Rattle.tib_grammar_file.specs.Printed.{cost_text}
use Rattle.tib_grammar_file.proofs.OneGrammar.{number_same}
use Rattle.tib_grammar_file.proofs.PrintedSorted.{names_own}
use Rattle.tib_transducer.specs.Range.{AreNumbered}
use Rattle.tib_transducer.specs.declared.Variable.{Variable}
use Rattle.tib_transducer.specs.declared.Pair.{Pair}
use Rattle.tib_transducer.specs.declared.TransducerRule.{TransducerRule}
use Rattle.tib_transducer_file.specs.Forms.{variable_in, pair_in}
use Rattle.tib_transducer_file.specs.Rule.{Parts, numbers_in, parts_of, label_of}
use Rattle.tib_transducer_file.specs.TransducerText.{HasParts}
use Rattle.tib_transducer_file.specs.Value.{IsAsked, IsLeftSymbol, IsLeftNode, IsRootItem, IsLeftSide, IsRightSymbol, IsRightNode, IsRule}
use Rattle.tib_transducer_file.proofs.PiecesRead.{pieces_read}
use Rattle.tib_transducer_file.proofs.RulesRead.{parts_forth}
use Rattle.tib_transducer_file.proofs.OneByText.{once_each, pair_same}
use Rattle.tib_transducer_file.specs.ByName.{named_rule, line_text}
use Rattle.tib_transducer_file.specs.Printed.{variable_text, pair_text, side_text, rule_text}
use Rattle.tib_transducer_file.proofs.Fitting.{IsGood, LineOf, rule_line}
use Rattle.tib_transducer_file.proofs.RulesBack.{rules_own}
use Rattle.tib_grammar.proofs.Sides.{side_same}

-- a rule is printed as its line and a line feed

moves : (a x y : List ℕ) → x ≡ y ++ 10 ∷ [] → a ++ x ≡ (a ++ y) ++ 10 ∷ []
moves a x y e = ap (λ (l : List ℕ). a ++ l) e ∙ sym (append_assoc a y (10 ∷ []))

pub move_fed : (scale : Scale) (names labels : List (List ℕ)) (r : TransducerRule ℕ) → rule_text scale names labels r ≡ line_text scale names labels r ++ 10 ∷ []
move_fed scale names labels r =
    let left : List ℕ = side_text (variable_text names labels) labels r.left in
    let right : List ℕ = side_text (pair_text names labels) labels r.right in
    let cost : List ℕ = cost_text scale r.cost in
    moves (get_or names r.state []) (46 ∷ (left ++ (32 ∷ (45 ∷ (62 ∷ (32 ∷ (right ++ (cost ++ 10 ∷ [])))))))) (46 ∷ (left ++ (32 ∷ (45 ∷ (62 ∷ (32 ∷ (right ++ cost)))))))
    (ap (λ (l : List ℕ). 46 ∷ l) (moves left (32 ∷ (45 ∷ (62 ∷ (32 ∷ (right ++ (cost ++ 10 ∷ [])))))) (32 ∷ (45 ∷ (62 ∷ (32 ∷ (right ++ cost)))))
    (ap (λ (l : List ℕ). 32 ∷ (45 ∷ (62 ∷ (32 ∷ l)))) (moves right (cost ++ 10 ∷ []) cost refl))))

-- the place of a value in a list without repeats is determined by the value

has_slice : {A : Type 0} (xs : List A) (j : ℕ) (v : A) → slice_get xs j ≡ Some v → Has xs v
has_slice [] j v e = absurd (cc e)
has_slice (x ∷ xs) zero v e = inl (cc e)
has_slice (x ∷ xs) (suc j) v e = inr (has_slice xs j v e)

place_once : {A : Type 0} (xs : List A) (i j : ℕ) (v : A) → Distinct xs → slice_get xs i ≡ Some v → slice_get xs j ≡ Some v → i ≡ j
place_once [] i j v d e f = absurd (cc e)
place_once (x ∷ xs) zero zero v d e f = refl
place_once (x ∷ xs) zero (suc j) v d e f = let s : v ≡ x = cc e in absurd (d.0 (subst (Has xs) s (has_slice xs j v f)))
place_once (x ∷ xs) (suc i) zero v d e f = let s : v ≡ x = cc f in absurd (d.0 (subst (Has xs) s (has_slice xs i v e)))
place_once (x ∷ xs) (suc i) (suc j) v d e f = ap suc (place_once xs i j v d.1 e f)

-- the holes of a preorder

abbrev list_holes : {P : Type 0} → List (Symbol ℕ P × ℕ) → List P
list_holes [] = []
list_holes ((label f, n) ∷ ps) = list_holes ps
list_holes ((hole x, n) ∷ ps) = x ∷ list_holes ps

holes_append : {P : Type 0} (ps qs : List (Symbol ℕ P × ℕ)) → list_holes (ps ++ qs) ≡ list_holes ps ++ list_holes qs
holes_append [] qs = refl
holes_append ((label f, n) ∷ ps) qs = holes_append ps qs
holes_append ((hole x, n) ∷ ps) qs = ap (λ xs. x ∷ xs) (holes_append ps qs)

holes_listed : {P : Type 0} (ts : Trees (Symbol ℕ P)) → HolesAreLeaves ts → list_holes (preorder ts) ≡ holes ts
holes_listed none h = refl
holes_listed (tree (label f) kids rest) h =
    holes_append (preorder kids) (preorder rest) ∙ ap (λ xs. xs ++ list_holes (preorder rest)) (holes_listed kids h.0) ∙ ap (λ xs. holes kids ++ xs) (holes_listed rest h.1)
holes_listed (tree (hole x) none rest) h = ap (λ xs. x ∷ xs) (holes_listed rest h)
holes_listed (tree (hole x) (tree s kids more) rest) h = absurd h

one_listed : {P : Type 0} (s : Side ℕ P) → HolesAreLeaves (only s) → list_holes (preorder_of s) ≡ holes_of s
one_listed {P} s h = ap (λ (ps : List (Symbol ℕ P × ℕ)). list_holes ((s.label, count s.kids) ∷ ps)) (sym (append-nil (preorder s.kids))) ∙ holes_listed (only s) h

-- two nodes that stand for one item are the same

module _ (names labels : List (List ℕ)) (apart : Distinct labels) where
  asked_same : (a b : Option ℕ) (o : Option (List ℕ)) → IsAsked labels a o → IsAsked labels b o → a ≡ b
  asked_same None None o h k = refl
  asked_same None (Some g) None h k = absurd k
  asked_same None (Some g) (Some text) h k = absurd h
  asked_same (Some f) b None h k = absurd h
  asked_same (Some f) None (Some text) h k = absurd k
  asked_same (Some f) (Some g) (Some text) h k = ap (λ (n : ℕ). Some n) (number_same labels f g text apart h k)

  variable_same : (x y : Variable) → x.number ≡ y.number → x.label ≡ y.label → x ≡ y
  variable_same x y e f = ap (λ (n : ℕ). record { number = n; label = x.label }) e ∙ ap (λ (a : Option ℕ). record { number = y.number; label = a }) f

  node_same : {P : Type 0} (p q : Symbol ℕ P × ℕ) (ps qs : List (Symbol ℕ P × ℕ)) → p.0 ≡ q.0 → p.1 ≡ q.1 → ps ≡ qs → p ∷ ps ≡ q ∷ qs
  node_same {P} p q ps qs a b e = ap (λ (s : Symbol ℕ P). (s, p.1) ∷ ps) a ∙ ap (λ (n : ℕ). (q.0, n) ∷ ps) b ∙ ap (λ (rs : List (Symbol ℕ P × ℕ)). q ∷ rs) e

  left_lists :
      (n : ℕ) (ps qs : List (Symbol ℕ Variable × ℕ)) (is : List Item) → Along (IsLeftNode labels) ps is → Along (IsLeftNode labels) qs is → AreNumbered n (list_holes ps) → AreNumbered n (list_holes qs) → ps ≡ qs
  left_lists n [] [] [] h k a b = refl
  left_lists n [] (q ∷ qs) [] h k a b = absurd k
  left_lists n (p ∷ ps) qs [] h k a b = absurd h
  left_lists n [] qs (i ∷ is) h k a b = absurd h
  left_lists n (p ∷ ps) [] (i ∷ is) h k a b = absurd k
  left_lists n (p ∷ ps) (q ∷ qs) (i ∷ is) h k a b = by p q (variable_in i) h.0.0 k.0.0 (h.0.1 ∙ sym k.0.1) a b (λ m c d. left_lists m ps qs is h.1 k.1 c d)
    where
      by :
          (p q : Symbol ℕ Variable × ℕ) (o : Option (ℕ × Option (List ℕ))) → IsLeftSymbol labels p.0 o i.text → IsLeftSymbol labels q.0 o i.text → p.1 ≡ q.1 → AreNumbered n (list_holes (p ∷ ps)) → AreNumbered n (list_holes (q ∷ qs)) →
          ((m : ℕ) → AreNumbered m (list_holes ps) → AreNumbered m (list_holes qs) → ps ≡ qs) → p ∷ ps ≡ q ∷ qs
      by (label f, x) (label g, y) None h k e a b more = node_same (label f, x) (label g, y) ps qs (ap label (number_same labels f g i.text apart h k)) e (more n a b)
      by (label f, x) (hole z, y) None h k e a b more = absurd k
      by (label f, x) q (Some v) h k e a b more = absurd h
      by (hole w, x) q None h k e a b more = absurd h
      by (hole w, x) (label g, y) (Some v) h k e a b more = absurd k
      by (hole w, x) (hole z, y) (Some v) h k e a b more =
          node_same (hole w, x) (hole z, y) ps qs (ap hole (variable_same w z (a.0 ∙ sym b.0) (asked_same w.label z.label v.1 h k))) e (more (suc n) a.1 b.1)

  root_same :
      (p q : Symbol ℕ Variable × ℕ) (text : List ℕ) (kids : Option ℕ) → IsRootItem labels p text kids → IsRootItem labels q text kids → (p.0 ≡ q.0) × (p.1 ≡ q.1)
  root_same (label f, m) (label g, n) text kids h k = (ap label (number_same labels f g text apart h.0 k.0), h.1 ∙ sym k.1)
  root_same (label f, m) (hole y, n) text kids h k = absurd k
  root_same (hole x, m) q text kids h k = absurd h

  root_holes : (p : Symbol ℕ Variable × ℕ) (ps : List (Symbol ℕ Variable × ℕ)) (text : List ℕ) (kids : Option ℕ) → IsRootItem labels p text kids → list_holes (p ∷ ps) ≡ list_holes ps
  root_holes (label f, m) ps text kids h = refl
  root_holes (hole x, m) ps text kids h = absurd h

  left_sides :
      (ps qs : List (Symbol ℕ Variable × ℕ)) (p : Parts) → IsLeftSide labels ps p → IsLeftSide labels qs p → AreNumbered 0 (list_holes ps) → AreNumbered 0 (list_holes qs) → ps ≡ qs
  left_sides [] qs p h k a b = absurd h
  left_sides (s ∷ ps) [] p h k a b = absurd k
  left_sides (s ∷ ps) (t ∷ qs) p h k a b =
      let root = root_same s t (label_of p) p.root.kids h.0 k.0 in
      node_same s t ps qs root.0 root.1
      (left_lists 0 ps qs p.below h.1 k.1 (subst (AreNumbered 0) (root_holes s ps (label_of p) p.root.kids h.0) a) (subst (AreNumbered 0) (root_holes t qs (label_of p) p.root.kids k.0) b))

  module _ (numbers : List ℕ) (once : Distinct numbers) (named : Distinct names) where
    right_same : (p q : Symbol ℕ (Pair ℕ)) (o : Option (List ℕ × ℕ)) (text : List ℕ) → IsRightSymbol names labels numbers p o text → IsRightSymbol names labels numbers q o text → p ≡ q
    right_same (label f) s (Some q) text h k = absurd h
    right_same (label f) (label g) None text h k = ap label (number_same labels f g text apart h k)
    right_same (label f) (hole y) None text h k = absurd k
    right_same (hole x) s None text h k = absurd h
    right_same (hole x) (label g) (Some q) text h k = absurd k
    right_same (hole x) (hole y) (Some q) text h k = ap hole (pair_same x y (place_once names x.state y.state q.0 named h.0 k.0) (place_once numbers x.variable y.variable q.1 once h.1 k.1))

    right_lists : (ps qs : List (Symbol ℕ (Pair ℕ) × ℕ)) (is : List Item) → Along (IsRightNode names labels numbers) ps is → Along (IsRightNode names labels numbers) qs is → ps ≡ qs
    right_lists [] [] [] h k = refl
    right_lists [] (q ∷ qs) [] h k = absurd k
    right_lists (p ∷ ps) qs [] h k = absurd h
    right_lists [] qs (i ∷ is) h k = absurd h
    right_lists (p ∷ ps) [] (i ∷ is) h k = absurd k
    right_lists (p ∷ ps) (q ∷ qs) (i ∷ is) h k =
        node_same p q ps qs (right_same p.0 q.0 (pair_in i) i.text h.0.0 k.0.0) (h.0.1 ∙ sym k.0.1) (right_lists ps qs is h.1 k.1)

-- a line has the parts of one rule

parts_once : (line : List ℕ) (p q : Parts) → HasParts line p → HasParts line q → p ≡ q
parts_once line p q h k =
    let read : Some h.pieces ≡ Some k.pieces = sym (pieces_read h.pieces line h.has) ∙ pieces_read k.pieces line k.has in
    let pieces : h.pieces ≡ k.pieces = cc read in
    let both : Some p ≡ Some q = sym (parts_forth h.pieces p h.spells) ∙ ap parts_of pieces ∙ parts_forth k.pieces q k.spells in
    cc both

own_rule : (r : TransducerRule ℕ) → named_rule (λ (q : ℕ). q) r ≡ r
own_rule r = head_is (rules_own (r ∷ []))

module _ (scale : Scale) (names labels : List (List ℕ)) (r s : TransducerRule ℕ) (are : AreStateNames names) (apart : Distinct labels) (one : IsGood scale names labels r) (two : IsGood scale names labels s) where
  mine : LineOf scale names labels r
  mine = rule_line scale names labels r are.each one

  its : LineOf scale names labels s
  its = rule_line scale names labels s are.each two

  is_mine : IsRule names labels r mine.line
  is_mine = subst (λ (x : TransducerRule ℕ). IsRule names labels x mine.line) (own_rule r) (mine.means names (λ q. q) (names_own names))

  is_its : IsRule names labels s its.line
  is_its = subst (λ (x : TransducerRule ℕ). IsRule names labels x its.line) (own_rule s) (its.means names (λ q. q) (names_own names))

  module _ (same : line_text scale names labels r ≡ line_text scale names labels s) where
    parts_same : mine.line.parts ≡ its.line.parts
    parts_same = parts_once (line_text scale names labels s) mine.line.parts its.line.parts (subst (λ (l : List ℕ). HasParts l mine.line.parts) same mine.spells.parts) its.spells.parts

    left_told : r.left ≡ s.left
    left_told =
        side_same r.left s.left
        (left_sides names labels apart (preorder_of r.left) (preorder_of s.left) its.line.parts (subst (IsLeftSide labels (preorder_of r.left)) parts_same is_mine.left) is_its.left
        (subst (AreNumbered 0) (sym (one_listed r.left one.leaves.0)) is_mine.numbered) (subst (AreNumbered 0) (sym (one_listed s.left two.leaves.0)) is_its.numbered))

    right_told : r.right ≡ s.right
    right_told =
        side_same r.right s.right
        (right_lists names labels apart (numbers_in its.line.parts.below) (once_each [] (numbers_in its.line.parts.below) its.spells.once) are.distinct (preorder_of r.right) (preorder_of s.right) its.line.parts.right
        (subst (λ (p : Parts). Along (IsRightNode names labels (numbers_in p.below)) (preorder_of r.right) p.right) parts_same is_mine.right) is_its.right)

    -- rules with the same line have the same sides
    pub told_by_line : (r.left ≡ s.left) × (r.right ≡ s.right)
    told_by_line = (left_told, right_told)
