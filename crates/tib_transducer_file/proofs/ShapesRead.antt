-- Rules that stand for lines have their shape, and their states have names.
use Rattle.std.proofs.Common.{◌≡◌, ℕ, ◌<◌, List, [], ◌∷◌, length, refl, ap, sym, ◌∙◌, subst, arith, Option, Bool, true, false, zero, suc}
use Rattle.std.specs.Prelude.{Some, None, slice_get}
use Rattle.std.proofs.lemmas.Option.{slice_get_within}
use Rattle.tib_lex.specs.Lists.{Along}
use Rattle.tib_tree.specs.Nodes.{rank_of}
use Rattle.tib_tree.specs.Trees.{only, preorder_of}
use Rattle.tib_tree.specs.Written.{Item}
use Rattle.tib_grammar.specs.Sides.{Symbol, label, hole, Side, HolesAreLeaves}
use Rattle.tib_grammar.specs.Items.{pair_of, pairs_of, holes_in}
use Rattle.tib_grammar.specs.declared.Item.{Item as SideItem}
use Rattle.tib_grammar.specs.declared.Item.TheVariants.{Label, Hole}
use Rattle.tib_grammar.proofs.Holes.{holes_of_items, HolesAreLeaves-items}
use Rattle.tib_transducer.specs.Pairs.{begins, ArePairsWithin}
use Rattle.tib_transducer.specs.Range.{AreNumbered, IsShaped, AreShaped, IsWithin, AreWithin}
use Rattle.tib_transducer.specs.declared.Variable.{Variable}
use Rattle.tib_transducer.specs.declared.Pair.{Pair}
use Rattle.tib_transducer.specs.declared.TransducerRule.{TransducerRule}
use Rattle.tib_transducer.proofs.Shapes.{shape_from, within_from}
use Rattle.tib_transducer_file.specs.Forms.{leaf_text, variable_if, variable_in, pair_if, pair_in}
use Rattle.tib_transducer_file.specs.Rule.{Parts, RuleLine, label_of, numbers_in, number_before, state_of}
use Rattle.tib_transducer_file.specs.Value.{IsRootItem, IsLeftSymbol, IsLeftNode, IsLeftSide, IsRightSymbol, IsRightNode, IsRule}

-- variables and pairs have no children
pub variable_rank : (q : Bool) (k : Option ℕ) (t : List ℕ) (v : ℕ × Option (List ℕ)) → variable_if (leaf_text q k t) ≡ Some v → rank_of k ≡ 0
variable_rank true k t v e = let bad : None ≡ Some v = e in absurd (cc)
variable_rank false None t v e = refl
variable_rank false (Some n) t v e = let bad : None ≡ Some v = e in absurd (cc)

pub pair_rank : (q : Bool) (k : Option ℕ) (t : List ℕ) (v : List ℕ × ℕ) → pair_if (leaf_text q k t) ≡ Some v → rank_of k ≡ 0
pair_rank true k t v e = let bad : None ≡ Some v = e in absurd (cc)
pair_rank false None t v e = refl
pair_rank false (Some n) t v e = let bad : None ≡ Some v = e in absurd (cc)

-- a symbol with its rank as an item
abbrev pub item_from : {P : Type 0} → Symbol ℕ P × ℕ → SideItem P
item_from (label f, rank) = Label f rank
item_from (hole p, rank) = Hole p

-- and each of a list
abbrev pub items_from : {P : Type 0} → List (Symbol ℕ P × ℕ) → List (SideItem P)
items_from [] = []
items_from (s ∷ ss) = item_from s ∷ items_from ss

left_pair : (labels : List (List ℕ)) (s : Symbol ℕ Variable) (rank : ℕ) (i : Item) (o : Option (ℕ × Option (List ℕ))) → variable_in i ≡ o → IsLeftSymbol labels s o i.text → rank ≡ rank_of i.kids → pair_of (item_from (s, rank)) ≡ (s, rank)
left_pair labels (label f) rank i o e h r = refl
left_pair labels (hole x) rank i None e h r = absurd h
left_pair labels (hole x) rank i (Some v) e h r = ap (λ (n : ℕ). (hole x, n)) (sym (r ∙ variable_rank i.quoted i.kids i.text v e))

right_pair : (names labels : List (List ℕ)) (numbers : List ℕ) (s : Symbol ℕ (Pair ℕ)) (rank : ℕ) (i : Item) (o : Option (List ℕ × ℕ)) → pair_in i ≡ o → IsRightSymbol names labels numbers s o i.text → rank ≡ rank_of i.kids → pair_of (item_from (s, rank)) ≡ (s, rank)
right_pair names labels numbers (label f) rank i o e h r = refl
right_pair names labels numbers (hole x) rank i None e h r = absurd h
right_pair names labels numbers (hole x) rank i (Some v) e h r = ap (λ (n : ℕ). (hole x, n)) (sym (r ∙ pair_rank i.quoted i.kids i.text v e))

together : {P : Type 0} (s t : Symbol ℕ P × ℕ) (ss ts : List (Symbol ℕ P × ℕ)) → s ≡ t → ss ≡ ts → s ∷ ss ≡ t ∷ ts
together s t ss ts e f = ap (λ x. x ∷ ss) e ∙ ap (λ xs. t ∷ xs) f

left_pairs : (labels : List (List ℕ)) (ss : List (Symbol ℕ Variable × ℕ)) (is : List Item) → Along (IsLeftNode labels) ss is → pairs_of (items_from ss) ≡ ss
left_pairs labels [] is h = refl
left_pairs labels (s ∷ ss) [] h = absurd h
left_pairs labels (s ∷ ss) (i ∷ is) h = together (pair_of (item_from s)) s (pairs_of (items_from ss)) ss (left_pair labels s.0 s.1 i (variable_in i) refl h.0.0 h.0.1) (left_pairs labels ss is h.1)

right_pairs : (names labels : List (List ℕ)) (numbers : List ℕ) (ss : List (Symbol ℕ (Pair ℕ) × ℕ)) (is : List Item) → Along (IsRightNode names labels numbers) ss is → pairs_of (items_from ss) ≡ ss
right_pairs names labels numbers [] is h = refl
right_pairs names labels numbers (s ∷ ss) [] h = absurd h
right_pairs names labels numbers (s ∷ ss) (i ∷ is) h = together (pair_of (item_from s)) s (pairs_of (items_from ss)) ss (right_pair names labels numbers s.0 s.1 i (pair_in i) refl h.0.0 h.0.1) (right_pairs names labels numbers ss is h.1)

-- as many variables as numbers
left_count : (labels : List (List ℕ)) (s : Symbol ℕ Variable) (rank : ℕ) (o : Option (ℕ × Option (List ℕ))) (t : List ℕ) (more : List (SideItem Variable)) (numbers : List ℕ) → IsLeftSymbol labels s o t → length (holes_in more) ≡ length numbers → length (holes_in (item_from (s, rank) ∷ more)) ≡ length (number_before o numbers)
left_count labels (label f) rank None t more numbers h e = e
left_count labels (label f) rank (Some v) t more numbers h e = absurd h
left_count labels (hole x) rank None t more numbers h e = absurd h
left_count labels (hole x) rank (Some v) t more numbers h e = ap suc e

left_counts : (labels : List (List ℕ)) (ss : List (Symbol ℕ Variable × ℕ)) (is : List Item) → Along (IsLeftNode labels) ss is → length (holes_in (items_from ss)) ≡ length (numbers_in is)
left_counts labels [] [] h = refl
left_counts labels [] (i ∷ is) h = absurd h
left_counts labels (s ∷ ss) [] h = absurd h
left_counts labels (s ∷ ss) (i ∷ is) h = left_count labels s.0 s.1 (variable_in i) i.text (items_from ss) (numbers_in is) h.0.0 (left_counts labels ss is h.1)

-- pairs within
right_within : (names labels : List (List ℕ)) (numbers : List ℕ) (s : Symbol ℕ (Pair ℕ)) (rank : ℕ) (o : Option (List ℕ × ℕ)) (t : List ℕ) (more : List (SideItem (Pair ℕ))) → IsRightSymbol names labels numbers s o t → ArePairsWithin (length names) (length numbers) (holes_in more) → ArePairsWithin (length names) (length numbers) (holes_in (item_from (s, rank) ∷ more))
right_within names labels numbers (label f) rank o t more h k = k
right_within names labels numbers (hole x) rank None t more h k = absurd h
right_within names labels numbers (hole x) rank (Some q) t more h k = (slice_get_within names x.state q.0 h.0, slice_get_number numbers x.variable q.1 h.1, k)
  where
    slice_get_number : (ns : List ℕ) (n v : ℕ) → slice_get ns n ≡ Some v → n < length ns
    slice_get_number ns n v e = slice_get_within ns n v e

rights_within : (names labels : List (List ℕ)) (numbers : List ℕ) (ss : List (Symbol ℕ (Pair ℕ) × ℕ)) (is : List Item) → Along (IsRightNode names labels numbers) ss is → ArePairsWithin (length names) (length numbers) (holes_in (items_from ss))
rights_within names labels numbers [] is h = tt
rights_within names labels numbers (s ∷ ss) [] h = absurd h
rights_within names labels numbers (s ∷ ss) (i ∷ is) h = right_within names labels numbers s.0 s.1 (pair_in i) i.text (items_from ss) h.0.0 (rights_within names labels numbers ss is h.1)

-- the root is a label
record Rooted (labels : List (List ℕ)) (ss : List (Symbol ℕ Variable × ℕ)) (p : Parts) : Type 0 where
  pub pairs : pairs_of (items_from ss) ≡ ss
  pub begin : begins (items_from ss) ≡ true
  pub many : length (holes_in (items_from ss)) ≡ length (numbers_in p.below)

rooted_by : (labels : List (List ℕ)) (s : Symbol ℕ Variable) (rank : ℕ) (ss : List (Symbol ℕ Variable × ℕ)) (p : Parts) → IsRootItem labels (s, rank) (label_of p) p.root.kids → Along (IsLeftNode labels) ss p.below → Rooted labels ((s, rank) ∷ ss) p
rooted_by labels (hole x) rank ss p h k = absurd h
rooted_by labels (label f) rank ss p h k = record { pairs = ap (λ xs. (label f, rank) ∷ xs) (left_pairs labels ss p.below k); begin = refl; many = left_counts labels ss p.below k }

rooted : (labels : List (List ℕ)) (ss : List (Symbol ℕ Variable × ℕ)) (p : Parts) → IsLeftSide labels ss p → Rooted labels ss p
rooted labels [] p h = absurd h
rooted labels (s ∷ ss) p h = rooted_by labels s.0 s.1 ss p h.0 h.1

pub rule_shaped : (names labels : List (List ℕ)) (r : TransducerRule ℕ) (line : RuleLine) → IsRule names labels r line → IsShaped r × IsWithin (length names) r
rule_shaped names labels r line h =
    let l = rooted labels (preorder_of r.left) line.parts h.left in
    let rs = right_pairs names labels (numbers_in line.parts.below) (preorder_of r.right) line.parts.right h.right in
    let w = rights_within names labels (numbers_in line.parts.below) (preorder_of r.right) line.parts.right h.right in
    let numbered : AreNumbered 0 (holes_in (items_from (preorder_of r.left))) = subst (λ (xs : List Variable). AreNumbered 0 xs) (holes_of_items (items_from (preorder_of r.left)) r.left l.pairs) h.numbered in (
      shape_from (items_from (preorder_of r.left)) (items_from (preorder_of r.right)) r (length names) (length (numbers_in line.parts.below)) l.pairs rs l.begin (sym l.many) numbered w,
      (slice_get_within names r.state (state_of line.parts) h.state, within_from (items_from (preorder_of r.left)) (items_from (preorder_of r.right)) r (length names) (length (numbers_in line.parts.below)) l.pairs rs w),
    )

pub rules_shaped : (names labels : List (List ℕ)) (rules : List (TransducerRule ℕ)) (lines : List RuleLine) → Along (IsRule names labels) rules lines → AreShaped rules
rules_shaped names labels [] lines a m h = absurd (omega arith)
rules_shaped names labels (r ∷ rules) [] a m h = absurd a
rules_shaped names labels (r ∷ rules) (l ∷ lines) a zero h = (rule_shaped names labels r l a.0).0
rules_shaped names labels (r ∷ rules) (l ∷ lines) a (suc m) h = rules_shaped names labels rules lines a.1 m (omega arith)

pub rules_within : (names labels : List (List ℕ)) (rules : List (TransducerRule ℕ)) (lines : List RuleLine) → Along (IsRule names labels) rules lines → AreWithin (length names) rules
rules_within names labels [] lines a m h = absurd (omega arith)
rules_within names labels (r ∷ rules) [] a m h = absurd a
rules_within names labels (r ∷ rules) (l ∷ lines) a zero h = (rule_shaped names labels r l a.0).1
rules_within names labels (r ∷ rules) (l ∷ lines) a (suc m) h = rules_within names labels rules lines a.1 m (omega arith)

-- nothing is below a variable
pub left_ends : (labels : List (List ℕ)) (s : Side ℕ Variable) (p : Parts) → IsLeftSide labels (preorder_of s) p → HolesAreLeaves (only s)
left_ends labels s p h = HolesAreLeaves-items (items_from (preorder_of s)) s (rooted labels (preorder_of s) p h).pairs
