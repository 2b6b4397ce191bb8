-- The parts of places, counted item by item.
use Rattle.std.specs.Prelude.{◌≡◌, ℕ, ◌+◌, ◌<◌, ◌≤◌, List, [], ◌∷◌, length, take, drop, refl, sum_by}
use Rattle.std.proofs.Common.{length-append, suc, get_or, arith, ap, ◌∙◌}
use Rattle.std.proofs.lemmas.List.Sums.{sum_by-cons, sum_by_more, sum_by-take-le}
use Rattle.tib_tree.specs.Trees.{Trees, none, tree, count, sizes, join, first_trees, other_trees, parse, HasChildren, join_parts, count-first, preorder_of}
use Rattle.tib_grammar.specs.Sides.{Symbol, label, hole, Side as SideFor, labels_in}
use Rattle.tib_grammar.specs.Items.{pairs_of, pair_of}
use Rattle.tib_grammar.specs.Run.{rule_at, no_rule}
use Rattle.tib_grammar.specs.declared.Item.{Item}
use Rattle.tib_grammar.specs.declared.Item.TheVariants.{Label, Hole}
use Rattle.tib_grammar.specs.declared.Rule.{Rule}
use Rattle.tib_normal.specs.NormalForm.{heads, inner_rules, all_inner, rule_parts, normal_parts}
use Rattle.tib_normal.specs.Places.{parts_in, own_parts, parts_below, place_parts}
use Rattle.tib_normal.proofs.Placing.{below-kids, nested-kids}
use Rattle.tib_lex.proofs.Lists.{total_append}
use Rattle.tib_lex.specs.Lists.{total}

sizes-heads : (s : ℕ) (k : Trees (Symbol ℕ ℕ)) → sizes (heads s k) ≡ count k
sizes-heads s none = refl
sizes-heads s (tree (hole q) kids rest) = omega (arith, sizes-heads s rest)
sizes-heads s (tree (label f) kids rest) = omega (arith, sizes-heads (suc s + labels_in kids) rest)

-- the parts of the rules of places and of their states
parts-inner : (s : ℕ) (k : Trees (Symbol ℕ ℕ)) → length (inner_rules s k) + total rule_parts (inner_rules s k) ≡ parts_in k
parts-inner s none = omega arith
parts-inner s (tree (hole q) kids rest) = parts-inner s rest
parts-inner s (tree (label f) kids rest) =
    let a : List (Rule ℕ) = inner_rules (suc s) kids in
    let b : List (Rule ℕ) = inner_rules (suc s + labels_in kids) rest in
    omega (arith, length-append a b, total_append rule_parts a b, sizes-heads (suc s) kids, parts-inner (suc s) kids, parts-inner (suc s + labels_in kids) rest)

parts-all : (s : ℕ) (rules : List (Rule ℕ)) → length (all_inner s rules) + total rule_parts (all_inner s rules) ≡ sum_by place_parts rules
parts-all s [] = refl
parts-all s (r ∷ rules) =
    let a : List (Rule ℕ) = inner_rules s r.right.kids in
    let b : List (Rule ℕ) = all_inner (s + labels_in r.right.kids) rules in
    omega (arith, length-append a b, total_append rule_parts a b, sum_by-cons place_parts r rules, parts-inner s r.right.kids, parts-all (s + labels_in r.right.kids) rules)

-- the parts of the grammar's states and of all places
pub normal-parts : (s : ℕ) (rules : List (Rule ℕ)) → normal_parts (s + length (all_inner s rules)) (all_inner s rules) ≡ s + sum_by place_parts rules
normal-parts s rules = omega (arith, parts-all s rules)

parts-join : (a b : Trees (Symbol ℕ ℕ)) → parts_in (join a b) ≡ parts_in a + parts_in b
parts-join none b = omega arith
parts-join (tree (hole q) kids rest) b = parts-join rest b
parts-join (tree (label f) kids rest) b = omega (arith, parts-join rest b)

parts_before :
    (x : Item ℕ) (k : Trees (Symbol ℕ ℕ)) → (pair_of x).1 ≤ count k → parts_in (tree (pair_of x).0 (first_trees (pair_of x).1 k) (other_trees (pair_of x).1 k)) ≡ own_parts x + parts_in k
parts_before (Hole q) k h = omega arith
parts_before (Label f r) k h = omega (arith, parts-join (first_trees r k) (other_trees r k), ap parts_in (join_parts r k), count-first r k h)

parts-sum : (items : List (Item ℕ)) → HasChildren (pairs_of items) → sum_by own_parts items ≡ parts_in (parse (pairs_of items))
parts-sum [] h = refl
parts-sum (x ∷ items) h = sum_by-cons own_parts x items ∙ omega (arith, parts-sum items h.0, parts_before x (parse (pairs_of items)) h.1)

-- the parts below the root of a right side, by its items
pub parts-kids : (items : List (Item ℕ)) (r : SideFor ℕ ℕ) → pairs_of items ≡ preorder_of r → parts_below items ≡ parts_in r.kids
parts-kids [] r e = absurd (cc)
parts-kids (x ∷ items) r e = parts-sum items (nested-kids (x ∷ items) r e) ∙ ap parts_in (below-kids (x ∷ items) r e)

-- with one more rule
pub parts-more :
    (rules : List (Rule ℕ)) (i : ℕ) (r : Rule ℕ) (s before after : ℕ) → i < length rules → r ≡ rule_at rules i →
    before ≡ s + sum_by place_parts (take i rules) → after ≡ before + place_parts r → after ≡ s + sum_by place_parts (take (i + 1) rules)
parts-more rules i r s before after h at old new = omega (arith, sum_by_more place_parts rules i no_rule h, old, new, ap place_parts at)

-- a part of the sum is at most the whole
pub parts-within :
    (rules : List (Rule ℕ)) (i : ℕ) (r : Rule ℕ) (s limit before : ℕ) → i < length rules → r ≡ rule_at rules i →
    before ≡ s + sum_by place_parts (take i rules) → limit < before + place_parts r → limit < normal_parts (s + length (all_inner s rules)) (all_inner s rules)
parts-within rules i r s limit before h at old more =
    omega (arith, parts-more rules i r s before (before + place_parts r) h at old refl, sum_by-take-le place_parts rules (i + 1), normal-parts s rules)

-- the same for the items below a root
pub side-within :
    (items side : List (Item ℕ)) (i : ℕ) (x : Item ℕ) (start limit before : ℕ) → side ≡ drop 1 items → i < length side → x ≡ get_or side i x →
    before ≡ start + sum_by own_parts (take i side) → limit < before + own_parts x → limit < start + parts_below items
side-within items side i x start limit before is h at old more =
    omega (arith, sum_by_more own_parts side i x h, sum_by-take-le own_parts side (i + 1), ap own_parts at, ap (λ (z : List (Item ℕ)). sum_by own_parts z) is)
