-- How the states and rules of places are put together.
use Rattle.std.specs.Prelude.{◌≡◌, ℕ, ◌+◌, ◌<◌, ◌≤◌, List, [], ◌∷◌, ◌++◌, length, take, drop, reverse, refl, sum_by}
use Rattle.std.proofs.Common.{length-append, zero, suc, get_or, arith, ap, sym, ◌∙◌, subst, append_assoc, add-one}
use Rattle.std.proofs.lemmas.List.{reverse-append, length-reverse}
use Rattle.std.proofs.lemmas.List.Sums.{sum_by-cons}
use Rattle.tib_tree.specs.Trees.{Trees, none, tree, count, join, first_trees, other_trees, parse, HasChildren, join_parts, count-first, preorder_of, parse_of_preorder, HasChildren_of_preorder}
use Rattle.tib_grammar.specs.Sides.{Symbol, label, hole, Side as SideFor, over, leaves, labels_in}
use Rattle.tib_grammar.specs.Items.{pairs_of, pair_of}
use Rattle.tib_grammar.specs.declared.Item.{Item}
use Rattle.tib_grammar.specs.declared.Item.TheVariants.{Label, Hole}
use Rattle.tib_grammar.specs.declared.Rule.{Rule}
use Rattle.tib_normal.specs.NormalForm.{heads, inner_rules, all_inner}
use Rattle.tib_normal.specs.Places.{head_states, own_states, states_with, rules_with, below_root, rule_labels}
use Rattle.tib_normal.proofs.LoneSides.{lone_of_hole}
use Rattle.tib_grammar.specs.Run.{rule_at}

pub heads-leaves : (s : ℕ) (k : Trees (Symbol ℕ ℕ)) → heads s k ≡ leaves (head_states s k)
heads-leaves s none = refl
heads-leaves s (tree (hole q) kids rest) = ap (tree (hole q) none) (heads-leaves s rest)
heads-leaves s (tree (label f) kids rest) = ap (tree (hole s) none) (heads-leaves (suc s + labels_in kids) rest)

pub length-head_states : (s : ℕ) (k : Trees (Symbol ℕ ℕ)) → length (head_states s k) ≡ count k
length-head_states s none = refl
length-head_states s (tree (hole q) kids rest) = ap suc (length-head_states s rest)
length-head_states s (tree (label f) kids rest) = ap suc (length-head_states (suc s + labels_in kids) rest)

pub labels-join : (a b : Trees (Symbol ℕ ℕ)) → labels_in (join a b) ≡ labels_in a + labels_in b
labels-join none b = omega arith
labels-join (tree (hole q) kids rest) b = labels-join rest b
labels-join (tree (label f) kids rest) b = omega (arith, labels-join rest b)

heads-join : (s : ℕ) (a b : Trees (Symbol ℕ ℕ)) → head_states s (join a b) ≡ head_states s a ++ head_states (s + labels_in a) b
heads-join s none b = ap (λ z. head_states z b) (omega arith)
heads-join s (tree (hole q) kids rest) b = ap (λ z. q ∷ z) (heads-join s rest b)
heads-join s (tree (label f) kids rest) b =
    let e : (suc s + labels_in kids) + labels_in rest ≡ s + suc (labels_in kids + labels_in rest) = omega arith in
    ap (λ z. s ∷ z) (heads-join (suc s + labels_in kids) rest b ∙ ap (λ z. head_states (suc s + labels_in kids) rest ++ head_states z b) e)

inner-join : (s : ℕ) (a b : Trees (Symbol ℕ ℕ)) → inner_rules s (join a b) ≡ inner_rules s a ++ inner_rules (s + labels_in a) b
inner-join s none b = ap (λ z. inner_rules z b) (omega arith)
inner-join s (tree (hole q) kids rest) b = inner-join s rest b
inner-join s (tree (label f) kids rest) b =
    let e : (suc s + labels_in kids) + labels_in rest ≡ s + suc (labels_in kids + labels_in rest) = omega arith in
    ap (λ z. record { left = s; right = record { label = label f; kids = heads (suc s) kids }; cost = 0 } ∷ z)
    (ap (λ z. inner_rules (suc s) kids ++ z) (inner-join (suc s + labels_in kids) rest b ∙ ap (λ z. inner_rules (suc s + labels_in kids) rest ++ inner_rules z b) e) ∙ sym (append_assoc (inner_rules (suc s) kids) (inner_rules (suc s + labels_in kids) rest) (inner_rules (s + suc (labels_in kids + labels_in rest)) b)))

take_front : {A : Type 0} (n : ℕ) (xs ys : List A) → length xs ≡ n → take n (xs ++ ys) ≡ xs
take_front zero [] ys e = refl
take_front (suc n) [] ys e = absurd (omega arith)
take_front zero (x ∷ xs) ys e = absurd (omega arith)
take_front (suc n) (x ∷ xs) ys e = ap (λ z. x ∷ z) (take_front n xs ys (omega arith))

drop_front : {A : Type 0} (n : ℕ) (xs ys : List A) → length xs ≡ n → drop n (xs ++ ys) ≡ ys
drop_front zero [] ys e = refl
drop_front (suc n) [] ys e = absurd (omega arith)
drop_front zero (x ∷ xs) ys e = absurd (omega arith)
drop_front (suc n) (x ∷ xs) ys e = drop_front n xs ys (omega arith)

-- an item before some sides: the states at the roots
pub states_before :
    (x : Item ℕ) (s : ℕ) (k : Trees (Symbol ℕ ℕ)) → (pair_of x).1 ≤ count k →
    head_states s (tree (pair_of x).0 (first_trees (pair_of x).1 k) (other_trees (pair_of x).1 k)) ≡ states_with x s (head_states (s + own_states x) k)
states_before (Hole q) s k h = ap (λ z. q ∷ head_states z k) (omega arith)
states_before (Label f r) s k h =
    let a : Trees (Symbol ℕ ℕ) = first_trees r k in
    let b : Trees (Symbol ℕ ℕ) = other_trees r k in
    let long : length (head_states (suc s) a) ≡ r = length-head_states (suc s) a ∙ count-first r k h in
    ap (λ z. s ∷ z)
    (sym (drop_front r (head_states (suc s) a) (head_states (suc s + labels_in a) b) long)
    ∙ ap (drop r) (sym (heads-join (suc s) a b) ∙ ap (head_states (suc s)) (join_parts r k) ∙ ap (λ z. head_states z k) (sym (add-one s))))

-- and the rules
pub rules_before :
    (x : Item ℕ) (s : ℕ) (k : Trees (Symbol ℕ ℕ)) → (pair_of x).1 ≤ count k →
    inner_rules s (tree (pair_of x).0 (first_trees (pair_of x).1 k) (other_trees (pair_of x).1 k)) ≡ rules_with x s (head_states (s + own_states x) k) 0 ++ inner_rules (s + own_states x) k
rules_before (Hole q) s k h = ap (λ z. inner_rules z k) (omega arith)
rules_before (Label f r) s k h =
    let a : Trees (Symbol ℕ ℕ) = first_trees r k in
    let b : Trees (Symbol ℕ ℕ) = other_trees r k in
    let long : length (head_states (suc s) a) ≡ r = length-head_states (suc s) a ∙ count-first r k h in
    let kids : heads (suc s) a ≡ leaves (take r (head_states (s + 1) k)) =
    heads-leaves (suc s) a
    ∙ ap leaves (sym (take_front r (head_states (suc s) a) (head_states (suc s + labels_in a) b) long)
    ∙ ap (take r) (sym (heads-join (suc s) a b) ∙ ap (head_states (suc s)) (join_parts r k) ∙ ap (λ z. head_states z k) (sym (add-one s))))
    in
    ap (λ (z : Trees (Symbol ℕ ℕ)). record { left = s; right = record { label = label f; kids = z }; cost = 0 } ∷ (inner_rules (suc s) a ++ inner_rules (suc s + labels_in a) b)) kids
    ∙ ap (λ (z : List (Rule ℕ)). record { left = s; right = over f (take r (head_states (s + 1) k)); cost = 0 } ∷ z)
    (sym (inner-join (suc s) a b) ∙ ap (inner_rules (suc s)) (join_parts r k) ∙ ap (λ z. inner_rules z k) (sym (add-one s)))

pub labels_before :
    (x : Item ℕ) (k : Trees (Symbol ℕ ℕ)) → labels_in (tree (pair_of x).0 (first_trees (pair_of x).1 k) (other_trees (pair_of x).1 k)) ≡ own_states x + labels_in k
labels_before (Hole q) k = omega arith
labels_before (Label f r) k = omega (arith, labels-join (first_trees r k) (other_trees r k), ap labels_in (join_parts r k))

-- one more state from the stack
after_drop : {A : Type 0} (n : ℕ) (xs ys : List A) (x : A) → drop n xs ≡ x ∷ ys → (take (n + 1) xs ≡ take n xs ++ x ∷ []) × (drop (n + 1) xs ≡ ys)
after_drop zero [] ys x e = absurd (cc)
after_drop zero (z ∷ xs) ys x e =
    let head : z ≡ x = cc e in
    let tail : xs ≡ ys = cc e in
    (ap (λ w. w ∷ []) head, tail)
after_drop (suc n) [] ys x e = absurd (cc)
after_drop (suc n) (z ∷ xs) ys x e =
    let r = after_drop n xs ys x e in
    (ap (λ m. take m (z ∷ xs)) (add-one (suc n)) ∙ ap (λ w. z ∷ w) (ap (λ m. take m xs) (sym (add-one n)) ∙ r.0), ap (λ m. drop m (z ∷ xs)) (add-one (suc n)) ∙ ap (λ m. drop m xs) (sym (add-one n)) ∙ r.1)

pub taken-one :
    (n front : ℕ) (start old new side more : List ℕ) (x : ℕ) → reverse old ≡ drop n (reverse start) → old ≡ new ++ x ∷ [] → side ≡ front ∷ take n (reverse start) → more ≡ side ++ x ∷ [] →
    (more ≡ front ∷ take (n + 1) (reverse start)) × (reverse new ≡ drop (n + 1) (reverse start))
taken-one n front start old new side more x left pop taken push =
    let turned : reverse old ≡ x ∷ reverse new = ap reverse pop ∙ reverse-append new (x ∷ []) in
    let next = after_drop n (reverse start) (reverse new) x (sym left ∙ turned) in
    (push ∙ ap (λ z. z ++ x ∷ []) taken ∙ ap (λ z. front ∷ z) (sym next.0), sym next.1)

-- the sides after an item
pub drop-item : (items : List (Item ℕ)) (i : ℕ) (d : Item ℕ) → i < length items → drop i (pairs_of items) ≡ pair_of (get_or items i d) ∷ drop (suc i) (pairs_of items)
drop-item [] i d h = absurd (omega arith)
drop-item (x ∷ items) zero d h = refl
drop-item (x ∷ items) (suc i) d h = drop-item items i d (omega arith)

pub drop-items : (items : List (Item ℕ)) (i : ℕ) → length items ≤ i → drop i (pairs_of items) ≡ []
drop-items [] zero h = refl
drop-items [] (suc i) h = refl
drop-items (x ∷ items) zero h = absurd (omega arith)
drop-items (x ∷ items) (suc i) h = drop-items items i (omega arith)

abbrev pub from_item : List (Item ℕ) → ℕ → Trees (Symbol ℕ ℕ)
from_item items i = parse (drop i (pairs_of items))

labels-fewer : (items : List (Item ℕ)) (i : ℕ) → labels_in (from_item items i) ≤ labels_in (from_item items 0)
labels-fewer items zero = omega arith
labels-fewer [] (suc i) = omega arith
labels-fewer (x ∷ items) (suc i) = omega (arith, labels-fewer items i, labels_before x (from_item items 0))

pub labels-below : (items : List (Item ℕ)) (i : ℕ) → 1 ≤ i → labels_in (from_item items i) ≤ labels_in (from_item items 1)
labels-below items zero h = absurd (omega arith)
labels-below [] (suc i) h = omega arith
labels-below (x ∷ items) (suc i) h = labels-fewer items i

nested-from : (n : ℕ) (xs : List (Symbol ℕ ℕ × ℕ)) → HasChildren xs → HasChildren (drop n xs)
nested-from zero xs h = h
nested-from (suc n) [] h = tt
nested-from (suc n) (x ∷ xs) h = nested-from n xs h.0

pub nested-below : (items : List (Item ℕ)) (i : ℕ) → 1 ≤ i → HasChildren (drop 1 (pairs_of items)) → HasChildren (drop i (pairs_of items))
nested-below items zero h n = absurd (omega arith)
nested-below [] (suc i) h n = tt
nested-below (x ∷ items) (suc i) h n = nested-from i (pairs_of items) n

turned_one : (x : Item ℕ) (s c : ℕ) (states : List ℕ) → reverse (rules_with x s states c) ≡ rules_with x s states c
turned_one (Label f r) s c states = refl
turned_one (Hole q) s c states = refl

-- what is kept while the items are placed
pub record IsPlacing (items : List (Item ℕ)) (whole i state : ℕ) (stack : List ℕ) (start inner : List (Rule ℕ)) : Type 0 where
  pub counted : state + labels_in (from_item items i) ≡ whole
  pub states : reverse stack ≡ head_states state (from_item items i)
  pub rules : reverse inner ≡ inner_rules state (from_item items i) ++ reverse start

pub placing-start : (items : List (Item ℕ)) (i state : ℕ) (start : List (Rule ℕ)) → length items ≤ i → IsPlacing items state i state [] start start
placing-start items i state start h =
    let e = drop-items items i h in
    record {
      counted = subst (λ z. state + labels_in (parse z) ≡ state) (sym e) (omega arith);
      states = subst (λ z. [] ≡ head_states state (parse z)) (sym e) refl;
      rules = subst (λ z. reverse start ≡ inner_rules state (parse z) ++ reverse start) (sym e) refl;
    }

-- an item's rank and own state fit
pub placing-fits :
    (items : List (Item ℕ)) (whole i state : ℕ) (stack : List ℕ) (start inner : List (Rule ℕ)) (x : Item ℕ) → 1 ≤ i → i < length items → x ≡ get_or items i (Label 0 0) → HasChildren (drop 1 (pairs_of items)) →
    labels_in (from_item items 1) ≤ whole → IsPlacing items whole (suc i) state stack start inner → (own_states x ≤ state) × ((pair_of x).1 ≤ length (reverse stack))
placing-fits items whole i state stack start inner x low h at nested fits placing =
    let e = drop-item items i (Label 0 0) h in
    let own : labels_in (from_item items i) ≡ own_states x + labels_in (from_item items (suc i)) = ap (λ z. labels_in (parse z)) e ∙ subst (λ y. labels_in (parse (pair_of y ∷ drop (suc i) (pairs_of items))) ≡ own_states x + labels_in (from_item items (suc i))) at (labels_before x (from_item items (suc i))) in
    let ranks : HasChildren (pair_of (get_or items i (Label 0 0)) ∷ drop (suc i) (pairs_of items)) = subst HasChildren e (nested-below items i low nested) in
    let rank : (pair_of x).1 ≤ count (from_item items (suc i)) = subst (λ y. (pair_of y).1 ≤ count (from_item items (suc i))) (sym at) ranks.1 in (
      omega (arith, own, placing.counted, labels-below items i low),
      omega (arith, rank, ap length placing.states, length-head_states state (from_item items (suc i))),
    )

-- an item is placed
pub placing-more :
    (items : List (Item ℕ)) (whole i state s : ℕ) (stack after : List ℕ) (start inner more : List (Rule ℕ)) (x : Item ℕ) → 1 ≤ i → i < length items → x ≡ get_or items i (Label 0 0) → HasChildren (drop 1 (pairs_of items)) →
    IsPlacing items whole (suc i) state stack start inner → s + own_states x ≡ state → reverse after ≡ states_with x s (reverse stack) → more ≡ inner ++ rules_with x s (reverse stack) 0 → IsPlacing items whole i s after start more
placing-more items whole i state s stack after start inner more x low h at nested placing count_is states_are rules_are =
    let k : Trees (Symbol ℕ ℕ) = from_item items (suc i) in
    let e : drop i (pairs_of items) ≡ pair_of x ∷ drop (suc i) (pairs_of items) = drop-item items i (Label 0 0) h ∙ ap (λ y. pair_of y ∷ drop (suc i) (pairs_of items)) (sym at) in
    let ranks : HasChildren (pair_of x ∷ drop (suc i) (pairs_of items)) = subst HasChildren e (nested-below items i low nested) in
    let own : labels_in (from_item items i) ≡ own_states x + labels_in k = ap (λ z. labels_in (parse z)) e ∙ labels_before x k in
    let heads_are : head_states s (from_item items i) ≡ states_with x s (head_states (s + own_states x) k) = ap (λ z. head_states s (parse z)) e ∙ states_before x s k ranks.1 in
    let inner_are : inner_rules s (from_item items i) ≡ rules_with x s (head_states (s + own_states x) k) 0 ++ inner_rules (s + own_states x) k = ap (λ z. inner_rules s (parse z)) e ∙ rules_before x s k ranks.1 in
    let stack_is : reverse stack ≡ head_states (s + own_states x) k = placing.states ∙ ap (λ z. head_states z k) (sym count_is) in
    record {
      counted = omega (arith, own, placing.counted);
      states = states_are ∙ ap (states_with x s) stack_is ∙ sym heads_are;
      rules =
          ap reverse rules_are
          ∙ reverse-append inner (rules_with x s (reverse stack) 0)
          ∙ ap (λ z. z ++ reverse inner) (turned_one x s 0 (reverse stack) ∙ ap (λ z. rules_with x s z 0) stack_is)
          ∙ ap (λ z. rules_with x s (head_states (s + own_states x) k) 0 ++ z) (placing.rules ∙ ap (λ z. inner_rules z k ++ reverse start) (sym count_is))
          ∙ sym (append_assoc (rules_with x s (head_states (s + own_states x) k) 0) (inner_rules (s + own_states x) k) (reverse start))
          ∙ ap (λ z. z ++ reverse start) (sym inner_are);
    }

-- the sides below a root are those of the items
pub below-kids : (items : List (Item ℕ)) (r : SideFor ℕ ℕ) → pairs_of items ≡ preorder_of r → below_root items ≡ r.kids
below-kids items r e = ap (λ z. parse (drop 1 z)) e ∙ parse_of_preorder r.kids

pub nested-kids : (items : List (Item ℕ)) (r : SideFor ℕ ℕ) → pairs_of items ≡ preorder_of r → HasChildren (drop 1 (pairs_of items))
nested-kids items r e = subst (λ z. HasChildren (drop 1 z)) (sym e) (HasChildren_of_preorder r.kids)

own-sum : (items : List (Item ℕ)) → sum_by own_states items ≡ labels_in (from_item items 0)
own-sum [] = refl
own-sum (x ∷ items) = sum_by-cons own_states x items ∙ omega (arith, own-sum items, labels_before x (from_item items 0))

pub own-below : (items : List (Item ℕ)) → sum_by own_states (drop 1 items) ≡ labels_in (below_root items)
own-below [] = refl
own-below (x ∷ items) = own-sum items

-- a chain rule has no places
pub none-placed : (items : List (Item ℕ)) (r : SideFor ℕ ℕ) (q : ℕ) → pairs_of items ≡ preorder_of r → get_or items 0 (Label 0 0) ≡ Hole q → r.kids ≡ none
none-placed items r q e at = ap (λ s. s.kids) (lone_of_hole items r q e at)

empty-drop : (xs : List ℕ) (n : ℕ) → n ≡ length xs → drop n xs ≡ []
empty-drop [] zero e = refl
empty-drop [] (suc n) e = refl
empty-drop (x ∷ xs) zero e = absurd (omega arith)
empty-drop (x ∷ xs) (suc n) e = empty-drop xs n (omega arith)

no_length : (xs : List ℕ) → length xs ≡ 0 → xs ≡ []
no_length [] e = refl
no_length (x ∷ xs) e = absurd (omega arith)

-- a stack from which all was taken
pub emptied : (old new : List ℕ) (n : ℕ) → n ≡ length old → reverse new ≡ drop n (reverse old) → new ≡ []
emptied old new n e h = no_length new (omega (arith, length-reverse new, ap length (h ∙ empty-drop (reverse old) n (e ∙ sym (length-reverse old)))))

-- the rules of the places of one more rule
pub inner-more : (s : ℕ) (rules : List (Rule ℕ)) (n : ℕ) (r : Rule ℕ) (before after : List (Rule ℕ)) (t : ℕ) → n < length rules → r ≡ rule_at rules n → s + rule_labels r ≡ t →
    reverse before ≡ all_inner t (drop (suc n) rules) → reverse after ≡ inner_rules s r.right.kids ++ reverse before → reverse after ≡ all_inner s (drop n rules)
inner-more s rules n r before after t h at count_is old new =
    new ∙ ap (λ z. inner_rules s r.right.kids ++ z) (old ∙ ap (λ z. all_inner z (drop (suc n) rules)) (sym count_is)) ∙ ap (all_inner s) (sym (drop-rule rules n r h at))
  where
    drop-rule : (rules : List (Rule ℕ)) (n : ℕ) (r : Rule ℕ) → n < length rules → r ≡ rule_at rules n → drop n rules ≡ r ∷ drop (suc n) rules
    drop-rule [] n r h e = absurd (omega arith)
    drop-rule (x ∷ rules) zero r h e = ap (λ z. z ∷ rules) (sym e)
    drop-rule (x ∷ rules) (suc n) r h e = drop-rule rules n r (omega arith) e

sum_suc : (f : Rule ℕ → ℕ) (rules : List (Rule ℕ)) (i : ℕ) (r : Rule ℕ) → i < length rules → r ≡ rule_at rules i → sum_by f (take (suc i) rules) ≡ sum_by f (take i rules) + f r
sum_suc f [] i r h e = absurd (omega arith)
sum_suc f (x ∷ rules) zero r h e =
    let same : f r ≡ f x = ap f e in
    let one : sum_by f (x ∷ []) ≡ f x + sum_by f [] = sum_by-cons f x [] in
    omega arith
sum_suc f (x ∷ rules) (suc i) r h e =
    let longer : sum_by f (x ∷ take (suc i) rules) ≡ f x + sum_by f (take (suc i) rules) = sum_by-cons f x (take (suc i) rules) in
    let long : sum_by f (x ∷ take i rules) ≡ f x + sum_by f (take i rules) = sum_by-cons f x (take i rules) in
    let rest : sum_by f (take (suc i) rules) ≡ sum_by f (take i rules) + f r = sum_suc f rules i r (omega arith) e in
    omega arith

-- the sum with one more rule
pub sum-more : (f : Rule ℕ → ℕ) (rules : List (Rule ℕ)) (i : ℕ) (r : Rule ℕ) → i < length rules → r ≡ rule_at rules i → sum_by f (take (i + 1) rules) ≡ sum_by f (take i rules) + f r
sum-more f rules i r h e = ap (λ j. sum_by f (take j rules)) (add-one i) ∙ sum_suc f rules i r h e

pub length-inner : (s : ℕ) (k : Trees (Symbol ℕ ℕ)) → length (inner_rules s k) ≡ labels_in k
length-inner s none = refl
length-inner s (tree (hole q) kids rest) = length-inner s rest
length-inner s (tree (label f) kids rest) =
    let both : length (inner_rules (suc s) kids ++ inner_rules (suc s + labels_in kids) rest) ≡ length (inner_rules (suc s) kids) + length (inner_rules (suc s + labels_in kids) rest) =
    length-append (inner_rules (suc s) kids) (inner_rules (suc s + labels_in kids) rest)
    in
    omega (arith, length-inner (suc s) kids, length-inner (suc s + labels_in kids) rest)

-- as many states of places as labels below roots
pub length-all_inner : (s : ℕ) (rules : List (Rule ℕ)) → length (all_inner s rules) ≡ sum_by rule_labels rules
length-all_inner s [] = refl
length-all_inner s (r ∷ rules) =
    let both : length (inner_rules s r.right.kids ++ all_inner (s + labels_in r.right.kids) rules) ≡ length (inner_rules s r.right.kids) + length (all_inner (s + labels_in r.right.kids) rules) =
    length-append (inner_rules s r.right.kids) (all_inner (s + labels_in r.right.kids) rules)
    in
    let sum : sum_by rule_labels (r ∷ rules) ≡ rule_labels r + sum_by rule_labels rules = sum_by-cons rule_labels r rules in
    omega (arith, length-inner s r.right.kids, length-all_inner (s + labels_in r.right.kids) rules)
