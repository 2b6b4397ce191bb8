-- How two trees compare by their roots and by the first place where their children's numbers
-- differ.
use Rattle.std.specs.Prelude.{◌≡◌, ℕ, ◌<◌, ◌≤◌, ◌⊎◌, List, [], ◌∷◌, length, slice_get, Some, None, min, refl}
use Rattle.std.specs.declared.cmp.Ordering.{Ordering}
use Rattle.std.specs.declared.cmp.Ordering.TheVariants.{Less, Equal, Greater}
use Rattle.std.specs.Ordering.{nat_cmp, ordering_then}
use Rattle.std.specs.Cmp.{nat_cmp_is}
use Rattle.std.specs.Cmp.Lexicographic.{slice_cmp}
use Rattle.std.specs.FinMap.{slice_cmp-IsAntisymmetric, nat_cmp-IsAntisymmetric}
use Rattle.std.proofs.lemmas.Cmp.{nat_list_cmp_total, tied_itself}
use Rattle.std.proofs.Common.{zero, suc, arith, ap, sym, ◌∙◌, subst, inl, inr, get_or}
use Rattle.tib_tree.specs.Trees.{Tree, Trees, none, tree, only, count, sizes, size, relabel}
use Rattle.tib_tree.specs.Growth.{text_at, LabelsBelow}
use Rattle.tib_tree.specs.Grows.{AreDistinct}
use Rattle.tib_tree.proofs.Counts.{sizes-relabel, count-relabel}
use Rattle.tib_tree.specs.Order.{trees_cmp, tree_cmp_by}
use Rattle.tib_tree.proofs.Orderings.{three_ways, nat_itself, nat_equal, then_decided, then_Equal}
use Rattle.tib_tree.proofs.Relabelling.{same_text}
use Rattle.tib_tree.proofs.TreeOrder.{only_same, trees_total}
use Rattle.tib_ranked_trees.specs.Numbers.{AreNamed, IsNamed, IsFirstOther, IsDecided, RootsBelow, label_of, children_of, label_at, children_at, told_size, most_size}
use Rattle.tib_ranked_trees.specs.Ranked.{AreRanksOf, IsOneSmall, IsOrderOf, IsRootOrder, root_order}
use Rattle.tib_ranked_trees.proofs.Numbers.{one_tree, named}

-- numbers

-- sizes compare as stored, where one is less than the greatest
sizes_told : (a b : ℕ) → (suc a < most_size) ⊎ (suc b < most_size) → nat_cmp (min (suc a) most_size) (min (suc b) most_size) ≡ nat_cmp a b
sizes_told a b h = elim (three_ways a b) [
  | inl l ↦
      let k : min (suc a) most_size < min (suc b) most_size = elim h [ inl x ↦ omega (arith, l, x) | inr x ↦ omega (arith, l, x) ] in
      sym (nat_cmp_is (min (suc a) most_size) (min (suc b) most_size) Less k) ∙ nat_cmp_is a b Less l
  | inr o ↦ elim o [
    | inl e ↦ ap (λ c. nat_cmp (min (suc c) most_size) (min (suc b) most_size)) e ∙ nat_itself (min (suc b) most_size) ∙ sym (nat_itself b) ∙ ap (λ c. nat_cmp c b) (sym e)
    | inr g ↦
        let k : min (suc b) most_size < min (suc a) most_size = elim h [ inl x ↦ omega (arith, g, x) | inr x ↦ omega (arith, g, x) ] in
        sym (nat_cmp_is (min (suc a) most_size) (min (suc b) most_size) Greater k) ∙ nat_cmp_is a b Greater g
  ]
]

-- orders one after another

then_roots : (s t c r : Ordering) → ordering_then s (ordering_then t (ordering_then c (ordering_then r Equal))) ≡ ordering_then (ordering_then s (ordering_then t c)) r
then_roots Less t c r = refl
then_roots Greater t c r = refl
then_roots Equal Less c r = refl
then_roots Equal Greater c r = refl
then_roots Equal Equal Less r = refl
then_roots Equal Equal Greater r = refl
then_roots Equal Equal Equal Less = refl
then_roots Equal Equal Equal Equal = refl
then_roots Equal Equal Equal Greater = refl

-- two roots, as the code compares them
module _ (shapes : List (List ℕ)) (ranks : List ℕ) (one other m n : ℕ) where
  pub roots_by_size :
      (o : Ordering) (x y : ℕ) → o ≡ nat_cmp x y → x ≡ m → y ≡ n → (o ≡ Equal → ⊥) →
      o ≡ root_order shapes ranks one other m n
  roots_by_size o x y e a b h =
      let is : o ≡ nat_cmp m n = e ∙ ap (λ k. nat_cmp k y) a ∙ ap (nat_cmp m) b in
      is ∙ sym (then_decided (nat_cmp m n) _ (λ t. h (is ∙ t)))

  pub roots_by_rank :
      (o r : Ordering) (x y f g : ℕ) → o ≡ nat_cmp x y → x ≡ m → y ≡ n → o ≡ Equal →
      f ≡ get_or ranks (label_at shapes one) 0 → g ≡ get_or ranks (label_at shapes other) 0 →
      (f ≡ g → ⊥) → r ≡ nat_cmp f g → r ≡ root_order shapes ranks one other m n
  roots_by_rank o r x y f g e a b tied p q h k =
      let is : nat_cmp m n ≡ Equal = sym (e ∙ ap (λ k. nat_cmp k y) a ∙ ap (nat_cmp m) b) ∙ tied in
      let by : r ≡ nat_cmp (get_or ranks (label_at shapes one) 0) (get_or ranks (label_at shapes other) 0) = k ∙ ap (λ k. nat_cmp k g) p ∙ ap (nat_cmp (get_or ranks (label_at shapes one) 0)) q in
      by
      ∙ sym (then_decided (nat_cmp (get_or ranks (label_at shapes one) 0) (get_or ranks (label_at shapes other) 0)) (nat_cmp (length (children_at shapes one)) (length (children_at shapes other))) (λ t. h (nat_equal f g (sym k ∙ by ∙ t))))
      ∙ ap (λ o. ordering_then o (ordering_then (nat_cmp (get_or ranks (label_at shapes one) 0) (get_or ranks (label_at shapes other) 0)) (nat_cmp (length (children_at shapes one)) (length (children_at shapes other))))) (sym is)

  pub roots_by_count :
      (o r : Ordering) (x y f g : ℕ) (ks ls : List ℕ) → o ≡ nat_cmp x y → x ≡ m → y ≡ n → o ≡ Equal →
      f ≡ get_or ranks (label_at shapes one) 0 → g ≡ get_or ranks (label_at shapes other) 0 →
      f ≡ g → ks ≡ children_at shapes one → ls ≡ children_at shapes other → r ≡ nat_cmp (length ks) (length ls) →
      r ≡ root_order shapes ranks one other m n
  roots_by_count o r x y f g ks ls e a b tied p q h i j k =
      let is : nat_cmp m n ≡ Equal = sym (e ∙ ap (λ k. nat_cmp k y) a ∙ ap (nat_cmp m) b) ∙ tied in
      let level : nat_cmp (get_or ranks (label_at shapes one) 0) (get_or ranks (label_at shapes other) 0) ≡ Equal =
      ap (λ k. nat_cmp k (get_or ranks (label_at shapes other) 0)) (sym p ∙ h ∙ q) ∙ nat_itself (get_or ranks (label_at shapes other) 0)
      in
      let counts : r ≡ nat_cmp (length (children_at shapes one)) (length (children_at shapes other)) = k ∙ ap (λ c. nat_cmp (length c) (length ls)) i ∙ ap (λ c. nat_cmp (length (children_at shapes one)) (length c)) j in
      counts
      ∙ ap (λ o. ordering_then o (nat_cmp (length (children_at shapes one)) (length (children_at shapes other)))) (sym level)
      ∙ ap (λ o. ordering_then o (ordering_then (nat_cmp (get_or ranks (label_at shapes one) 0) (get_or ranks (label_at shapes other) 0)) (nat_cmp (length (children_at shapes one)) (length (children_at shapes other))))) (sym is)

-- what numbers name

pub count_named : (shapes : List (List ℕ)) (ns : List ℕ) (ts : Trees ℕ) → AreNamed shapes ns ts → count ts ≡ length ns
count_named shapes [] none a = refl
count_named shapes [] (tree f kids rest) a = absurd a
count_named shapes (n ∷ ns) none a = absurd a
count_named shapes (n ∷ ns) (tree f kids rest) a = omega (arith, count_named shapes ns rest a.1)

labels_named : (shapes : List (List ℕ)) (k : ℕ) → RootsBelow k shapes → (ns : List ℕ) (ts : Trees ℕ) → AreNamed shapes ns ts → LabelsBelow k ts
labels_named shapes k b [] none a = tt
labels_named shapes k b [] (tree f kids rest) a = absurd a
labels_named shapes k b (n ∷ ns) none a = absurd a
labels_named shapes k b (n ∷ ns) (tree f kids rest) a =
    (b n f a.0.0 a.0.1, labels_named shapes k b a.0.0 kids a.0.2, labels_named shapes k b ns rest a.1)

child_small :
    (shapes : List (List ℕ)) (ks : List ℕ) (ts : Trees ℕ) (i : ℕ) (t : Tree ℕ) → AreNamed shapes ks ts → i < length ks →
    IsNamed shapes (get_or ks i 0) t → size t ≤ sizes ts
child_small shapes [] ts i t a h b = absurd (omega (arith, h))
child_small shapes (k ∷ ks) none i t a h b = absurd a
child_small shapes (k ∷ ks) (tree f kids rest) zero t a h b =
    let same : only t ≡ tree f kids none = one_tree shapes (k ∷ []) (only t) (tree f kids none) b (a.0, tt) in
    let few : sizes (only t) ≡ sizes (tree f kids none) = ap sizes same in
    omega (arith, few)
child_small shapes (k ∷ ks) (tree f kids rest) (suc i) t a h b = omega (arith, child_small shapes ks rest i t a.1 (omega (arith, h)) b)

-- a shape, read
pub read_shape : (shapes : List (List ℕ)) (n f : ℕ) (ms : List ℕ) → slice_get shapes n ≡ Some (f ∷ ms) → (label_at shapes n ≡ f) × (children_at shapes n ≡ ms)
read_shape [] n f ms e = let bad : None ≡ Some (f ∷ ms) = e in absurd (cc)
read_shape (x ∷ xs) zero f ms e = let s : x ≡ f ∷ ms = cc in (ap label_of s, ap children_of s)
read_shape (x ∷ xs) (suc n) f ms e = read_shape xs n f ms e

module _ (shapes : List (List ℕ)) (ranks : List ℕ) (distinct : AreDistinct shapes) (roots : RootsBelow (length ranks) shapes) where
  -- equal numbers are equal trees
  pub order_itself : (a : ℕ) → IsOrderOf shapes ranks a a Equal
  order_itself a labels d r s t p q small =
      let same : s ≡ t = only_same s t (one_tree shapes (a ∷ []) (only s) (only t) p q) in
      sym (ap (λ w. tree_cmp_by labels s w) (sym same) ∙ tied_itself (trees_total nat_list_cmp_total) (relabel (text_at labels) (only s)))

  module _ (labels : List (List ℕ)) (d : AreDistinct labels) (r : AreRanksOf labels ranks) (a b : ℕ) (s t : Tree ℕ)
      (p : IsNamed shapes a s) (q : IsNamed shapes b t) (small : IsOneSmall s t) where
    abbrev rows : Trees ℕ → Trees ℕ → Ordering
    rows ts us = trees_cmp (slice_cmp nat_cmp) (relabel (text_at labels) ts) (relabel (text_at labels) us)

    low_left : s.label < length labels
    low_left = omega (arith, roots a s.label p.0.0 p.0.1, r.long)

    low_right : t.label < length labels
    low_right = omega (arith, roots b t.label q.0.0 q.0.1, r.long)

    -- the roots decide first, and then the children
    roots_first : tree_cmp_by labels s t ≡ ordering_then (root_order shapes ranks a b (told_size s) (told_size t)) (rows s.kids t.kids)
    roots_first =
        let left = read_shape shapes a s.label p.0.0 p.0.1 in
        let right = read_shape shapes b t.label q.0.0 q.0.1 in
        let sizes_as_told : nat_cmp (sizes (relabel (text_at labels) s.kids)) (sizes (relabel (text_at labels) t.kids)) ≡ nat_cmp (told_size s) (told_size t) =
        rw (sizes-relabel (text_at labels) s.kids, sizes-relabel (text_at labels) t.kids) (sym (sizes_told (sizes s.kids) (sizes t.kids) small))
        in
        let labels_by_rank : slice_cmp nat_cmp (text_at labels s.label) (text_at labels t.label) ≡ nat_cmp (get_or ranks (label_at shapes a) 0) (get_or ranks (label_at shapes b) 0) =
        rw (left.0, right.0) (sym (r.order s.label t.label low_left low_right))
        in
        let counts : nat_cmp (count (relabel (text_at labels) s.kids)) (count (relabel (text_at labels) t.kids)) ≡ nat_cmp (length (children_at shapes a)) (length (children_at shapes b)) =
        rw (left.1, right.1, count-relabel (text_at labels) s.kids, count-relabel (text_at labels) t.kids, count_named shapes p.0.0 s.kids p.0.2, count_named shapes q.0.0 t.kids q.0.2) refl
        in
        then_roots (nat_cmp (sizes (relabel (text_at labels) s.kids)) (sizes (relabel (text_at labels) t.kids))) (slice_cmp nat_cmp (text_at labels s.label) (text_at labels t.label))
        (nat_cmp (count (relabel (text_at labels) s.kids)) (count (relabel (text_at labels) t.kids))) (rows s.kids t.kids)
        ∙ ap (λ o. ordering_then (ordering_then o (ordering_then (slice_cmp nat_cmp (text_at labels s.label) (text_at labels t.label)) (nat_cmp (count (relabel (text_at labels) s.kids)) (count (relabel (text_at labels) t.kids))))) (rows s.kids t.kids)) sizes_as_told
        ∙ ap (λ o. ordering_then (ordering_then (nat_cmp (told_size s) (told_size t)) (ordering_then o (nat_cmp (count (relabel (text_at labels) s.kids)) (count (relabel (text_at labels) t.kids))))) (rows s.kids t.kids)) labels_by_rank
        ∙ ap (λ o. ordering_then (ordering_then (nat_cmp (told_size s) (told_size t)) (ordering_then (nat_cmp (get_or ranks (label_at shapes a) 0) (get_or ranks (label_at shapes b) 0)) o)) (rows s.kids t.kids)) counts

    roots_decide : (o : Ordering) → o ≡ root_order shapes ranks a b (told_size s) (told_size t) → (o ≡ Equal → ⊥) → o ≡ tree_cmp_by labels s t
    roots_decide o e h = sym (roots_first ∙ ap (λ w. ordering_then w (rows s.kids t.kids)) (sym e) ∙ then_decided o (rows s.kids t.kids) h)

    -- the trees that decide are in their order
    in_order :
        (ks ls : List ℕ) (i : ℕ) (o : Ordering) → AreNamed shapes ks s.kids → AreNamed shapes ls t.kids → i < length ks → i < length ls →
        IsDecided shapes labels ks ls i s.kids t.kids → IsOrderOf shapes ranks (get_or ks i 0) (get_or ls i 0) o → o ≡ rows s.kids t.kids
    in_order ks ls i o left right low high decided below =
        below labels d r decided.left decided.right decided.are_left decided.are_right
        (elim small [
          | inl x ↦ inl (omega (arith, child_small shapes ks s.kids i decided.left left low decided.are_left, x))
          | inr x ↦ inr (omega (arith, child_small shapes ls t.kids i decided.right right high decided.are_right, x))
        ])
        ∙ sym decided.same

    kids_decide :
        (ks ls : List ℕ) (i : ℕ) (o : Ordering) → Equal ≡ root_order shapes ranks a b (told_size s) (told_size t) → ks ≡ children_at shapes a → ls ≡ children_at shapes b → IsFirstOther ks ls i →
        IsOrderOf shapes ranks (get_or ks i 0) (get_or ls i 0) o → o ≡ tree_cmp_by labels s t
    kids_decide ks ls i o e h k f below =
        let left : AreNamed shapes ks s.kids = subst (λ w. AreNamed shapes w s.kids) (sym (h ∙ (read_shape shapes a s.label p.0.0 p.0.1).1)) p.0.2 in
        let right : AreNamed shapes ls t.kids = subst (λ w. AreNamed shapes w t.kids) (sym (k ∙ (read_shape shapes b t.label q.0.0 q.0.1).1)) q.0.2 in
        let low_kids : LabelsBelow (length labels) s.kids = subst (λ n. LabelsBelow n s.kids) r.long (labels_named shapes (length ranks) roots ks s.kids left) in
        let low_others : LabelsBelow (length labels) t.kids = subst (λ n. LabelsBelow n t.kids) r.long (labels_named shapes (length ranks) roots ls t.kids right) in
        let kids : o ≡ rows s.kids t.kids =
        in_order ks ls i o left right f.below (omega (arith, f.below, f.long)) (named.decided shapes labels distinct d ks ls i s.kids t.kids left right low_kids low_others f) below
        in
        let whole : tree_cmp_by labels s t ≡ rows s.kids t.kids = roots_first ∙ ap (λ w. ordering_then w (rows s.kids t.kids)) (sym e) in
        kids ∙ sym whole

    kids_differ : Equal ≡ root_order shapes ranks a b (told_size s) (told_size t) → children_at shapes a ≡ children_at shapes b → a ≡ b
    kids_differ e h =
        let left = read_shape shapes a s.label p.0.0 p.0.1 in
        let right = read_shape shapes b t.label q.0.0 q.0.1 in
        let tied : nat_cmp (get_or ranks (label_at shapes a) 0) (get_or ranks (label_at shapes b) 0) ≡ Equal = (then_Equal _ _ (then_Equal _ _ (sym e)).1).0 in
        let texts : slice_cmp nat_cmp (text_at labels s.label) (text_at labels t.label) ≡ Equal = sym (r.order s.label t.label low_left low_right) ∙ rw (← left.0, ← right.0) tied in
        let label : s.label ≡ t.label = same_text labels d s.label t.label low_left low_right (slice_cmp-IsAntisymmetric nat_cmp-IsAntisymmetric _ _ texts) in
        let kids : p.0.0 ≡ q.0.0 = sym left.1 ∙ h ∙ right.1 in
        distinct.once a b (s.label ∷ p.0.0) p.0.1 (q.0.1 ∙ ap (λ f. Some (f ∷ q.0.0)) (sym label) ∙ ap (λ ks. Some (s.label ∷ ks)) (sym kids))

  -- the roots differ
  pub order_roots : (a b : ℕ) (o : Ordering) → IsRootOrder shapes ranks a b o → (o ≡ Equal → ⊥) → IsOrderOf shapes ranks a b o
  order_roots a b o is h labels d r s t p q small = roots_decide labels d r a b s t p q small o (is s t p q) h

  -- the children first differ at a place
  pub order_down :
      (a b : ℕ) (o : Ordering) (ks ls : List ℕ) (i x y : ℕ) (result : Ordering) → IsRootOrder shapes ranks a b o → o ≡ Equal → ks ≡ children_at shapes a → ls ≡ children_at shapes b →
      IsFirstOther ks ls i → x ≡ get_or ks i 0 → y ≡ get_or ls i 0 → IsOrderOf shapes ranks x y result → IsOrderOf shapes ranks a b result
  order_down a b o ks ls i x y result is e h k f u v below labels d r s t p q small =
      kids_decide labels d r a b s t p q small ks ls i result (sym e ∙ is s t p q) h k f
      (subst (λ w. IsOrderOf shapes ranks (get_or ks i 0) w result) v (subst (λ w. IsOrderOf shapes ranks w y result) u below))

  -- nothing differs, so the numbers are equal
  pub order_none :
      (a b : ℕ) (o : Ordering) → IsRootOrder shapes ranks a b o → o ≡ Equal → children_at shapes a ≡ children_at shapes b → (a ≡ b → ⊥) →
      IsOrderOf shapes ranks a b Equal
  order_none a b o is e h n labels d r s t p q small = absurd (n (kids_differ labels d r a b s t p q small (sym e ∙ is s t p q) h))
