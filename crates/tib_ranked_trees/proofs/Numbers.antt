-- Trees by numbers.
use Rattle.std.specs.Prelude.{◌≡◌, ℕ, List, [], ◌∷◌, length, Some, refl}
use Rattle.std.specs.declared.cmp.Ordering.{Ordering}
use Rattle.std.specs.declared.cmp.Ordering.TheVariants.{Less, Equal, Greater}
use Rattle.std.specs.Ordering.{nat_cmp, ordering_then}
use Rattle.std.specs.Cmp.Lexicographic.{slice_cmp}
use Rattle.std.proofs.lemmas.Cmp.{nat_list_cmp_total, tied_itself}
use Rattle.std.proofs.Common.{zero, suc, arith, ap, sym, ◌∙◌, subst}
use Rattle.tib_tree.specs.Trees.{Tree, Trees, none, tree, count, sizes, relabel}
use Rattle.tib_tree.specs.Growth.{text_at, LabelsBelow}
use Rattle.tib_tree.specs.Grows.{Grows, AreDistinct}
use Rattle.tib_tree.specs.Order.{trees_cmp, tree_cmp_by}
use Rattle.tib_ranked_trees.specs.Numbers.{AreNamed, IsFirstOther, IsDecided, NumbersNameTrees}
use Rattle.tib_tree.proofs.TreeOrder.{trees_total, trees_same}
use Rattle.tib_tree.proofs.Orderings.{then_decided}
use Rattle.tib_tree.proofs.Relabelling.{relabel-same}
use Rattle.std.specs.FinMap.{slice_cmp-IsAntisymmetric, nat_cmp-IsAntisymmetric}

pub one_tree : (shapes : List (List ℕ)) (ns : List ℕ) (ts us : Trees ℕ) → AreNamed shapes ns ts → AreNamed shapes ns us → ts ≡ us
one_tree shapes [] none none a b = refl
one_tree shapes [] none (tree g ls more) a b = absurd b
one_tree shapes [] (tree f ks rest) us a b = absurd a
one_tree shapes (n ∷ ns) none us a b = absurd a
one_tree shapes (n ∷ ns) (tree f ks rest) none a b = absurd b
one_tree shapes (n ∷ ns) (tree f ks rest) (tree g ls more) a b =
    let e : Some (f ∷ a.0.0) ≡ Some (g ∷ b.0.0) = sym a.0.1 ∙ b.0.1 in
    let root : f ≡ g = cc e in
    let numbers : a.0.0 ≡ b.0.0 = cc e in
    let kids : ks ≡ ls = one_tree shapes a.0.0 ks ls a.0.2 (subst (λ ms. AreNamed shapes ms ls) (sym numbers) b.0.2) in
    let others : rest ≡ more = one_tree shapes ns rest more a.1 b.1 in
    cc (root, kids, others)

pub one_number : (shapes : List (List ℕ)) → AreDistinct shapes → (ns ms : List ℕ) (ts : Trees ℕ) → AreNamed shapes ns ts → AreNamed shapes ms ts → ns ≡ ms
one_number shapes d [] [] ts a b = refl
one_number shapes d [] (m ∷ ms) none a b = absurd b
one_number shapes d [] (m ∷ ms) (tree f ks rest) a b = absurd a
one_number shapes d (n ∷ ns) ms none a b = absurd a
one_number shapes d (n ∷ ns) [] (tree f ks rest) a b = absurd b
one_number shapes d (n ∷ ns) (m ∷ ms) (tree f ks rest) a b =
    let inner : a.0.0 ≡ b.0.0 = one_number shapes d a.0.0 b.0.0 ks a.0.2 b.0.2 in
    let one : n ≡ m = d.once n m (f ∷ a.0.0) a.0.1 (b.0.1 ∙ ap (λ xs. Some (f ∷ xs)) (sym inner)) in
    let others : ns ≡ ms = one_number shapes d ns ms rest a.1 b.1 in
    cc (one, others)

pub grown : (shapes more : List (List ℕ)) → Grows shapes more → (ns : List ℕ) (ts : Trees ℕ) → AreNamed shapes ns ts → AreNamed more ns ts
grown shapes more g [] none a = tt
grown shapes more g [] (tree f ks rest) a = absurd a
grown shapes more g (n ∷ ns) none a = absurd a
grown shapes more g (n ∷ ns) (tree f ks rest) a = ((a.0.0, g.kept n (f ∷ a.0.0) a.0.1, grown shapes more g a.0.0 ks a.0.2), grown shapes more g ns rest a.1)

-- the first tree decides where it can
then_split : (s t r k x : Ordering) → ordering_then s (ordering_then t (ordering_then r (ordering_then k x))) ≡ ordering_then (ordering_then s (ordering_then t (ordering_then r (ordering_then k Equal)))) x
then_split Less t r k x = refl
then_split Greater t r k x = refl
then_split Equal Less r k x = refl
then_split Equal Greater r k x = refl
then_split Equal Equal Less k x = refl
then_split Equal Equal Greater k x = refl
then_split Equal Equal Equal Less x = refl
then_split Equal Equal Equal Greater x = refl
then_split Equal Equal Equal Equal x = refl

module _ (shapes labels : List (List ℕ)) (d : AreDistinct shapes) (t : AreDistinct labels) where
  abbrev rows : Trees ℕ → Trees ℕ → Ordering
  rows ts us = trees_cmp (slice_cmp nat_cmp) (relabel (text_at labels) ts) (relabel (text_at labels) us)

  abbrev one : ℕ → Trees ℕ → Tree ℕ
  one f ks = record { label = f; kids = ks }

  split : (f g : ℕ) (ks ls rest more : Trees ℕ) → rows (tree f ks rest) (tree g ls more) ≡ ordering_then (tree_cmp_by labels (one f ks) (one g ls)) (rows rest more)
  split f g ks ls rest more =
      then_split (nat_cmp (sizes (relabel (text_at labels) ks)) (sizes (relabel (text_at labels) ls))) (slice_cmp nat_cmp (text_at labels f) (text_at labels g))
      (nat_cmp (count (relabel (text_at labels) ks)) (count (relabel (text_at labels) ls))) (rows ks ls) (rows rest more)

  decided :
      (ks ls : List ℕ) (i : ℕ) (ts us : Trees ℕ) → AreNamed shapes ks ts → AreNamed shapes ls us → LabelsBelow (length labels) ts → LabelsBelow (length labels) us → IsFirstOther ks ls i →
      IsDecided shapes labels ks ls i ts us
  decided [] ls i ts us a b la lb o = absurd (omega (arith, o.below))
  decided (k ∷ ks) [] i ts us a b la lb o = absurd (omega (arith, o.long))
  decided (k ∷ ks) (l ∷ ls) i none us a b la lb o = absurd a
  decided (k ∷ ks) (l ∷ ls) i (tree f is rest) none a b la lb o = absurd b
  decided (k ∷ ks) (l ∷ ls) zero (tree f is rest) (tree g js more) a b la lb o =
      let differ : tree_cmp_by labels (one f is) (one g js) ≡ Equal → ⊥ =
      λ e.
      let texts : relabel (text_at labels) (tree f is none) ≡ relabel (text_at labels) (tree g js none) = trees_same (slice_cmp nat_cmp) (slice_cmp-IsAntisymmetric nat_cmp-IsAntisymmetric) _ _ e in
      let same : tree f is none ≡ tree g js none = relabel-same labels t (tree f is none) (tree g js none) (la.0, la.1, tt) (lb.0, lb.1, tt) texts in
      let numbers : ◌≡◌ {A = List ℕ} (k ∷ []) (l ∷ []) = one_number shapes d (k ∷ []) (l ∷ []) (tree g js none) (subst (AreNamed shapes (k ∷ [])) same (a.0, tt)) (b.0, tt) in
      o.other (cc numbers)
      in
      record {
        left = one f is;
        right = one g js;
        are_left = (a.0, tt);
        are_right = (b.0, tt);
        same = split f g is js rest more ∙ then_decided (tree_cmp_by labels (one f is) (one g js)) (rows rest more) differ;
      }
  decided (k ∷ ks) (l ∷ ls) (suc i) (tree f is rest) (tree g js more) a b la lb o =
      let first : k ≡ l = o.equal 0 (omega arith) in
      let same : tree f is none ≡ tree g js none = one_tree shapes (k ∷ []) (tree f is none) (tree g js none) (a.0, tt) (subst (λ n. AreNamed shapes (n ∷ []) (tree g js none)) (sym first) (b.0, tt)) in
      let level : tree_cmp_by labels (one f is) (one g js) ≡ Equal =
      ap (λ xs. rows (tree f is none) xs) (sym same) ∙ tied_itself (trees_total nat_list_cmp_total) (relabel (text_at labels) (tree f is none))
      in
      let r = decided ks ls i rest more a.1 b.1 la.2 lb.2 (record { long = omega (arith, o.long); below = omega (arith, o.below); equal = λ j h. o.equal (suc j) (omega arith); other = o.other }) in
      record {
        left = r.left;
        right = r.right;
        are_left = r.are_left;
        are_right = r.are_right;
        same = split f g is js rest more ∙ ap (λ o. ordering_then o (rows rest more)) level ∙ r.same;
      }

pub named : NumbersNameTrees
named = record {
  one_tree = one_tree;
  one_number = one_number;
  grown = grown;
  decided = λ shapes labels d t ks ls i ts us a b la lb o. decided shapes labels d t ks ls i ts us a b la lb o;
}
