-- The order of trees is total.
use Rattle.std.specs.Prelude.{◌≡◌, ℕ, List, refl}
use Rattle.std.specs.Cmp.{IsTotalOrder}
use Rattle.std.specs.declared.cmp.Ordering.{Ordering}
use Rattle.std.specs.declared.cmp.Ordering.TheVariants.{Less, Equal, Greater}
use Rattle.std.specs.Ordering.{nat_cmp, ordering_then, ordering_reverse}
use Rattle.std.specs.Cmp.Lexicographic.{slice_cmp}
use Rattle.std.specs.FinMap.{slice_cmp-IsAntisymmetric, nat_cmp-IsAntisymmetric}
use Rattle.std.proofs.lemmas.Cmp.{nat_cmp_total, nat_list_cmp_total, alike_right}
use Rattle.std.proofs.Common.{ap, sym, ◌∙◌}
use Rattle.tib_tree.specs.Trees.{Tree, Trees, none, tree, count, sizes, only}
use Rattle.tib_tree.specs.Order.{trees_cmp, tree_cmp, AreOrdered}
use Rattle.tib_tree.proofs.Orderings.{then_Equal}

-- the laws of an order at three values, by what it gives for the first two, the last two, and the
-- outer two
record AreChained (a b c : Ordering) : Type 0 where
  less : a ≡ Less → b ≡ Less → c ≡ Less
  left : a ≡ Equal → c ≡ b
  right : b ≡ Equal → c ≡ a

chained : {K : Type 0} {R : K → K → Ordering} → IsTotalOrder R → (x y z : K) → AreChained (R x y) (R y z) (R x z)
chained o x y z = record {
  less = o.trans x y z;
  left = λ e. o.congr x y z e;
  right = λ e. sym (alike_right o y z x e);
}

-- two orders, the one after the other
then_chained : (a b c a' b' c' : Ordering) → AreChained a b c → AreChained a' b' c' → AreChained (ordering_then a a') (ordering_then b b') (ordering_then c c')
then_chained a b c a' b' c' h k = by a b c refl refl refl h
  where
    by :
        (x y z : Ordering) → x ≡ a → y ≡ b → z ≡ c → AreChained x y z → AreChained (ordering_then x a') (ordering_then y b') (ordering_then z c')
    by Equal Equal z i j l m = let e : z ≡ Equal = m.left refl in rw e k
    by Equal Less z i j l m =
        let e : z ≡ Less = m.left refl in
        record { less = λ p q. ap (λ o. ordering_then o c') e; left = λ p. ap (λ o. ordering_then o c') e; right = λ p. absurd (cc) }
    by Equal Greater z i j l m =
        let e : z ≡ Greater = m.left refl in
        record { less = λ p q. absurd (cc); left = λ p. ap (λ o. ordering_then o c') e; right = λ p. absurd (cc) }
    by Less Equal z i j l m =
        let e : z ≡ Less = m.right refl in
        record { less = λ p q. ap (λ o. ordering_then o c') e; left = λ p. absurd (cc); right = λ p. ap (λ o. ordering_then o c') e }
    by Less Less z i j l m =
        let e : z ≡ Less = m.less refl refl in
        record { less = λ p q. ap (λ o. ordering_then o c') e; left = λ p. absurd (cc); right = λ p. absurd (cc) }
    by Less Greater z i j l m = record { less = λ p q. absurd (cc); left = λ p. absurd (cc); right = λ p. absurd (cc) }
    by Greater Equal z i j l m =
        let e : z ≡ Greater = m.right refl in
        record { less = λ p q. absurd (cc); left = λ p. absurd (cc); right = λ p. ap (λ o. ordering_then o c') e }
    by Greater Less z i j l m = record { less = λ p q. absurd (cc); left = λ p. absurd (cc); right = λ p. absurd (cc) }
    by Greater Greater z i j l m = record { less = λ p q. absurd (cc); left = λ p. absurd (cc); right = λ p. absurd (cc) }

pub then_reverse : (a b c d : Ordering) → a ≡ ordering_reverse b → c ≡ ordering_reverse d → ordering_then a c ≡ ordering_reverse (ordering_then b d)
then_reverse a Less c d e k = rw e
then_reverse a Equal c d e k = rw (e, k)
then_reverse a Greater c d e k = rw e

module _ {A : Type 0} {cmp : A → A → Ordering} (o : IsTotalOrder cmp) where
  trees_chained : (ts us vs : Trees A) → AreChained (trees_cmp cmp ts us) (trees_cmp cmp us vs) (trees_cmp cmp ts vs)
  trees_chained none none none = record { less = λ p q. p; left = λ p. refl; right = λ p. refl }
  trees_chained none none (tree h ms still) = record { less = λ p q. q; left = λ p. refl; right = λ p. absurd (cc) }
  trees_chained none (tree g ls more) none = record { less = λ p q. absurd (cc); left = λ p. absurd (cc); right = λ p. absurd (cc) }
  trees_chained none (tree g ls more) (tree h ms still) = record { less = λ p q. p; left = λ p. absurd (cc); right = λ p. refl }
  trees_chained (tree f ks rest) none none = record { less = λ p q. absurd (cc); left = λ p. absurd (cc); right = λ p. refl }
  trees_chained (tree f ks rest) none (tree h ms still) = record { less = λ p q. absurd (cc); left = λ p. absurd (cc); right = λ p. absurd (cc) }
  trees_chained (tree f ks rest) (tree g ls more) none = record { less = λ p q. absurd (cc); left = λ p. refl; right = λ p. absurd (cc) }
  trees_chained (tree f ks rest) (tree g ls more) (tree h ms still) =
      then_chained _ _ _ _ _ _ (chained nat_cmp_total (sizes ks) (sizes ls) (sizes ms))
      (then_chained _ _ _ _ _ _ (chained o f g h)
      (then_chained _ _ _ _ _ _ (chained nat_cmp_total (count ks) (count ls) (count ms))
      (then_chained _ _ _ _ _ _ (trees_chained ks ls ms) (trees_chained rest more still))))

  trees_turn : (ts us : Trees A) → trees_cmp cmp ts us ≡ ordering_reverse (trees_cmp cmp us ts)
  trees_turn none none = refl
  trees_turn none (tree g ls more) = refl
  trees_turn (tree f ks rest) none = refl
  trees_turn (tree f ks rest) (tree g ls more) =
      then_reverse _ _ _ _ (nat_cmp_total.antisymm (sizes ks) (sizes ls))
      (then_reverse _ _ _ _ (o.antisymm f g)
      (then_reverse _ _ _ _ (nat_cmp_total.antisymm (count ks) (count ls))
      (then_reverse _ _ _ _ (trees_turn ks ls) (trees_turn rest more))))

  -- lists of trees are in a total order
  pub trees_total : IsTotalOrder (trees_cmp cmp)
  trees_total = record {
    antisymm = trees_turn;
    trans = λ ts us vs. (trees_chained ts us vs).less;
    congr = λ ts us vs e. (trees_chained ts us vs).left e;
  }

-- only a list of trees itself is equal to it
pub trees_same : {A : Type 0} (cmp : A → A → Ordering) → ((f g : A) → cmp f g ≡ Equal → f ≡ g) → (ts us : Trees A) → trees_cmp cmp ts us ≡ Equal → ts ≡ us
trees_same cmp exact none none e = refl
trees_same cmp exact none (tree g ls more) e = absurd (cc)
trees_same cmp exact (tree f ks rest) none e = absurd (cc)
trees_same cmp exact (tree f ks rest) (tree g ls more) e =
    let a = then_Equal _ _ e in
    let b = then_Equal _ _ a.1 in
    let c = then_Equal _ _ b.1 in
    let d = then_Equal _ _ c.1 in
    ap (λ x. tree x ks rest) (exact f g b.0)
    ∙ ap (λ x. tree g x rest) (trees_same cmp exact ks ls d.0)
    ∙ ap (λ x. tree g ls x) (trees_same cmp exact rest more d.1)

pub only_same : {A : Type 0} (s t : Tree A) → only s ≡ only t → s ≡ t
only_same s t e =
    let f : s.label ≡ t.label = cc in
    let k : s.kids ≡ t.kids = cc in
    ap (λ l. record { label = l; kids = s.kids }) f ∙ ap (λ ks. record { label = t.label; kids = ks }) k

pub tree_total : IsTotalOrder tree_cmp
tree_total =
    let o = trees_total nat_list_cmp_total in
    record {
      antisymm = λ s t. o.antisymm (only s) (only t);
      trans = λ s t u. o.trans (only s) (only t) (only u);
      congr = λ s t u. o.congr (only s) (only t) (only u);
    }

pub tree_exact : (s t : Tree (List ℕ)) → tree_cmp s t ≡ Equal → s ≡ t
tree_exact s t e = only_same s t (trees_same (slice_cmp nat_cmp) (slice_cmp-IsAntisymmetric nat_cmp-IsAntisymmetric) (only s) (only t) e)

pub ordered : AreOrdered
ordered = record { total = tree_total; exact = tree_exact }
