-- The order of candidates by what they stand for, step by step.
use Rattle.std.specs.Prelude.{◌≡◌, ℕ, ◌+◌, ◌<◌, List, [], ◌∷◌, length, drop, not, true, false, refl}
use Rattle.std.specs.Bool.{◌==◌}
use Rattle.std.specs.declared.cmp.Ordering.{Ordering}
use Rattle.std.specs.declared.cmp.Ordering.TheVariants.{Less, Equal, Greater}
use Rattle.std.specs.Ordering.{nat_cmp, ordering_then, ordering_index, ordering_reverse}
use Rattle.std.specs.Cmp.Lexicographic.{slice_cmp}
use Rattle.std.specs.FinMap.{nat_cmp-IsAntisymmetric}
use Rattle.std.proofs.lemmas.Cmp.{nat_cmp_total, tied_itself}
use Rattle.std.proofs.Common.{suc, arith, ap, sym, ◌∙◌, inl, inr, get_or}
use Rattle.tib_lex.proofs.Numbers.{nat_three}
use Rattle.tib_tree.specs.Trees.{Tree, Trees, none, tree, count, sizes, size, relabel}
use Rattle.tib_tree.specs.Growth.{text_at}
use Rattle.tib_tree.proofs.Counts.{count-relabel, sizes-relabel}
use Rattle.tib_tree.specs.Order.{tree_cmp_by}
use Rattle.tib_grammar.specs.Run.{rule_at}
use Rattle.tib_grammar.specs.Sides.{Symbol, label, hole}
use Rattle.tib_grammar.specs.declared.Rule.{Rule}
use Rattle.tib_grammar_file.specs.Printed.{LabelsBelow}
use Rattle.tib_ranked_trees.specs.Levels.{root_of, states_of, trees_of}
use Rattle.tib_ranked_trees.specs.Pass.{Entries, AreRanks, picked, entry_at}
use Rattle.tib_tree.proofs.Orderings.{nat_less, then_assoc}
use Rattle.tib_ranked_trees.specs.ListsOf.{ListsOf}
use Rattle.tib_ranked_trees.specs.Held.{IsSound}
use Rattle.tib_ranked_trees.specs.Ordered.{roots_cmp, kids_cmp}
use Rattle.tib_ranked_trees.proofs.Offering.{picked_at}
use Rattle.tib_ranked_trees.proofs.Children.{rule_read, many_holes}

pub is_equal : (r : Ordering) → false ≡ not (ordering_index r == 1) → r ≡ Equal
is_equal Less e = absurd (cc)
is_equal Equal e = refl
is_equal Greater e = absurd (cc)

pub not_equal : (r : Ordering) → true ≡ not (ordering_index r == 1) → r ≡ Equal → ⊥
not_equal Less e k = cc
not_equal Equal e k = cc
not_equal Greater e k = cc

pub then_stop : (a b : Ordering) → (a ≡ Equal → ⊥) → ordering_then a b ≡ a
then_stop Less b n = refl
then_stop Equal b n = absurd (n refl)
then_stop Greater b n = refl

pub then_skip : (a b : Ordering) → a ≡ Equal → ordering_then a b ≡ b
then_skip a b e = rw e

then_both : (a b : Ordering) → ordering_then a b ≡ Equal → (a ≡ Equal) × (b ≡ Equal)
then_both Less b e = absurd (cc)
then_both Equal b e = (refl, e)
then_both Greater b e = absurd (cc)

nat_suc : (a b : ℕ) → nat_cmp (suc a) (suc b) ≡ nat_cmp a b
nat_suc a b = elim (nat_three a b) [
  | inl h ↦ nat_less (suc a) (suc b) (omega arith) ∙ sym (nat_less a b h)
  | inr o ↦ elim o [
    | inl e ↦ ap (λ (c : ℕ). nat_cmp (suc c) (suc b)) e ∙ tied_itself nat_cmp_total (suc b) ∙ sym (ap (λ (c : ℕ). nat_cmp c b) e ∙ tied_itself nat_cmp_total b)
    | inr h ↦
        nat_cmp_total.antisymm (suc a) (suc b) ∙ ap ordering_reverse (nat_less (suc b) (suc a) (omega arith) ∙ sym (nat_less b a h)) ∙ sym (nat_cmp_total.antisymm a b)
  ]
]

-- a tree's order is that of the roots, and then that of the children
pub tree_is : (labels : List (List ℕ)) (s t : Tree ℕ) → tree_cmp_by labels s t ≡ ordering_then (roots_cmp labels s t) (kids_cmp labels s.kids t.kids)
tree_is labels s t =
    let sizes_are : nat_cmp (sizes (relabel (text_at labels) s.kids)) (sizes (relabel (text_at labels) t.kids)) ≡ nat_cmp (size s) (size t) =
    ap (λ (n : ℕ). nat_cmp n (sizes (relabel (text_at labels) t.kids))) (sizes-relabel (text_at labels) s.kids)
    ∙ ap (λ (n : ℕ). nat_cmp (sizes s.kids) n) (sizes-relabel (text_at labels) t.kids) ∙ sym (nat_suc (sizes s.kids) (sizes t.kids))
    in
    let counts_are : nat_cmp (count (relabel (text_at labels) s.kids)) (count (relabel (text_at labels) t.kids)) ≡ nat_cmp (count s.kids) (count t.kids) =
    ap (λ (n : ℕ). nat_cmp n (count (relabel (text_at labels) t.kids))) (count-relabel (text_at labels) s.kids)
    ∙ ap (λ (n : ℕ). nat_cmp (count s.kids) n) (count-relabel (text_at labels) t.kids)
    in
    by _ _ _ _ _ _ sizes_are counts_are
  where
    last : (d : Ordering) → ordering_then d Equal ≡ d
    last Less = refl
    last Equal = refl
    last Greater = refl

    by :
        (a b c d a' c' : Ordering) → a ≡ a' → c ≡ c' → ordering_then a (ordering_then b (ordering_then c (ordering_then d Equal))) ≡ ordering_then (ordering_then a' (ordering_then b c')) d
    by a b c d a' c' e f =
        ap (λ (o : Ordering). ordering_then o (ordering_then b (ordering_then c (ordering_then d Equal)))) e
        ∙ ap (λ (o : Ordering). ordering_then a' (ordering_then b (ordering_then o (ordering_then d Equal)))) f
        ∙ ap (λ (o : Ordering). ordering_then a' (ordering_then b (ordering_then c' o))) (last d)
        ∙ sym (then_assoc a' (ordering_then b c') d ∙ ap (ordering_then a') (then_assoc b c' d))

-- of trees side by side the first decides first
trees_step :
    (labels : List (List ℕ)) (s t : Tree ℕ) (rest more : Trees ℕ) →
    kids_cmp labels (tree s.label s.kids rest) (tree t.label t.kids more) ≡ ordering_then (tree_cmp_by labels s t) (kids_cmp labels rest more)
trees_step labels s t rest more =
    by (nat_cmp (sizes (relabel (text_at labels) s.kids)) (sizes (relabel (text_at labels) t.kids))) (slice_cmp nat_cmp (text_at labels s.label) (text_at labels t.label))
    (nat_cmp (count (relabel (text_at labels) s.kids)) (count (relabel (text_at labels) t.kids))) (kids_cmp labels s.kids t.kids) (kids_cmp labels rest more)
  where
    by :
        (a b c d e : Ordering) → ordering_then a (ordering_then b (ordering_then c (ordering_then d e)))
        ≡ ordering_then (ordering_then a (ordering_then b (ordering_then c (ordering_then d Equal)))) e
    by a b c d e =
        sym (then_assoc a (ordering_then b (ordering_then c (ordering_then d Equal))) e
        ∙ ap (ordering_then a) (then_assoc b (ordering_then c (ordering_then d Equal)) e ∙ ap (ordering_then b) (then_assoc c (ordering_then d Equal) e ∙ ap (ordering_then c) (then_assoc d Equal e))))

pub children_step :
    (labels : List (List ℕ)) (entries : Entries) (qs js ps is : List ℕ) (i : ℕ) → AreRanks entries qs js → AreRanks entries ps is → i < length qs → i < length ps → (s t : Tree ℕ) →
    s ≡ (entry_at entries (get_or qs i 0) (get_or js i 0)).0 → t ≡ (entry_at entries (get_or ps i 0) (get_or is i 0)).0 →
    kids_cmp labels (trees_of (picked entries (drop i qs) (drop i js))) (trees_of (picked entries (drop i ps) (drop i is)))
    ≡ ordering_then (tree_cmp_by labels s t) (kids_cmp labels (trees_of (picked entries (drop (i + 1) qs) (drop (i + 1) js))) (trees_of (picked entries (drop (i + 1) ps) (drop (i + 1) is))))
children_step labels entries qs js ps is i r v h k s t e f =
    let a : Tree ℕ × ℕ = entry_at entries (get_or qs i 0) (get_or js i 0) in
    let b : Tree ℕ × ℕ = entry_at entries (get_or ps i 0) (get_or is i 0) in
    let one : suc i ≡ i + 1 = omega arith in
    ap (λ zs. kids_cmp labels (trees_of zs) (trees_of (picked entries (drop i ps) (drop i is)))) (picked_at entries qs js i r h)
    ∙ ap (λ zs. kids_cmp labels (trees_of (a ∷ picked entries (drop (suc i) qs) (drop (suc i) js))) (trees_of zs)) (picked_at entries ps is i v k)
    ∙ trees_step labels a.0 b.0 (trees_of (picked entries (drop (suc i) qs) (drop (suc i) js))) (trees_of (picked entries (drop (suc i) ps) (drop (suc i) is)))
    ∙ ap (λ (n : ℕ). ordering_then (tree_cmp_by labels a.0 b.0) (kids_cmp labels (trees_of (picked entries (drop n qs) (drop n js))) (trees_of (picked entries (drop n ps) (drop n is))))) one
    ∙ ap (λ (u : Tree ℕ). ordering_then (tree_cmp_by labels u b.0) (kids_cmp labels (trees_of (picked entries (drop (i + 1) qs) (drop (i + 1) js))) (trees_of (picked entries (drop (i + 1) ps) (drop (i + 1) is))))) (sym e)
    ∙ ap (λ (u : Tree ℕ). ordering_then (tree_cmp_by labels s u) (kids_cmp labels (trees_of (picked entries (drop (i + 1) qs) (drop (i + 1) js))) (trees_of (picked entries (drop (i + 1) ps) (drop (i + 1) is))))) (sym f)

-- the root of a candidate's tree

pub below_label : (n : ℕ) (s : Symbol ℕ ℕ) (kids : Trees (Symbol ℕ ℕ)) (f : ℕ) → LabelsBelow n (tree s kids none) → s ≡ label f → f < n
below_label n (label g) kids f b e = let k : g ≡ f = ap root_of e in omega (arith, b.0, k)
below_label n (hole q) kids f b e = absurd (cc)

pub many_kids : (entries : Entries) (qs js : List ℕ) → AreRanks entries qs js → count (trees_of (picked entries qs js)) ≡ length qs
many_kids entries [] [] r = refl
many_kids entries [] (j ∷ js) r = absurd r
many_kids entries (q ∷ qs) [] r = absurd r
many_kids entries (q ∷ qs) (j ∷ js) r = ap suc (many_kids entries qs js r.1)

pub record IsRoot (x : ListsOf) (n f m : ℕ) : Type 0 where
  pub label : f ≡ root_of (rule_at x.rules n).right.label
  pub below : f < length x.labels
  pub many : m ≡ length (states_of (rule_at x.rules n))

pub read_root :
    (x : ListsOf) → IsSound x → (n : ℕ) → n < length x.rules → (rules : List (Rule ℕ)) → rules ≡ x.rules → (d : Rule ℕ) (f m : ℕ) → (get_or rules n d).right.label ≡ label f →
    m ≡ count (get_or rules n d).right.kids → IsRoot x n f m
read_root x s n h rules e d f m l c =
    let r = rule_read x rules n d e h in
    let at : (rule_at x.rules n).right.label ≡ label f = ap (λ (a : Rule ℕ). a.right.label) (sym r) ∙ l in
    record {
      label = ap root_of (sym at);
      below = below_label (length x.labels) (rule_at x.rules n).right.label (rule_at x.rules n).right.kids f (s.rules_labelled n h) at;
      many = c ∙ ap (λ (a : Rule ℕ). count a.right.kids) r ∙ sym (many_holes (rule_at x.rules n).right.kids (s.normal n h).are_holes);
    }

module _ (x : ListsOf) (sound : IsSound x) (s t : Tree ℕ) where
  pub roots_by_size : (o : Ordering) (m n : ℕ) → o ≡ nat_cmp m n → m ≡ size s → n ≡ size t → (o ≡ Equal → ⊥) → o ≡ roots_cmp x.labels s t
  roots_by_size o m n e f g h =
      let a : o ≡ nat_cmp (size s) (size t) = e ∙ ap (λ (k : ℕ). nat_cmp k n) f ∙ ap (λ (k : ℕ). nat_cmp (size s) k) g in
      sym (then_stop o (ordering_then (slice_cmp nat_cmp (text_at x.labels s.label) (text_at x.labels t.label)) (nat_cmp (count s.kids) (count t.kids))) h)
      ∙ ap (λ (k : Ordering). ordering_then k (ordering_then (slice_cmp nat_cmp (text_at x.labels s.label) (text_at x.labels t.label)) (nat_cmp (count s.kids) (count t.kids)))) a

  module _ (o : Ordering) (m n : ℕ) (e : o ≡ nat_cmp m n) (f : m ≡ size s) (g : n ≡ size t) (h : o ≡ Equal) (l k : ℕ) (left : l ≡ s.label) (right : k ≡ t.label) (lb : l < length x.labels) (kb : k < length x.labels)
      (ranks : List ℕ) (are : ranks ≡ x.label_ranks) (p : Ordering) (is : p ≡ nat_cmp (get_or ranks l 0) (get_or ranks k 0)) where
    texts : p ≡ slice_cmp nat_cmp (text_at x.labels s.label) (text_at x.labels t.label)
    texts =
        is ∙ ap (λ (rs : List ℕ). nat_cmp (get_or rs l 0) (get_or rs k 0)) are ∙ sound.ranked.order l k lb kb
        ∙ ap (λ (c : ℕ). slice_cmp nat_cmp (text_at x.labels c) (text_at x.labels k)) left ∙ ap (λ (c : ℕ). slice_cmp nat_cmp (text_at x.labels s.label) (text_at x.labels c)) right

    start : (rest : Ordering) → ordering_then (nat_cmp (size s) (size t)) (ordering_then (slice_cmp nat_cmp (text_at x.labels s.label) (text_at x.labels t.label)) rest) ≡ ordering_then p rest
    start rest =
        let a : nat_cmp (size s) (size t) ≡ Equal = ap (λ (c : ℕ). nat_cmp c (size t)) (sym f) ∙ ap (λ (c : ℕ). nat_cmp m c) (sym g) ∙ sym e ∙ h in
        then_skip (nat_cmp (size s) (size t)) (ordering_then (slice_cmp nat_cmp (text_at x.labels s.label) (text_at x.labels t.label)) rest) a ∙ ap (λ (c : Ordering). ordering_then c rest) (sym texts)

    pub roots_by_label : (p ≡ Equal → ⊥) → p ≡ roots_cmp x.labels s t
    roots_by_label b = sym (start (nat_cmp (count s.kids) (count t.kids)) ∙ then_stop p (nat_cmp (count s.kids) (count t.kids)) b)

    pub roots_by_count : p ≡ Equal → (q : Ordering) (c d : ℕ) → q ≡ nat_cmp c d → c ≡ count s.kids → d ≡ count t.kids → q ≡ roots_cmp x.labels s t
    roots_by_count b q c d i v w =
        let a : q ≡ nat_cmp (count s.kids) (count t.kids) = i ∙ ap (λ (z : ℕ). nat_cmp z d) v ∙ ap (λ (z : ℕ). nat_cmp (count s.kids) z) w in
        a ∙ sym (start (nat_cmp (count s.kids) (count t.kids)) ∙ then_skip p (nat_cmp (count s.kids) (count t.kids)) b)

-- equal roots have equally many children
pub same_count : (labels : List (List ℕ)) (s t : Tree ℕ) → roots_cmp labels s t ≡ Equal → count s.kids ≡ count t.kids
same_count labels s t e =
    let a = then_both (nat_cmp (size s) (size t)) (ordering_then (slice_cmp nat_cmp (text_at labels s.label) (text_at labels t.label)) (nat_cmp (count s.kids) (count t.kids))) e in
    let b = then_both (slice_cmp nat_cmp (text_at labels s.label) (text_at labels t.label)) (nat_cmp (count s.kids) (count t.kids)) a.1 in
    nat_cmp-IsAntisymmetric (count s.kids) (count t.kids) b.1
