-- The first tree of each state, in the order of Knuth by cost and size.
use Rattle.std.specs.Prelude.{◌≡◌, ℕ, ◌<◌, ◌≤◌, ◌⊎◌, Bool, List, [], ◌∷◌, length, refl}
use Rattle.std.proofs.Common.{zero, suc, arith, ap, sym, ◌∙◌, subst, inl, inr, le_refl}
use Rattle.tib_lex.specs.Lists.{Has, Along}
use Rattle.tib_tree.specs.Trees.{Tree, size, sizes, relabel}
use Rattle.tib_tree.specs.Growth.{text_at}
use Rattle.tib_cost.specs.Semiring.{most, ProductLaws}
use Rattle.tib_grammar.specs.Forms.{AreNormal}
use Rattle.tib_grammar.specs.Run.{rule_at}
use Rattle.tib_grammar.specs.declared.Rule.{Rule}
use Rattle.tib_lex.proofs.Members.{each_has, at_has, has_at}
use Rattle.tib_ranked_trees.specs.First.{NoLater, IsFront, IsNext}
use Rattle.tib_ranked_trees.specs.Best.{Cheaper, IsTreeAt, NotAfter}
use Rattle.tib_ranked_trees.specs.Levels.{IsOrderly, trees_of, made, states_of}
use Rattle.tib_ranked_trees.specs.Pass.{Entries, no_entry, entry_at, picked, AreRanks, zeros}
use Rattle.tib_ranked_trees.specs.Firsts.{IsReady, first_offer, NoLarger, FirstsAreBest}
use Rattle.tib_ranked_trees.proofs.Fronts.{no_later_trans}
use Rattle.tib_ranked_trees.proofs.Ranks.{cheaper_strict}
use Rattle.tib_ranked_trees.proofs.Opening.{opened, closed, orderly, AreOrderly}
use Rattle.tib_tree.proofs.Orderings.{nat_less}
use Rattle.tib_ranked_trees.proofs.FrontsGrowing.{grows_along, size-trees_of, cost-total, no_smaller}
use Rattle.tib_ranked_trees.proofs.Telling.{has_or}
use Rattle.tib_ranked_trees.proofs.Walking.{along_picked, no_later_cost, no_later_at}
use Rattle.tib_cost.proofs.Least.{at_least_right}
use Rattle.tib_tree.proofs.Counts.{sizes-relabel}

-- a is smaller: it costs less, or as much and has fewer nodes
abbrev IsSmaller : Tree ℕ × ℕ → Tree ℕ × ℕ → Type 0
IsSmaller a b = (a.1 < b.1) ⊎ ((a.1 ≡ b.1) × (size a.0 < size b.0))

larger_smaller : (a b c : Tree ℕ × ℕ) → NoLarger a b → IsSmaller b c → IsSmaller a c
larger_smaller a b c (inl h) (inl k) = inl (omega arith)
larger_smaller a b c (inl h) (inr k) = inl (omega (arith, k.0))
larger_smaller a b c (inr h) (inl k) = inl (omega (arith, h.0))
larger_smaller a b c (inr h) (inr k) = inr (h.0 ∙ k.0, omega (arith, h.1, k.1))

smaller_larger : (a b : Tree ℕ × ℕ) → IsSmaller a b → NoLarger a b
smaller_larger a b (inl h) = inl h
smaller_larger a b (inr h) = inr (h.0, omega (arith, h.1))

module _ (labels : List (List ℕ)) where
  -- what is smaller comes earlier, and what comes no later is no larger
  smaller_before : (a b : Tree ℕ × ℕ) → IsSmaller a b → Cheaper labels a b
  smaller_before a b (inl h) = inl h
  smaller_before a b (inr h) =
      let k : sizes (relabel (text_at labels) a.0.kids) < sizes (relabel (text_at labels) b.0.kids) =
      omega (arith, h.1, sizes-relabel (text_at labels) a.0.kids, sizes-relabel (text_at labels) b.0.kids)
      in
      inr (h.0, rw (nat_less (sizes (relabel (text_at labels) a.0.kids)) (sizes (relabel (text_at labels) b.0.kids)) k))

  no_later_no_larger : (a b : Tree ℕ × ℕ) → NoLater (Cheaper labels) a b → NoLarger a b
  no_later_no_larger a b (inl e) = inr (ap (λ (x : Tree ℕ × ℕ). x.1) e, let s : size a.0 ≡ size b.0 = ap (λ (x : Tree ℕ × ℕ). size x.0) e in omega arith)
  no_later_no_larger a b (inr (inl h)) = inl h
  no_later_no_larger a b (inr (inr h)) =
      let s = no_smaller (sizes (relabel (text_at labels) a.0.kids)) (sizes (relabel (text_at labels) b.0.kids)) _ h.1 in
      inr (h.0, omega (arith, s, sizes-relabel (text_at labels) a.0.kids, sizes-relabel (text_at labels) b.0.kids))

module _ {levelled weighted : Bool} {product : ℕ → ℕ → ℕ} (laws : ProductLaws levelled weighted product) (labels : List (List ℕ)) (rules : List (Rule ℕ)) (normal : AreNormal rules)
    (orderly : AreOrderly laws rules normal) (entries : Entries) (fronts : (q : ℕ) → IsFront (IsTreeAt product rules q) (Cheaper labels) (entries q)) where
  abbrev At : ℕ → Tree ℕ × ℕ → Type 0
  At q a = IsTreeAt product rules q a

  -- a child whose state has no tree yet
  record IsOpen (zs : List (Tree ℕ × ℕ)) : Type 0 where
    state : ℕ
    child : Tree ℕ × ℕ
    at : At state child
    stands : Has zs child
    free : entries state ≡ []

  empty_or : (xs : List (Tree ℕ × ℕ)) → (xs ≡ []) ⊎ (0 < length xs)
  empty_or [] = inl refl
  empty_or (x ∷ xs) = inr (omega arith)

  look : (qs : List ℕ) (zs : List (Tree ℕ × ℕ)) → Along (IsTreeAt product rules) qs zs → IsOpen zs ⊎ AreRanks entries qs (zeros qs)
  look [] [] a = inr tt
  look [] (z ∷ zs) a = absurd a
  look (q ∷ qs) [] a = absurd a
  look (q ∷ qs) (z ∷ zs) a = elim (look qs zs a.1) [
    | inl o ↦ inl (record { state = o.state; child = o.child; at = o.at; stands = inr o.stands; free = o.free })
    | inr all ↦ elim (empty_or (entries q)) [
      | inl e ↦ inl (record { state = q; child = z; at = a.0; stands = inl refl; free = e })
      | inr some ↦ inr (some, all)
    ]
  ]

  -- the first entries are no later than any trees
  firsts_low : (qs : List ℕ) (zs : List (Tree ℕ × ℕ)) → Along (IsTreeAt product rules) qs zs → AreRanks entries qs (zeros qs) → Along (NotAfter labels) (picked entries qs (zeros qs)) zs
  firsts_low [] [] a r = tt
  firsts_low [] (z ∷ zs) a r = absurd a
  firsts_low (q ∷ qs) [] a r = absurd a
  firsts_low (q ∷ qs) (z ∷ zs) a r = (
    elim (has_or (entries q) z) [
      | inl h ↦
          let at = at_has (entries q) z no_entry h in
          subst (NotAfter labels (entry_at entries q 0)) at.2 (no_later_at (Cheaper labels) no_entry (entries q) (fronts q).ascends 0 at.0 (omega arith) at.1)
      | inr n ↦ inr (each_has (λ x. Cheaper labels x z) (entries q) (entry_at entries q 0) ((fronts q).others z a.0 n) (has_at (entries q) 0 no_entry r.0))
    ],
    firsts_low qs zs a.1 r.1,
  )

  -- a rule that is ready makes a tree that is no later, if it is of the same state, or smaller
  record IsCovered (q : ℕ) (y : Tree ℕ × ℕ) : Type 0 where
    rule : ℕ
    ready : IsReady product rules entries rule
    low : (((rule_at rules rule).left ≡ q) × NotAfter labels (first_offer product rules entries rule) y) ⊎ IsSmaller (first_offer product rules entries rule) y

  no_larger : (q : ℕ) (y : Tree ℕ × ℕ) (c : IsCovered q y) → NoLarger (first_offer product rules entries c.rule) y
  no_larger q y c = elim c.low [ inl h ↦ no_later_no_larger labels (first_offer product rules entries c.rule) y h.1 | inr h ↦ smaller_larger (first_offer product rules entries c.rule) y h ]

  child_smaller : (r : Rule ℕ) (zs : List (Tree ℕ × ℕ)) (z : Tree ℕ × ℕ) → Has zs z → IsSmaller z (made product r zs)
  child_smaller r zs z h = by (two z.1 (made product r zs).1 le)
    where
      le : z.1 ≤ (made product r zs).1
      le = omega (arith, cost-total labels laws zs z h, at_least_right laws r.cost (Rattle.tib_ranked_trees.specs.Levels.total product zs))

      two : (x y : ℕ) → x ≤ y → (x < y) ⊎ (x ≡ y)
      two x y k = grind arith

      by : (z.1 < (made product r zs).1) ⊎ (z.1 ≡ (made product r zs).1) → IsSmaller z (made product r zs)
      by (inl k) = inl k
      by (inr e) = inr (e, let s = size-trees_of zs z h in omega arith)

  covered : (s q : ℕ) (y : Tree ℕ × ℕ) → size y.0 ≤ s → At q y → entries q ≡ [] → IsCovered q y
  covered zero q y small a free = absurd (omega arith)
  covered (suc s) q y small a free =
      let o = opened laws rules normal q y a in
      let r : Rule ℕ = rule_at rules o.rule in
      elim (look (states_of r) o.kids o.along) [
        | inl p ↦
            let inside : size p.child.0 ≤ sizes (trees_of o.kids) = size-trees_of o.kids p.child p.stands in
            let whole : sizes (trees_of o.kids) ≡ sizes y.0.kids = ap (λ (x : Tree ℕ × ℕ). sizes x.0.kids) o.is_made in
            let c = covered s p.state p.child (omega (arith, inside, whole, small)) p.at p.free in
            let up : IsSmaller p.child y = subst (IsSmaller p.child) o.is_made (child_smaller r o.kids p.child p.stands) in
            record { rule = c.rule; ready = c.ready; low = inr (larger_smaller (first_offer product rules entries c.rule) p.child y (no_larger p.state p.child c) up) }
        | inr all ↦
            let low : NotAfter labels (first_offer product rules entries o.rule) y =
            subst (NotAfter labels (first_offer product rules entries o.rule)) o.is_made
            (grows_along labels laws (IsTreeAt product rules) orderly r (states_of r) [] (picked entries (states_of r) (zeros (states_of r))) o.kids
            (along_picked product labels rules entries fronts (states_of r) (zeros (states_of r)) all) o.along (firsts_low (states_of r) o.kids o.along all))
            in
            let fits : (first_offer product rules entries o.rule).1 ≤ most = omega (arith, no_later_cost labels (first_offer product rules entries o.rule) y low, a.attained.1) in
            record {
              rule = o.rule;
              ready = record { below = o.below; open_state = subst (λ p. entries p ≡ []) (sym o.left) free; ranks = all; fits = fits };
              low = inl (o.left, low);
            }
      ]

  pub is_next :
      (n : ℕ) → IsReady product rules entries n →
      ((m : ℕ) → IsReady product rules entries m → (rule_at rules m).left ≡ (rule_at rules n).left → NoLater (Cheaper labels) (first_offer product rules entries n) (first_offer product rules entries m)) →
      ((m : ℕ) → IsReady product rules entries m → NoLarger (first_offer product rules entries n) (first_offer product rules entries m)) →
      IsNext (IsTreeAt product rules (rule_at rules n).left) (Cheaper labels) (entries (rule_at rules n).left) (first_offer product rules entries n)
  is_next n ready here elsewhere =
      let q : ℕ = (rule_at rules n).left in
      let x : Tree ℕ × ℕ = first_offer product rules entries n in
      let c = closed laws rules normal n ready.below (picked entries (states_of (rule_at rules n)) (zeros (states_of (rule_at rules n)))) (along_picked product labels rules entries fronts (states_of (rule_at rules n)) (zeros (states_of (rule_at rules n))) ready.ranks) ready.fits in
      let first : (y : Tree ℕ × ℕ) → At q y → NotAfter labels x y =
      λ y a.
      let v = covered (size y.0) q y (le_refl (size y.0)) a ready.open_state in
      elim v.low [
        | inl h ↦ no_later_trans (cheaper_strict labels) x (first_offer product rules entries v.rule) y (here v.rule v.ready h.0) h.1
        | inr h ↦ inr (smaller_before labels x y (larger_smaller x (first_offer product rules entries v.rule) y (elsewhere v.rule v.ready) h))
      ]
      in
      let up : x.1 ≤ c.cost = no_later_cost labels x (x.0, c.cost) (first (x.0, c.cost) c.is_tree) in
      let e : c.cost ≡ x.1 = omega (arith, up, c.low) in
      record {
        member = subst (λ d. At q (x.0, d)) e c.is_tree;
        new = λ h. let k : Has [] x = subst (λ xs. Has xs x) ready.open_state h in k;
        least = λ y a _. first y a;
      }

pub firsts_are_best : {levelled weighted : Bool} {product : ℕ → ℕ → ℕ} → ProductLaws levelled weighted product → FirstsAreBest product
firsts_are_best laws = record {
  next = λ labels rules entries normal o fronts n ready here elsewhere. is_next laws labels rules normal (orderly laws rules normal o) entries fronts n ready here elsewhere;
  whole = λ labels rules entries normal o fronts none q free y a.
      let c = covered laws labels rules normal (orderly laws rules normal o) entries fronts (size y.0) q y (le_refl (size y.0)) a free in none c.rule c.ready;
}
