-- The search for the least level with k trees, and the trees below its cost.
use Rattle.std.specs.Prelude.{◌≡◌, ◌⊎◌, ℕ, ◌+◌, ◌-◌, ◌<◌, ◌≤◌, Bool, true, Some, List, [], ◌∷◌, length}
use Rattle.std.specs.declared.cmp.Ordering.TheVariants.{Less}
use Rattle.std.proofs.Common.{suc, arith, ap, sym, ◌∙◌, subst, inl, inr, get_or}
use Rattle.tib_lex.specs.Lists.{Has, Each, Ascends}
use Rattle.tib_lex.proofs.Members.{each_has, each_of, at_has}
use Rattle.tib_cost.specs.Semiring.{most, ProductLaws}
use Rattle.tib_cost.proofs.Least.{IsLeast-unique}
use Rattle.tib_tree.specs.Trees.{Tree}
use Rattle.tib_grammar.specs.Forms.{AreNormal}
use Rattle.tib_grammar.specs.declared.Rule.{Rule}
use Rattle.tib_tree.specs.Order.{tree_cmp_by}
use Rattle.tib_ranked_trees.specs.Best.{Cheaper, Costed, IsKBest, IsTreeAt}
use Rattle.tib_ranked_trees.specs.Levels.{level, IsLevel}
use Rattle.tib_ranked_trees.specs.Leveling.{LevelsListBest}
use Rattle.tib_ranked_trees.specs.Pass.{HasTree}
use Rattle.tib_ranked_trees.proofs.Fronts.{not_itself}
use Rattle.tib_ranked_trees.proofs.Ranks.{cheaper_strict}
use Rattle.tib_ranked_trees.proofs.Leveling.{levels_list_best}
use Rattle.tib_ranked_trees.proofs.Telling.{has_or, AreApart, no_fewer}
use Rattle.tib_ranked_trees.proofs.Children.{get_or-default}
use Rattle.tib_k_best.specs.Causes.{IsLevelCause, IsUsefulCause}
use Rattle.tib_k_best.specs.Costs.{AreCosts}
use Rattle.tib_k_best.specs.declared.error.KBestError.{KBestError}
use Rattle.tib_k_best.specs.declared.error.KBestError.TheVariants.{TreeTooLarge, OutOfMemory}
use Rattle.tib_k_best.specs.Splits.{AreUnder, IsFull, IsSearched, IsShort, IsSplit, IsSplitAt}

below_or : (a b : ℕ) → (a < b) ⊎ (b ≤ a)
below_or a b = grind arith

zero_or : (n : ℕ) → (n ≡ 0) ⊎ (0 < n)
zero_or n = grind arith

less_or : (a b : ℕ) → a ≤ b → (a < b) ⊎ (a ≡ b)
less_or a b h = grind arith

-- a tree has one cost
pub one_cost : (product : ℕ → ℕ → ℕ) (rules : List (Rule ℕ)) (t : Tree ℕ) (d e : ℕ) → IsTreeAt product rules 0 (t, d) → IsTreeAt product rules 0 (t, e) → d ≡ e
one_cost product rules t d e a b = let same : Some d ≡ Some e = IsLeast-unique a b in cc

-- trees at no cost, in order
in_order :
    (labels : List (List ℕ)) (ys : List Costed) → Each (λ y. y.1 ≡ 0) ys → Ascends (Cheaper labels) ys → Ascends (λ a b. tree_cmp_by labels a.0 b.0 ≡ Less) ys
in_order labels [] f a = tt
in_order labels (y ∷ ys) f a = (
  each_of (λ z. tree_cmp_by labels y.0 z.0 ≡ Less) ys (λ z h. by z (each_has (λ x. x.1 ≡ 0) ys z f.1 h) (each_has (Cheaper labels y) ys z a.0 h)),
  in_order labels ys f.1 a.1,
)
  where
    by : (z : Costed) → z.1 ≡ 0 → Cheaper labels y z → tree_cmp_by labels y.0 z.0 ≡ Less
    by z e (inl h) = absurd (omega (arith, h, e, f.0))
    by z e (inr h) = h.1

module _ {levelled weighted : Bool} {product : ℕ → ℕ → ℕ} (laws : ProductLaws levelled weighted product) (greater : levelled ≡ true) (labels : List (List ℕ)) (rules : List (Rule ℕ)) (normal : AreNormal rules) where
  abbrev pub levels : LevelsListBest product
  levels = levels_list_best laws greater

  -- a tree of a level costs nothing there
  level_free : (c : ℕ) → c ≤ most → (y : Costed) → IsTreeAt product (level c rules) 0 y → y.1 ≡ 0
  level_free c within y t =
      let f = levels.from_level rules normal c 0 within y t in
      one_cost product (level c rules) y.0 y.1 0 t (levels.to_level rules normal c 0 (y.0, f.0) f.1 f.2)

  all_free : (c : ℕ) → c ≤ most → (ys : List Costed) → Each (IsTreeAt product (level c rules) 0) ys → Each (λ y. y.1 ≡ 0) ys
  all_free c within ys m = each_of (λ y. y.1 ≡ 0) ys (λ y h. level_free c within y (each_has (IsTreeAt product (level c rules) 0) ys y m h))

  -- the trees of a level's list are different
  pub apart : (c : ℕ) → c ≤ most → (ys : List Costed) → Each (IsTreeAt product (level c rules) 0) ys → Ascends (Cheaper labels) ys → AreApart (λ (y : Costed). y.0) ys
  apart c within ys m a = by ys (all_free c within ys m) a
    where
      by : (zs : List Costed) → Each (λ y. y.1 ≡ 0) zs → Ascends (Cheaper labels) zs → AreApart (λ (y : Costed). y.0) zs
      by [] f b = tt
      by (y ∷ zs) f b = (
        each_of (λ z. y.0 ≡ z.0 → ⊥) zs (λ z h e.
            let same : y ≡ z = ap (λ t. (t, y.1)) e ∙ ap (λ d. (z.0, d)) (f.0 ∙ sym (each_has (λ x. x.1 ≡ 0) zs z f.1 h)) in
            not_itself (cheaper_strict labels) y z same (each_has (Cheaper labels y) zs z b.0 h)),
        by zs f.1 b.1,
      )

  -- a level does not have k trees and fewer
  full_short : (k c : ℕ) (xs ys : List Costed) → IsFull product labels rules k c xs → IsShort product labels rules k c ys → ⊥
  full_short k c xs ys f s =
      let listed : (x : Costed) → Has xs x → HasTree ys x.0 = λ x h. elim (has_or ys x) [
        | inl m ↦ (x.1, m)
        | inr n ↦ let o = (s.is.others x (each_has (IsTreeAt product (level c rules) 0) xs x f.is.members h) n).0 in absurd (omega (arith, o, s.few))
      ] in
      let many : length xs ≤ length ys = no_fewer (λ (x : Costed). x.0) xs ys (apart c f.within xs f.is.members f.is.ascends) (each_of (λ x. HasTree ys x.0) xs listed) in
      omega (arith, many, f.full, s.few)

  -- the trees of a level with fewer than k are those below the next cost
  under_next :
      (c d k : ℕ) (ys : List Costed) → d < c → ((r : Rule ℕ) → Has rules r → r.cost < c → r.cost ≤ d) → IsShort product labels rules k d ys → AreUnder product labels rules c k ys
  under_next c d k ys before between s = record {
    members = each_of (λ y. (e : ℕ) × (e < c) × IsTreeAt product rules 0 (y.0, e)) ys (λ y h.
        let f = levels.from_level rules normal d 0 s.within y (each_has (IsTreeAt product (level d rules) 0) ys y s.is.members h) in
        (f.0, omega (arith, f.2, before), f.1));
    all = λ y t l.
        let r = levels.cost_stands rules 0 y t in
        let low : r.0.cost ≤ d = between r.0 r.1 (omega (arith, r.2, l)) in
        let at = levels.to_level rules normal d 0 y t (omega (arith, low, r.2)) in
        elim (has_or ys (y.0, 0)) [
          | inl h ↦ (0, h)
          | inr n ↦ let o = (s.is.others (y.0, 0) at n).0 in absurd (omega (arith, o, s.few))
        ];
    ascend = in_order labels ys (all_free d s.within ys s.is.members) s.is.ascends;
    few = s.few;
  }

  nothing_under : (c k : ℕ) → 0 < k → ((r : Rule ℕ) → Has rules r → r.cost < c → ⊥) → AreUnder product labels rules c k []
  nothing_under c k some none = record {
    members = tt;
    all = λ y t l. absurd (let r = levels.cost_stands rules 0 y t in none r.0 r.1 (omega (arith, r.2, l)));
    ascend = tt;
    few = some;
  }

  module _ (k : ℕ) (some : 0 < k) (cs : List ℕ) (costs : AreCosts rules cs) where
    -- the trees below a cost, where the costs below it are before a place
    under_place :
        (low c : ℕ) (below : List Costed) → low ≤ length cs → ((r : Rule ℕ) → Has rules r → r.cost < c → (j : ℕ) × (j < low) × (get_or cs j 0 ≡ r.cost)) → (0 < low → get_or cs (low - 1) 0 < c) →
        (low ≡ 0 → below ≡ []) → (0 < low → IsShort product labels rules k (get_or cs (low - 1) 0) below) → AreUnder product labels rules c k below
    under_place low c below within near before nothing short = elim (zero_or low) [
      | inl e ↦ subst (λ ys. AreUnder product labels rules c k ys) (sym (nothing e)) (nothing_under c k some (λ r h l. let j = near r h l in omega (arith, j.1, e)))
      | inr h ↦ under_next c (get_or cs (low - 1) 0) k below (before h)
          (λ r m l. let j = near r m l in let up = costs.ascend j.0 (low - 1) (omega (arith, j.1)) (omega (arith, h, within)) in omega (arith, up, j.2)) (short h)
    ]

    -- where the costs below one at a place are
    near_at : (high : ℕ) → high < length cs → (r : Rule ℕ) → Has rules r → r.cost < get_or cs high 0 → (j : ℕ) × (j < high) × (get_or cs j 0 ≡ r.cost)
    near_at high h r m l =
        let a = at_has cs r.cost 0 (costs.there r m) in
        elim (below_or a.0 high) [
          | inl b ↦ (a.0, b, a.2)
          | inr b ↦ let up = costs.ascend high a.0 b a.1 in absurd (omega (arith, up, a.2, l))
        ]

    pub search_begins : (below at : List Costed) → below ≡ [] → at ≡ [] → IsSearched product labels rules k cs 0 (length cs) below at
    search_begins below at b a = record {
      order = omega arith;
      within = omega arith;
      nothing = λ e. b;
      short = λ h. absurd (omega (arith, h));
      full = λ h. absurd (omega (arith, h));
      none = λ e. a;
    }

    -- the level of the middle has fewer than k trees
    pub search_up :
        (low high middle c : ℕ) (below at xs : List Costed) → IsSearched product labels rules k cs low high below at → middle < high → c ≡ get_or cs middle c → IsKBest product (level c rules) labels k xs →
        c ≤ most → length xs < k → IsSearched product labels rules k cs (middle + 1) high xs at
    search_up low high middle c below at xs s h here is within few =
        let e : c ≡ get_or cs middle 0 = here ∙ get_or-default cs middle c 0 (omega (arith, h, s.within)) in
        let f : (middle + 1) - 1 ≡ middle = omega arith in
        record {
          order = omega (arith, h);
          within = s.within;
          nothing = λ z. absurd (omega (arith, z));
          short = λ p. subst (λ i. IsShort product labels rules k (get_or cs i 0) xs) (sym f) (subst (λ d. IsShort product labels rules k d xs) e (record { is = is; within = within; few = few }));
          full = s.full;
          none = s.none;
        }

    -- it has k
    pub search_down :
        (low high middle c : ℕ) (below at xs : List Costed) → IsSearched product labels rules k cs low high below at → low ≤ middle → middle < high → c ≡ get_or cs middle c →
        IsKBest product (level c rules) labels k xs → c ≤ most → (length xs < k → ⊥) → IsSearched product labels rules k cs low middle below xs
    search_down low high middle c below at xs s l h here is within many =
        let e : c ≡ get_or cs middle 0 = here ∙ get_or-default cs middle c 0 (omega (arith, h, s.within)) in
        record {
          order = l;
          within = omega (arith, h, s.within);
          nothing = s.nothing;
          short = s.short;
          full = λ p. subst (λ d. IsFull product labels rules k d xs) e (record { is = is; within = within; full = full_of (length xs) is.few many });
          none = λ z. absurd (omega (arith, z, h, s.within));
        }
      where
        full_of : (n : ℕ) → n ≤ k → (n < k → ⊥) → n ≡ k
        full_of n a b = elim (less_or n k a) [ inl m ↦ absurd (b m) | inr f ↦ f ]

    -- the search ends at the least level with k trees
    pub search_at :
        (low high c : ℕ) (below at : List Costed) → high ≤ low → high < length cs → c ≡ get_or cs high c → IsSearched product labels rules k cs low high below at → IsSplit product labels rules k c below at
    search_at low high c below at h inside here s =
        let same : low ≡ high = omega (arith, h, s.order) in
        let e : get_or cs high 0 ≡ c = sym (here ∙ get_or-default cs high c 0 inside) in
        let f = s.full inside in
        let before : 0 < low → get_or cs (low - 1) 0 < get_or cs high 0 =
        λ p. elim (less_or (get_or cs (low - 1) 0) (get_or cs high 0) (costs.ascend (low - 1) high (omega (arith, p, same)) inside)) [
          | inl l ↦ l
          | inr d ↦ absurd (full_short k (get_or cs high 0) at below f (subst (λ n. IsShort product labels rules k n below) d (s.short p)))
        ] in
        let near : (r : Rule ℕ) → Has rules r → r.cost < get_or cs high 0 → (j : ℕ) × (j < low) × (get_or cs j 0 ≡ r.cost) = λ r m l. let j = near_at high inside r m l in (j.0, omega (arith, j.1, same), j.2) in
        inl (subst (λ n. IsSplitAt product labels rules k n below at) e (record {
          under = under_place low (get_or cs high 0) below (omega (arith, same, s.within)) near before s.nothing s.short;
          within = f.within;
          level_is = f.is;
          full = f.full;
        }))

    -- no level has k trees
    pub search_whole :
        (low high c : ℕ) (below at : List Costed) → high ≤ low → (high < length cs → ⊥) → IsSearched product labels rules k cs low high below at → IsSplit product labels rules k c below at
    search_whole low high c below at h outside s =
        let end : high ≡ length cs = elim (less_or high (length cs) s.within) [ inl l ↦ absurd (outside l) | inr e ↦ e ] in
        let same : low ≡ length cs = omega (arith, h, s.order, end) in
        inr (record {
          under = under_place low (suc most) below (omega (arith, same))
              (λ r m l. let a = at_has cs r.cost 0 (costs.there r m) in (a.0, omega (arith, a.1, same), a.2)) (λ p. let w = (s.short p).within in omega (arith, w)) s.nothing s.short;
          none = s.none end;
        })

-- an error of a level is one of the grammar
pub level_fault :
    (levelled : Bool) (product : ℕ → ℕ → ℕ) (labels : List (List ℕ)) (rules : List (Rule ℕ)) (cs : List ℕ) (k i c : ℕ) → levelled ≡ true → AreCosts rules cs → i < length cs → c ≡ get_or cs i c →
    (e : KBestError) → IsUsefulCause product labels (level c rules) k e → IsLevelCause levelled product labels rules k e
level_fault levelled product labels rules cs k i c t costs h at (TreeTooLarge q) large =
    let s = costs.stands i h in
    let same : c ≡ (s.0).cost = at ∙ get_or-default cs i c 0 h ∙ sym s.2 in
    (level c rules, subst (λ (b : Bool). IsLevel b rules (level c rules)) (sym t) (s.0, s.1, ap (λ (d : ℕ). level d rules) same), large.0, large.1)
level_fault levelled product labels rules cs k i c t costs h at OutOfMemory large = tt
