-- The trees below a cost and those at it, put together, are the k best.
use Rattle.std.specs.Prelude.{◌≡◌, ◌⊎◌, ℕ, ◌+◌, ◌-◌, ◌<◌, ◌≤◌, ◌^◌, Bool, true, List, [], ◌∷◌, ◌++◌, length, map, take, drop, if◌then◌else◌, refl}
use Rattle.std.specs.declared.cmp.Ordering.TheVariants.{Less}
use Rattle.std.proofs.Common.{suc, arith, ap, sym, ◌∙◌, subst, inl, inr, get_or, length-append, append_assoc}
use Rattle.std.proofs.lemmas.List.{length-map, map-append}
use Rattle.tib_lex.specs.Lists.{Has, Each}
use Rattle.tib_lex.proofs.Lists.{append_nil}
use Rattle.tib_lex.proofs.Members.{each_has, each_of, has_at, at_has, has_left, has_either}
use Rattle.tib_lex.proofs.Numbers.{nat_eq_cases}
use Rattle.tib_cost.specs.Semiring.{most, ProductLaws}
use Rattle.tib_grammar.specs.Forms.{AreNormal}
use Rattle.tib_grammar.specs.declared.Rule.{Rule}
use Rattle.tib_tree.specs.Order.{tree_cmp_by}
use Rattle.tib_inside.proofs.Chosen.{ascends_at}
use Rattle.tib_ranked_trees.specs.Best.{Cheaper, Costed, IsFrontAt, IsKBest, IsTreeAt}
use Rattle.tib_ranked_trees.specs.Levels.{level}
use Rattle.tib_ranked_trees.specs.Leveling.{AreAdded, AreBelow}
use Rattle.tib_ranked_trees.specs.Pass.{HasTree, no_entry}
use Rattle.tib_ranked_trees.proofs.Going.{grow}
use Rattle.tib_ranked_trees.proofs.Telling.{has_or, no_fewer}
use Rattle.tib_k_best.specs.RankedOf.{ranked_of, told_at, told_below, AreRanked}
use Rattle.tib_k_best.specs.Splits.{AreUnder, IsSplit, IsSplitAt, IsWhole}
use Rattle.tib_k_best.specs.Weights.{places_from, AreByCost, AreWeights, CostFirst, HaveCosts}
use Rattle.tib_k_best.proofs.Lists.{ascends_across, ascends_front, ascends_map, drop_head, each_map, nothing_long, take_and_drop, take_few, take_has, take_long, take_none}
use Rattle.tib_k_best.proofs.Searching.{apart, levels, one_cost}
use Rattle.tib_lex.proofs.Lists.{mapped_has}

less_or : (a b : ℕ) → a ≤ b → (a < b) ⊎ (a ≡ b)
less_or a b h = grind arith

-- a front of a front is one
front_take :
    (product : ℕ → ℕ → ℕ) (labels : List (List ℕ)) (rules : List (Rule ℕ)) (xs ys : List Costed) → IsFrontAt product labels rules 0 (xs ++ ys) → IsFrontAt product labels rules 0 xs
front_take product labels rules xs ys f = record {
  members = each_of (IsTreeAt product rules 0) xs (λ x h. each_has (IsTreeAt product rules 0) (xs ++ ys) x f.members (has_left xs ys x h));
  ascends = ascends_front (Cheaper labels) xs ys f.ascends;
  others = λ y t n. elim (has_or ys y) [
    | inl h ↦ each_of (λ x. Cheaper labels x y) xs (λ x m. ascends_across (Cheaper labels) xs ys f.ascends x y m h)
    | inr m ↦
        let all = f.others y t (λ h. elim (has_either xs ys y h) [ inl k ↦ n k | inr k ↦ m k ]) in
        each_of (λ x. Cheaper labels x y) xs (λ x h. each_has (λ z. Cheaper labels z y) (xs ++ ys) x all (has_left xs ys x h))
  ];
}

-- places are those of a list
places_below : (c n : ℕ) (ws : List ℕ) (p : ℕ) → Has (places_from c n ws) p → p < n + length ws
places_below c n [] p h = absurd h
places_below c n (w ∷ ws) p h = elim (nat_eq_cases w c) [
  | inl k ↦ elim (subst (λ b. Has (if b then n ∷ places_from c (suc n) ws else places_from c (suc n) ws) p) k.1 h) [
    | inl e ↦ omega (arith, e)
    | inr m ↦ omega (arith, places_below c (suc n) ws p m)
  ]
  | inr k ↦ omega (arith, places_below c (suc n) ws p (subst (λ b. Has (if b then n ∷ places_from c (suc n) ws else places_from c (suc n) ws) p) k.1 h))
]

module _ {levelled weighted : Bool} {product : ℕ → ℕ → ℕ} (laws : ProductLaws levelled weighted product) (greater : levelled ≡ true) (labels : List (List ℕ)) (rules : List (Rule ℕ)) (normal : AreNormal rules) where
  -- trees below a cost, in the order of what they cost
  below_sorted :
      (c k : ℕ) (below : List Costed) (ws : List ℕ) (first : List (ℕ × ℕ)) → AreUnder product labels rules c k below → AreWeights product rules below ws → AreByCost ws first →
      AreBelow product labels rules c (map (told_below below) first)
  below_sorted c k below ws first u w b = record {
    members = each_map (told_below below) (IsTreeAt product rules 0) first tree_of;
    ascends = ascends_map (told_below below) (λ p q. (p.0 < q.0) ⊎ ((p.0 ≡ q.0) × (p.1 < q.1))) (Cheaper labels) first in_turn b.ascend;
    low = each_map (told_below below) (λ x. x.1 < c) first (λ p h.
        let y : Costed = get_or below p.1 no_entry in
        let m = each_has (λ z. (d : ℕ) × (d < c) × IsTreeAt product rules 0 (z.0, d)) below y u.members (has_at below p.1 no_entry (inside p h)) in
        let e : p.0 ≡ m.0 = one_cost product rules y.0 p.0 m.0 (tree_of p h) m.2 in
        omega (arith, e, m.1));
    all = λ y t l.
        let h = u.all y t l in
        let a = at_has below (y.0, h.0) no_entry h.1 in
        let within : a.0 < length ws = omega (arith, a.1, w.long) in
        let same : (get_or below a.0 no_entry).0 ≡ y.0 = ap (λ (z : Costed). z.0) a.2 in
        let cost : get_or ws a.0 0 ≡ y.1 = one_cost product rules y.0 (get_or ws a.0 0) y.1 (subst (λ s. IsTreeAt product rules 0 (s, get_or ws a.0 0)) same (w.each a.0 within)) t in
        subst (λ z. Has (map (told_below below) first) z) (ap (λ s. (s, get_or ws a.0 0)) same ∙ ap (λ n. (y.0, n)) cost) (mapped_has (told_below below) first (get_or ws a.0 0, a.0) (b.whole a.0 within));
  }
    where
      inside : (p : ℕ × ℕ) → Has first p → p.1 < length below
      inside p h = omega (arith, (b.sound p h).0, w.long)

      tree_of : (p : ℕ × ℕ) → Has first p → IsTreeAt product rules 0 (told_below below p)
      tree_of p h = let s = b.sound p h in subst (λ n. IsTreeAt product rules 0 ((get_or below p.1 no_entry).0, n)) s.1 (w.each p.1 s.0)

      in_turn : (p q : ℕ × ℕ) → Has first p → Has first q → (p.0 < q.0) ⊎ ((p.0 ≡ q.0) × (p.1 < q.1)) → Cheaper labels (told_below below p) (told_below below q)
      in_turn p q h m (inl l) = inl l
      in_turn p q h m (inr e) = inr (e.0, ascends_at (λ a z. tree_cmp_by labels a.0 z.0 ≡ Less) below no_entry u.ascend p.1 q.1 e.1 (inside q m))

  module _ (c : ℕ) (within : c ≤ most) (xs at : List Costed) (vs : List ℕ) (below : AreBelow product labels rules c xs) (costs : CostFirst product rules at vs) where
    -- the trees of a level that cost as much are those that are not below
    added_from :
        (n : ℕ) (ys : List Costed) (us : List ℕ) → drop n at ≡ ys → drop n vs ≡ us → length us ≡ length ys → Each (IsTreeAt product (level c rules) 0) ys →
        AreAdded xs c ys (map (told_at at c) (places_from c n us))
    added_from n [] [] a v l m = refl
    added_from n [] (u ∷ us) a v l m = absurd (omega (arith, l))
    added_from n (y ∷ ys) [] a v l m = absurd (omega (arith, l))
    added_from n (y ∷ ys) (u ∷ us) a v l m =
        let p = drop_head at ys n y no_entry a in
        let q = drop_head vs us n u 0 v in
        let same : (get_or at n no_entry).0 ≡ y.0 = ap (λ (z : Costed). z.0) p.1 in
        let tree : IsTreeAt product rules 0 (y.0, u) = subst (λ d. IsTreeAt product rules 0 (y.0, d)) q.1 (subst (λ s. IsTreeAt product rules 0 (s, get_or vs n 0)) same (costs n q.0)) in
        let rest = added_from (suc n) ys us p.2 q.2 (omega (arith, l)) m.1 in
        elim (nat_eq_cases u c) [
          | inl k ↦
              let new : HasTree xs y.0 → ⊥ =
              λ h. let low = each_has (λ x. x.1 < c) xs (y.0, h.0) below.low h.1 in
              let e : h.0 ≡ u = one_cost product rules y.0 h.0 u (each_has (IsTreeAt product rules 0) xs (y.0, h.0) below.members h.1) tree in
              omega (arith, low, e, k.0) in
              subst (λ b. AreAdded xs c (y ∷ ys) (map (told_at at c) (if b then n ∷ places_from c (suc n) us else places_from c (suc n) us))) (sym k.1)
              (inr (new, (map (told_at at c) (places_from c (suc n) us), ap (λ s. (s, c) ∷ map (told_at at c) (places_from c (suc n) us)) same, rest)))
          | inr k ↦
              let f = (levels laws greater labels rules normal).from_level rules normal c 0 within y m.0 in
              let e : f.0 ≡ u = one_cost product rules y.0 f.0 u f.1 tree in
              let lower : u < c = elim (less_or u c (omega (arith, e, f.2))) [ inl s ↦ s | inr s ↦ absurd (k.0 s) ] in
              subst (λ b. AreAdded xs c (y ∷ ys) (map (told_at at c) (if b then n ∷ places_from c (suc n) us else places_from c (suc n) us))) (sym k.1)
              (inl ((u, below.all (y.0, u) tree lower), rest))
        ]

  -- where the level of the cost has k trees
  module _ (k c : ℕ) (below at : List Costed) (s : IsSplitAt product labels rules k c below at) (ws vs : List ℕ) (first : List (ℕ × ℕ)) (w : AreWeights product rules below ws) (v : AreWeights product rules at vs) (b : AreByCost ws first) where
    abbrev xs : List Costed
    xs = map (told_below below) first

    abbrev zs : List Costed
    zs = map (told_at at c) (places_from c 0 vs)

    are_below : AreBelow product labels rules c xs
    are_below = below_sorted c k below ws first s.under w b

    added : AreAdded xs c at zs
    added = added_from c s.within xs at vs are_below v.each 0 at vs refl refl v.long s.level_is.members

    both : IsFrontAt product labels rules 0 (xs ++ zs) × ((k ≤ length (xs ++ zs)) ⊎ ((y : Costed) → IsTreeAt product rules 0 y → y.1 ≤ c → Has (xs ++ zs) y))
    both = (levels laws greater labels rules normal).adds labels rules normal c k xs at zs s.within are_below s.level_is added

    many : k ≤ length (xs ++ zs)
    many = elim both.1 [
      | inl h ↦ h
      | inr all ↦
          let listed : (y : Costed) → Has at y → HasTree (xs ++ zs) y.0 =
          λ y h. let f = (levels laws greater labels rules normal).from_level rules normal c 0 s.within y (each_has (IsTreeAt product (level c rules) 0) at y s.level_is.members h) in (f.0, all (y.0, f.0) f.1 f.2) in
          let e : length at ≤ length (xs ++ zs) =
          no_fewer (λ (y : Costed). y.0) at (xs ++ zs) (apart laws greater labels rules normal c s.within at s.level_is.members s.level_is.ascends) (each_of (λ y. HasTree (xs ++ zs) y.0) at listed) in
          omega (arith, e, s.full)
    ]

    short : length first < k
    short = omega (arith, b.long, w.long, s.under.few)

    enough : k - length first ≤ length (places_from c 0 vs)
    enough = omega (arith, many, length-append xs zs, length-map first (told_below below), length-map (places_from c 0 vs) (told_at at c))

    pub split_best : (m : ℕ) → m ≡ k - length first → IsKBest product rules labels k (ranked_of below at c first (take m (places_from c 0 vs)))
    split_best m e =
        let ps : List ℕ = places_from c 0 vs in
        let one : List Costed = map (told_at at c) (take m ps) in
        let two : List Costed = map (told_at at c) (drop m ps) in
        let parts : zs ≡ one ++ two = ap (map (told_at at c)) (sym (take_and_drop m ps)) ∙ map-append (told_at at c) (take m ps) (drop m ps) in
        let whole : xs ++ zs ≡ (xs ++ one) ++ two = ap (λ ys. xs ++ ys) parts ∙ sym (append_assoc xs one two) in
        let front : IsFrontAt product labels rules 0 (xs ++ one) = front_take product labels rules (xs ++ one) two (subst (IsFrontAt product labels rules 0) whole both.0) in
        let taken : length (take m ps) ≡ m = take_long m ps (omega (arith, e, enough)) in
        let long : length (xs ++ one) ≡ k = omega (arith, length-append xs one, length-map first (told_below below), length-map (take m ps) (told_at at c), taken, e, short) in
        (grow product).first labels rules k (xs ++ one) front long

  -- where the grammar has fewer
  whole_best :
      (k c : ℕ) (below at : List Costed) → IsWhole product labels rules k below at → (ws vs : List ℕ) (first : List (ℕ × ℕ)) → AreWeights product rules below ws → AreWeights product rules at vs →
      AreByCost ws first → (m : ℕ) → IsKBest product rules labels k (ranked_of below at c first (take m (places_from c 0 vs)))
  whole_best k c below at s ws vs first w v b m =
      let xs : List Costed = map (told_below below) first in
      let empty : vs ≡ [] = nothing_long vs (v.long ∙ ap length s.none) in
      let none : take m (places_from c 0 vs) ≡ [] = take_none m (places_from c 0 vs) (ap (places_from c 0) empty) in
      let same : ranked_of below at c first (take m (places_from c 0 vs)) ≡ xs = ap (λ ps. xs ++ map (told_at at c) ps) none ∙ append_nil xs in
      let are = below_sorted (suc most) k below ws first s.under w b in
      let all : (y : Costed) → IsTreeAt product rules 0 y → Has xs y = λ y t. are.all y t (let l = t.attained.1 in omega (arith, l)) in
      subst (IsKBest product rules labels k) (sym same)
      ((grow product).all labels rules k xs (record { members = are.members; ascends = are.ascends; others = λ y t n. absurd (n (all y t)) })
      (omega (arith, length-map first (told_below below), b.long, w.long, s.under.few)) (λ y t n. n (all y t)))

  pub ranked_best :
      (k c : ℕ) (below at : List Costed) → IsSplit product labels rules k c below at → (ws vs : List ℕ) (first : List (ℕ × ℕ)) → AreWeights product rules below ws → AreWeights product rules at vs →
      AreByCost ws first → (m : ℕ) → m ≡ k - length first → (rest : List ℕ) → rest ≡ take m (places_from c 0 vs) → IsKBest product rules labels k (ranked_of below at c first rest)
  ranked_best k c below at s ws vs first w v b m e rest r = subst (λ ps. IsKBest product rules labels k (ranked_of below at c first ps)) (sym r) (elim s [
    | inl h ↦ split_best k c below at h ws vs first w v b m e
    | inr h ↦ whole_best k c below at h ws vs first w v b m
  ])

  -- the trees of both lists have costs
  pub below_costs : (k c : ℕ) (below at : List Costed) → IsSplit product labels rules k c below at → HaveCosts product rules below
  below_costs k c below at (inl s) = dropped below s.under.members
    where
      dropped : (ys : List Costed) → Each (λ y. (d : ℕ) × (d < c) × IsTreeAt product rules 0 (y.0, d)) ys → HaveCosts product rules ys
      dropped [] m = tt
      dropped (y ∷ ys) m = ((m.0.0, m.0.2), dropped ys m.1)
  below_costs k c below at (inr s) = dropped below s.under.members
    where
      dropped : (ys : List Costed) → Each (λ y. (d : ℕ) × (d < suc most) × IsTreeAt product rules 0 (y.0, d)) ys → HaveCosts product rules ys
      dropped [] m = tt
      dropped (y ∷ ys) m = ((m.0.0, m.0.2), dropped ys m.1)

  pub at_costs : (k c : ℕ) (below at : List Costed) → IsSplit product labels rules k c below at → HaveCosts product rules at
  at_costs k c below at (inl s) =
      each_of (λ y. (d : ℕ) × IsTreeAt product rules 0 (y.0, d)) at
      (λ y h. let f = (levels laws greater labels rules normal).from_level rules normal c 0 s.within y (each_has (IsTreeAt product (level c rules) 0) at y s.level_is.members h) in (f.0, f.1))
  at_costs k c below at (inr s) = subst (HaveCosts product rules) (sym s.none) tt

-- the trees below are fewer than k
pub split_few : (product : ℕ → ℕ → ℕ) (labels : List (List ℕ)) (rules : List (Rule ℕ)) (k c : ℕ) (below at : List Costed) → IsSplit product labels rules k c below at → length below < k
split_few product labels rules k c below at (inl s) = s.under.few
split_few product labels rules k c below at (inr s) = s.under.few

-- all places are in their lists
pub are_ranked :
    (product : ℕ → ℕ → ℕ) (rules : List (Rule ℕ)) (k c m : ℕ) (below at : List Costed) (ws vs : List ℕ) (first : List (ℕ × ℕ)) → k < 2 ^ 32 → length below < k → AreWeights product rules below ws → AreWeights product rules at vs →
    AreByCost ws first → m ≡ k - length first → (rest : List ℕ) → rest ≡ take m (places_from c 0 vs) → AreRanked below at first rest
are_ranked product rules k c m below at ws vs first fits few w v b e rest r =
    let many : length rest ≤ m = subst (λ ps. length ps ≤ m) (sym r) (take_few m (places_from c 0 vs)) in
    record {
      few = omega (arith, many, e, few, b.long, w.long, fits);
      below_has = λ i h. let s = b.sound (get_or first i (0, 0)) (has_at first i (0, 0) h) in omega (arith, s.0, w.long);
      at_has = λ i h.
          let stands = take_has m (places_from c 0 vs) (get_or rest i 0) (subst (λ ps. Has ps (get_or rest i 0)) r (has_at rest i 0 h)) in
          omega (arith, places_below c 0 vs (get_or rest i 0) stands, v.long);
    }
