-- Level by level, where the product is the greater cost.
use Rattle.std.specs.Prelude.{◌≡◌, ℕ, ◌<◌, ◌≤◌, ◌⊎◌, Bool, true, false, IsTrue, Some, List, [], ◌∷◌, ◌++◌, length, nat_le, max, refl}
use Rattle.std.proofs.Common.{arith, ap, sym, ◌∙◌, subst, inl, inr}
use Rattle.std.proofs.lemmas.Bool.Decides.{nat_tests}
use Rattle.tib_lex.specs.Lists.{Has, Each, Ascends}
use Rattle.tib_tree.specs.Trees.{Tree, Trees, none, tree, join, only}
use Rattle.tib_tree.proofs.Orderings.{three_ways}
use Rattle.tib_cost.specs.Semiring.{most, ProductLaws}
use Rattle.tib_cost.proofs.Least.{IsLeast-unique, at_least_right}
use Rattle.tib_grammar.specs.Sides.{holes_of, fill}
use Rattle.tib_grammar.specs.Run.{rule_at, no_rule, AreRuns, yields, cost, IsCost}
use Rattle.tib_grammar.specs.Forms.{AreNormal, IsNormalSide}
use Rattle.tib_grammar.specs.declared.Rule.{Rule}
use Rattle.tib_grammar.proofs.Best.{best, best-is_least}
use Rattle.tib_lex.proofs.Members.{each_has, each_of, has_at, at_has, has_left, has_right, has_either}
use Rattle.tib_ranked_trees.specs.First.{IsFirst, IsFront}
use Rattle.tib_ranked_trees.specs.Best.{Cheaper, IsTreeAt}
use Rattle.tib_ranked_trees.specs.Levels.{free, level}
use Rattle.tib_ranked_trees.specs.Pass.{HasTree}
use Rattle.tib_ranked_trees.specs.Leveling.{AreBelow, AreAdded, LevelsListBest}
use Rattle.tib_ranked_trees.proofs.Opening.{has_least, free_runs}
use Rattle.tib_ranked_trees.proofs.Fronts.{not_itself}
use Rattle.tib_ranked_trees.proofs.Ranks.{cheaper_strict}
use Rattle.tib_ranked_trees.proofs.Telling.{has_or, has_tree_or, AreApart, no_fewer}

le_cases : (a b : ℕ) → ((a ≤ b) × (nat_le a b ≡ true)) ⊎ ((b < a) × (nat_le a b ≡ false))
le_cases a b = grind (arith, nat_tests)

has_level : (c : ℕ) (rules : List (Rule ℕ)) (r : Rule ℕ) → Has rules r → r.cost ≤ c → Has (level c rules) (free r)
has_level c [] r h b = absurd h
has_level c (s ∷ rules) r h b = elim (le_cases s.cost c) [
  | inl k ↦ rw k.1 (elim h [ inl e ↦ inl (ap free e) | inr m ↦ inr (has_level c rules r m b) ])
  | inr k ↦ rw k.1 (elim h [ inl e ↦ let d : s.cost ≡ r.cost = ap (λ (x : Rule ℕ). x.cost) e in absurd (omega (arith, k.0)) | inr m ↦ has_level c rules r m b ])
]

record IsFree (c : ℕ) (rules : List (Rule ℕ)) (s : Rule ℕ) : Type 0 where
  rule : Rule ℕ
  stands : Has rules rule
  low : rule.cost ≤ c
  same : free rule ≡ s

level_has : (c : ℕ) (rules : List (Rule ℕ)) (s : Rule ℕ) → Has (level c rules) s → IsFree c rules s
level_has c [] s h = absurd h
level_has c (r ∷ rules) s h = elim (le_cases r.cost c) [
  | inl k ↦ first k.0 (rw k.1 at h) (level_has c rules s)
  | inr k ↦ later (level_has c rules s (rw k.1 at h))
]
  where
    later : IsFree c rules s → IsFree c (r ∷ rules) s
    later f = record { rule = f.rule; stands = inr f.stands; low = f.low; same = f.same }

    first : r.cost ≤ c → Has (free r ∷ level c rules) s → (Has (level c rules) s → IsFree c rules s) → IsFree c (r ∷ rules) s
    first b (inl e) again = record { rule = r; stands = inl refl; low = b; same = e }
    first b (inr m) again = later (again m)

module _ {levelled weighted : Bool} {product : ℕ → ℕ → ℕ} (laws : ProductLaws levelled weighted product) (greater : IsTrue levelled) where
  no_more : (a b c : ℕ) → a ≤ c → b ≤ c → product a b ≤ c
  no_more a b c h k = omega (arith, laws.greater greater a b)

  level_normal : (c : ℕ) (rules : List (Rule ℕ)) → AreNormal rules → AreNormal (level c rules)
  level_normal c rules normal n h =
      let f = level_has c rules (rule_at (level c rules) n) (has_at (level c rules) n no_rule h) in
      let at = at_has rules f.rule no_rule f.stands in
      let right : (rule_at rules at.0).right ≡ (rule_at (level c rules) n).right = ap (λ (r : Rule ℕ). r.right) at.2 ∙ ap (λ (r : Rule ℕ). r.right) f.same in
      subst IsNormalSide right (normal at.0 at.1)

  level_free : (c : ℕ) (rules : List (Rule ℕ)) (n : ℕ) → n < length (level c rules) → (rule_at (level c rules) n).cost ≡ 0
  level_free c rules n h = let f = level_has c rules (rule_at (level c rules) n) (has_at (level c rules) n no_rule h) in sym (ap (λ (r : Rule ℕ). r.cost) f.same)

  -- runs of the one list of rules as runs of the other
  record AreAlike (one two : List (Rule ℕ)) (c : ℕ) (qs : List ℕ) (runs : Trees ℕ) : Type 0 where
    others : Trees ℕ
    are_runs : AreRuns two qs others
    yielded : yields two others ≡ yields one runs
    low : cost product two others ≤ c

  module _ (c : ℕ) (rules : List (Rule ℕ)) where
    to_runs : (runs : Trees ℕ) (qs : List ℕ) → AreRuns rules qs runs → cost product rules runs ≤ c → AreAlike rules (level c rules) c qs runs
    to_runs none [] a b = record { others = none; are_runs = tt; yielded = refl; low = omega arith }
    to_runs none (q ∷ qs) a b = absurd a
    to_runs (tree n runs rest) [] a b = absurd a
    to_runs (tree n runs rest) (q ∷ qs) a b =
        let w : ℕ = (rule_at rules n).cost in
        let u : ℕ = cost product rules runs in
        let v : ℕ = cost product rules rest in
        let one : product w u ≤ c = omega (arith, laws.at_least (product w u) v, b) in
        let two : v ≤ c = omega (arith, at_least_right laws (product w u) v, b) in
        let low : w ≤ c = omega (arith, laws.at_least w u, one) in
        let at = at_has (level c rules) (free (rule_at rules n)) no_rule (has_level c rules (rule_at rules n) (has_at rules n no_rule a.0) low) in
        let right : (rule_at (level c rules) at.0).right ≡ (rule_at rules n).right = ap (λ (r : Rule ℕ). r.right) at.2 in
        let inner = to_runs runs (holes_of (rule_at rules n).right) a.2 (omega (arith, at_least_right laws w u, one)) in
        let outer = to_runs rest qs a.3 two in
        let none_at : (rule_at (level c rules) at.0).cost ≤ c = let e : (rule_at (level c rules) at.0).cost ≡ 0 = ap (λ (r : Rule ℕ). r.cost) at.2 in omega arith in
        record {
          others = tree at.0 inner.others outer.others;
          are_runs = (
            at.1,
            ap (λ (r : Rule ℕ). r.left) at.2 ∙ a.1,
            subst (λ s. AreRuns (level c rules) (holes_of s) inner.others) (sym right) inner.are_runs,
            outer.are_runs,
          );
          yielded = ap (λ s. join (fill (only s) (yields (level c rules) inner.others)) (yields (level c rules) outer.others)) right
              ∙ ap (λ ts. join (fill (only (rule_at rules n).right) ts) (yields (level c rules) outer.others)) inner.yielded
              ∙ ap (λ ts. join (fill (only (rule_at rules n).right) (yields rules runs)) ts) outer.yielded;
          low = no_more (product (rule_at (level c rules) at.0).cost (cost product (level c rules) inner.others)) (cost product (level c rules) outer.others) c
              (no_more (rule_at (level c rules) at.0).cost (cost product (level c rules) inner.others) c none_at inner.low) outer.low;
        }

    from_runs : (runs : Trees ℕ) (qs : List ℕ) → AreRuns (level c rules) qs runs → AreAlike (level c rules) rules c qs runs
    from_runs none [] a = record { others = none; are_runs = tt; yielded = refl; low = omega arith }
    from_runs none (q ∷ qs) a = absurd a
    from_runs (tree n runs rest) [] a = absurd a
    from_runs (tree n runs rest) (q ∷ qs) a =
        let f = level_has c rules (rule_at (level c rules) n) (has_at (level c rules) n no_rule a.0) in
        let at = at_has rules f.rule no_rule f.stands in
        let right : (rule_at rules at.0).right ≡ (rule_at (level c rules) n).right = ap (λ (r : Rule ℕ). r.right) at.2 ∙ ap (λ (r : Rule ℕ). r.right) f.same in
        let low : (rule_at rules at.0).cost ≤ c = let e : (rule_at rules at.0).cost ≡ f.rule.cost = ap (λ (r : Rule ℕ). r.cost) at.2 in omega (arith, f.low) in
        let inner = from_runs runs (holes_of (rule_at (level c rules) n).right) a.2 in
        let outer = from_runs rest qs a.3 in
        record {
          others = tree at.0 inner.others outer.others;
          are_runs = (
            at.1,
            ap (λ (r : Rule ℕ). r.left) at.2 ∙ ap (λ (r : Rule ℕ). r.left) f.same ∙ a.1,
            subst (λ s. AreRuns rules (holes_of s) inner.others) (sym right) inner.are_runs,
            outer.are_runs,
          );
          yielded = ap (λ s. join (fill (only s) (yields rules inner.others)) (yields rules outer.others)) right
              ∙ ap (λ ts. join (fill (only (rule_at (level c rules) n).right) ts) (yields rules outer.others)) inner.yielded
              ∙ ap (λ ts. join (fill (only (rule_at (level c rules) n).right) (yields (level c rules) runs)) ts) outer.yielded;
          low = no_more (product (rule_at rules at.0).cost (cost product rules inner.others)) (cost product rules outer.others) c
              (no_more (rule_at rules at.0).cost (cost product rules inner.others) c low inner.low) outer.low;
        }

    to_level : AreNormal rules → (q : ℕ) (y : Tree ℕ × ℕ) → IsTreeAt product rules q y → y.1 ≤ c → IsTreeAt product (level c rules) q (y.0, 0)
    to_level normal q y s b =
        let r = s.attained.0 in
        let a = to_runs r.runs (q ∷ []) r.are_runs (omega (arith, r.costs, b)) in
        record {
          attained = (
            record {
              runs = a.others;
              are_runs = a.are_runs;
              yielded = a.yielded ∙ r.yielded;
              costs = free_runs laws (level c rules) (level_normal c rules normal) (level_free c rules) (q ∷ []) a.others a.are_runs;
            },
            omega arith,
          );
          lower = λ n _ _. omega arith;
        }

    from_level : AreNormal rules → (q : ℕ) → c ≤ most → (y : Tree ℕ × ℕ) → IsTreeAt product (level c rules) q y → (d : ℕ) × IsTreeAt product rules q (y.0, d) × (d ≤ c)
    from_level normal q b y s =
        let r = s.attained.0 in
        let a = from_runs r.runs (q ∷ []) r.are_runs in
        let l = has_least (IsCost product rules (q ∷ []) (only y.0)) (best product rules (only y.0) (q ∷ [])) (cost product rules a.others) (best-is_least laws rules normal (only y.0) (q ∷ []))
        (record { runs = a.others; are_runs = a.are_runs; yielded = a.yielded ∙ r.yielded; costs = refl })
        (omega (arith, a.low, b))
        in
        (l.value, l.least, omega (arith, l.low, a.low))

  -- the greatest of some costs is one of them
  greatest : (a b : ℕ) → (product a b ≡ a) ⊎ (product a b ≡ b)
  greatest a b = by (laws.greater greater a b)
    where
      two : (x y : ℕ) → (max x y ≡ x) ⊎ (max x y ≡ y)
      two x y = grind arith

      by : product a b ≡ max a b → (product a b ≡ a) ⊎ (product a b ≡ b)
      by e = elim (two a b) [ inl k ↦ inl (e ∙ k) | inr k ↦ inr (e ∙ k) ]

  abbrev Stands : List (Rule ℕ) → ℕ → Type 0
  Stands rules d = (r : Rule ℕ) × Has rules r × (r.cost ≡ d)

  neutral_right : (x : ℕ) → product x 0 ≡ x
  neutral_right x = laws.commutes x 0 ∙ laws.neutral x

  combine : (rules : List (Rule ℕ)) (a b : ℕ) → Stands rules a → (b ≡ 0) ⊎ Stands rules b → Stands rules (product a b)
  combine rules a b s (inl e) = subst (Stands rules) (sym (ap (product a) e ∙ neutral_right a)) s
  combine rules a b s (inr t) = elim (greatest a b) [
    | inl e ↦ subst (Stands rules) (sym e) s
    | inr e ↦ subst (Stands rules) (sym e) t
  ]

  of_runs : (rules : List (Rule ℕ)) (runs : Trees ℕ) (qs : List ℕ) → AreRuns rules qs runs → (cost product rules runs ≡ 0) ⊎ Stands rules (cost product rules runs)
  of_runs rules none qs a = inl refl
  of_runs rules (tree n runs rest) [] a = absurd a
  of_runs rules (tree n runs rest) (q ∷ qs) a =
      inr (combine rules (product (rule_at rules n).cost (cost product rules runs)) (cost product rules rest)
      (combine rules (rule_at rules n).cost (cost product rules runs) (rule_at rules n, has_at rules n no_rule a.0, refl) (of_runs rules runs (holes_of (rule_at rules n).right) a.2))
      (of_runs rules rest qs a.3))

  of_run : (rules : List (Rule ℕ)) (q : ℕ) (runs : Trees ℕ) → AreRuns rules (q ∷ []) runs → Stands rules (cost product rules runs)
  of_run rules q none a = absurd a
  of_run rules q (tree n runs rest) a =
      combine rules (product (rule_at rules n).cost (cost product rules runs)) (cost product rules rest)
      (combine rules (rule_at rules n).cost (cost product rules runs) (rule_at rules n, has_at rules n no_rule a.0, refl) (of_runs rules runs (holes_of (rule_at rules n).right) a.2))
      (of_runs rules rest [] a.3)

  cost_stands : (rules : List (Rule ℕ)) (q : ℕ) (y : Tree ℕ × ℕ) → IsTreeAt product rules q y → Stands rules y.1
  cost_stands rules q y s = let r = s.attained.0 in subst (Stands rules) r.costs (of_run rules q r.runs r.are_runs)

-- what holds for the trees that are added
added_all :
    (P : Tree ℕ × ℕ → Type 0) (xs : List (Tree ℕ × ℕ)) (c : ℕ) (ys zs : List (Tree ℕ × ℕ)) → AreAdded xs c ys zs →
    ((y : Tree ℕ × ℕ) → Has ys y → (HasTree xs y.0 → ⊥) → P (y.0, c)) → Each P zs
added_all P xs c [] zs a f = subst (Each P) (sym a) tt
added_all P xs c (y ∷ ys) zs (inl a) f = added_all P xs c ys zs a.1 (λ z h n. f z (inr h) n)
added_all P xs c (y ∷ ys) zs (inr a) f =
    subst (Each P) (sym a.1.1) (f y (inl refl) a.0, added_all P xs c ys a.1.0 a.1.2 (λ z h n. f z (inr h) n))

added_has : (xs : List (Tree ℕ × ℕ)) (c : ℕ) (ys zs : List (Tree ℕ × ℕ)) → AreAdded xs c ys zs → (y : Tree ℕ × ℕ) → Has ys y → (HasTree xs y.0 → ⊥) → Has zs (y.0, c)
added_has xs c [] zs a y h n = absurd h
added_has xs c (x ∷ ys) zs (inl a) y (inl e) n = absurd (n (subst (λ (t : Tree ℕ × ℕ). HasTree xs t.0) e a.0))
added_has xs c (x ∷ ys) zs (inl a) y (inr h) n = added_has xs c ys zs a.1 y h n
added_has xs c (x ∷ ys) zs (inr a) y (inl e) n = subst (λ ws. Has ws (y.0, c)) (sym a.1.1) (inl (ap (λ (t : Tree ℕ × ℕ). (t.0, c)) e))
added_has xs c (x ∷ ys) zs (inr a) y (inr h) n = subst (λ ws. Has ws (y.0, c)) (sym a.1.1) (inr (added_has xs c ys a.1.0 a.1.2 y h n))

module _ (labels : List (List ℕ)) where
  -- trees at no cost, in order, are in order at any one cost
  at_cost : (c : ℕ) (x y : Tree ℕ × ℕ) → x.1 ≡ 0 → y.1 ≡ 0 → Cheaper labels x y → Cheaper labels (x.0, c) (y.0, c)
  at_cost c x y e d (inl h) = absurd (omega arith)
  at_cost c x y e d (inr h) = inr (refl, h.1)

  added_ascend :
      (xs : List (Tree ℕ × ℕ)) (c : ℕ) (ys zs : List (Tree ℕ × ℕ)) → AreAdded xs c ys zs → Ascends (Cheaper labels) ys → Each (λ y. y.1 ≡ 0) ys → Ascends (Cheaper labels) zs
  added_ascend xs c [] zs a u f = subst (Ascends (Cheaper labels)) (sym a) tt
  added_ascend xs c (y ∷ ys) zs (inl a) u f = added_ascend xs c ys zs a.1 u.1 f.1
  added_ascend xs c (y ∷ ys) zs (inr a) u f =
      subst (Ascends (Cheaper labels)) (sym a.1.1) (
        added_all (Cheaper labels (y.0, c)) xs c ys a.1.0 a.1.2 (λ z h n. at_cost c y z f.0 (each_has (λ x. x.1 ≡ 0) ys z f.1 h) (each_has (Cheaper labels y) ys z u.0 h)),
        added_ascend xs c ys a.1.0 a.1.2 u.1 f.1,
      )

  ascends_append :
      (xs zs : List (Tree ℕ × ℕ)) → Ascends (Cheaper labels) xs → Ascends (Cheaper labels) zs → ((x z : Tree ℕ × ℕ) → Has xs x → Has zs z → Cheaper labels x z) → Ascends (Cheaper labels) (xs ++ zs)
  ascends_append [] zs a b f = b
  ascends_append (x ∷ xs) zs a b f = (
    each_of (Cheaper labels x) (xs ++ zs) (λ y h. elim (has_either xs zs y h) [ inl k ↦ each_has (Cheaper labels x) xs y a.0 k | inr k ↦ f x y (inl refl) k ]),
    ascends_append xs zs a.1 b (λ y z h k. f y z (inr h) k),
  )

  apart_free : (ys : List (Tree ℕ × ℕ)) → Ascends (Cheaper labels) ys → Each (λ y. y.1 ≡ 0) ys → AreApart (λ (y : Tree ℕ × ℕ). y.0) ys
  apart_free [] a f = tt
  apart_free (y ∷ ys) a f = (
    each_of (λ z. y.0 ≡ z.0 → ⊥) ys (λ z h e.
        let same : y ≡ z = ap (λ t. (t, y.1)) e ∙ ap (λ d. (z.0, d)) (f.0 ∙ sym (each_has (λ x. x.1 ≡ 0) ys z f.1 h)) in
        not_itself (cheaper_strict labels) y z same (each_has (Cheaper labels y) ys z a.0 h)),
    apart_free ys a.1 f.1,
  )

module _ {levelled weighted : Bool} {product : ℕ → ℕ → ℕ} (laws : ProductLaws levelled weighted product) (greater : IsTrue levelled) (labels : List (List ℕ)) (rules : List (Rule ℕ)) (normal : AreNormal rules)
    (c k : ℕ) (xs ys zs : List (Tree ℕ × ℕ)) (small : c ≤ most) (below : AreBelow product labels rules c xs) (first : IsFirst (IsTreeAt product (level c rules) 0) (Cheaper labels) k ys) (added : AreAdded xs c ys zs) where
  abbrev At : Tree ℕ × ℕ → Type 0
  At a = IsTreeAt product rules 0 a

  one_cost : (t : Tree ℕ) (d e : ℕ) → At (t, d) → At (t, e) → d ≡ e
  one_cost t d e a b = let same : Some d ≡ Some e = IsLeast-unique a b in cc

  free_at : (y : Tree ℕ × ℕ) → IsTreeAt product (level c rules) 0 y → y.1 ≡ 0
  free_at y s = let r = s.attained.0 in sym r.costs ∙ free_runs laws (level c rules) (level_normal laws greater c rules normal) (level_free laws greater c rules) (0 ∷ []) r.runs r.are_runs

  all_free : Each (λ y. y.1 ≡ 0) ys
  all_free = each_of (λ y. y.1 ≡ 0) ys (λ y h. free_at y (each_has (IsTreeAt product (level c rules) 0) ys y first.members h))

  new_member : (y : Tree ℕ × ℕ) → Has ys y → (HasTree xs y.0 → ⊥) → At (y.0, c)
  new_member y h n =
      let f = from_level laws greater c rules normal 0 small y (each_has (IsTreeAt product (level c rules) 0) ys y first.members h) in
      elim (three_ways f.0 c) [
        | inl l ↦ absurd (n (f.0, below.all (y.0, f.0) f.1 l))
        | inr o ↦ elim o [
          | inl e ↦ subst (λ d. At (y.0, d)) e f.1
          | inr g ↦ absurd (omega (arith, g, f.2))
        ]
      ]

  at_c : (z : Tree ℕ × ℕ) → Has zs z → z.1 ≡ c
  at_c z h = each_has (λ x. x.1 ≡ c) zs z (added_all (λ x. x.1 ≡ c) xs c ys zs added (λ y k n. refl)) h

  low_of : (x : Tree ℕ × ℕ) → Has xs x → x.1 < c
  low_of x h = each_has (λ y. y.1 < c) xs x below.low h

  xs_has : (y : Tree ℕ × ℕ) → At y → HasTree xs y.0 → Has xs y
  xs_has y a h = subst (λ d. Has xs (y.0, d)) (one_cost y.0 h.0 y.1 (each_has At xs (y.0, h.0) below.members h.1) a) h.1

  -- a tree of this cost that is lacked comes after all that the level listed, and these are k
  lacked : (y : Tree ℕ × ℕ) → At y → y.1 ≡ c → (Has (xs ++ zs) y → ⊥) → (length ys ≡ k) × Each (λ x. Cheaper labels x (y.0, 0)) ys
  lacked y a e n =
      first.others (y.0, 0) (to_level laws greater c rules normal 0 y a (omega (arith, e)))
      (λ h. n (has_right xs zs y (subst (λ d. Has zs (y.0, d)) (sym e) (added_has xs c ys zs added (y.0, 0) h (λ t. n (has_left xs zs y (xs_has y a t)))))))

  after : (y : Tree ℕ × ℕ) → At y → (Has (xs ++ zs) y → ⊥) → Each (λ x. Cheaper labels x y) (xs ++ zs)
  after y a n = elim (three_ways y.1 c) [
    | inl l ↦ absurd (n (has_left xs zs y (below.all y a l)))
    | inr o ↦ elim o [
      | inr g ↦ each_of (λ x. Cheaper labels x y) (xs ++ zs) (λ x h. elim (has_either xs zs x h) [
        | inl m ↦ let s = low_of x m in inl (omega arith)
        | inr m ↦ let s = at_c x m in inl (omega arith)
      ])
      | inl e ↦
          let late = (lacked y a e n).1 in
          let all : Each (λ x. Cheaper labels x y) zs =
          added_all (λ x. Cheaper labels x y) xs c ys zs added (λ x h _.
          subst (λ d. Cheaper labels (x.0, c) (y.0, d)) (sym e) (at_cost labels c x (y.0, 0) (each_has (λ z. z.1 ≡ 0) ys x all_free h) refl (each_has (λ z. Cheaper labels z (y.0, 0)) ys x late h)))
          in
          each_of (λ x. Cheaper labels x y) (xs ++ zs) (λ x h. elim (has_either xs zs x h) [
            | inl m ↦ let s = low_of x m in inl (omega arith)
            | inr m ↦ each_has (λ z. Cheaper labels z y) zs x all m
          ])
    ]
  ]

  is_front : IsFront At (Cheaper labels) (xs ++ zs)
  is_front = record {
    members = each_of At (xs ++ zs) (λ x h. elim (has_either xs zs x h) [
      | inl m ↦ each_has At xs x below.members m
      | inr m ↦ each_has At zs x (added_all At xs c ys zs added new_member) m
    ]);
    ascends = ascends_append labels xs zs below.ascends (added_ascend labels xs c ys zs added first.ascends all_free) (λ x z h m. let s = low_of x h in let t = at_c z m in inl (omega arith));
    others = after;
  }

  listed : (y : Tree ℕ × ℕ) → Has ys y → HasTree (xs ++ zs) y.0
  listed y h = elim (has_tree_or xs y.0) [
    | inl t ↦ (t.0, has_left xs zs (y.0, t.0) t.1)
    | inr n ↦ (c, has_right xs zs (y.0, c) (added_has xs c ys zs added y h n))
  ]

  few_or : (n m : ℕ) → n ≤ m → (n < m) ⊎ (n ≡ m)
  few_or n m h = grind arith

  enough : (k ≤ length (xs ++ zs)) ⊎ ((y : Tree ℕ × ℕ) → At y → y.1 ≤ c → Has (xs ++ zs) y)
  enough = elim (few_or (length ys) k first.few) [
    | inr e ↦
        let many : length ys ≤ length (xs ++ zs) =
        no_fewer (λ (y : Tree ℕ × ℕ). y.0) ys (xs ++ zs) (apart_free labels ys first.ascends all_free) (each_of (λ y. HasTree (xs ++ zs) y.0) ys listed)
        in
        inl (omega (arith, many, e))
    | inl few ↦ inr (λ y a b. elim (has_or (xs ++ zs) y) [
      | inl h ↦ h
      | inr n ↦ elim (three_ways y.1 c) [
        | inl l ↦ has_left xs zs y (below.all y a l)
        | inr o ↦ elim o [
          | inl e ↦ let m = (lacked y a e n).0 in absurd (omega arith)
          | inr g ↦ absurd (omega arith)
        ]
      ]
    ])
  ]

module _ {levelled weighted : Bool} {product : ℕ → ℕ → ℕ} (laws : ProductLaws levelled weighted product) (greater : IsTrue levelled) (labels : List (List ℕ)) (rules : List (Rule ℕ)) (normal : AreNormal rules)
    (c d k : ℕ) (xs ys : List (Tree ℕ × ℕ)) (before : d < c) (small : d ≤ most) (between : (r : Rule ℕ) → Has rules r → r.cost < c → r.cost ≤ d)
    (first : IsFirst (IsTreeAt product (level d rules) 0) (Cheaper labels) k ys) (few : length ys < k) (members : Each (IsTreeAt product rules 0) xs) (ascends : Ascends (Cheaper labels) xs)
    (to : (t : Tree ℕ) → HasTree ys t → HasTree xs t) (from : (t : Tree ℕ) → HasTree xs t → HasTree ys t) where
  low_below : (x : Tree ℕ × ℕ) → Has xs x → x.1 < c
  low_below x h =
      let t = from x.0 (x.1, h) in
      let f = from_level laws greater d rules normal 0 small (x.0, t.0) (each_has (IsTreeAt product (level d rules) 0) ys (x.0, t.0) first.members t.1) in
      let e : f.0 ≡ x.1 = let same : Some f.0 ≡ Some x.1 = IsLeast-unique f.1 (each_has (IsTreeAt product rules 0) xs x members h) in cc in
      omega (arith, f.2, e)

  all_below : (y : Tree ℕ × ℕ) → IsTreeAt product rules 0 y → y.1 < c → Has xs y
  all_below y a l =
      let r = cost_stands laws greater rules 0 y a in
      let low : r.0.cost ≤ d = between r.0 r.1 (omega (arith, r.2)) in
      let s = to_level laws greater d rules normal 0 y a (omega (arith, low, r.2)) in
      elim (has_or ys (y.0, 0)) [
        | inr n ↦ let o = (first.others (y.0, 0) s n).0 in absurd (omega arith)
        | inl h ↦
            let t = to y.0 (0, h) in
            let e : t.0 ≡ y.1 = let same : Some t.0 ≡ Some y.1 = IsLeast-unique (each_has (IsTreeAt product rules 0) xs (y.0, t.0) members t.1) a in cc in
            subst (λ n. Has xs (y.0, n)) e t.1
      ]

  are_below : AreBelow product labels rules c xs
  are_below = record { members = members; ascends = ascends; low = each_of (λ x. x.1 < c) xs low_below; all = all_below }

pub levels_list_best : {levelled weighted : Bool} {product : ℕ → ℕ → ℕ} → ProductLaws levelled weighted product → IsTrue levelled → LevelsListBest product
levels_list_best laws greater = record {
  to_level = λ rules normal c q y s b. to_level laws greater c rules normal q y s b;
  from_level = λ rules normal c q b y s. from_level laws greater c rules normal q b y s;
  cost_stands = λ rules q y s. cost_stands laws greater rules q y s;
  below = λ labels rules normal c d k xs ys before small between first few members ascends to from.
      are_below laws greater labels rules normal c d k xs ys before small between first few members ascends to from;
  adds = λ labels rules normal c k xs ys zs small below first added.
      (is_front laws greater labels rules normal c k xs ys zs small below first added, enough laws greater labels rules normal c k xs ys zs small below first added);
}
