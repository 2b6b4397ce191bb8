-- The best trees level by level, where the product is the greater cost.
use Rattle.std.specs.Prelude.{◌≡◌, ℕ, ◌<◌, ◌≤◌, ◌⊎◌, List, [], ◌∷◌, ◌++◌, length}
use Rattle.tib_lex.specs.Lists.{Has, Each, Ascends}
use Rattle.tib_tree.specs.Trees.{Tree}
use Rattle.tib_cost.specs.Semiring.{most}
use Rattle.tib_grammar.specs.Forms.{AreNormal}
use Rattle.tib_grammar.specs.declared.Rule.{Rule}
use Rattle.tib_ranked_trees.specs.Best.{Cheaper, IsTreeAt, Costed, IsFirstAt, IsFrontAt}
use Rattle.tib_ranked_trees.specs.Levels.{level}
use Rattle.tib_ranked_trees.specs.Pass.{HasTree}

-- the list has exactly the trees that cost less than c, in order
pub record AreBelow (product : ℕ → ℕ → ℕ) (labels : List (List ℕ)) (rules : List (Rule ℕ)) (c : ℕ)
    (xs : List Costed) : Type 0 where
  pub members : Each (IsTreeAt product rules 0) xs
  pub ascends : Ascends (Cheaper labels) xs
  pub low : Each (λ x. x.1 < c) xs
  pub all : (y : Costed) → IsTreeAt product rules 0 y → y.1 < c → Has xs y

-- the trees of ys that xs lacks, in order, each at the cost c
abbrev pub AreAdded : List Costed → ℕ → List Costed → List Costed → Type 0
AreAdded xs c [] zs = zs ≡ []
AreAdded xs c (y ∷ ys) zs =
    (HasTree xs y.0 × AreAdded xs c ys zs)
    ⊎ ((HasTree xs y.0 → ⊥) × ((rest : List Costed) × (zs ≡ (y.0, c) ∷ rest)
    × AreAdded xs c ys rest))

pub record LevelsListBest (product : ℕ → ℕ → ℕ) : Type 0 where
  -- a level has a run of a tree exactly where the tree costs no more
  pub to_level :
      (rules : List (Rule ℕ)) → AreNormal rules → (c q : ℕ) (y : Costed) →
      IsTreeAt product rules q y → y.1 ≤ c → IsTreeAt product (level c rules) q (y.0, 0)
  pub from_level :
      (rules : List (Rule ℕ)) → AreNormal rules → (c q : ℕ) → c ≤ most → (y : Costed) →
      IsTreeAt product (level c rules) q y →
      (d : ℕ) × IsTreeAt product rules q (y.0, d) × (d ≤ c)
  -- a tree costs what one of the rules costs
  pub cost_stands :
      (rules : List (Rule ℕ)) (q : ℕ) (y : Costed) → IsTreeAt product rules q y →
      (r : Rule ℕ) × Has rules r × (r.cost ≡ y.1)
  -- Where no rule costs between d and c, the trees below c are those of the level d: if this
  -- level has fewer than k, a list of them in the order of their costs has all trees below c.
  pub below :
      (labels : List (List ℕ)) (rules : List (Rule ℕ)) → AreNormal rules →
      (c d k : ℕ) (xs ys : List Costed) → d < c → d ≤ most →
      ((r : Rule ℕ) → Has rules r → r.cost < c → r.cost ≤ d) →
      IsFirstAt product labels (level d rules) 0 k ys → length ys < k →
      Each (IsTreeAt product rules 0) xs → Ascends (Cheaper labels) xs →
      ((t : Tree ℕ) → HasTree ys t → HasTree xs t) →
      ((t : Tree ℕ) → HasTree xs t → HasTree ys t) →
      AreBelow product labels rules c xs
  -- a list of all trees below a level goes on with the trees of that level that it lacks, up to k
  -- of them, or with all
  pub adds :
      (labels : List (List ℕ)) (rules : List (Rule ℕ)) → AreNormal rules →
      (c k : ℕ) (xs ys zs : List Costed) → c ≤ most → AreBelow product labels rules c xs →
      IsFirstAt product labels (level c rules) 0 k ys → AreAdded xs c ys zs →
      IsFrontAt product labels rules 0 (xs ++ zs)
      × ((k ≤ length (xs ++ zs)) ⊎ ((y : Costed) → IsTreeAt product rules 0 y → y.1 ≤ c →
      Has (xs ++ zs) y))
