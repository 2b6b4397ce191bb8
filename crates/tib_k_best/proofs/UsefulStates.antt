-- A state with a tree has an inside cost, that of its first tree; so the start is useful where it
-- has a tree.
use Rattle.std.specs.Prelude.{◌≡◌, ◌⊎◌, ℕ, ◌<◌, ◌≤◌, Bool, Some, List, [], ◌∷◌}
use Rattle.std.proofs.Common.{arith, inl, inr}
use Rattle.tib_lex.specs.Lists.{Has}
use Rattle.tib_lex.proofs.Members.{each_has}
use Rattle.tib_cost.specs.Semiring.{most, ProductLaws}
use Rattle.tib_tree.specs.Trees.{Tree, Trees, first_of, only}
use Rattle.tib_tree.proofs.Fill.{only_tree}
use Rattle.tib_grammar.specs.Forms.{AreNormal}
use Rattle.tib_grammar.specs.Run.{IsCost, yields}
use Rattle.tib_grammar.specs.declared.Rule.{Rule}
use Rattle.tib_grammar.proofs.Best.{best, best-is_least}
use Rattle.tib_grammar.proofs.NormalRuns.{count-yields}
use Rattle.tib_inside.specs.Inside.{IsInside, IsRunCost}
use Rattle.tib_inside.specs.Useful as useful
use Rattle.tib_inside.specs.Useful.{IsUseful}
use Rattle.tib_ranked_trees.specs.Best.{Cheaper, Costed, HasLarge, IsFrontAt, IsNextAt, IsTreeAt}
use Rattle.tib_ranked_trees.specs.First.{NoLater}
use Rattle.tib_ranked_trees.proofs.Opening.{has_least}

-- a tree that costs no more than any other of the state
record HasCheapest (product : ℕ → ℕ → ℕ) (rules : List (Rule ℕ)) (q : ℕ) : Type 0 where
  tree : Costed
  is_tree : IsTreeAt product rules q tree
  least : (y : Costed) → IsTreeAt product rules q y → tree.1 ≤ y.1

cheaper_costs : (labels : List (List ℕ)) (a b : Costed) → Cheaper labels a b → a.1 ≤ b.1
cheaper_costs labels a b (inl less) = omega (arith, less)
cheaper_costs labels a b (inr same) = omega (arith, same.0)

no_later_costs : (labels : List (List ℕ)) (a b : Costed) → NoLater (Cheaper labels) a b → a.1 ≤ b.1
no_later_costs labels a b (inl same) = let e : a.1 ≡ b.1 = cc in omega (arith, e)
no_later_costs labels a b (inr before) = cheaper_costs labels a b before

le_or_less : (a b : ℕ) → (a ≤ b) ⊎ (b < a)
le_or_less a b = grind arith

-- the first of a front, or the next one after none
cheapest :
    (product : ℕ → ℕ → ℕ) (labels : List (List ℕ)) (rules : List (Rule ℕ)) (q : ℕ) (front : List Costed) (next : Costed) → IsFrontAt product labels rules q front →
    IsNextAt product labels rules q front next → HasCheapest product rules q
cheapest product labels rules q [] next f n =
    record { tree = next; is_tree = n.member; least = λ y m. no_later_costs labels next y (n.least y m (λ h. h)) }
cheapest product labels rules q (x ∷ xs) next f n =
    record { tree = x; is_tree = f.members.0; least = λ y m. elim (le_or_less x.1 y.1) [ inl low ↦ low | inr less ↦ low_or y m less ] }
  where
    apart : (y : Costed) → y.1 < x.1 → Has (x ∷ xs) y → ⊥
    apart y less (inl e) = let same : x.1 ≡ y.1 = cc in omega (arith, less, same)
    apart y less (inr h) = let low = cheaper_costs labels x y (each_has (Cheaper labels x) xs y f.ascends.0 h) in omega (arith, less, low)

    low_or : (y : Costed) → IsTreeAt product rules q y → y.1 < x.1 → x.1 ≤ y.1
    low_or y m less = cheaper_costs labels x y (f.others y m (apart y less)).0

-- the cost of a cheapest tree is the inside cost
inside_of :
    {levelled weighted : Bool} {product : ℕ → ℕ → ℕ} (laws : ProductLaws levelled weighted product) (rules : List (Rule ℕ)) → AreNormal rules → (q : ℕ) (c : HasCheapest product rules q) →
    IsInside product rules q (Some c.tree.1)
inside_of {levelled} {weighted} {product} laws rules normal q c =
    let a = c.is_tree.attained in
    record { attained = (record { runs = a.0.runs; are_runs = a.0.are_runs; costs = a.0.costs }, a.1); lower = lower }
  where
    lower : (n : ℕ) → IsRunCost product rules (q ∷ []) n → n ≤ most → c.tree.1 ≤ n
    lower n r b =
        let ts : Trees ℕ = yields rules r.runs in
        let t : Tree ℕ = first_of 0 ts in
        let one = only_tree ts (count-yields rules (q ∷ []) r.runs r.are_runs) in
        let l = has_least (IsCost product rules (q ∷ []) (only t)) (best product rules (only t) (q ∷ [])) n (best-is_least laws rules normal (only t) (q ∷ []))
        (record { runs = r.runs; are_runs = r.are_runs; yielded = one; costs = r.costs }) b in
        let low = c.least (t, l.value) l.least in
        let up = l.low in
        omega (arith, low, up)

-- a start that has a large tree is useful
pub start_useful :
    {levelled weighted : Bool} {product : ℕ → ℕ → ℕ} (laws : ProductLaws levelled weighted product) (labels : List (List ℕ)) (rules : List (Rule ℕ)) → AreNormal rules → (k : ℕ) →
    HasLarge product labels rules k 0 → IsUseful product rules 0
start_useful {levelled} {weighted} {product} laws labels rules normal k l =
    let c = cheapest product labels rules 0 l.front l.tree l.is_front l.next in
    useful.start c.tree.1 (inside_of laws rules normal 0 c)
