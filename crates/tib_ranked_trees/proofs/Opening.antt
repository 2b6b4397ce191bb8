-- A tree that a grammar in normal form gives a cost is a rule over trees that it gives costs, and
-- the other way round.
use Rattle.std.specs.Prelude.{◌≡◌, ℕ, ◌<◌, ◌≤◌, ◌⊎◌, List, [], ◌∷◌, length, Bool, Option, None, Some, refl}
use Rattle.std.proofs.Common.{arith, ap, sym, ◌∙◌, subst, inl, inr}
use Rattle.tib_lex.specs.Lists.{Along}
use Rattle.tib_tree.specs.Trees.{Tree, Trees, none, tree, only}
use Rattle.tib_cost.specs.Semiring.{most, ProductLaws}
use Rattle.tib_cost.specs.Least.{IsLeast}
use Rattle.tib_cost.proofs.Least.{at_least_right, grows_both}
use Rattle.tib_grammar.specs.Sides.{Symbol, label, hole, holes}
use Rattle.tib_grammar.specs.Run.{rule_at, AreRuns, cost, IsCost}
use Rattle.tib_grammar.specs.Forms.{IsLabel, AreNormal}
use Rattle.tib_grammar.specs.declared.Rule.{Rule}
use Rattle.tib_grammar.proofs.NormalRuns.{none_to, split_all, merge_all, BeginsBelow, begin, finish, no_states}
use Rattle.tib_grammar.proofs.Best.{best, best-is_least, no_trees}
use Rattle.tib_ranked_trees.specs.Best.{IsTreeAt}
use Rattle.tib_ranked_trees.specs.Levels.{IsOrderly, root_of, trees_of, total, made, states_of}

-- a set with a cost has its least where there is one at all
pub record HasLeast (S : ℕ → Type 0) (a : ℕ) : Type 0 where
  pub value : ℕ
  pub least : IsLeast S (Some value)
  pub low : value ≤ a

pub has_least : (S : ℕ → Type 0) (v : Option ℕ) (a : ℕ) → IsLeast S v → S a → a ≤ most → HasLeast S a
has_least S None a h s b = absurd (h.lower a s b)
has_least S (Some m) a h s b = record { value = m; least = h; low = h.lower a s b }

pub pair_same : (a b : Tree ℕ × ℕ) → a.0.label ≡ b.0.label → a.0.kids ≡ b.0.kids → a.1 ≡ b.1 → a ≡ b
pair_same a b f k c =
    let t : a.0 ≡ b.0 = ap (λ l. record { label = l; kids = a.0.kids }) f ∙ ap (λ ks. record { label = b.0.label; kids = ks }) k in
    ap (λ s. (s, a.1)) t ∙ ap (λ d. (b.0, d)) c

pub root_label : (s : Symbol ℕ ℕ) → IsLabel s → s ≡ label (root_of s)
root_label (label f) h = refl
root_label (hole p) h = absurd h

module _ {levelled weighted : Bool} {product : ℕ → ℕ → ℕ} (laws : ProductLaws levelled weighted product) (rules : List (Rule ℕ)) (normal : AreNormal rules) where
  -- trees with what the grammar gives them at some states
  record AreChildren (qs : List ℕ) (ts : Trees ℕ) (c : ℕ) : Type 0 where
    kids : List (Tree ℕ × ℕ)
    along : Along (IsTreeAt product rules) qs kids
    trees : trees_of kids ≡ ts
    low : total product kids ≤ c
    cost_is : IsCost product rules qs ts (total product kids)

  children : (ts : Trees ℕ) (qs : List ℕ) (c : ℕ) → IsCost product rules qs ts c → c ≤ most → AreChildren qs ts c
  children none [] c h b =
      let e : c ≡ 0 = none_to laws rules c h in
      record { kids = []; along = tt; trees = refl; low = omega arith; cost_is = record { runs = none; are_runs = tt; yielded = refl; costs = refl } }
  children none (q ∷ qs) c h b = absurd (no_trees laws rules normal q qs c h)
  children (tree f ks rest) [] c h b = absurd (no_states rules f ks rest c h)
  children (tree f ks rest) (q ∷ qs) c h b =
      let p = split_all laws rules q qs f ks rest c h in
      let left : p.0 ≤ most = omega (arith, laws.at_least p.0 p.1, p.4, b) in
      let right : p.1 ≤ most = omega (arith, at_least_right laws p.0 p.1, p.4, b) in
      let one = has_least (IsCost product rules (q ∷ []) (tree f ks none)) (best product rules (tree f ks none) (q ∷ [])) p.0 (best-is_least laws rules normal (tree f ks none) (q ∷ [])) p.2 left in
      let others = children rest qs p.1 p.3 right in
      let low : product one.value (total product others.kids) ≤ product p.0 p.1 = grows_both laws one.value (total product others.kids) p.0 p.1 one.low others.low in
      record {
        kids = (record { label = f; kids = ks }, one.value) ∷ others.kids;
        along = (one.least, others.along);
        trees = ap (tree f ks) others.trees;
        low = omega (arith, low, p.4);
        cost_is = merge_all laws rules q qs f ks rest (product one.value (total product others.kids)) (one.value, total product others.kids, one.least.attained.0, others.cost_is, refl);
      }

  -- a rule over trees with costs
  pub record Opened (q : ℕ) (y : Tree ℕ × ℕ) : Type 0 where
    pub rule : ℕ
    pub below : rule < length rules
    pub left : (rule_at rules rule).left ≡ q
    pub kids : List (Tree ℕ × ℕ)
    pub along : Along (IsTreeAt product rules) (states_of (rule_at rules rule)) kids
    pub is_made : made product (rule_at rules rule) kids ≡ y

  -- a tree with its cost is one
  pub opened : (q : ℕ) (y : Tree ℕ × ℕ) → IsTreeAt product rules q y → Opened q y
  opened q y s =
      let r = s.attained.0 in
      let b : BeginsBelow product rules q y.0.label y.0.kids (length rules) y.1 =
      subst (BeginsBelow product rules q y.0.label y.0.kids (length rules)) r.costs (begin laws rules normal q y.0.label y.0.kids r.runs r.are_runs r.yielded)
      in
      let p = b.2.below in
      let right : p.1 ≤ most = omega (arith, at_least_right laws p.0 p.1, p.4, s.attained.1) in
      let k = children y.0.kids (states_of (rule_at rules b.0)) p.1 p.3 right in
      let up : product (rule_at rules b.0).cost (total product k.kids) ≤ y.1 =
      omega (arith, grows_both laws (rule_at rules b.0).cost (total product k.kids) p.0 p.1 (omega (arith, p.2)) k.low, p.4)
      in
      let whole : IsCost product rules (q ∷ []) (only y.0) (product (rule_at rules b.0).cost (total product k.kids)) =
      finish laws rules normal q y.0.label y.0.kids (product (rule_at rules b.0).cost (total product k.kids)) b.0 b.1
      (record { left = b.2.left; root = b.2.root; below = ((rule_at rules b.0).cost, total product k.kids, refl, k.cost_is, refl) })
      in
      let down : y.1 ≤ product (rule_at rules b.0).cost (total product k.kids) = s.lower (product (rule_at rules b.0).cost (total product k.kids)) whole (omega (arith, up, s.attained.1)) in
      let root : root_of (rule_at rules b.0).right.label ≡ y.0.label = ap root_of b.2.root in
      record {
        rule = b.0;
        below = b.1;
        left = b.2.left;
        kids = k.kids;
        along = k.along;
        is_made = pair_same (made product (rule_at rules b.0) k.kids) y root k.trees (omega (arith, up, down));
      }

  pub costs_of : (qs : List ℕ) (zs : List (Tree ℕ × ℕ)) → Along (IsTreeAt product rules) qs zs → IsCost product rules qs (trees_of zs) (total product zs)
  costs_of [] [] a = record { runs = none; are_runs = tt; yielded = refl; costs = refl }
  costs_of [] (z ∷ zs) a = absurd a
  costs_of (q ∷ qs) [] a = absurd a
  costs_of (q ∷ qs) (z ∷ zs) a =
      merge_all laws rules q qs z.0.label z.0.kids (trees_of zs) (product z.1 (total product zs)) (z.1, total product zs, a.0.attained.0, costs_of qs zs a.1, refl)

  -- the tree of a rule over trees with costs, with its own cost, which is not greater
  pub record Closed (q : ℕ) (y : Tree ℕ × ℕ) : Type 0 where
    pub cost : ℕ
    pub is_tree : IsTreeAt product rules q (y.0, cost)
    pub low : cost ≤ y.1

  pub closed :
      (n : ℕ) → n < length rules → (zs : List (Tree ℕ × ℕ)) → Along (IsTreeAt product rules) (states_of (rule_at rules n)) zs →
      (made product (rule_at rules n) zs).1 ≤ most → Closed (rule_at rules n).left (made product (rule_at rules n) zs)
  closed n h zs a b =
      let r = rule_at rules n in
      let root : r.right.label ≡ label (root_of r.right.label) = root_label r.right.label (normal n h).is_label in
      let whole : IsCost product rules (r.left ∷ []) (tree (root_of r.right.label) (trees_of zs) none) (product r.cost (total product zs)) =
      finish laws rules normal r.left (root_of r.right.label) (trees_of zs) (product r.cost (total product zs)) n h
      (record { left = refl; root = root; below = (r.cost, total product zs, refl, costs_of (states_of r) zs a, refl) })
      in
      let l = has_least (IsCost product rules (r.left ∷ []) (tree (root_of r.right.label) (trees_of zs) none)) (best product rules (tree (root_of r.right.label) (trees_of zs) none) (r.left ∷ [])) (product r.cost (total product zs))
      (best-is_least laws rules normal (tree (root_of r.right.label) (trees_of zs) none) (r.left ∷ [])) whole b
      in
      record { cost = l.value; is_tree = l.least; low = l.low }

  -- if every rule costs nothing, so does every tree
  pub free_runs : ((n : ℕ) → n < length rules → (rule_at rules n).cost ≡ 0) → (qs : List ℕ) (runs : Trees ℕ) → AreRuns rules qs runs → cost product rules runs ≡ 0
  free_runs free [] none a = refl
  free_runs free [] (tree n runs rest) a = absurd a
  free_runs free (q ∷ qs) none a = absurd a
  free_runs free (q ∷ qs) (tree n runs rest) a =
      ap (λ c. product (product c (cost product rules runs)) (cost product rules rest)) (free n a.0)
      ∙ ap (λ c. product (product 0 c) (cost product rules rest)) (free_runs free (holes (rule_at rules n).right.kids) runs (inner n runs a.0 a.2))
      ∙ ap (λ c. product (product 0 0) c) (free_runs free qs rest a.3)
      ∙ ap (λ c. product c 0) (laws.neutral 0)
      ∙ laws.neutral 0
    where
      inner : (n : ℕ) (runs : Trees ℕ) → n < length rules → AreRuns rules (holes (tree (rule_at rules n).right.label (rule_at rules n).right.kids none)) runs → AreRuns rules (holes (rule_at rules n).right.kids) runs
      inner n runs h a = subst (λ ps. AreRuns rules ps runs) (named (rule_at rules n).right.label (rule_at rules n).right.kids (normal n h).is_label) a
        where
          named : (s : Symbol ℕ ℕ) (kids : Trees (Symbol ℕ ℕ)) → IsLabel s → holes (tree s kids none) ≡ holes kids
          named (label f) kids h = Rattle.tib_lex.proofs.Lists.append_nil (holes kids)
          named (hole p) kids h = absurd h

  -- so the product is strict, or every tree costs nothing
  abbrev pub AreOrderly : Type 0
  AreOrderly = ((a b c : ℕ) → b < c → product a b < product a c) ⊎ ((q : ℕ) (a : Tree ℕ × ℕ) → IsTreeAt product rules q a → a.1 ≡ 0)

  pub orderly : IsOrderly product rules → AreOrderly
  orderly (inl s) = inl s
  orderly (inr free) = inr (λ q a h. let r = h.attained.0 in sym r.costs ∙ free_runs free (q ∷ []) r.runs r.are_runs)
