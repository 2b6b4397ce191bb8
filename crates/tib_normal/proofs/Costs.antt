-- The costs of runs of a grammar in normal form: the first rule named, and lists of trees cut and
-- joined.
use Rattle.std.specs.Prelude.{◌≡◌, ℕ, ◌≤◌, List, [], ◌∷◌, ◌++◌, take, drop, Bool, refl}
use Rattle.std.proofs.Common.{zero, suc, arith, ap, sym, ◌∙◌, subst}
use Rattle.tib_tree.specs.Trees.{Trees, none, tree, count, join, first_trees, other_trees}
use Rattle.tib_grammar.specs.Run.{IsCost}
use Rattle.tib_grammar.specs.Forms.{AreNormal}
use Rattle.tib_grammar.specs.declared.Rule.{Rule}
use Rattle.tib_grammar.proofs.NormalRuns.{split_all, merge_all, none_to, IsLeast-no_states, no_states}
use Rattle.tib_grammar.proofs.Best.{no_trees}
use Rattle.tib_cost.specs.Semiring.{ProductLaws}

-- c is the product of the costs of runs for the first n trees and of runs for the others
pub record IsCutCost (product : ℕ → ℕ → ℕ) (rules : List (Rule ℕ)) (n : ℕ) (qs : List ℕ) (ts : Trees ℕ) (c : ℕ) : Type 0 where
  pub first : ℕ
  pub other : ℕ
  pub first_cost : IsCost product rules (take n qs) (first_trees n ts) first
  pub other_cost : IsCost product rules (drop n qs) (other_trees n ts) other
  pub costs : product first other ≡ c

module _
    {levelled weighted : Bool} {product : ℕ → ℕ → ℕ} (laws : ProductLaws levelled weighted product)
    (rules : List (Rule ℕ)) (normal : AreNormal rules) where
  pub cut_costs :
      (n : ℕ) (qs : List ℕ) (ts : Trees ℕ) (c : ℕ) → n ≤ count ts → IsCost product rules qs ts c →
      IsCutCost product rules n qs ts c
  cut_costs zero qs ts c h k = record {
    first = 0;
    other = c;
    first_cost = (IsLeast-no_states laws rules).attained.0;
    other_cost = k;
    costs = laws.neutral c;
  }
  cut_costs (suc n) qs none c h k = absurd (omega arith)
  cut_costs (suc n) [] (tree f kids rest) c h k = absurd (no_states rules f kids rest c k)
  cut_costs (suc n) (q ∷ qs) (tree f kids rest) c h k =
      let p = split_all laws rules q qs f kids rest c k in
      let r = cut_costs n qs rest p.1 (omega arith) p.3 in
      record {
        first = product p.0 r.first;
        other = r.other;
        first_cost = merge_all laws rules q (take n qs) f kids (first_trees n rest) (product p.0 r.first) (p.0, r.first, p.2, r.first_cost, refl);
        other_cost = r.other_cost;
        costs = laws.regroups p.0 r.first r.other ∙ ap (product p.0) r.costs ∙ p.4;
      }

  -- runs for some trees and for some others are runs for all of them
  pub join_costs :
      (qs rs : List ℕ) (ts us : Trees ℕ) (a b : ℕ) → IsCost product rules qs ts a → IsCost product rules rs us b →
      IsCost product rules (qs ++ rs) (join ts us) (product a b)
  join_costs [] rs none us a b x y =
      let e : a ≡ 0 = none_to laws rules a x in
      subst (IsCost product rules rs us) (sym (ap (λ z. product z b) e ∙ laws.neutral b)) y
  join_costs (q ∷ qs) rs none us a b x y = absurd (no_trees laws rules normal q qs a x)
  join_costs [] rs (tree f kids rest) us a b x y = absurd (no_states rules f kids rest a x)
  join_costs (q ∷ qs) rs (tree f kids rest) us a b x y =
      let p = split_all laws rules q qs f kids rest a x in
      merge_all laws rules q (qs ++ rs) f kids (join rest us) (product a b) (
        p.0,
        product p.1 b,
        p.2,
        join_costs qs rs rest us p.1 b p.3 y,
        sym (laws.regroups p.0 p.1 b) ∙ ap (λ z. product z b) p.4,
      )
