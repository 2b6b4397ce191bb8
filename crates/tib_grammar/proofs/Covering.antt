-- A grammar whose rules cover those of another has no greater series.
use Rattle.std.specs.Prelude.{◌≡◌, ℕ, ◌≤◌, List, [], ◌∷◌, Bool, Option, refl}
use Rattle.std.proofs.Common.{ap, sym, ◌∙◌, subst, le_refl, inl, inr}
use Rattle.tib_lex.specs.Lists.{Has}
use Rattle.tib_tree.specs.Trees.{Tree, Trees, none, tree, join, only}
use Rattle.tib_grammar.specs.Sides.{holes_of, fill}
use Rattle.tib_grammar.specs.Run.{rule_at, no_rule, AreRuns, yields, cost, IsCost}
use Rattle.tib_grammar.specs.Series.{IsSeriesAt, HasCheaper, Covers}
use Rattle.tib_grammar.specs.declared.Rule.{Rule}
use Rattle.tib_grammar.proofs.Members.{has_at, at_has}
use Rattle.tib_cost.specs.Semiring.{ProductLaws}
use Rattle.tib_cost.proofs.Least.{IsLeast-dominated, grows_both}

module _ {levelled weighted : Bool} {product : ℕ → ℕ → ℕ} (laws : ProductLaws levelled weighted product) (one two : List (Rule ℕ)) (covers : Covers two one) where
  -- runs that are as cheap
  record AreCheaper (qs : List ℕ) (runs : Trees ℕ) : Type 0 where
    others : Trees ℕ
    are_runs : AreRuns two qs others
    yielded : yields two others ≡ yields one runs
    costs : cost product two others ≤ cost product one runs

  cheaper : (runs : Trees ℕ) (qs : List ℕ) → AreRuns one qs runs → AreCheaper qs runs
  cheaper none [] a = record { others = none; are_runs = tt; yielded = refl; costs = le_refl 0 }
  cheaper none (q ∷ qs) a = absurd a
  cheaper (tree n runs rest) [] a = absurd a
  cheaper (tree n runs rest) (q ∷ qs) a =
      let c = covers (rule_at one n) (has_at one n no_rule a.0) in
      let at = at_has two c.rule no_rule c.stands in
      let right : (rule_at two at.0).right ≡ (rule_at one n).right = ap (λ r. r.right) at.2 ∙ c.right in
      let low : (rule_at two at.0).cost ≤ (rule_at one n).cost = subst (λ (r : Rule ℕ). r.cost ≤ (rule_at one n).cost) (sym at.2) c.costs in
      let inner = cheaper runs (holes_of (rule_at one n).right) a.2 in
      let outer = cheaper rest qs a.3 in
      record {
        others = tree at.0 inner.others outer.others;
        are_runs = (
          at.1,
          ap (λ r. r.left) at.2 ∙ c.left ∙ a.1,
          subst (λ s. AreRuns two (holes_of s) inner.others) (sym right) inner.are_runs,
          outer.are_runs,
        );
        yielded = ap (λ s. join (fill (only s) (yields two inner.others)) (yields two outer.others)) right
            ∙ ap (λ ts. join (fill (only (rule_at one n).right) ts) (yields two outer.others)) inner.yielded
            ∙ ap (λ ts. join (fill (only (rule_at one n).right) (yields one runs)) ts) outer.yielded;
        costs = grows_both
            laws
            (product (rule_at two at.0).cost (cost product two inner.others))
            (cost product two outer.others)
            (product (rule_at one n).cost (cost product one runs))
            (cost product one rest)
            (grows_both laws (rule_at two at.0).cost (cost product two inner.others) (rule_at one n).cost (cost product one runs) low inner.costs)
            outer.costs;
      }

  pub cheaper_cost : (qs : List ℕ) (ts : Trees ℕ) (n : ℕ) → IsCost product one qs ts n → (m : ℕ) × IsCost product two qs ts m × (m ≤ n)
  cheaper_cost qs ts n h =
      let c = cheaper h.runs qs h.are_runs in (
        cost product two c.others,
        record { runs = c.others; are_runs = c.are_runs; yielded = c.yielded ∙ h.yielded; costs = refl },
        subst (λ m. cost product two c.others ≤ m) h.costs c.costs,
      )

module _ {levelled weighted : Bool} {product : ℕ → ℕ → ℕ} (laws : ProductLaws levelled weighted product) (one two : List (Rule ℕ)) where
  -- two grammars that cover each other have the same series
  pub same_series : Covers two one → Covers one two → (q : ℕ) (t : Tree ℕ) (v : Option ℕ) → IsSeriesAt product one q t v → IsSeriesAt product two q t v
  same_series to from q t v h =
      IsLeast-dominated
      (λ n c b. cheaper_cost laws one two to (q ∷ []) (only t) n c)
      (λ n c b. cheaper_cost laws two one from (q ∷ []) (only t) n c)
      h

-- a list of rules is covered by its members
pub covers_members : (one two : List (Rule ℕ)) → ((r : Rule ℕ) → Has one r → Has two r) → Covers two one
covers_members one two to r h = record { rule = r; stands = to r h; left = refl; right = refl; costs = le_refl r.cost }

-- and still with one more rule, if a member is as cheap as it
pub covers_more : (rules : List (Rule ℕ)) (r : Rule ℕ) → HasCheaper rules r → Covers rules (r ∷ rules)
covers_more rules r c s h = elim h [
  | inl e ↦ subst (HasCheaper rules) e c
  | inr k ↦ record { rule = s; stands = k; left = refl; right = refl; costs = le_refl s.cost }
]
