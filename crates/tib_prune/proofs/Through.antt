-- Through costs and kept rules, as they are computed.
use Rattle.std.specs.Prelude.{◌≡◌, ℕ, ◌+◌, ◌<◌, ◌≤◌, List, length, Bool, Option, None, Some, refl}
use Rattle.std.proofs.Common.{arith, ap, sym, ◌∙◌, subst}
use Rattle.tib_grammar.specs.Sides.{holes_of}
use Rattle.tib_grammar.specs.Run.{rule_at}
use Rattle.tib_grammar.specs.declared.Rule.{Rule}
use Rattle.tib_cost.specs.Semiring.{ProductLaws, most}
use Rattle.tib_cost.specs.Least.{times, AtMost}
use Rattle.tib_cost.proofs.Least.{IsLeast-unique, at_least_right}
use Rattle.tib_cost.proofs.Times.{cut-some, cut-within}
use Rattle.tib_inside.specs.Inside.{IsInside, total}
use Rattle.tib_inside.specs.Useful.{product_of}
use Rattle.tib_inside.specs.Settling.{rule_total}
use Rattle.tib_inside.proofs.Totals.{both_some}
use Rattle.tib_inside.proofs.Living.{total_known, known_total}
use Rattle.tib_prune.specs.Outside.{IsOutside, IsThrough, through}
use Rattle.tib_prune.specs.Pruned.{IsKept, AreCosts}

module _
    {levelled weighted : Bool} {product : ℕ → ℕ → ℕ} (laws : ProductLaws levelled weighted product) (rules : List (Rule ℕ)) (insides outsides : ℕ → Option ℕ)
    (costs : AreCosts product rules insides outsides) where
  -- what is computed is the through cost
  pub through_to : (n c : ℕ) → n < length rules → through product insides outsides (rule_at rules n) ≡ Some c → IsThrough product rules n c
  through_to n c h e =
      let w : ℕ = (rule_at rules n).cost in
      let qs : List ℕ = holes_of (rule_at rules n).right in
      let parts = both_some product (outsides (rule_at rules n).left) (rule_total product insides (rule_at rules n)) c e in
      let inner = both_some product (Some w) (total product insides qs) parts.1.0 parts.1.1 in
      let known = known_total laws rules insides costs.are_insides qs inner.1.0 inner.1.1 in
      let outer_whole : times product (Some parts.0.0) (Some parts.1.0) ≡ Some c =
      sym (ap (times product (Some parts.0.0)) parts.1.1) ∙ sym (ap (λ v. times product v (rule_total product insides (rule_at rules n))) parts.0.1) ∙ e
      in
      let inner_whole : times product (Some w) (Some inner.1.0) ≡ Some parts.1.0 = sym (ap (times product (Some w)) inner.1.1) ∙ parts.1.1 in
      let s = cut-some (product parts.0.0 parts.1.0) c outer_whole in
      let t = cut-some (product w inner.1.0) parts.1.0 inner_whole in
      record {
        position = h;
        outside = parts.0.0;
        is_outside = subst (IsOutside product rules (rule_at rules n).left) parts.0.1 (costs.are_outsides (rule_at rules n).left);
        insides = known.values;
        are_insides = known.are;
        is_product = ap (λ z. product parts.0.0 (product w z)) known.product_is ∙ ap (product parts.0.0) t.0 ∙ s.0;
        within = omega (arith, s.0, s.1);
      }

  -- and the through cost is what is computed
  pub through_from : (n c : ℕ) → IsThrough product rules n c → through product insides outsides (rule_at rules n) ≡ Some c
  through_from n c t =
      let w : ℕ = (rule_at rules n).cost in
      let qs : List ℕ = holes_of (rule_at rules n).right in
      let x : ℕ = product_of product t.insides in
      let le1 : x ≤ product w x = at_least_right laws w x in
      let le2 : product w x ≤ product t.outside (product w x) = at_least_right laws t.outside (product w x) in
      let fits : product t.outside (product w x) ≤ most = omega (arith, t.is_product, t.within) in
      ap (λ v. times product v (rule_total product insides (rule_at rules n))) (IsLeast-unique (costs.are_outsides (rule_at rules n).left) t.is_outside)
      ∙ ap (λ v. times product (Some t.outside) (times product (Some w) v)) (total_known laws rules insides costs.are_insides qs t.insides t.are_insides (omega arith))
      ∙ ap (times product (Some t.outside)) (cut-within (product w x) (omega arith))
      ∙ cut-within (product t.outside (product w x)) fits
      ∙ ap Some t.is_product

  -- a rule within the bound is kept
  pub kept_to : (beam best n : ℕ) → insides 0 ≡ Some best → n < length rules → AtMost (through product insides outsides (rule_at rules n)) (best + beam) → IsKept product rules beam n
  kept_to beam best n b h k = go (through product insides outsides (rule_at rules n)) refl k
    where
      go : (v : Option ℕ) → through product insides outsides (rule_at rules n) ≡ v → AtMost v (best + beam) → IsKept product rules beam n
      go None e k = absurd k
      go (Some c) e k = record {
        cost = c;
        through = through_to n c h e;
        within_beam = record { best = best; is_best = subst (IsInside product rules 0) b (costs.are_insides 0); close = k };
      }

  some_same : (a b : ℕ) → Some a ≡ Some b → a ≡ b
  some_same a b e = cc

  -- and a rule that is kept is within the bound
  pub kept_from : (beam best n : ℕ) → insides 0 ≡ Some best → IsKept product rules beam n → AtMost (through product insides outsides (rule_at rules n)) (best + beam)
  kept_from beam best n b k =
      let same : k.within_beam.best ≡ best = some_same k.within_beam.best best (IsLeast-unique k.within_beam.is_best (costs.are_insides 0) ∙ b) in
      subst (λ v. AtMost v (best + beam)) (sym (through_from n k.cost k.through)) (omega (arith, same, k.within_beam.close))

  -- without an inside cost of the start none is kept
  pub none_kept : (beam n : ℕ) → insides 0 ≡ None → IsKept product rules beam n → ⊥
  none_kept beam n b k = let bad : Some k.within_beam.best ≡ None = IsLeast-unique k.within_beam.is_best (costs.are_insides 0) ∙ b in cc bad
