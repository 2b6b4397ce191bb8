-- The runs of a grammar in normal form, one rule at a time.
use Rattle.std.specs.Prelude.{◌≡◌, ℕ, List, length, Bool}
use Rattle.std.proofs.Common.{ap, sym, ◌∙◌}
use Rattle.tib_tree.specs.Trees.{Trees, count}
use Rattle.tib_grammar.specs.Run.{IsCost}
use Rattle.tib_grammar.specs.declared.Rule.{Rule}
use Rattle.tib_grammar.proofs.NormalRuns.{count-yields}
use Rattle.tib_cost.specs.Semiring.{ProductLaws}

module _ {levelled weighted : Bool} {product : ℕ → ℕ → ℕ} (laws : ProductLaws levelled weighted product) where
  -- two products of two, regrouped
  pub mix : (a b c d : ℕ) → product (product a b) (product c d) ≡ product (product a c) (product b d)
  mix a b c d =
      laws.regroups a b (product c d)
      ∙ ap (product a) (sym (laws.regroups b c d) ∙ ap (λ x. product x d) (laws.commutes b c) ∙ laws.regroups c b d)
      ∙ sym (laws.regroups a c (product b d))

  -- a cost of some trees is one of as many states
  pub count-costs : (rules : List (Rule ℕ)) (qs : List ℕ) (ts : Trees ℕ) (c : ℕ) → IsCost product rules qs ts c → count ts ≡ length qs
  count-costs rules qs ts c h = sym (ap count h.yielded) ∙ count-yields rules qs h.runs h.are_runs
