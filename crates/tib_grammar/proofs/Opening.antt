-- Runs of a grammar in normal form, opened at the first rule and closed again.
use Rattle.std.specs.Prelude.{◌≡◌, ℕ, ◌<◌, List, ◌∷◌, length, Bool, refl}
use Rattle.std.proofs.Common.{ap, sym, ◌∙◌, subst}
use Rattle.tib_tree.specs.Trees.{Trees, tree}
use Rattle.tib_grammar.specs.Sides.{label, holes}
use Rattle.tib_grammar.specs.Run.{rule_at, IsCost}
use Rattle.tib_grammar.specs.Forms.{AreNormal}
use Rattle.tib_grammar.specs.declared.Rule.{Rule}
use Rattle.tib_grammar.proofs.NormalRuns.{BeginsBelow, split_all, merge_all, begin, finish}
use Rattle.tib_cost.specs.Semiring.{ProductLaws}

-- c is the cost of runs that yield the tree f over kids and then the trees rest, with the first
-- rule named
pub record IsOpened (product : ℕ → ℕ → ℕ) (rules : List (Rule ℕ)) (q : ℕ) (qs : List ℕ) (f : ℕ) (kids rest : Trees ℕ) (c : ℕ) : Type 0 where
  pub rule : ℕ
  pub below : rule < length rules
  pub left : (rule_at rules rule).left ≡ q
  pub root : (rule_at rules rule).right.label ≡ label f
  pub inner : ℕ
  pub outer : ℕ
  pub kids_cost : IsCost product rules (holes (rule_at rules rule).right.kids) kids inner
  pub rest_cost : IsCost product rules qs rest outer
  pub costs : product (product (rule_at rules rule).cost inner) outer ≡ c

module _
    {levelled weighted : Bool} {product : ℕ → ℕ → ℕ} (laws : ProductLaws levelled weighted product)
    (rules : List (Rule ℕ)) (normal : AreNormal rules) where
  -- such a run has a first rule, and costs of the runs below and after it
  pub open_cost :
      (q : ℕ) (qs : List ℕ) (f : ℕ) (kids rest : Trees ℕ) (c : ℕ) → IsCost product rules (q ∷ qs) (tree f kids rest) c →
      IsOpened product rules q qs f kids rest c
  open_cost q qs f kids rest c h =
      let s = split_all laws rules q qs f kids rest c h in
      let g : BeginsBelow product rules q f kids (length rules) s.0 =
      subst (BeginsBelow product rules q f kids (length rules)) s.2.costs (begin laws rules normal q f kids s.2.runs s.2.are_runs s.2.yielded)
      in
      let b = g.2.below in
      record {
        rule = g.0;
        below = g.1;
        left = g.2.left;
        root = g.2.root;
        inner = b.1;
        outer = s.1;
        kids_cost = b.3;
        rest_cost = s.3;
        costs = ap (λ x. product x s.1) (ap (λ x. product x b.1) (sym b.2) ∙ b.4) ∙ s.4;
      }

  -- and costs of these make a run
  pub close_cost : (q : ℕ) (qs : List ℕ) (f : ℕ) (kids rest : Trees ℕ) (c : ℕ) → IsOpened product rules q qs f kids rest c → IsCost product rules (q ∷ qs) (tree f kids rest) c
  close_cost q qs f kids rest c p =
      let w : ℕ = (rule_at rules p.rule).cost in
      merge_all laws rules q qs f kids rest c (
        product w p.inner,
        p.outer,
        finish laws rules normal q f kids (product w p.inner) p.rule p.below (record { left = p.left; root = p.root; below = (w, p.inner, refl, p.kids_cost, refl) }),
        p.rest_cost,
        p.costs,
      )
