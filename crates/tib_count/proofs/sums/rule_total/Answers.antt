use Rattle.std.proofs.Common.{ap, sym, ◌∙◌, subst, length, List, ℕ}
use Rattle.tib_lex.specs.Lists.{Has}
use Rattle.tib_grammar.specs.Range.{AllBelow}
use Rattle.tib_grammar.proofs.Holes.{holes_of_items}
use Rattle.tib_count.specs.Counts.{counted}
use Rattle.tib_count.specs.Products.{product_over}
use Rattle.tib_count.proofs.sums.rule_total.Goals as goal

pub product_of-requires : goal.product_of-requires
product_of-requires c = record {
  below = subst (AllBelow (length c.args.totals.now)) (holes_of_items c.items.result.now c.args.rule.now.right c.items.ensures.items) c.requires.below;
}

pub returns : goal.returns
returns c = λ number each.
    let same = holes_of_items c.items.result.now c.args.rule.now.right c.items.ensures.items in
    c.product_of.ensures number (λ q h. each q (subst (λ (qs : List ℕ). Has qs q) (sym same) h)) ∙ ap (λ (qs : List ℕ). counted (product_over number qs)) (sym same)
