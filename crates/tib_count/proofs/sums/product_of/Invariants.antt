use Rattle.std.proofs.Common.{◌≡◌, ℕ, take}
use Rattle.tib_lex.specs.Lists.{Has}
use Rattle.tib_grammar.specs.Items.{holes_in}
use Rattle.tib_count.specs.Counts.{counted}
use Rattle.tib_count.specs.Products.{product_over}
use Rattle.tib_count.specs.Sums.{HasTotal}
use Rattle.tib_count.proofs.sums.product_of.Given as goal

abbrev pub invariant-loop-item : goal.invariant-loop-item
invariant-loop-item l =
    (number : ℕ → ℕ) → ((q : ℕ) → Has (holes_in l.items) q → HasTotal l.totals number q) →
    l.product ≡ counted (product_over number (holes_in (take l.item-index l.items)))
