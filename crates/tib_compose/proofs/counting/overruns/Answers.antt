use Rattle.std.proofs.Common.{◌<◌, ◌≤◌, ◌+◌, ◌*◌, ℕ, IsTrue, nat_lt, ap, arith, sym, ◌∙◌}
use Rattle.std.proofs.lemmas.Bool.Decides.{nat_tests}
use Rattle.tib_tree.specs.Trees.{size}
use Rattle.tib_grammar.specs.Items.{pairs_of}
use Rattle.tib_compose.specs.PieceViews.{side_there}
use Rattle.tib_compose.proofs.Listed.{items_size}
use Rattle.tib_compose.proofs.Plenties.{side_overruns, within_cut}
use Rattle.tib_compose.proofs.counting.overruns.Goals as goal

is_less : (a b : ℕ) → IsTrue (nat_lt a b) → a < b
is_less a b h = grind (arith, nat_tests)

pub returns : goal.returns
returns g c = λ t two ready known key.
    let r = c.args.rule.now in
    let found = c.in-Some.found in
    let parts : ℕ = c.saturating_add-parts.result in
    let within = within_cut (g.S.Semiring.product r.cost found.worst) c.in-Some-times._whole (sym c.times.ensures ∙ c.in-Some-times.is) in
    let long = items_size c.items.result.now r.left c.items.ensures.items in
    let few : parts ≤ found.count * (1 + size r.left) + found.items = omega (arith, c.saturating_add-parts.ensures, c.saturating_mul.ensures, ap (λ n. found.count * (1 + n)) long) in
    let all = side_overruns g.met.S.Semiring.laws two ready (side_there (pairs_of c.args.source.now.items.now) 0) c.args.state r.cost r.left found (c.in-Some.ensures two ready known) within key parts few in
    let less = is_less _ parts t in
    omega (arith, less, all, c.requires.within.within)
