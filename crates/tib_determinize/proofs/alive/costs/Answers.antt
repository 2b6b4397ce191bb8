use Rattle.std.proofs.Common.{rules, ◌≡◌, ℕ, ◌+◌, List, [], ◌∷◌, ◌++◌, None, Some, Option, drop, suc, arith, ap, sym, ◌∙◌, append_assoc, length, ◌<◌, get_or}
use Rattle.std.proofs.lemmas.List.{get_or_read}
use Rattle.tib_grammar.specs.declared.Rule.{Rule}
use Rattle.tib_determinize.specs.declared.alive.Alive.{Alive}
use Rattle.tib_determinize.specs.Alive.{cost_with, with_cost, costs_of}
use Rattle.tib_determinize.proofs.LeastCosts.{drop_at}
use Rattle.tib_determinize.proofs.alive.costs.Goals.{in-Some+in_ok-push, in_default}
use Rattle.tib_determinize.proofs.alive.costs.Goals as goal

next_cost :
    (product : ℕ → ℕ → ℕ) (rules : List (Rule ℕ)) (alive : List Alive) (i : ℕ) (one : Alive) (costs : List (ℕ × ℕ)) (o : Option (ℕ × ℕ)) → i < length alive → one ≡ get_or alive i one →
    o ≡ cost_with product rules one → costs ++ costs_of product rules (drop i alive) ≡ costs_of product rules alive →
    costs ++ with_cost o (costs_of product rules (drop (i + 1) alive)) ≡ costs_of product rules alive
next_cost product rules alive i one costs o low at is e =
    let next : i + 1 ≡ suc i = omega arith in
    ap (λ (c : Option (ℕ × ℕ)). costs ++ with_cost c (costs_of product rules (drop (i + 1) alive))) is
    ∙ ap (λ n. costs ++ costs_of product rules (one ∷ drop n alive)) next
    ∙ ap (λ (a : Alive). costs ++ costs_of product rules (a ∷ drop (suc i) alive)) at
    ∙ ap (λ (rest : List Alive). costs ++ costs_of product rules rest) (sym (drop_at alive i one low))
    ∙ e

pub loop-one-preserved : goal.loop-one-preserved
loop-one-preserved g c =
    let at = get_or_read c.args.alive.now c.loop-one.one-index c.one-item.result c.loop-one-test.true c.one-item.is c.one-item.result in
    let product = g.S.Semiring.product in
    let rest = costs_of product c.args.rules.now (drop (c.loop-one.one-index + 1) c.args.alive.now) in
    elim c.match-cost.branch [
      | in-Some+in_ok-push w ↦
          let some : c.cost.result ≡ Some w.in-Some.cost = search rules in
          let items : c.match-cost.costs.items ≡ c.loop-one.costs.items ++ w.in-Some.cost ∷ [] = search rules in
          ap (λ (xs : List (ℕ × ℕ)). xs ++ rest) items
          ∙ append_assoc c.loop-one.costs.items (w.in-Some.cost ∷ []) rest
          ∙ next_cost product c.args.rules.now c.args.alive.now c.loop-one.one-index c.one-item.result c.loop-one.costs.items (Some w.in-Some.cost) c.loop-one-test.true at (sym some ∙ c.cost.ensures) c.loop-one.invariant
      | in_default w ↦
          let none : c.cost.result ≡ None = search rules in
          let items : c.match-cost.costs.items ≡ c.loop-one.costs.items = search rules in
          ap (λ (xs : List (ℕ × ℕ)). xs ++ rest) items
          ∙ next_cost product c.args.rules.now c.args.alive.now c.loop-one.one-index c.one-item.result c.loop-one.costs.items None c.loop-one-test.true at (sym none ∙ c.cost.ensures) c.loop-one.invariant
    ]
