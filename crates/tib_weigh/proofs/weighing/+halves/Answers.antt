use Rattle.std.specs.Prelude.{Option}
use Rattle.std.specs.List.{AllZip}
use Rattle.std.proofs.Common.{◌≡◌, ℕ, List, ◌++◌, take, ap, ◌∙◌, sym, subst}
use Rattle.std.proofs.lemmas.List.{take-append-drop}
use Rattle.std.proofs.lemmas.Result.{IfOk-at_ok}
use Rattle.tib_tree.specs.Trees.{Tree}
use Rattle.tib_grammar.specs.Series.{IsSeries}
use Rattle.tib_weigh.proofs.Zipped.{zip_append}
use Rattle.tib_weigh.proofs.weighing.+halves.Goals as goal

pub returns : goal.returns
returns g t c =
    let R : Tree ℕ → Option ℕ → Type 0 = λ t v. IsSeries g.S.Semiring.product c.args.normal.now.rules t v in
    let parts : c.split_at.result.0.now ++ c.split_at.result.1.now ≡ c.args.trees.now =
    ap (λ (xs : List (Tree ℕ)). xs ++ c.split_at.result.1.now) c.split_at.ensures.front
    ∙ ap (λ (xs : List (Tree ℕ)). take c.in-Some.middle c.args.trees.now ++ xs) c.split_at.ensures.back
    ∙ take-append-drop c.in-Some.middle c.args.trees.now
    in
    let first : AllZip R c.split_at.result.0.now c.in_ok-costs.costs.items = IfOk-at_ok (λ vs. AllZip R c.split_at.result.0.now vs.items) c.in_ok-costs.was c.join-first.ensures.first in
    let second : AllZip R c.split_at.result.1.now c.in_ok-rest.rest.items = IfOk-at_ok (λ vs. AllZip R c.split_at.result.1.now vs.items) c.in_ok-rest.was c.join-first.ensures.second in
    let items : c.extend_from_slice.new.self.items ≡ c.in_ok-costs.costs.items ++ c.in_ok-rest.rest.items =
    c.in_ok-extend_from_slice.ensures.items ∙ ap (λ (xs : List (Option ℕ)). c.in_ok-costs.costs.items ++ xs) c.deref.ensures.value
    in
    subst (λ (xs : List (Tree ℕ)). AllZip R xs c.extend_from_slice.new.self.items) parts
    (subst (λ (vs : List (Option ℕ)). AllZip R (c.split_at.result.0.now ++ c.split_at.result.1.now) vs) (sym items)
    (zip_append R c.split_at.result.0.now c.in_ok-costs.costs.items c.split_at.result.1.now c.in_ok-rest.rest.items first second))
