use Rattle.std.specs.Prelude.{Option}
use Rattle.std.proofs.Common.{◌≡◌, ℕ, List, ◌++◌, take, ap, ◌∙◌, sym, length}
use Rattle.std.proofs.lemmas.List.{take-append-drop}
use Rattle.std.proofs.lemmas.Result.{IfOk-at_ok}
use Rattle.tib_tree.specs.Trees.{Tree}
use Rattle.tib_operations.specs.Text.{weighed_line, weighed_lines}
use Rattle.tib_texts.proofs.Lines.{lines_append}
use Rattle.tib_texts.proofs.text.+lines.Goals as goal

pub returns : goal.returns
returns g t c =
    let lines : List (Tree ℕ) → List (Option ℕ) → List ℕ = weighed_lines g.S.Semiring.SCALE c.args.labels.now in
    let trees : c.split_at.result.0.now ++ c.split_at.result.1.now ≡ c.args.trees.now =
    ap (λ (xs : List (Tree ℕ)). xs ++ c.split_at.result.1.now) c.split_at.ensures.front
    ∙ ap (λ (xs : List (Tree ℕ)). take c.in-Some.middle c.args.trees.now ++ xs) c.split_at.ensures.back
    ∙ take-append-drop c.in-Some.middle c.args.trees.now
    in
    let costs : c.split_at-2.result.0.now ++ c.split_at-2.result.1.now ≡ c.args.costs.now =
    ap (λ (xs : List (Option ℕ)). xs ++ c.split_at-2.result.1.now) c.split_at-2.ensures.front
    ∙ ap (λ (xs : List (Option ℕ)). take c.in-Some.middle c.args.costs.now ++ xs) c.split_at-2.ensures.back
    ∙ take-append-drop c.in-Some.middle c.args.costs.now
    in
    let first : c.in_ok-text.text.bytes ≡ lines c.split_at.result.0.now c.split_at-2.result.0.now =
    IfOk-at_ok (λ text. text.bytes ≡ lines c.split_at.result.0.now c.split_at-2.result.0.now) c.in_ok-text.was c.join-first.ensures.first
    in
    let second : c.in_ok-rest.rest.bytes ≡ lines c.split_at.result.1.now c.split_at-2.result.1.now =
    IfOk-at_ok (λ text. text.bytes ≡ lines c.split_at.result.1.now c.split_at-2.result.1.now) c.in_ok-rest.was c.join-first.ensures.second
    in
    let as_long : length c.split_at-2.result.0.now ≡ length c.split_at.result.0.now = c.split_at-2.ensures.front_len ∙ sym c.split_at.ensures.front_len in
    c.in_ok-add_text.ensures
    ∙ ap (λ (xs : List ℕ). xs ++ c.in_ok-rest.rest.bytes) first
    ∙ ap (λ (xs : List ℕ). lines c.split_at.result.0.now c.split_at-2.result.0.now ++ xs) second
    ∙ lines_append (weighed_line g.S.Semiring.SCALE c.args.labels.now) c.split_at.result.0.now c.split_at.result.1.now c.split_at-2.result.0.now c.split_at-2.result.1.now as_long
    ∙ ap (λ (xs : List (Tree ℕ)). lines xs (c.split_at-2.result.0.now ++ c.split_at-2.result.1.now)) trees
    ∙ ap (λ (cs : List (Option ℕ)). lines c.args.trees.now cs) costs
