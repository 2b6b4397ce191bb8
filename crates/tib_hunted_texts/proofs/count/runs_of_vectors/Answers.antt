use Rattle.std.proofs.Common.{◌≡◌, ℕ, ◌+◌, List, length, arith, ap, sym, ◌∙◌, subst}
use Rattle.std.proofs.lemmas.Result.{IfOk-weaker}
use Rattle.tib_grammar.specs.Range.{AreInRange}
use Rattle.tib_grammar.specs.declared.Rule.{Rule}
use Rattle.tib_determinize.specs.Started.{started}
use Rattle.tib_determinize.specs.Vectors.{VectorOf}
use Rattle.tib_count.specs.Counts.{IsCountOf}
use Rattle.tib_count.specs.Counted.{IsRun, HaveRuns}
use Rattle.tib_hunted_texts.proofs.count.runs_of_vectors.Goals as goal

pub started_rules-requires-clause-range : goal.started_rules-requires-clause-range
started_rules-requires-clause-range c = subst (λ (order : List VectorOf). AreInRange (length order) c.args.found.rules.items) (sym c.deref.ensures.value) c.requires.range

pub count_runs-requires-clause-range : goal.count_runs-requires-clause-range
count_runs-requires-clause-range c =
    let rules : c.deref-2.result.now ≡ started c.args.found.order.items c.args.found.rules.items =
    c.deref-2.ensures.value ∙ c.in_ok-all.ensures ∙ ap (λ (order : List VectorOf). started order c.args.found.rules.items) c.deref.ensures.value
    in
    let states : 1 + length c.args.found.order.items ≡ c.len.result + 1 = omega (arith, c.len.ensures) in
    subst (λ (n : ℕ). AreInRange n c.deref-2.result.now) states (subst (AreInRange (1 + length c.args.found.order.items)) (sym rules) c.requires.started)

pub count_runs-requires-clause-runs : goal.count_runs-requires-clause-runs
count_runs-requires-clause-runs c =
    let rules : c.deref-2.result.now ≡ started c.args.found.order.items c.args.found.rules.items =
    c.deref-2.ensures.value ∙ c.in_ok-all.ensures ∙ ap (λ (order : List VectorOf). started order c.args.found.rules.items) c.deref.ensures.value
    in
    subst HaveRuns (sym rules) c.requires.runs

pub returns : goal.returns
returns c =
    let rules : c.deref-2.result.now ≡ started c.args.found.order.items c.args.found.rules.items =
    c.deref-2.ensures.value ∙ c.in_ok-all.ensures ∙ ap (λ (order : List VectorOf). started order c.args.found.rules.items) c.deref.ensures.value
    in
    IfOk-weaker c.count_runs.result _ _ (λ runs is. subst (λ (rs : List (Rule ℕ)). IsCountOf (IsRun rs) runs) rules is) c.count_runs.ensures
