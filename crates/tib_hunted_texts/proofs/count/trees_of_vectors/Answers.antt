use Rattle.std.proofs.Common.{max, ℕ, ◌≤◌, subst}
use Rattle.std.proofs.lemmas.Result.{IfOk-at_ok}
use Rattle.tib_determinize.specs.Answered.{IsAnswer}
use Rattle.tib_determinize.specs.Started.{IsWellStarted}
use Rattle.tib_hunted_texts.proofs.VectorRuns.{started_have_runs, vectors_are, runs_are_trees}
use Rattle.tib_hunted_texts.proofs.count.trees_of_vectors.Goals as goal

pub runs_of_vectors-requires-clause-leaves : goal.runs_of_vectors-requires-clause-leaves
runs_of_vectors-requires-clause-leaves c =
    let found = c.in-Ok.found in
    let form = c.args.form.now in
    let answer : IsAnswer max form.rules found = IfOk-at_ok _ c.in-Ok.is c.requires.determinized in
    let well : IsWellStarted found.order.items found.rules.items = c.started_is_deterministic.ensures form.rules found.order.items found.rules.items answer in
    (vectors_are form c.grammar.ensures.normal.normal found.order.items found.rules.items answer well c.args.labels.now c.requires.form).leaves

pub runs_of_vectors-requires-clause-runs : goal.runs_of_vectors-requires-clause-runs
runs_of_vectors-requires-clause-runs c =
    let found = c.in-Ok.found in
    let form = c.args.form.now in
    let answer : IsAnswer max form.rules found = IfOk-at_ok _ c.in-Ok.is c.requires.determinized in
    let well : IsWellStarted found.order.items found.rules.items = c.started_is_deterministic.ensures form.rules found.order.items found.rules.items answer in
    started_have_runs form c.grammar.ensures.normal.normal found.order.items found.rules.items answer well

pub returns-in-Ok-runs_of_vectors-clause-trees : goal.returns-in-Ok-runs_of_vectors-clause-trees
returns-in-Ok-runs_of_vectors-clause-trees c =
    let found = c.in-Ok.found in
    let form = c.args.form.now in
    let answer : IsAnswer max form.rules found = IfOk-at_ok _ c.in-Ok.is c.requires.determinized in
    let well : IsWellStarted found.order.items found.rules.items = c.started_is_deterministic.ensures form.rules found.order.items found.rules.items answer in
    runs_are_trees form c.grammar.ensures.normal.normal found.order.items found.rules.items answer well c.args.labels.now c.requires.form c.same_series.ensures c.trees_of_deterministic.ensures c.same_trees.ensures.many
    c.in-Ok-runs_of_vectors.runs c.in-Ok-runs_of_vectors.ensures

pub returns-in-Ok-runs_of_vectors-clause-within : goal.returns-in-Ok-runs_of_vectors-clause-within
returns-in-Ok-runs_of_vectors-clause-within c =
    let found = c.in-Ok.found in
    let answer : IsAnswer max c.args.form.now.rules found = IfOk-at_ok _ c.in-Ok.is c.requires.determinized in
    record {
      order = found.order.items;
      edges = _;
      reached = answer.reached;
      within = subst (λ (n : ℕ). n ≤ c.args.limit) (IfOk-at_ok _ c.in-Ok.is c.requires.parts) (IfOk-at_ok _ c.in-Ok.is c.requires.within);
    }
