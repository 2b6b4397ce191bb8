use Rattle.std.specs.Prelude.{◌≡◌, ◌+◌, ◌≤◌, ℕ, List, [], length}
use Rattle.std.proofs.Common.{arith, sym, subst, get_or}
use Rattle.tib_grammar.specs.Forms.{AreNormal}
use Rattle.tib_ranked_trees.specs.Below.{IsDeterministicBelow}
use Rattle.tib_grammar.specs.declared.Rule.{Rule}
use Rattle.tib_grammar_file.specs.Printed.{AreLabelled}
use Rattle.tib_k_best.specs.Causes.{IsCause}
use Rattle.tib_k_best.specs.Levels.{IsRenamed}
use Rattle.tib_k_best.specs.Trimmed.{HaveTreesBelow}
use Rattle.tib_lazy_lists.specs.Demands.{nodes_of}
use Rattle.tib_k_best.specs.LazyLists.{entries_in}
use Rattle.tib_ranked_trees.specs.Best.{Costed, IsFrontAt, IsKBest}
use Rattle.tib_ranked_trees.specs.Levels.{IsOrderly}
use Rattle.tib_k_best.proofs.Found.{found_is, none_is}
use Rattle.tib_k_best.proofs.LevelTrimming.{trimmed_best, trimmed_cause, trimmed_below, trimmed_labelled, trimmed_normal, trimmed_orderly, trimmed_trees, useful_lists}
use Rattle.tib_k_best.proofs.lazy_list.lazy_of_useful.Goals as goal

pub lazy_of_rules-requires-clause-normal : goal.lazy_of_rules-requires-clause-normal
lazy_of_rules-requires-clause-normal g c = subst AreNormal (sym c.deref.ensures.value) (trimmed_normal g.S.Semiring.product c.args.rules.items c.args.states c.in-Ok.trimmed.states.items c.in-Ok.trimmed.rules.items c.in-Ok.ensures.kept c.requires.normal)

pub lazy_of_rules-requires-clause-labelled : goal.lazy_of_rules-requires-clause-labelled
lazy_of_rules-requires-clause-labelled g c =
    subst (AreLabelled (length c.args.labels.now)) (sym c.deref.ensures.value)
    (trimmed_labelled g.S.Semiring.product c.args.rules.items c.args.states c.in-Ok.trimmed.states.items c.in-Ok.trimmed.rules.items c.in-Ok.ensures.kept (length c.args.labels.now) c.requires.labelled)

pub lazy_of_rules-requires-clause-orderly : goal.lazy_of_rules-requires-clause-orderly
lazy_of_rules-requires-clause-orderly g c = subst (IsOrderly g.S.Semiring.product) (sym c.deref.ensures.value) (trimmed_orderly g.S.Semiring.product c.args.rules.items c.args.states c.in-Ok.trimmed.states.items c.in-Ok.trimmed.rules.items c.in-Ok.ensures.kept c.requires.orderly)

pub lazy_of_rules-requires-clause-form : goal.lazy_of_rules-requires-clause-form
lazy_of_rules-requires-clause-form g c = subst IsDeterministicBelow (sym c.deref.ensures.value) (trimmed_below g.S.Semiring.product c.args.rules.items c.args.states c.in-Ok.trimmed.states.items c.in-Ok.trimmed.rules.items c.in-Ok.ensures.kept c.requires.form)

pub unreachable-requires : goal.unreachable-requires
unreachable-requires g c =
    none_is _ _ c.in-Ok-None.field-0-is c.in-Ok-None.ensures.none
    (subst (HaveTreesBelow g.S.Semiring.product) (sym c.deref.ensures.value) (trimmed_trees g.S.Semiring.product c.args.rules.items c.args.states c.in-Ok.trimmed.states.items c.in-Ok.trimmed.rules.items c.in-Ok.ensures.kept c.requires.normal c.trimmed_has_trees.ensures))

pub returns-in-Ok-Some-clause-best : goal.returns-in-Ok-Some-clause-best
returns-in-Ok-Some-clause-best g c =
    trimmed_best g.S.Semiring.product c.args.rules.items c.args.states c.in-Ok.trimmed.states.items c.in-Ok.trimmed.rules.items c.in-Ok.ensures.kept c.args.labels.now c.args.k _
    (subst (λ (rs : List (Rule ℕ)). IsKBest g.S.Semiring.product rs c.args.labels.now c.args.k (get_or c.in-Ok-Some.lists 0 [])) c.deref.ensures.value
    (found_is (λ (ls : List (List Costed)). IsKBest g.S.Semiring.product c.deref.result.now c.args.labels.now c.args.k (get_or ls 0 [])) _ c.in-Ok-Some.lists c.in-Ok-Some.field-0-is c.in-Ok-Some.ensures.best))

pub returns-in-Ok-Some-clause-lists : goal.returns-in-Ok-Some-clause-lists
returns-in-Ok-Some-clause-lists g c =
    let states = found_is (λ (ls : List (List Costed)). length ls ≡ c.len-kept.result) _ c.in-Ok-Some.lists c.in-Ok-Some.field-0-is c.in-Ok-Some.ensures.states in
    useful_lists g.S.Semiring.product c.args.rules.items c.args.states c.in-Ok.trimmed.states.items c.in-Ok.trimmed.rules.items c.in-Ok.ensures.kept c.args.labels.now c.in-Ok-Some.lists (omega (arith, states, c.len-kept.ensures))
    (λ q. subst (λ (rs : List (Rule ℕ)). IsFrontAt g.S.Semiring.product c.args.labels.now rs q (get_or c.in-Ok-Some.lists q [])) c.deref.ensures.value
    (found_is (λ (ls : List (List Costed)). (p : ℕ) → IsFrontAt g.S.Semiring.product c.args.labels.now c.deref.result.now p (get_or ls p [])) _ c.in-Ok-Some.lists c.in-Ok-Some.field-0-is c.in-Ok-Some.ensures.fronts q))

pub returns-in-Ok-Some-clause-few : goal.returns-in-Ok-Some-clause-few
returns-in-Ok-Some-clause-few g c =
    let states = found_is (λ (ls : List (List Costed)). length ls ≡ c.len-kept.result) _ c.in-Ok-Some.lists c.in-Ok-Some.field-0-is c.in-Ok-Some.ensures.states in
    omega (arith, states, c.len-kept.ensures, c.in-Ok.ensures.kept.few)

pub returns-in-Ok-Some-clause-bound : goal.returns-in-Ok-Some-clause-bound
returns-in-Ok-Some-clause-bound g c =
    let states = found_is (λ (ls : List (List Costed)). length ls ≡ c.len-kept.result) _ c.in-Ok-Some.lists c.in-Ok-Some.field-0-is c.in-Ok-Some.ensures.states in
    let bound =
    found_is (λ (ls : List (List Costed)). entries_in ls ≤ c.len-kept.result + nodes_of (get_or ls 0 [])) _ c.in-Ok-Some.lists c.in-Ok-Some.field-0-is c.in-Ok-Some.ensures.bound
    in
    omega (arith, states, bound)

pub returns-clause-cause : goal.returns-clause-cause
returns-clause-cause g c =
    trimmed_cause g.S.Semiring.product c.args.rules.items c.args.states c.in-Ok.trimmed.states.items c.in-Ok.trimmed.rules.items c.in-Ok.ensures.kept g.met.S.Semiring.laws c.requires.normal
    c.args.labels.now c.args.k c.in-Err.error c.renamed.result (subst (λ (qs : List ℕ). IsRenamed qs c.in-Err.error c.renamed.result) c.deref-in-Err.ensures.value c.renamed.ensures)
    (subst (λ (rs : List (Rule ℕ)). IsCause g.S.Semiring.product c.args.labels.now rs c.args.k c.in-Err.error) c.deref.ensures.value c.in-Err.ensures.cause)
