use Rattle.std.specs.Prelude.{ℕ, List, length}
use Rattle.std.proofs.Common.{sym, subst}
use Rattle.tib_grammar.specs.Forms.{AreNormal}
use Rattle.tib_grammar.specs.declared.Rule.{Rule}
use Rattle.tib_grammar_file.specs.Printed.{AreLabelled}
use Rattle.tib_k_best.specs.Causes.{IsCause}
use Rattle.tib_k_best.specs.Trimmed.{HaveTreesBelow}
use Rattle.tib_ranked_trees.specs.Best.{Costed, IsKBest}
use Rattle.tib_ranked_trees.specs.Levels.{IsOrderly}
use Rattle.tib_k_best.specs.Levels.{IsRenamed}
use Rattle.tib_k_best.proofs.Found.{found_is, none_is}
use Rattle.tib_k_best.proofs.LevelTrimming.{trimmed_best, trimmed_cause, trimmed_labelled, trimmed_normal, trimmed_orderly, trimmed_trees}
use Rattle.tib_k_best.proofs.level.best_of_useful.Goals as goal

pub list_of_rules-requires-clause-normal : goal.list_of_rules-requires-clause-normal
list_of_rules-requires-clause-normal g c =
    subst AreNormal (sym c.deref.ensures.value)
    (trimmed_normal g.S.Semiring.product c.args.rules.items c.args.states c.in-Ok.trimmed.states.items c.in-Ok.trimmed.rules.items c.in-Ok.ensures.kept c.requires.normal)

pub list_of_rules-requires-clause-labelled : goal.list_of_rules-requires-clause-labelled
list_of_rules-requires-clause-labelled g c =
    subst (AreLabelled (length c.args.labels.now)) (sym c.deref.ensures.value)
    (trimmed_labelled g.S.Semiring.product c.args.rules.items c.args.states c.in-Ok.trimmed.states.items c.in-Ok.trimmed.rules.items c.in-Ok.ensures.kept (length c.args.labels.now) c.requires.labelled)

pub list_of_rules-requires-clause-orderly : goal.list_of_rules-requires-clause-orderly
list_of_rules-requires-clause-orderly g c =
    subst (IsOrderly g.S.Semiring.product) (sym c.deref.ensures.value)
    (trimmed_orderly g.S.Semiring.product c.args.rules.items c.args.states c.in-Ok.trimmed.states.items c.in-Ok.trimmed.rules.items c.in-Ok.ensures.kept c.requires.orderly)

pub unreachable-requires : goal.unreachable-requires
unreachable-requires g c =
    none_is _ _ c.in-Ok-None.field-0-is c.in-Ok-None.ensures.none
    (subst (HaveTreesBelow g.S.Semiring.product) (sym c.deref.ensures.value) (trimmed_trees g.S.Semiring.product c.args.rules.items c.args.states c.in-Ok.trimmed.states.items c.in-Ok.trimmed.rules.items c.in-Ok.ensures.kept c.requires.normal c.trimmed_has_trees.ensures))

pub returns-in-Ok-Some-clause-best : goal.returns-in-Ok-Some-clause-best
returns-in-Ok-Some-clause-best g c =
    trimmed_best g.S.Semiring.product c.args.rules.items c.args.states c.in-Ok.trimmed.states.items c.in-Ok.trimmed.rules.items c.in-Ok.ensures.kept c.args.labels.now c.args.k c.in-Ok-Some.list
    (subst (λ (rs : List (Rule ℕ)). IsKBest g.S.Semiring.product rs c.args.labels.now c.args.k c.in-Ok-Some.list) c.deref.ensures.value
    (found_is (λ (xs : List Costed). IsKBest g.S.Semiring.product c.deref.result.now c.args.labels.now c.args.k xs) _ c.in-Ok-Some.list c.in-Ok-Some.field-0-is c.in-Ok-Some.ensures.best))

pub returns-clause-cause : goal.returns-clause-cause
returns-clause-cause g c =
    trimmed_cause g.S.Semiring.product c.args.rules.items c.args.states c.in-Ok.trimmed.states.items c.in-Ok.trimmed.rules.items c.in-Ok.ensures.kept g.met.S.Semiring.laws c.requires.normal
    c.args.labels.now c.args.k c.in-Err.error c.renamed.result (subst (λ (qs : List ℕ). IsRenamed qs c.in-Err.error c.renamed.result) c.deref-in-Err.ensures.value c.renamed.ensures)
    (subst (λ (rs : List (Rule ℕ)). IsCause g.S.Semiring.product c.args.labels.now rs c.args.k c.in-Err.error) c.deref.ensures.value c.in-Err.ensures.cause)
