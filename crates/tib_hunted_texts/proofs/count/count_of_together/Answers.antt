use Rattle.std.proofs.Common.{max, inl}
use Rattle.std.proofs.lemmas.Result.{IfOk-weaker, IfErr-weaker}
use Rattle.tib_expand.specs.Reached.{IsBeyond}
use Rattle.tib_determinize.specs.Determinization.{determinization}
use Rattle.tib_count.specs.declared.count.Count.TheVariants.{Endless}
use Rattle.tib_operations.specs.Count.{count_makes}
use Rattle.tib_operations.specs.Made.{normal_form}
use Rattle.tib_operations.proofs.MadeParts.{made_weaker}
use Rattle.tib_operations.proofs.OfForms.{are_free}
use Rattle.tib_hunted_texts.proofs.Counting.{trees_of_form, endless_within, reached_within, reached_more, refused_memory}
use Rattle.tib_hunted_texts.proofs.count.count_of_together.Goals as goal
use Rattle.tib_grammar.specs.Run.{AreFree}

pub is_endless-requires : goal.is_endless-requires
is_endless-requires g c = c.forms_have_runs.ensures.form c.args.grammar.now c.in-Ok.form c.is_sound.ensures.range c.is_sound.ensures.leaves c.in-Ok.ensures.form

pub trees_of_vectors-requires-clause-form : goal.trees_of_vectors-requires-clause-form
trees_of_vectors-requires-clause-form g c = c.in-Ok.ensures.printable c.args.labels.now c.requires.grammar

pub text_of-requires-clause-trees : goal.text_of-requires-clause-trees
text_of-requires-clause-trees g c =
    let free : AreFree c.args.grammar.now.rules = are_free c.args.labels.now c.args.grammar.now.rules c.requires.grammar in
    let form_free : AreFree c.in-Ok.form.rules = are_free c.args.labels.now c.in-Ok.form.rules (c.in-Ok.ensures.printable c.args.labels.now c.requires.grammar) in
    trees_of_form c.same_trees.ensures.many c.args.grammar.now c.in-Ok.form free form_free c.in-Ok.ensures.series Endless (c.in-Ok-is_endless.ensures.yes c.if-endless.true)

pub text_of-requires-in-Ok-trees_of_vectors-clause-trees : goal.text_of-requires-in-Ok-trees_of_vectors-clause-trees
text_of-requires-in-Ok-trees_of_vectors-clause-trees g c =
    let free : AreFree c.args.grammar.now.rules = are_free c.args.labels.now c.args.grammar.now.rules c.requires.grammar in
    let form_free : AreFree c.in-Ok.form.rules = are_free c.args.labels.now c.in-Ok.form.rules (c.in-Ok.ensures.printable c.args.labels.now c.requires.grammar) in
    trees_of_form c.same_trees.ensures.many c.args.grammar.now c.in-Ok.form free form_free c.in-Ok.ensures.series c.in-Ok-trees_of_vectors.trees c.in-Ok-trees_of_vectors.ensures.trees

pub returns-then-endless-clause-within : goal.returns-then-endless-clause-within
returns-then-endless-clause-within g c =
    let free : AreFree c.args.grammar.now.rules = are_free c.args.labels.now c.args.grammar.now.rules c.requires.grammar in
    let form_free : AreFree c.in-Ok.form.rules = are_free c.args.labels.now c.in-Ok.form.rules (c.in-Ok.ensures.printable c.args.labels.now c.requires.grammar) in
    IfOk-weaker c.text_of.result _ _
    (λ text _. endless_within c.same_trees.ensures.many c.args.grammar.now c.in-Ok.form free form_free c.in-Ok.ensures.series c.args.limit c.in-Ok.ensures.form c.in-Ok.ensures.within (c.in-Ok-is_endless.ensures.yes c.if-endless.true)) c.text_of.ensures.text

pub returns-then-endless-clause-err : goal.returns-then-endless-clause-err
returns-then-endless-clause-err g c = IfErr-weaker c.text_of.result _ _ (λ status is. refused_memory (count_makes c.args.limit c.args.grammar.now).more c.args.limit status is) c.text_of.ensures.err

pub returns-in-Ok-trees_of_vectors-clause-within : goal.returns-in-Ok-trees_of_vectors-clause-within
returns-in-Ok-trees_of_vectors-clause-within g c =
    let free : AreFree c.args.grammar.now.rules = are_free c.args.labels.now c.args.grammar.now.rules c.requires.grammar in
    let form_free : AreFree c.in-Ok.form.rules = are_free c.args.labels.now c.in-Ok.form.rules (c.in-Ok.ensures.printable c.args.labels.now c.requires.grammar) in
    IfOk-weaker c.text_of-in-Ok-trees_of_vectors.result _ _
    (λ text _. reached_within c.same_trees.ensures.many c.args.grammar.now c.in-Ok.form free form_free c.in-Ok.ensures.series c.args.limit c.in-Ok.ensures.form c.in-Ok.ensures.within c.in-Ok-trees_of_vectors.ensures.within) c.text_of-in-Ok-trees_of_vectors.ensures.text

pub returns-in-Ok-trees_of_vectors-clause-err : goal.returns-in-Ok-trees_of_vectors-clause-err
returns-in-Ok-trees_of_vectors-clause-err g c =
    IfErr-weaker c.text_of-in-Ok-trees_of_vectors.result _ _ (λ status is. refused_memory (count_makes c.args.limit c.args.grammar.now).more c.args.limit status is) c.text_of-in-Ok-trees_of_vectors.ensures.err

pub returns-in-Err-clause-err : goal.returns-in-Err-clause-err
returns-in-Err-clause-err g c =
    made_weaker (normal_form max c.args.limit c.args.grammar.now).more c.args.limit (count_makes c.args.limit c.args.grammar.now).more (λ m. inl m) c.in-Err.status c.in-Err.ensures.err

pub returns-clause-err : goal.returns-clause-err
returns-clause-err g c =
    let free : AreFree c.args.grammar.now.rules = are_free c.args.labels.now c.args.grammar.now.rules c.requires.grammar in
    let form_free : AreFree c.in-Ok.form.rules = are_free c.args.labels.now c.in-Ok.form.rules (c.in-Ok.ensures.printable c.args.labels.now c.requires.grammar) in
    made_weaker (IsBeyond (determinization max c.in-Ok.form.rules) c.args.limit) c.args.limit (count_makes c.args.limit c.args.grammar.now).more
    (λ beyond. reached_more c.same_trees.ensures.many c.args.grammar.now c.in-Ok.form free form_free c.in-Ok.ensures.series c.args.limit c.in-Ok.ensures.form
    (λ h m n. c.trimmed_forms_have_the_same_rules.ensures max h m n) (c.in-Ok-is_endless.ensures.no c.if-endless.false) beyond) c.in-Err-trees_of_vectors.status c.in-Err-trees_of_vectors.ensures.err
