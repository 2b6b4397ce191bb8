use Rattle.std.specs.Prelude.{max}
use Rattle.tib_cost.specs.declared.Scale.TheVariants.{Unweighted}
use Rattle.tib_operations.proofs.OfForms.{are_free, fault_kept, forms_fault, text_kept, within_kept}
use Rattle.tib_hunted_texts.proofs.compare.comparison_of_together.Goals as goal

pub compare_supports-compared-requires-clause-left_free : goal.compare_supports-compared-requires-clause-left_free
compare_supports-compared-requires-clause-left_free g c κs within = are_free c.args.labels.now c.in-Ok.forms.one.rules (c.in-Ok.ensures.print_one c.args.labels.now c.requires.left)

pub compare_supports-compared-requires-clause-right_free : goal.compare_supports-compared-requires-clause-right_free
compare_supports-compared-requires-clause-right_free g c κs within = are_free c.args.labels.now c.in-Ok.forms.two.rules (c.in-Ok.ensures.print_two c.args.labels.now c.requires.right)

pub compare_supports-compared-requires-clause-left_labelled : goal.compare_supports-compared-requires-clause-left_labelled
compare_supports-compared-requires-clause-left_labelled g c κs within = c.printable_is_labelled.ensures Unweighted c.args.labels.now c.in-Ok.forms.one.rules (c.in-Ok.ensures.print_one c.args.labels.now c.requires.left)

pub compare_supports-compared-requires-clause-right_labelled : goal.compare_supports-compared-requires-clause-right_labelled
compare_supports-compared-requires-clause-right_labelled g c κs within = c.printable_is_labelled.ensures Unweighted c.args.labels.now c.in-Ok.forms.two.rules (c.in-Ok.ensures.print_two c.args.labels.now c.requires.right)

pub text_of-requires-clause-one : goal.text_of-requires-clause-one
text_of-requires-clause-one g c = c.printable_is_labelled.ensures Unweighted c.args.labels.now c.in-Ok.forms.one.rules (c.in-Ok.ensures.print_one c.args.labels.now c.requires.left)

pub text_of-requires-clause-two : goal.text_of-requires-clause-two
text_of-requires-clause-two g c = c.printable_is_labelled.ensures Unweighted c.args.labels.now c.in-Ok.forms.two.rules (c.in-Ok.ensures.print_two c.args.labels.now c.requires.right)

pub returns-in-Ok-text_of-clause-text : goal.returns-in-Ok-text_of-clause-text
returns-in-Ok-text_of-clause-text g c =
    text_kept c.args.labels.now c.args.left.now c.args.right.now c.in-Ok.forms.one c.in-Ok.forms.two c.in-Ok-text_of.text.bytes c.in-Ok.ensures.first c.in-Ok.ensures.second c.in-Ok-text_of.ensures.text

pub returns-in-Ok-text_of-clause-within : goal.returns-in-Ok-text_of-clause-within
returns-in-Ok-text_of-clause-within g c =
    within_kept c.args.limit c.args.left.now c.args.right.now c.in-Ok.forms.one c.in-Ok.forms.two c.in-Ok.ensures.one c.in-Ok.ensures.two c.in-Ok.ensures.within c.in-Ok-text_of.ensures.within

pub returns-in-Err-clause-err : goal.returns-in-Err-clause-err
returns-in-Err-clause-err g c = forms_fault c.args.limit c.args.left.now c.args.right.now c.in-Err.status c.in-Err.ensures.err

pub returns-clause-err : goal.returns-clause-err
returns-clause-err g c =
    fault_kept c.args.limit c.args.left.now c.args.right.now c.in-Ok.forms.one c.in-Ok.forms.two c.in-Ok.ensures.first c.in-Ok.ensures.second c.in-Ok.ensures.one c.in-Ok.ensures.two
    c.in-Ok.ensures.within (λ h m n. c.trimmed_forms_have_the_same_rules.ensures max h m n) c.in-Err-text_of.status c.in-Err-text_of.ensures.err
