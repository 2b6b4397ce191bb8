use Rattle.std.proofs.Common.{refl}
use Rattle.std.proofs.lemmas.Result.{IfOk-at_ok, IfErr-at_err}
use Rattle.tib_operations.proofs.OfForms.{answer_labelled, told_large, told_many}
use Rattle.tib_hunted_texts.proofs.compare.text_of.Goals as goal

pub answer_line-requires : goal.answer_line-requires
answer_line-requires c =
    answer_labelled c.args.labels.now c.args.forms.now.one.rules c.args.forms.now.two.rules c.requires.one c.requires.two c.in-Ok.answer (IfOk-at_ok _ c.in-Ok.is c.requires.compared)

pub returns-in-Ok-answer_line-clause-text : goal.returns-in-Ok-answer_line-clause-text
returns-in-Ok-answer_line-clause-text c = record {
  answer = c.in-Ok.answer;
  is_answer = IfOk-at_ok _ c.in-Ok.is c.requires.compared;
  small = IfOk-at_ok _ c.in-Ok.is c.requires.small;
  are = c.in-Ok-answer_line.ensures;
}

pub returns-in-Ok-answer_line-clause-within : goal.returns-in-Ok-answer_line-clause-within
returns-in-Ok-answer_line-clause-within c = IfOk-at_ok _ c.in-Ok.is c.requires.within

pub returns-in-Err-TooMany-clause-err : goal.returns-in-Err-TooMany-clause-err
returns-in-Err-TooMany-clause-err c = (
  refl,
  told_many c.args.forms.now.one c.args.forms.now.two c.args.limit c.in-Err-TooMany.field-0-0 c.in-Err-TooMany.field-0 (rw c.in-Err-TooMany.is at c.in-Err-TooMany.field-0-is) (IfErr-at_err _ c.in-Err-TooMany.is c.requires.cause),
)

pub returns-in-Err-TreeTooLarge-clause-err : goal.returns-in-Err-TreeTooLarge-clause-err
returns-in-Err-TreeTooLarge-clause-err c =
    told_large c.args.forms.now.one c.args.forms.now.two c.args.limit c.in-Err-TreeTooLarge.field-0 (rw c.in-Err-TreeTooLarge.is at c.in-Err-TreeTooLarge.field-0-is) (IfErr-at_err _ c.in-Err-TreeTooLarge.is c.requires.cause)
