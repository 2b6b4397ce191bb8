use Rattle.std.proofs.Common.{ap}
use Rattle.tib_io.specs.Memory.{SinkThatGrows}
use Rattle.tib_texts.proofs.Lines.{four_pieces}
use Rattle.tib_texts.proofs.check.classes_text.Goals as goal

pub returns : goal.returns
returns g c = record {
  not_linear = c.first_not_linear-rule.result;
  not_nondeleting = c.first_not_nondeleting-rule.result;
  extended = c.first_extended-rule.result;
  labelled = c.first_labelled-rule.result;
  first_not_linear = c.first_not_linear-rule.ensures;
  first_not_nondeleting = c.first_not_nondeleting-rule.ensures;
  first_extended = c.first_extended-rule.ensures;
  first_labelled = c.first_labelled-rule.ensures;
  are = four_pieces _ _ _ _ _ _ _ _ _ (ap (λ (s : SinkThatGrows). s.bytes) c.new-text.ensures) c.in_ok-add_class.ensures c.in_ok-add_class-2.ensures c.in_ok-add_class-3.ensures c.in_ok-add_class-4.ensures;
}
