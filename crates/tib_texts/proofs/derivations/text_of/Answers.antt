use Rattle.std.proofs.Common.{◌++◌, List, ℕ, ap, ◌∙◌}
use Rattle.tib_io.specs.Memory.{SinkThatGrows}
use Rattle.tib_lex.proofs.Lists.{some_is}
use Rattle.tib_transducer_file.specs.Printed.{transducer_text}
use Rattle.tib_texts.proofs.derivations.text_of.Goals as goal

pub returns-in-Ok-clause-text : goal.returns-in-Ok-clause-text
returns-in-Ok-clause-text g c = λ all t grows d.
    let wrote = c.in-Ok.ensures all t grows d in
    some_is wrote.ok.written ∙ ap (λ (xs : List ℕ). xs ++ transducer_text g.S.Semiring.SCALE all t) (ap (λ (s : SinkThatGrows). s.bytes) c.new-text.ensures)
