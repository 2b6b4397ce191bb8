use Rattle.std.proofs.Common.{◌++◌, List, ℕ, ap, ◌∙◌}
use Rattle.tib_io.specs.Memory.{SinkThatGrows}
use Rattle.tib_lex.proofs.Lists.{some_is}
use Rattle.tib_grammar_file.specs.Printed.{grammar_text}
use Rattle.tib_texts.proofs.trim.text_of.Goals as goal

pub returns-in-Ok-clause-text : goal.returns-in-Ok-clause-text
returns-in-Ok-clause-text g c =
    some_is c.in-Ok.ensures.ok.written ∙ ap (λ (xs : List ℕ). xs ++ grammar_text g.S.Semiring.SCALE c.args.labels.now c.args.grammar.now) (ap (λ (s : SinkThatGrows). s.bytes) c.new-text.ensures)
