use Rattle.std.proofs.lemmas.Result.{IfOk-weaker, IfErr-weaker}
use Rattle.tib_operations.specs.Demo.{HasSummary}
use Rattle.tib_operations.specs.Determinize.{determinize_makes}
use Rattle.tib_operations.proofs.OfDemo.{of_read, fault_of_read}
use Rattle.tib_hunted_texts.proofs.demo.demo_of_together.Goals as goal

pub returns-clause-text : goal.returns-clause-text
returns-clause-text g c =
    IfOk-weaker c.summary_of_together.result _ _
    (λ text s.
    of_read g.S.Semiring.SCALE c.args.n (λ labels h. HasSummary g.S.Semiring.SCALE g.S.Semiring.product c.args.limit labels h text.bytes) c.demo_grammar.new.labels c.in-Ok.grammar c.in-Ok.ensures.distinct c.in-Ok.ensures.read s)
    c.summary_of_together.ensures.text

pub returns-clause-within : goal.returns-clause-within
returns-clause-within g c =
    IfOk-weaker c.summary_of_together.result _ _
    (λ text w.
    of_read g.S.Semiring.SCALE c.args.n (λ labels h. (determinize_makes g.S.Semiring.product c.args.limit h).within) c.demo_grammar.new.labels c.in-Ok.grammar c.in-Ok.ensures.distinct c.in-Ok.ensures.read w)
    c.summary_of_together.ensures.within

pub returns-clause-err : goal.returns-clause-err
returns-clause-err g c =
    IfErr-weaker c.summary_of_together.result _ _
    (fault_of_read c.product_has_laws.ensures g.S.Semiring.LEVELLED g.S.Semiring.SCALE c.args.limit c.args.n c.requires.most c.demo_grammar.new.labels c.in-Ok.grammar c.in-Ok.ensures.distinct c.in-Ok.ensures.read) c.summary_of_together.ensures.err
