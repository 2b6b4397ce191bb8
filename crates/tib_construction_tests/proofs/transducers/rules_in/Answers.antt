use Rattle.std.proofs.Common.{arith, length, ◌≡◌}
use Rattle.tib_transducer_file.proofs.ReadBack.{read_back}
use Rattle.tib_canon.proofs.TransducerTexts.{text_moves}
use Rattle.tib_construction_tests.proofs.transducers.rules_in.Goals as goal

pub returns-clause-moves : goal.returns-clause-moves
returns-clause-moves g c =
    let three : length c.in-Ok.transducer.names ≡ 3 = omega (arith, c.states.ensures, c.if-states-ne3.false) in
    text_moves g.S.Semiring.SCALE c.read_transducer.new.labels c.in-Ok.transducer 3 c.into_parts-rules.result.1.items (read_back g.S.Semiring.SCALE c.read_transducer.new.labels c.args.text.now c.in-Ok.transducer c.in-Ok.ensures.text).0 three
    c.into_parts-rules.ensures.rules
