use Rattle.std.proofs.Common.{ℕ, List, [], ◌∷◌, ◌++◌, length, arith, get_or, ap, ◌∙◌}
use Rattle.std.proofs.lemmas.List.{get_or_read}
use Rattle.tib_grammar.specs.Run.{no_rule}
use Rattle.tib_canon.proofs.Pieces.{texts_on}
use Rattle.tib_canon.proofs.lines.texts_at.Goals as goal

pub loop-position-preserved : goal.loop-position-preserved
loop-position-preserved g c =
    texts_on g.S.Semiring.SCALE c.args.names.now c.args.labels.now c.args.rules.now c.args.positions.now c.loop-position.position-index c.loop-position.sink.bytes c.loop-position.ends.items c.add_line.new.sink.bytes c.push.new.self.items c.index-rules-position.result
    c.loop-position.invariant (omega arith) (get_or_read c.args.rules.now (get_or c.args.positions.now c.loop-position.position-index 0) c.index-rules-position.result (omega arith) c.index-rules-position.is no_rule) c.in_ok-add_line.ensures
    (c.in_ok-push.ensures.items ∙ ap (λ (text : List ℕ). c.loop-position.ends.items ++ length text ∷ []) c.bytes.ensures)
