use Rattle.std.proofs.lemmas.List.{get_or_read}
use Rattle.tib_grammar.specs.ShapeBuckets.{same_shape}
use Rattle.tib_key_edges.proofs.Places.{places-one}
use Rattle.tib_key_edges.proofs.indexing.index_rules.Goals as goal

pub loop-n-preserved : goal.loop-n-preserved
loop-n-preserved g c =
    let x = c.index-rules-n.result in
    let at = get_or_read c.args.rules.now c.loop-n.n x c.loop-n-test.true c.index-rules-n.is x in
    record {
      few = c.in_ok-add.ensures.few;
      positions = λ s. places-one (g.H.Shaping.has_shape s) c.args.rules.now c.loop-n.n x c.loop-n-test.true (same_shape c.shape_of.result s) x at (c.shape_of.ensures s) _ _ (c.loop-n.invariant.positions s) (c.in_ok-add.ensures.added s);
    }
