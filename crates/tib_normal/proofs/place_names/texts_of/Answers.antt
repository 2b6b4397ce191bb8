use Rattle.std.proofs.Common.{Some, arith, ap, sym, ◌∙◌}
use Rattle.tib_normal.proofs.PlaceNames.{text-more}
use Rattle.tib_normal.proofs.place_names.texts_of.Goals as goal

pub loop-state-preserved : goal.loop-state-preserved
loop-state-preserved c =
    let same = c.in_ok-to_vec.ensures.items_if_clones_equal (λ x y e. e) in
    text-more c.loop-state.texts.items c.push.new.self.items c.in_ok-to_vec.field-0 c.args.names.now c.loop-state.state (omega arith) c.loop-state.invariant (c.text.ensures ∙ ap Some (sym same)) c.in_ok-push.ensures.items
