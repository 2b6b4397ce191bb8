use Rattle.std.proofs.Common.{arith, map, ap, sym, ◌∙◌, List, ℕ, [], ◌∷◌, ◌++◌, take, ◌<◌, length}
use Rattle.std.proofs.lemmas.List.{map-append, take_more}
use Rattle.std.proofs.lemmas.Option.{get_or_from_slice_get}
use Rattle.std.specs.Global.{Vec}
use Rattle.tib_hunted_texts.proofs.copies.texts_of.Goals as goal

pub loop-state-preserved : goal.loop-state-preserved
loop-state-preserved c =
    let below : c.loop-state.state < length c.args.names.now = omega (arith, c.loop-state-test.true, c.len-state-end.ensures) in
    ap (map (λ (text : Vec ℕ). text.items)) c.in_ok-push.ensures.items
    ∙ map-append (λ (text : Vec ℕ). text.items) c.loop-state.texts.items (c.in_ok-from_slice.field-0 ∷ [])
    ∙ ap (λ (texts : List (List ℕ)). texts ++ c.in_ok-from_slice.field-0.items ∷ []) c.loop-state.invariant
    ∙ ap (λ (text : List ℕ). take c.loop-state.state c.args.names.now ++ text ∷ [])
    (c.in_ok-from_slice.ensures.items ∙ sym (get_or_from_slice_get c.args.names.now c.loop-state.state c.text.result.now [] c.text.ensures))
    ∙ sym (take_more c.args.names.now c.loop-state.state [] below)
