use Rattle.std.proofs.Common.{arith, ◌≡◌, ◌∙◌, ◌+◌, ◌-◌, ◌%◌, ◌<◌, ℕ, List, ap, sym, length, get_or, slice_range}
use Rattle.std.proofs.lemmas.Grind.{get_or_default_zero}
use Rattle.tib_weigh.specs.declared.ready.Ready.{Ready}
use Rattle.tib_weigh.proofs.Flat.{slot_below, slot_there}
use Rattle.tib_weigh.proofs.slots.Slots.at.Goals as goal

pub returns : goal.returns
returns c =
    let starts : List ℕ = c.args.self.now.starts.items in
    let ready : List Ready = c.args.self.now.ready.items in
    let slot : ℕ = c.slot_of-slot.result in
    let some : 1 < length starts = omega (arith, c.args.self.now.starts.ok.0, c.args.self.now.some) in
    let is : slot ≡ c.args.state % (length starts - 1) = c.slot_of-slot.ensures ∙ ap (λ n. c.args.state % (n - 1)) (c.len.ensures ∙ c.args.self.now.starts.ok.0) in
    let below : slot + 1 < length starts = slot_below starts c.args.state slot some is in
    let first : c.index.result.now ≡ get_or starts slot 0 = c.index.ensures ∙ get_or_default_zero starts slot c.index.result.now (omega (arith, below)) in
    let second : c.index-2.result.now ≡ get_or starts (slot + 1) 0 = c.index-2.ensures ∙ get_or_default_zero starts (slot + 1) c.index-2.result.now below in
    ap (λ (l : List Ready). slice_range l c.index.result.now c.index-2.result.now) c.deref.ensures.value
    ∙ ap (λ a. slice_range ready a c.index-2.result.now) first
    ∙ ap (λ b. slice_range ready (get_or starts slot 0) b) second
    ∙ sym (slot_there starts ready c.args.state slot some is)
