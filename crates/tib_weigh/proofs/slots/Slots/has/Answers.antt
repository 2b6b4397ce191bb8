use Rattle.std.proofs.Common.{arith, ◌≡◌, ◌∙◌, ◌+◌, ◌-◌, ◌%◌, ◌<◌, ℕ, List, ap, sym, subst, length, get_or}
use Rattle.std.proofs.lemmas.Bool.{ltb-true, lt-ltb, ltb_from_iff}
use Rattle.std.proofs.lemmas.Grind.{get_or_default_zero}
use Rattle.tib_weigh.specs.declared.ready.Ready.{Ready}
use Rattle.tib_weigh.proofs.Flat.{slot_below, slot_there, slice_some, some_slice}
use Rattle.tib_weigh.proofs.slots.Slots.has.Goals as goal

pub returns : goal.returns
returns c =
    let starts : List ℕ = c.args.self.now.starts.items in
    let ready : List Ready = c.args.self.now.ready.items in
    let slot : ℕ = c.slot_of-slot.result in
    let some : 1 < length starts = omega (arith, c.args.self.now.starts.ok.0, c.args.self.now.some) in
    let is : slot ≡ c.args.state % (length starts - 1) = c.slot_of-slot.ensures ∙ ap (λ n. c.args.state % (n - 1)) (c.len.ensures ∙ c.args.self.now.starts.ok.0) in
    let below : slot + 1 < length starts = slot_below starts c.args.state slot some is in
    let first : c.index.result.now ≡ get_or starts slot 0 = c.index.ensures ∙ get_or_default_zero starts slot c.index.result.now (omega (arith, below)) in
    let second : c.index-2.result.now ≡ get_or starts (slot + 1) 0 = c.index-2.ensures ∙ get_or_default_zero starts (slot + 1) c.index-2.result.now below in
    let there = slot_there starts ready c.args.state slot some is in
    ltb_from_iff (
      λ full. subst (λ (l : List Ready). 0 < length l) (sym there)
          (slice_some ready (get_or starts slot 0) (get_or starts (slot + 1) 0) (omega (arith, ltb-true c.index.result.now c.index-2.result.now full, first, second))
          (omega (arith, c.args.self.now.parting.within (slot + 1) below, c.args.self.now.ready.ok.0))),
      λ long. lt-ltb c.index.result.now c.index-2.result.now
          (omega (arith, some_slice ready (get_or starts slot 0) (get_or starts (slot + 1) 0) (subst (λ (l : List Ready). 0 < length l) there long), first, second)),
    )
