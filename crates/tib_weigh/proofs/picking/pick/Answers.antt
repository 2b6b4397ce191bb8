use Rattle.std.proofs.Common.{arith, ◌≡◌, ◌∙◌, ◌∷◌, ◌++◌, ◌<◌, ◌≤◌, List, [], ap, sym, length, length-set, take, slice_set}
use Rattle.std.proofs.lemmas.List.{take_more_set, take-set}
use Rattle.tib_weigh.specs.declared.vector.Entry.{Entry}
use Rattle.tib_weigh.specs.declared.table.Table.{Table}
use Rattle.tib_weigh.specs.Picks.{picks}
use Rattle.tib_weigh.proofs.Picks.{pick_more, pick_none}
use Rattle.tib_weigh.proofs.Tries.{taken}
use Rattle.tib_weigh.proofs.picking.pick.Goals.{then-has, else-has}
use Rattle.tib_weigh.proofs.picking.pick.Goals as goal

pub loop-entry-preserved : goal.loop-entry-preserved
loop-entry-preserved c =
    let table : Table = c.args.table.now in
    let vector : List Entry = c.args.vector.now in
    let i = c.loop-entry.entry-index in
    let many = c.loop-entry.many in
    let before : List Entry = c.loop-entry.picked.items in
    let entry : Entry = c.entry-item.result in
    let was = c.loop-entry.invariant in
    let room : many < length before = omega (arith, was.few, was.long, c.loop-entry-test.true) in
    let long : length vector ≤ length (slice_set before many entry) = omega (arith, was.long, length-set before many entry) in
    elim c.if-has.branch [
      | then-has w ↦
          let front : take c.if-has.many (slice_set before many entry) ≡ take many before ++ entry ∷ [] =
          ap (λ n. take n (slice_set before many entry)) w.many-is ∙ take_more_set before many entry room in
          record {
            few = omega (arith, w.many-is, was.few);
            long = long;
            picked = taken (λ es. take c.if-has.many (slice_set before many entry) ≡ picks table es) vector i entry c.loop-entry-test.true c.entry-item.is
                (front ∙ pick_more table (take i vector) (take many before) entry (sym c.has.ensures ∙ w.if-has.true) was.picked);
          }
      | else-has w ↦
          let front : take c.if-has.many (slice_set before many entry) ≡ take many before =
          ap (λ n. take n (slice_set before many entry)) w.many-is ∙ take-set before many entry in
          record {
            few = omega (arith, w.many-is, was.few);
            long = long;
            picked = taken (λ es. take c.if-has.many (slice_set before many entry) ≡ picks table es) vector i entry c.loop-entry-test.true c.entry-item.is
                (front ∙ pick_none table (take i vector) (take many before) entry (sym c.has.ensures ∙ w.if-has.false) was.picked);
          }
    ]
