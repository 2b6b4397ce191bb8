use Rattle.std.proofs.Common.{arith, ◌≡◌, ◌∙◌, ◌+◌, ◌∷◌, ◌++◌, ◌<◌, List, [], ap, sym, subst, length, take}
use Rattle.std.specs.Global.{Vec}
use Rattle.std.proofs.lemmas.List.{take_more, get_or-map, length-map}
use Rattle.tib_weigh.specs.declared.ready.Ready.{Ready}
use Rattle.tib_weigh.specs.Buckets.{lists_of, IsParting}
use Rattle.tib_weigh.proofs.Flat.{FlatMore, flat_more}
use Rattle.tib_weigh.proofs.slots.flattened.Goals as goal

pub loop-list-preserved : goal.loop-list-preserved
loop-list-preserved c =
    let i = c.loop-list.list-index in
    let lists : List (Vec Ready) = c.args.lists.now in
    let list : Vec Ready = c.list-item.result in
    let below : i < length lists = c.loop-list-test.true in
    let made : take i (lists_of lists) ++ list.items ∷ [] ≡ take (i + 1) (lists_of lists) =
    sym (take_more (lists_of lists) i [] (omega (arith, below, length-map lists (λ (v : Vec Ready). v.items)))
    ∙ ap (λ (l : List Ready). take i (lists_of lists) ++ l ∷ []) (get_or-map (λ (v : Vec Ready). v.items) lists i list [] below ∙ ap (λ (v : Vec Ready). v.items) (sym c.list-item.is))) in
    let more = c.in_ok-extend_from_slice.ensures.items ∙ ap (λ (l : List Ready). c.loop-list.ready.items ++ l) c.deref.ensures.value in
    let pushed = c.in_ok-push.ensures.items ∙ ap (λ n. c.loop-list.starts.items ++ n ∷ []) (c.len.ensures ∙ c.extend_from_slice.new.self.ok.0) in
    record {
      flat = subst (λ (ls : List (List Ready)). FlatMore c.push.new.self.items c.extend_from_slice.new.self.items ls (i + 1)) made
          (flat_more c.loop-list.starts.items c.loop-list.ready.items list.items (take i (lists_of lists)) i c.push.new.self.items c.extend_from_slice.new.self.items c.loop-list.invariant.flat more pushed);
    }

pub invariant_of-result : goal.invariant_of-result
invariant_of-result c = record {
  some = omega (arith, c.loop-list.starts.ok.0, c.loop-list.invariant.flat.long, c.loop-list-test.false, c.requires.some);
  parting = subst (λ n. IsParting c.loop-list.starts.items n) (sym c.loop-list.ready.ok.0) c.loop-list.invariant.flat.parting;
}
