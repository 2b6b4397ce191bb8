use Rattle.std.proofs.Common.{◌+◌, ◌∙◌, min, length, map, take, ap, sym}
use Rattle.tib_table.specs.Numbered.{all_on}
use Rattle.tib_table.proofs.Placed.{keys_more, capped}
use Rattle.tib_table.proofs.fresh.count_keys.Goals as goal

pub loop-shelf-preserved : goal.loop-shelf-preserved
loop-shelf-preserved g c =
    let m = keys_more (λ v. v.items) c.args.shelves.now c.loop-shelf.shelf-index c.shelf-item.result c.loop-shelf-test.true c.shelf-item.is in
    capped (length (all_on (map (λ v. v.items) (take c.loop-shelf.shelf-index c.args.shelves.now)))) (length c.shelf-item.result.items) c.loop-shelf.count c.saturating_add-count.result 18446744073709551615 c.loop-shelf.invariant
    (c.saturating_add-count.ensures ∙ ap (λ n. min (c.loop-shelf.count + n) 18446744073709551615) (c.len.ensures ∙ c.shelf-item.result.ok.0)) ∙ ap (λ n. min n 18446744073709551615) (sym m)
