use Rattle.std.proofs.Common.{rules, [], map, IfOk, subst}
use Rattle.std.proofs.lemmas.Result.{IfOk-at_ok}
use Rattle.tib_hunt.specs.Divided.{AddsRules}
use Rattle.tib_hunt.proofs.Pieces.{piece_first, piece_second, pieces_placed}
use Rattle.tib_hunt.proofs.dividing.+halves.Goals as goal

pub of_back-returns : goal.of_back-returns
of_back-returns g t c =
    subst (λ l. IfOk c.place_halves.result (λ r. AddsRules g.E.Expand.reading (map (λ v. v.items) c.captures.positions.now.on_shelves.now) c.captures.positions.now.first c.captures.positions.now.moved.now l c.captures.back.items r.items)) c.new-none.ensures.items c.place_halves.ensures

pub returns-then-times-eq0 : goal.returns-then-times-eq0
returns-then-times-eq0 g t c =
    subst (λ l. AddsRules g.E.Expand.reading (map (λ v. v.items) c.args.positions.now.on_shelves.now) c.args.positions.now.first c.args.positions.now.moved.now l c.args.rows.items c.place_rows.new.rules.items) c.in_ok-reserve.ensures.items
    (c.in_ok-place_rows.ensures.read, c.in_ok-place_rows.ensures.below)

pub join-of_first-requires-after_bounds : goal.join-of_first-requires-after_bounds
join-of_first-requires-after_bounds g t c κs within =
    let front = piece_first g.E.Expand.reading (map (λ v. v.items) c.args.positions.now.on_shelves.now) c.args.positions.now.first c.args.positions.now.moved.now c.args.rows.items c.split_off.new.self.items _ c.in_ok-back.ensures.items c.requires in
    let back = piece_second g.E.Expand.reading (map (λ v. v.items) c.args.positions.now.on_shelves.now) c.args.positions.now.first c.args.positions.now.moved.now c.args.rows.items c.in_ok-back.back.items _ c.in_ok-back.ensures.tail c.requires in
    let front_on = front.0 in
    let front_below = front.1 in
    let back_on = back.0 in
    let back_below = back.1 in
    search (rules, front_on, front_below, back_on, back_below)

pub returns : goal.returns
returns g t c =
    subst (λ l. AddsRules g.E.Expand.reading (map (λ v. v.items) c.args.positions.now.on_shelves.now) c.args.positions.now.first c.args.positions.now.moved.now l c.args.rows.items c.append.new.self.items) c.in_ok-reserve.ensures.items
    (pieces_placed g.E.Expand.reading (map (λ v. v.items) c.args.positions.now.on_shelves.now) c.args.positions.now.first c.args.positions.now.moved.now c.args.rows.items c.split_off.new.self.items c.in_ok-back.back.items _ c.in_ok-back.ensures.items c.in_ok-back.ensures.tail
    c.reserve.new.self.items c.in_ok-all.all.items c.in_ok-more.more.items c.append.new.self.items c.in_ok-append.ensures.items
    (IfOk-at_ok (λ v. AddsRules g.E.Expand.reading (map (λ w. w.items) c.args.positions.now.on_shelves.now) c.args.positions.now.first c.args.positions.now.moved.now c.reserve.new.self.items c.split_off.new.self.items v.items) c.in_ok-all.was c.join-of_first.ensures.first)
    (IfOk-at_ok (λ v. AddsRules g.E.Expand.reading (map (λ w. w.items) c.args.positions.now.on_shelves.now) c.args.positions.now.first c.args.positions.now.moved.now [] c.in_ok-back.back.items v.items) c.in_ok-more.was c.join-of_first.ensures.second))
