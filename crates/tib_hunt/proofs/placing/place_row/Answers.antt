use Rattle.std.proofs.Common.{◌∙◌, map, sym, ap, subst}
use Rattle.std.proofs.lemmas.Result.{on_ok_weaker}
use Rattle.tib_lex.specs.Lists.{Each}
use Rattle.tib_expand.specs.EdgeLists.{IsWithin}
use Rattle.tib_hunt.specs.Known.{end_positions}
use Rattle.tib_hunt.specs.Numbered.{moved_to}
use Rattle.tib_hunt.specs.Rows.{Settles}
use Rattle.tib_hunt.specs.Shelved.{placed_row}
use Rattle.tib_hunt.proofs.Settling.{row_settled, still_within}
use Rattle.tib_hunt.proofs.placing.place_row.Goals as goal

pub settle_rules-requires : goal.settle_rules-requires
settle_rules-requires g c =
    let same = c.deref-3.ensures.value ∙ c.in_ok-place_all.ensures ∙ ap (λ l. map (moved_to c.args.positions.now.first c.args.positions.now.moved.now) (end_positions (map (λ v. v.items) c.args.positions.now.on_shelves.now) c.args.row.now.rules.at l)) c.deref.ensures.value in
    (c.args.positions.now.first, subst (Each (λ rule. Each (IsWithin c.args.positions.now.first _) (g.E.Expand.reading.places rule))) (sym c.deref-2.ensures.value) (still_within g.E.Expand.reading.places c.args.positions.now.first _ c.args.positions.now.moved.now (placed_row (map (λ v. v.items) c.args.positions.now.on_shelves.now) c.args.row.now) c.requires.below c.deref-3.result.now same))

pub returns-clause-read : goal.returns-clause-read
returns-clause-read g c =
    let same = c.deref-3.ensures.value ∙ c.in_ok-place_all.ensures ∙ ap (λ l. map (moved_to c.args.positions.now.first c.args.positions.now.moved.now) (end_positions (map (λ v. v.items) c.args.positions.now.on_shelves.now) c.args.row.now.rules.at l)) c.deref.ensures.value in
    on_ok_weaker c.settle_rules.result (λ s. (row_settled g.E.Expand.reading c.args.positions.now.first c.args.positions.now.moved.now (g.met.E.Expand.lawful c.args.problem.now).reads_places (placed_row (map (λ v. v.items) c.args.positions.now.on_shelves.now) c.args.row.now) c.requires.below c.deref-3.result.now same c.args.rules.now.items c.settle_rules.new.rules.items
    (subst (λ l. Settles g.E.Expand.reading c.deref-3.result.now c.args.rules.now.items l c.settle_rules.new.rules.items) c.deref-2.ensures.value s)).read) c.settle_rules.ensures

pub returns-clause-below : goal.returns-clause-below
returns-clause-below g c =
    let same = c.deref-3.ensures.value ∙ c.in_ok-place_all.ensures ∙ ap (λ l. map (moved_to c.args.positions.now.first c.args.positions.now.moved.now) (end_positions (map (λ v. v.items) c.args.positions.now.on_shelves.now) c.args.row.now.rules.at l)) c.deref.ensures.value in
    on_ok_weaker c.settle_rules.result (λ s. (row_settled g.E.Expand.reading c.args.positions.now.first c.args.positions.now.moved.now (g.met.E.Expand.lawful c.args.problem.now).reads_places (placed_row (map (λ v. v.items) c.args.positions.now.on_shelves.now) c.args.row.now) c.requires.below c.deref-3.result.now same c.args.rules.now.items c.settle_rules.new.rules.items
    (subst (λ l. Settles g.E.Expand.reading c.deref-3.result.now c.args.rules.now.items l c.settle_rules.new.rules.items) c.deref-2.ensures.value s)).below) c.settle_rules.ensures
