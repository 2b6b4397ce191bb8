use Rattle.std.proofs.Common.{arith, ap, sym, ◌∙◌, drop, length, ◌-◌, get_or, refl}
use Rattle.std.specs.Prelude.{Some}
use Rattle.std.proofs.lemmas.List.{drop_all}
use Rattle.tib_grammar.specs.Items.{holes_in}
use Rattle.tib_grammar.specs.declared.Item.TheVariants.{Label}
use Rattle.tib_inside.specs.Inside.{total}
use Rattle.tib_inside.specs.Settling.{costs_in}
use Rattle.tib_inside.proofs.Totals.{items_below, below_from}
use Rattle.tib_prune.specs.Telling.{rests_of}
use Rattle.tib_prune.proofs.Told.{same_from}
use Rattle.tib_trim.proofs.ToldItems.{total_from}
use Rattle.tib_trim.proofs.telling.list_rests.Goals as goal

pub loop-n-init : goal.loop-n-init
loop-n-init g c = record {
  within = omega arith;
  rest = ap Some c.one.ensures ∙ ap (λ xs. total g.S.Semiring.product (costs_in c.args.costs.now) (holes_in xs)) (sym (drop_all (length c.args.items.now) c.args.items.now (omega arith)));
  rests = c.clear.ensures.items ∙ ap (λ xs. rests_of g.S.Semiring.product (costs_in c.args.costs.now) (holes_in xs)) (sym (drop_all (length c.args.items.now) c.args.items.now (omega arith)));
}

pub list_rest-requires : goal.list_rest-requires
list_rest-requires g c =
    items_below (length c.args.costs.now) c.args.items.now (c.loop-n.n - 1) (get_or c.args.items.now (c.loop-n.n - 1) (Label 0 0)) (omega (arith, c.loop-n.invariant.within, c.loop-n-test.true)) refl
    (below_from (length c.args.costs.now) c.args.items.now (c.loop-n.n - 1) c.requires)

pub loop-n-preserved : goal.loop-n-preserved
loop-n-preserved g c =
    let states = total_from c.args.items.now c.loop-n.n (c.loop-n.n - 1) (omega (arith, c.loop-n-test.true)) (omega (arith, c.loop-n.invariant.within, c.loop-n-test.true)) in
    let back = c.in_ok-rest.ensures (holes_in (drop c.loop-n.n c.args.items.now)) c.loop-n.invariant.rest c.loop-n.invariant.rests in
    record {
      within = omega (arith, c.loop-n.invariant.within);
      rest = back.whole ∙ ap (total g.S.Semiring.product (costs_in c.args.costs.now)) states;
      rests = back.listed ∙ ap (rests_of g.S.Semiring.product (costs_in c.args.costs.now)) states;
    }

pub returns : goal.returns
returns g c =
    c.loop-n.invariant.rests ∙ ap (λ n. rests_of g.S.Semiring.product (costs_in c.args.costs.now) (holes_in (drop n c.args.items.now))) (same_from c.loop-n.n c.loop-n-test.false)
