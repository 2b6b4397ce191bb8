use Rattle.std.proofs.Common.{◌++◌, ◌∷◌, [], arith, ap, refl, length, sym, ◌∙◌}
use Rattle.std.specs.Global.{Vec}
use Rattle.tib_compose.specs.declared.placed_rule.PlacedRule.{PlacedRule}
use Rattle.std.proofs.lemmas.List.{length-append}
use Rattle.tib_compose.specs.CompositionListing.{keys_in, placed}
use Rattle.tib_compose.proofs.Listed.{items_size, few_ends, listing_added, listing_overruns}
use Rattle.tib_compose.proofs.listing.CompositionListing.add.Goals as goal

pub returns-then-parts-self-clause-more : goal.returns-then-parts-self-clause-more
returns-then-parts-self-clause-more c = λ _.
    let r = c.in-Ok.ensures.rule in
    record {
      side = c.in-Ok.rule.right;
      right = r.right;
      more = omega (arith, c.if-parts-self.true, r.parts, r.budget, items_size c.items.result.now c.args.left.now c.items.ensures.items, items_size c.items-2.result.now c.in-Ok.rule.right c.items-2.ensures.items);
    }

pub returns-clause-added : goal.returns-clause-added
returns-clause-added c =
    let r = c.in-Ok.ensures.rule in
    record {
      rule = c.in-Ok.rule;
      state = r.state;
      same = r.same;
      right = r.right;
      costs = r.costs;
      ends = r.ends;
      rules = c.in-Ok-push.ensures.items ∙ ap (λ (v : Vec PlacedRule). v.items ++ c.in-Ok.rule ∷ []) r.rules;
      parts = omega (arith, r.parts, items_size c.items.result.now c.args.left.now c.items.ensures.items, items_size c.items-2.result.now c.in-Ok.rule.right c.items-2.ensures.items);
      position = r.position;
      budget = r.budget;
    }

pub returns-clause-within : goal.returns-clause-within
returns-clause-within c =
    let r = c.in-Ok.ensures.rule in
    record {
      few = omega (
        arith,
        ap length r.ends,
        c.requires.within.few,
        length-append c.args.self.now.ends.items (keys_in c.args.done.now),
        few_ends c.args.done.now (length c.args.self.now.ends.items) c.in-Ok.rule.right r.right,
        r.parts,
        items_size c.items-2.result.now c.in-Ok.rule.right c.items-2.ensures.items,
      );
      within = c.if-parts-self.false;
      budget = omega (arith, r.budget, c.requires.within.budget);
    }
