use Rattle.std.proofs.Common.{ap, sym, ◌∙◌, inl, arith, length}
use Rattle.std.proofs.lemmas.List.{length-append}
use Rattle.tib_cost.proofs.Times.{cut-some}
use Rattle.tib_intersect.specs.PairListing.{pairs_of}
use Rattle.tib_intersect.proofs.Listed.{length-pairs, rules_are, pairs_are}
use Rattle.tib_grammar.proofs.Sides.{length-holes}
use Rattle.tib_intersect.proofs.listing.PairListing.add_edge.Goals as goal

pub returns-then-parts-self-clause-more : goal.returns-then-parts-self-clause-more
returns-then-parts-self-clause-more g c = λ _. record {
  within = (cut-some _ _ (sym c.times.ensures ∙ c.in-Some.is)).1;
  more = omega (arith, c.if-parts-self.true, c.root-label.ensures.rank, length-holes c.args.one.now.right.kids c.requires.one.are_holes);
}

pub returns-clause-next : goal.returns-clause-next
returns-clause-next g c =
    let rank = length-holes c.args.one.now.right.kids c.requires.one.are_holes in
    let product = cut-some _ _ (sym c.times.ensures ∙ c.in-Some.is) in
    inl (record {
      within = product.1;
      root = c.root-label.result.0;
      is_root = c.root-label.ensures.label;
      ends = pairs_are c.args.self.now.ends.items c.push_pairs.new.ends.items c.args.one.now c.args.two.now _ _ c.states_below.ensures.states c.states_below-2.ensures.states c.in-Ok.ensures;
      rules = c.in-Ok-push.ensures.items ∙ rules_are c.args.self.now.rules.items c.args.self.now.position c.root-label.result.0 (omega (arith, c.len-first_end.ensures, c.args.self.now.ends.ok.0)) (c.root-label.ensures.rank ∙ sym rank) (sym product.0);
      parts = omega (arith, c.root-label.ensures.rank, rank);
    })

pub returns-clause-within : goal.returns-clause-within
returns-clause-within g c =
    let rank = length-holes c.args.one.now.right.kids c.requires.one.are_holes in
    let ends = ap length (pairs_are c.args.self.now.ends.items c.push_pairs.new.ends.items c.args.one.now c.args.two.now _ _ c.states_below.ensures.states c.states_below-2.ensures.states c.in-Ok.ensures) in
    record {
      few = omega (arith, c.root-label.ensures.rank, rank, c.requires.within.few, ends, length-append c.args.self.now.ends.items (pairs_of c.args.one.now c.args.two.now), length-pairs c.args.one.now c.args.two.now c.requires.agree);
      within = omega (arith, c.if-parts-self.false);
      budget = c.requires.within.budget;
    }
