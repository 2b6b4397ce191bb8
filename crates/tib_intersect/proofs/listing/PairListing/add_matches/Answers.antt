use Rattle.std.proofs.Common.{◌≡◌, ℕ, List, ◌++◌, map, take, get_or, ◌∙◌, subst}
use Rattle.std.proofs.lemmas.List.{get_or_read, take_all}
use Rattle.tib_grammar.specs.Run.{no_rule, rule_at}
use Rattle.tib_intersect.specs.PairListing.{IsListed, Overruns}
use Rattle.tib_intersect.proofs.Listed.{place_below, rules_here, not_tried, tried_more, listed_next, overruns_next, root_of}
use Rattle.tib_intersect.proofs.listing.PairListing.add_matches.Goals as goal

pub returns-in-Err-clause-more : goal.returns-in-Err-clause-more
returns-in-Err-clause-more g c e ones order i tried stands fresh listed =
    let n = c.args.self.now.position in
    let ps = c.args.positions.now in
    let k = c.loop-position.position-index in
    let two = c.index-others-position.result in
    let below = place_below ones c.args.others.now order n i c.args.one.now ps k c.requires.positions c.requires.distinct c.loop-position-test.true in
    let is : two ≡ rule_at c.args.others.now (get_or ps k 0) = get_or_read c.args.others.now (get_or ps k 0) two below c.index-others-position.is no_rule in
    let are = rules_here ones c.args.others.now order n i c.args.one.now ps k c.requires.positions c.requires.distinct c.loop-position-test.true two is stands in
    let apart = not_tried ones c.args.others.now order n i c.args.one.now ps k c.requires.positions c.requires.distinct c.loop-position-test.true tried fresh in
    let root = root_of c.args.one.now c.requires.one in
    subst (Overruns g.S.Semiring.product ones c.args.others.now order n) c.loop-position.invariant.budget
    (overruns_next g.S.Semiring.product ones c.args.others.now order n i (get_or ps k 0) c.args.one.now two are (tried ++ map (λ j. (i, j)) (take k ps)) apart c.loop-position.self root.0 root.1
    (c.loop-position.invariant.listed ones order i tried stands fresh listed) (c.add_edge.ensures.more (c.in-Err.is ∙ e)))

pub loop-position-preserved : goal.loop-position-preserved
loop-position-preserved g c = record {
  within = c.in-Ok.ensures.within;
  position = c.add_edge.ensures.position ∙ c.loop-position.invariant.position;
  budget = c.add_edge.ensures.budget ∙ c.loop-position.invariant.budget;
  listed = λ ones order i tried stands fresh listed.
      let n = c.args.self.now.position in
      let ps = c.args.positions.now in
      let k = c.loop-position.position-index in
      let two = c.index-others-position.result in
      let below = place_below ones c.args.others.now order n i c.args.one.now ps k c.requires.positions c.requires.distinct c.loop-position-test.true in
      let is : two ≡ rule_at c.args.others.now (get_or ps k 0) = get_or_read c.args.others.now (get_or ps k 0) two below c.index-others-position.is no_rule in
      let are = rules_here ones c.args.others.now order n i c.args.one.now ps k c.requires.positions c.requires.distinct c.loop-position-test.true two is stands in
      let apart = not_tried ones c.args.others.now order n i c.args.one.now ps k c.requires.positions c.requires.distinct c.loop-position-test.true tried fresh in
      subst (λ (ts : List (ℕ × ℕ)). IsListed g.S.Semiring.product ones c.args.others.now order n ts c.add_edge.new.self)
      (tried_more ones c.args.others.now order n i c.args.one.now ps k c.requires.positions c.requires.distinct c.loop-position-test.true tried)
      (listed_next g.S.Semiring.product ones c.args.others.now order n i (get_or ps k 0) c.args.one.now two are (tried ++ map (λ j. (i, j)) (take k ps)) apart c.loop-position.self c.add_edge.new.self
      c.loop-position.invariant.position (c.loop-position.invariant.listed ones order i tried stands fresh listed) c.in-Ok.ensures.next);
}

pub returns-clause-listed : goal.returns-clause-listed
returns-clause-listed g c ones order i tried stands fresh listed =
    subst (λ xs. IsListed g.S.Semiring.product ones c.args.others.now order c.args.self.now.position (tried ++ map (λ j. (i, j)) xs) c.loop-position.self)
    (take_all c.loop-position.position-index c.args.positions.now c.loop-position-test.false)
    (c.loop-position.invariant.listed ones order i tried stands fresh listed)
