use Rattle.std.proofs.Common.{◌≡◌, ◌<◌, ℕ, List, ◌+◌, take, get_or, length, ap, sym, ◌∙◌, subst}
use Rattle.tib_grammar.specs.declared.Rule.{Rule}
use Rattle.std.proofs.Common.{Err}
use Rattle.std.specs.declared.result.Result.{Result}
use Rattle.tib_expand.specs.declared.place.ExpandError.{ExpandError}
use Rattle.tib_grammar.specs.GrammarOf.{GrammarOf}
use Rattle.tib_grammar.specs.Forms.{AreNormal}
use Rattle.tib_key_edges.specs.Places.{positions_with}
use Rattle.tib_intersect.specs.Matching.{has_shape}
use Rattle.tib_key_edges.specs.Ends.{key_at as pair_at}
use Rattle.tib_intersect.specs.declared.listing.PairListing.{PairListing}
use Rattle.tib_intersect.specs.PairListing.{Overruns}
use Rattle.tib_intersect.proofs.Matches.{AreListedFor, positions_of, rule_in, rule_normal, matches_fit, matches_distinct, stands_here, fresh_here, listed_here, listed_all}
use Rattle.tib_intersect.proofs.pairs.Pairs.list_edges.Goals as goal

same_fault : (f : ExpandError) → ◌≡◌ {A = Result PairListing ExpandError} (Err f) (Err ExpandError.More) → ◌≡◌ {A = Result (Unit {0}) ExpandError} (Err f) (Err ExpandError.More)
same_fault f e = let same : f ≡ ExpandError.More = cc e in ap Err same

pub root-label-requires : goal.root-label-requires
root-label-requires g c =
    rule_normal c.args.pair.0 c.args.self.now.left.now.rules c.loop-one.one-index c.one-item.result c.grammar.ensures.normal.normal
    (rule_in c.args.pair.0 c.args.self.now.left.now.rules c.loop-one.one-index c.first.result c.one-item.result c.rules_of-one-items.result.now c.rules_of-one-items.ensures c.first.ensures c.loop-one-test.true c.one-item.is)

pub add_matches-requires-clause-one : goal.add_matches-requires-clause-one
add_matches-requires-clause-one g c =
    rule_normal c.args.pair.0 c.args.self.now.left.now.rules c.loop-one.one-index c.one-item.result c.grammar.ensures.normal.normal
    (rule_in c.args.pair.0 c.args.self.now.left.now.rules c.loop-one.one-index c.first.result c.one-item.result c.rules_of-one-items.result.now c.rules_of-one-items.ensures c.first.ensures c.loop-one-test.true c.one-item.is)

pub add_matches-requires-clause-positions : goal.add_matches-requires-clause-positions
add_matches-requires-clause-positions g c =
    let ones = c.args.self.now.left.now.rules in
    let twos = c.args.self.now.right.now.rules in
    let others = c.rule_list-others.result.now in
    let key = c.args.pair in
    let one = c.one-item.result in
    let matches = c.find-matches.result.now in
    let o : others ≡ twos = c.rule_list-others.ensures ∙ ap (λ (n : GrammarOf). n.rules) c.grammar-2.ensures.same in
    let rule = rule_in key.0 ones c.loop-one.one-index c.first.result one c.rules_of-one-items.result.now c.rules_of-one-items.ensures c.first.ensures c.loop-one-test.true c.one-item.is in
    let normal = rule_normal key.0 ones c.loop-one.one-index one c.grammar.ensures.normal.normal rule in
    let others_normal : AreNormal others = subst AreNormal (sym o) c.grammar-2.ensures.normal.normal in
    let are : matches ≡ positions_with has_shape (c.second.result, c.root-label.result.0, c.root-label.result.1) others =
    c.find-matches.ensures ∙ c.args.self.now.indexed (c.second.result, c.root-label.result.0, c.root-label.result.1) ∙ ap (λ (rs : List (Rule ℕ)). positions_with has_shape (c.second.result, c.root-label.result.0, c.root-label.result.1) rs) (sym o) in
    matches_fit others matches c.second.result c.root-label.result.0 c.root-label.result.1 one others_normal normal c.root-label.ensures.label c.root-label.ensures.rank are

pub add_matches-requires-clause-distinct : goal.add_matches-requires-clause-distinct
add_matches-requires-clause-distinct g c =
    let are = c.find-matches.ensures ∙ c.args.self.now.indexed (c.second.result, c.root-label.result.0, c.root-label.result.1) in
    matches_distinct c.args.self.now.right.now.rules c.find-matches.result.now c.second.result c.root-label.result.0 c.root-label.result.1 are

pub returns-in-Err-clause-more : goal.returns-in-Err-clause-more
returns-in-Err-clause-more g c e order within at =
    let ones = c.args.self.now.left.now.rules in
    let twos = c.args.self.now.right.now.rules in
    let others = c.rule_list-others.result.now in
    let key = c.args.pair in
    let one = c.one-item.result in
    let matches = c.find-matches.result.now in
    let o : others ≡ twos = c.rule_list-others.ensures ∙ ap (λ (n : GrammarOf). n.rules) c.grammar-2.ensures.same in
    let rule = rule_in key.0 ones c.loop-one.one-index c.first.result one c.rules_of-one-items.result.now c.rules_of-one-items.ensures c.first.ensures c.loop-one-test.true c.one-item.is in
    let normal = rule_normal key.0 ones c.loop-one.one-index one c.grammar.ensures.normal.normal rule in
    let others_normal : AreNormal others = subst AreNormal (sym o) c.grammar-2.ensures.normal.normal in
    let are : matches ≡ positions_with has_shape (c.second.result, c.root-label.result.0, c.root-label.result.1) others =
    c.find-matches.ensures ∙ c.args.self.now.indexed (c.second.result, c.root-label.result.0, c.root-label.result.1) ∙ ap (λ (rs : List (Rule ℕ)). positions_with has_shape (c.second.result, c.root-label.result.0, c.root-label.result.1) rs) (sym o) in
    let m = c.loop-one.one-index in
    let n = c.loop-one.listing.position in
    let same : n ≡ c.args.position = c.loop-one.invariant.position in
    let inside : n < length order = subst (λ j. j < length order) (sym same) within in
    let there : pair_at order n ≡ key = ap (pair_at order) same ∙ at in
    let before : AreListedFor g.S.Semiring.product ones others order n (take m (positions_of key.0 ones)) c.loop-one.listing =
    subst (λ rs. AreListedFor g.S.Semiring.product ones rs order n (take m (positions_of key.0 ones)) c.loop-one.listing) (sym o)
    (subst (λ j. AreListedFor g.S.Semiring.product ones twos order j (take m (positions_of key.0 ones)) c.loop-one.listing) (sym same) (c.loop-one.invariant.listed order within at)) in
    let stands = stands_here g.S.Semiring.product ones others order n m key one matches c.second.result c.root-label.result.0 c.root-label.result.1 rule normal others_normal c.root-label.ensures.label c.root-label.ensures.rank c.second.ensures are inside there in
    let fresh = fresh_here g.S.Semiring.product ones others order n m key one matches c.second.result c.root-label.result.0 c.root-label.result.1 rule normal others_normal c.root-label.ensures.label c.root-label.ensures.rank c.second.ensures are inside there c.loop-one.listing before in
    let over = c.add_matches.ensures.more (c.in-Err.is ∙ same_fault c.in-Err.fault e) ones order (get_or (positions_of key.0 ones) m 0) before.tried stands fresh before.listed in
    subst (Overruns g.S.Semiring.product ones twos order c.args.position) c.loop-one.invariant.budget
    (subst (λ j. Overruns g.S.Semiring.product ones twos order j c.loop-one.listing.budget) same
    (subst (λ rs. Overruns g.S.Semiring.product ones rs order n c.loop-one.listing.budget) o over))

pub loop-one-preserved : goal.loop-one-preserved
loop-one-preserved g c = record {
  within = c.in-Ok.ensures.within;
  position = c.add_matches.ensures.position ∙ c.loop-one.invariant.position;
  budget = c.add_matches.ensures.budget ∙ c.loop-one.invariant.budget;
  listed = λ order within at.
      let ones = c.args.self.now.left.now.rules in
      let twos = c.args.self.now.right.now.rules in
      let others = c.rule_list-others.result.now in
      let key = c.args.pair in
      let one = c.one-item.result in
      let matches = c.find-matches.result.now in
      let o : others ≡ twos = c.rule_list-others.ensures ∙ ap (λ (n : GrammarOf). n.rules) c.grammar-2.ensures.same in
      let rule = rule_in key.0 ones c.loop-one.one-index c.first.result one c.rules_of-one-items.result.now c.rules_of-one-items.ensures c.first.ensures c.loop-one-test.true c.one-item.is in
      let normal = rule_normal key.0 ones c.loop-one.one-index one c.grammar.ensures.normal.normal rule in
      let others_normal : AreNormal others = subst AreNormal (sym o) c.grammar-2.ensures.normal.normal in
      let are : matches ≡ positions_with has_shape (c.second.result, c.root-label.result.0, c.root-label.result.1) others =
      c.find-matches.ensures ∙ c.args.self.now.indexed (c.second.result, c.root-label.result.0, c.root-label.result.1) ∙ ap (λ (rs : List (Rule ℕ)). positions_with has_shape (c.second.result, c.root-label.result.0, c.root-label.result.1) rs) (sym o) in
      let m = c.loop-one.one-index in
      let n = c.loop-one.listing.position in
      let same : n ≡ c.args.position = c.loop-one.invariant.position in
      let inside : n < length order = subst (λ j. j < length order) (sym same) within in
      let there : pair_at order n ≡ key = ap (pair_at order) same ∙ at in
      let before : AreListedFor g.S.Semiring.product ones others order n (take m (positions_of key.0 ones)) c.loop-one.listing =
      subst (λ rs. AreListedFor g.S.Semiring.product ones rs order n (take m (positions_of key.0 ones)) c.loop-one.listing) (sym o)
      (subst (λ j. AreListedFor g.S.Semiring.product ones twos order j (take m (positions_of key.0 ones)) c.loop-one.listing) (sym same) (c.loop-one.invariant.listed order within at)) in
      let stands = stands_here g.S.Semiring.product ones others order n m key one matches c.second.result c.root-label.result.0 c.root-label.result.1 rule normal others_normal c.root-label.ensures.label c.root-label.ensures.rank c.second.ensures are inside there in
      let fresh = fresh_here g.S.Semiring.product ones others order n m key one matches c.second.result c.root-label.result.0 c.root-label.result.1 rule normal others_normal c.root-label.ensures.label c.root-label.ensures.rank c.second.ensures are inside there c.loop-one.listing before in
      let listed = c.in-Ok.ensures.listed ones order (get_or (positions_of key.0 ones) m 0) before.tried stands fresh before.listed in
      subst (λ j. AreListedFor g.S.Semiring.product ones twos order j (take (m + 1) (positions_of key.0 ones)) c.add_matches.new.self) same
      (subst (λ rs. AreListedFor g.S.Semiring.product ones rs order n (take (m + 1) (positions_of key.0 ones)) c.add_matches.new.self) o
      (listed_here g.S.Semiring.product ones others order n m key one matches c.second.result c.root-label.result.0 c.root-label.result.1 rule normal others_normal c.root-label.ensures.label c.root-label.ensures.rank c.second.ensures are inside there c.loop-one.listing c.add_matches.new.self before listed));
}

pub returns-clause-listed : goal.returns-clause-listed
returns-clause-listed g c order within at =
    listed_all g.S.Semiring.product c.args.self.now.left.now.rules c.args.self.now.right.now.rules order c.args.position c.loop-one.one-index c.first.result c.args.pair c.loop-one.listing
    c.rules_of-one-items.result.now c.rules_of-one-items.ensures c.first.ensures c.loop-one-test.false at (c.loop-one.invariant.listed order within at)
