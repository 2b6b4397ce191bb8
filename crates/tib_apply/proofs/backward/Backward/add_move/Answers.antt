use Rattle.std.proofs.Common.{◌<◌, ◌∙◌, ◌++◌, ◌+◌, ◌/◌, ap, sym, subst, map, [], ℕ, List, length}
use Rattle.std.proofs.lemmas.List.{get_or_read, take_all}
use Rattle.tib_transducer.specs.Rules.{transducer_rule, no_rule}
use Rattle.tib_transducer.specs.Range.{IsShaped}
use Rattle.tib_transducer.specs.declared.TransducerRule.{TransducerRule}
use Rattle.tib_match.specs.Searching.{AreMatchesWhere, AreMoreWhere}
use Rattle.tib_apply.specs.Restrictions.{restricted_labels}
use Rattle.tib_apply.specs.Backward.{IsBackwardEdge}
use Rattle.tib_apply.specs.BackwardLists.{backward_edge, IsCheap}
use Rattle.tib_apply.specs.Listing.{IsListed, IsNext, IsTooMuch, Overruns}
use Rattle.tib_apply.proofs.BackwardEdges.{move_more, as_many, match_listed, match_overruns, fresh_for, move_listed, move_refused, alike_on}
use Rattle.tib_key_edges.proofs.MappedSides.{items_size}
use Rattle.tib_apply.proofs.MoreParts.{same_fault}
use Rattle.tib_apply.proofs.backward.Backward.add_move.Goals as goal

pub returns-then-not-admits-clause-listed : goal.returns-then-not-admits-clause-listed
returns-then-not-admits-clause-listed g c others apart listed =
    let moves = c.args.self.now.transducer.now.rules in
    let low = subst (λ (rs : List (TransducerRule ℕ)). c.args.position < length rs) (sym c.rule_list.ensures) c.requires.below in
    let at = get_or_read c.rule_list.result.now c.args.position c.index-rule_list-position.result low c.index-rule_list-position.is no_rule ∙ ap (λ (rs : List (TransducerRule ℕ)). transducer_rule rs c.args.position) c.rule_list.ensures in
    move_refused g.S.Semiring.product moves c.args.self.now.grammar.now.rules c.args.key others c.args.position c.index-rule_list-position.result c.args.list.now at (c.admits.ensures.no c.if-not-admits.true) listed

pub add_edge-requires-clause-shaped : goal.add_edge-requires-clause-shaped
add_edge-requires-clause-shaped g c =
    let low = subst (λ (rs : List (TransducerRule ℕ)). c.args.position < length rs) (sym c.rule_list.ensures) c.requires.below in
    let at = get_or_read c.rule_list.result.now c.args.position c.index-rule_list-position.result low c.index-rule_list-position.is no_rule ∙ ap (λ (rs : List (TransducerRule ℕ)). transducer_rule rs c.args.position) c.rule_list.ensures in
    subst (λ (r : TransducerRule ℕ). IsShaped r) (sym at) (c.is_sound.ensures.shaped c.args.position c.requires.below)

pub add_edge-requires-clause-as_many : goal.add_edge-requires-clause-as_many
add_edge-requires-clause-as_many g c =
    let product = g.S.Semiring.product in
    let moves = c.args.self.now.transducer.now.rules in
    let grammar = c.args.self.now.grammar.now.rules in
    let rule = c.index-rule_list-position.result in
    let ms = c.deref-one-items.result.now in
    let k = c.loop-one.one-index in
    let low = subst (λ (rs : List (TransducerRule ℕ)). c.args.position < length rs) (sym c.rule_list.ensures) c.requires.below in
    let at = get_or_read c.rule_list.result.now c.args.position rule low c.index-rule_list-position.is no_rule ∙ ap (λ (rs : List (TransducerRule ℕ)). transducer_rule rs c.args.position) c.rule_list.ensures in
    let matches : AreMatchesWhere product grammar rule.right c.args.key.1 (IsCheap product rule) ms =
    subst (λ (xs : List (List ℕ × ℕ)). AreMatchesWhere product grammar rule.right c.args.key.1 (IsCheap product rule) xs) (sym c.deref-one-items.ensures.value) c.in-Ok.ensures.found in
    let one = get_or_read ms k c.one-item.result c.loop-one-test.true c.one-item.is ([], 0) in
    ap (λ (m : List ℕ × ℕ). length m.0) one
    ∙ as_many product moves grammar c.args.key c.args.position rule c.requires.below at (ap (λ (r : TransducerRule ℕ). r.state) at ∙ c.requires.state) (c.admits.ensures.yes c.if-not-admits.false) ms matches k c.loop-one-test.true [] (λ ss h. h)

pub returns-in-Err-add_edge-clause-more : goal.returns-in-Err-add_edge-clause-more
returns-in-Err-add_edge-clause-more g c e others apart listed =
    let product = g.S.Semiring.product in
    let moves = c.args.self.now.transducer.now.rules in
    let grammar = c.args.self.now.grammar.now.rules in
    let rule = c.index-rule_list-position.result in
    let ms = c.deref-one-items.result.now in
    let k = c.loop-one.one-index in
    let low = subst (λ (rs : List (TransducerRule ℕ)). c.args.position < length rs) (sym c.rule_list.ensures) c.requires.below in
    let at = get_or_read c.rule_list.result.now c.args.position rule low c.index-rule_list-position.is no_rule ∙ ap (λ (rs : List (TransducerRule ℕ)). transducer_rule rs c.args.position) c.rule_list.ensures in
    let matches : AreMatchesWhere product grammar rule.right c.args.key.1 (IsCheap product rule) ms =
    subst (λ (xs : List (List ℕ × ℕ)). AreMatchesWhere product grammar rule.right c.args.key.1 (IsCheap product rule) xs) (sym c.deref-one-items.ensures.value) c.in-Ok.ensures.found in
    let one = get_or_read ms k c.one-item.result c.loop-one-test.true c.one-item.is ([], 0) in
    let fresh = fresh_for product moves grammar c.args.key others c.args.position c.args.list.now apart listed in
    let much = subst (λ (m : List ℕ × ℕ). IsTooMuch (backward_edge product (restricted_labels moves) c.args.key rule m) c.loop-one.list) one (c.add_edge.ensures.more (c.in-Err-add_edge.is ∙ e) c.args.key) in
    subst (Overruns (IsBackwardEdge product moves grammar c.args.key)) c.loop-one.invariant.alike.budget
    (match_overruns product moves grammar c.args.key c.args.position rule c.requires.below at (ap (λ (r : TransducerRule ℕ). r.state) at ∙ c.requires.state) (c.admits.ensures.yes c.if-not-admits.false) ms matches k c.loop-one-test.true
    listed.tried fresh c.loop-one.list (c.loop-one.invariant.listed listed.tried fresh listed.listed) much)

pub loop-one-preserved : goal.loop-one-preserved
loop-one-preserved g c =
    let product = g.S.Semiring.product in
    let moves = c.args.self.now.transducer.now.rules in
    let grammar = c.args.self.now.grammar.now.rules in
    let rule = c.index-rule_list-position.result in
    let ms = c.deref-one-items.result.now in
    let k = c.loop-one.one-index in
    let low = subst (λ (rs : List (TransducerRule ℕ)). c.args.position < length rs) (sym c.rule_list.ensures) c.requires.below in
    let at = get_or_read c.rule_list.result.now c.args.position rule low c.index-rule_list-position.is no_rule ∙ ap (λ (rs : List (TransducerRule ℕ)). transducer_rule rs c.args.position) c.rule_list.ensures in
    let matches : AreMatchesWhere product grammar rule.right c.args.key.1 (IsCheap product rule) ms =
    subst (λ (xs : List (List ℕ × ℕ)). AreMatchesWhere product grammar rule.right c.args.key.1 (IsCheap product rule) xs) (sym c.deref-one-items.ensures.value) c.in-Ok.ensures.found in
    let one = get_or_read ms k c.one-item.result c.loop-one-test.true c.one-item.is ([], 0) in
    let next = subst (λ (m : List ℕ × ℕ). IsNext c.args.key (backward_edge product (restricted_labels moves) c.args.key rule m) c.loop-one.list c.add_edge.new.list) one (c.in-Ok-add_edge.ensures.next c.args.key) in
    record {
      within = c.in-Ok-add_edge.ensures.within;
      alike = alike_on c.args.list.now c.loop-one.list c.add_edge.new.list c.loop-one.invariant.alike c.add_edge.ensures.alike;
      listed = λ tried fresh listed.
          match_listed product moves grammar c.args.key c.args.position rule c.requires.below at (ap (λ (r : TransducerRule ℕ). r.state) at ∙ c.requires.state) (c.admits.ensures.yes c.if-not-admits.false) ms matches k c.loop-one-test.true tried fresh
          c.loop-one.list c.add_edge.new.list c.add_edge.ensures.alike (c.loop-one.invariant.listed tried fresh listed) next;
    }

pub returns-clause-listed : goal.returns-clause-listed
returns-clause-listed g c others apart listed =
    let product = g.S.Semiring.product in
    let moves = c.args.self.now.transducer.now.rules in
    let grammar = c.args.self.now.grammar.now.rules in
    let rule = c.index-rule_list-position.result in
    let ms = c.deref-one-items.result.now in
    let low = subst (λ (rs : List (TransducerRule ℕ)). c.args.position < length rs) (sym c.rule_list.ensures) c.requires.below in
    let at = get_or_read c.rule_list.result.now c.args.position rule low c.index-rule_list-position.is no_rule ∙ ap (λ (rs : List (TransducerRule ℕ)). transducer_rule rs c.args.position) c.rule_list.ensures in
    let matches : AreMatchesWhere product grammar rule.right c.args.key.1 (IsCheap product rule) ms =
    subst (λ (xs : List (List ℕ × ℕ)). AreMatchesWhere product grammar rule.right c.args.key.1 (IsCheap product rule) xs) (sym c.deref-one-items.ensures.value) c.in-Ok.ensures.found in
    move_listed product moves grammar c.args.key others c.args.position rule ms c.args.list.now c.loop-one.list at matches listed
    (subst (λ (xs : List (List ℕ × ℕ)). IsListed (IsBackwardEdge product moves grammar c.args.key) c.args.key (listed.tried ++ map (λ m. (c.args.position, m.0)) xs) c.loop-one.list) (take_all c.loop-one.one-index ms c.loop-one-test.false)
    (c.loop-one.invariant.listed listed.tried (fresh_for product moves grammar c.args.key others c.args.position c.args.list.now apart listed) listed.listed))

pub returns-in-Err-clause-more : goal.returns-in-Err-clause-more
returns-in-Err-clause-more g c e others apart listed =
    let product = g.S.Semiring.product in
    let moves = c.args.self.now.transducer.now.rules in
    let grammar = c.args.self.now.grammar.now.rules in
    let rule = c.index-rule_list-position.result in
    let low = subst (λ (rs : List (TransducerRule ℕ)). c.args.position < length rs) (sym c.rule_list.ensures) c.requires.below in
    let at = get_or_read c.rule_list.result.now c.args.position rule low c.index-rule_list-position.is no_rule ∙ ap (λ (rs : List (TransducerRule ℕ)). transducer_rule rs c.args.position) c.rule_list.ensures in
    move_more product moves grammar c.args.key c.args.position rule c.args.list.now.budget c.requires.below at (ap (λ (r : TransducerRule ℕ). r.state) at ∙ c.requires.state) (c.admits.ensures.yes c.if-not-admits.false)
    (subst (λ k. AreMoreWhere product grammar rule.right c.args.key.1 (IsCheap product rule) (c.args.list.now.budget / (1 + k))) (items_size c.items.result.now rule.left c.items.ensures.items)
    (c.matches_of.ensures.more (c.in-Err.is ∙ same_fault c.in-Err.fault _ e)))
