use Rattle.std.proofs.Common.{◌<◌, ◌+◌, ◌/◌, length, ap, sym, ◌∙◌, subst}
use Rattle.std.proofs.lemmas.List.{get_or_read}
use Rattle.tib_tree.specs.Trees.{size}
use Rattle.tib_match.specs.Searching.{AreMoreWhere}
use Rattle.tib_transducer.specs.Rules.{no_rule, transducer_rule}
use Rattle.tib_apply.specs.Restrictions.{Admits}
use Rattle.tib_key_edges.specs.Listing.{Overruns}
use Rattle.tib_apply.specs.KeyGrammars.{key_at}
use Rattle.tib_apply.specs.TableEdges.{IsTableEdge}
use Rattle.tib_apply.specs.ForwardLists.{IsAffordable}
use Rattle.tib_key_edges.proofs.MappedSides.{items_size}
use Rattle.tib_apply.proofs.MoreParts.{same_fault}
use Rattle.tib_apply.proofs.ForwardEdges.{rule_more, rule_here, match_here, matches_here, rule_refused, rule_next, rule_overruns, rule_whole}
use Rattle.tib_apply.proofs.forward.Forward.list_rule.Goals as goal

pub returns-then-not-admits-clause-listed : goal.returns-then-not-admits-clause-listed
returns-then-not-admits-clause-listed g c = λ order within at tried fresh listed.
    let moves = c.args.self.now.transducer.now.rules in
    let m = c.args.position in
    let below = subst (λ rs. m < length rs) (sym c.rule_list.ensures) c.requires.below in
    let is = rule_here c.rule_list.result.now moves m c.index-rule_list-position.result c.rule_list.ensures (get_or_read c.rule_list.result.now m c.index-rule_list-position.result below c.index-rule_list-position.is no_rule) in
    rule_refused g.S.Semiring.product c.args.self.now.grammar.now.rules moves c.args.self.now.runs c.args.key m order tried c.args.listing.now
    (λ root e a. c.admits.ensures.no c.if-not-admits.true root (ap (λ x. x.left.label) is ∙ e) (subst (λ ls. Admits ls c.args.key.2 root) (sym c.args.self.now.restricted) a)) listed

pub list_match-requires-clause-at : goal.list_match-requires-clause-at
list_match-requires-clause-at g c =
    let moves = c.args.self.now.transducer.now.rules in
    let m = c.args.position in
    let below = subst (λ rs. m < length rs) (sym c.rule_list.ensures) c.requires.below in
    let is = rule_here c.rule_list.result.now moves m c.index-rule_list-position.result c.rule_list.ensures (get_or_read c.rule_list.result.now m c.index-rule_list-position.result below c.index-rule_list-position.is no_rule) in
    let y = c.admits.ensures.yes c.if-not-admits.false in
    let ms = c.deref-found-items.result.now in
    let are = matches_here g.S.Semiring.product c.args.self.now.grammar.now.rules moves c.args.self.now.runs m c.args.key.0 ms c.in-Ok.all.items c.deref-found-items.ensures.value c.in-Ok.ensures.found in
    let here = get_or_read ms c.loop-found.found-index c.found-item.result c.loop-found-test.true c.found-item.is c.found-item.result in
    record {
      below = c.requires.below;
      state = c.requires.state;
      root = y.0;
      is_root = ap (λ x. x.left.label) (sym is) ∙ y.1;
      admitted = subst (λ ls. Admits ls c.args.key.2 y.0) c.args.self.now.restricted y.2;
      is_match = match_here g.S.Semiring.product c.args.self.now.grammar.now.rules moves c.args.self.now.runs m c.args.key.0 ms c.loop-found.found-index c.found-item.result are c.loop-found-test.true here;
    }

pub returns-in-Err-list_match-clause-more : goal.returns-in-Err-list_match-clause-more
returns-in-Err-list_match-clause-more g c = λ e order within at tried fresh listed.
    let moves = c.args.self.now.transducer.now.rules in
    let m = c.args.position in
    let below = subst (λ rs. m < length rs) (sym c.rule_list.ensures) c.requires.below in
    let is = rule_here c.rule_list.result.now moves m c.index-rule_list-position.result c.rule_list.ensures (get_or_read c.rule_list.result.now m c.index-rule_list-position.result below c.index-rule_list-position.is no_rule) in
    let ms = c.deref-found-items.result.now in
    let are = matches_here g.S.Semiring.product c.args.self.now.grammar.now.rules moves c.args.self.now.runs m c.args.key.0 ms c.in-Ok.all.items c.deref-found-items.ensures.value c.in-Ok.ensures.found in
    let here = get_or_read ms c.loop-found.found-index c.found-item.result c.loop-found-test.true c.found-item.is c.found-item.result in
    let Gives = IsTableEdge g.S.Semiring.product c.args.self.now.grammar.now.rules moves c.args.self.now.runs c.args.key in
    let place = c.loop-found.invariant.position in
    subst (Overruns Gives) c.loop-found.invariant.budget
    (rule_overruns m Gives c.args.key ms c.loop-found.found-index c.found-item.result c.loop-found-test.true here are.ascend order tried fresh c.loop-found.listing (subst (λ n. n < length order) (sym place) within)
    (ap (key_at order) place ∙ at) (c.loop-found.invariant.listed order within at tried fresh listed) (c.list_match.ensures.more (c.in-Err-list_match.is ∙ e)))

pub loop-found-preserved : goal.loop-found-preserved
loop-found-preserved g c =
    let moves = c.args.self.now.transducer.now.rules in
    let m = c.args.position in
    let below = subst (λ rs. m < length rs) (sym c.rule_list.ensures) c.requires.below in
    let is = rule_here c.rule_list.result.now moves m c.index-rule_list-position.result c.rule_list.ensures (get_or_read c.rule_list.result.now m c.index-rule_list-position.result below c.index-rule_list-position.is no_rule) in
    let ms = c.deref-found-items.result.now in
    let are = matches_here g.S.Semiring.product c.args.self.now.grammar.now.rules moves c.args.self.now.runs m c.args.key.0 ms c.in-Ok.all.items c.deref-found-items.ensures.value c.in-Ok.ensures.found in
    let here = get_or_read ms c.loop-found.found-index c.found-item.result c.loop-found-test.true c.found-item.is c.found-item.result in
    let Gives = IsTableEdge g.S.Semiring.product c.args.self.now.grammar.now.rules moves c.args.self.now.runs c.args.key in
    let place = c.loop-found.invariant.position in
    record {
      within = c.in-Ok-list_match.ensures.within;
      position = c.list_match.ensures.position ∙ place;
      budget = c.list_match.ensures.budget ∙ c.loop-found.invariant.budget;
      listed = λ order within at tried fresh listed.
          rule_next m Gives c.args.key ms c.loop-found.found-index c.found-item.result c.loop-found-test.true here are.ascend order tried fresh c.loop-found.listing c.list_match.new.listing
          (subst (λ n. n < length order) (sym place) within) (ap (key_at order) place ∙ at) (c.loop-found.invariant.listed order within at tried fresh listed) c.in-Ok-list_match.ensures.listed;
    }

pub returns-clause-listed : goal.returns-clause-listed
returns-clause-listed g c = λ order within at tried fresh listed.
    let moves = c.args.self.now.transducer.now.rules in
    let m = c.args.position in
    let below = subst (λ rs. m < length rs) (sym c.rule_list.ensures) c.requires.below in
    let is = rule_here c.rule_list.result.now moves m c.index-rule_list-position.result c.rule_list.ensures (get_or_read c.rule_list.result.now m c.index-rule_list-position.result below c.index-rule_list-position.is no_rule) in
    let ms = c.deref-found-items.result.now in
    let are = matches_here g.S.Semiring.product c.args.self.now.grammar.now.rules moves c.args.self.now.runs m c.args.key.0 ms c.in-Ok.all.items c.deref-found-items.ensures.value c.in-Ok.ensures.found in
    rule_whole g.S.Semiring.product c.args.self.now.grammar.now.rules moves c.args.self.now.runs c.args.key m order tried ms c.loop-found.found-index c.loop-found.listing c.loop-found-test.false are
    (c.loop-found.invariant.listed order within at tried fresh listed)

pub returns-in-Err-clause-more : goal.returns-in-Err-clause-more
returns-in-Err-clause-more g c = λ e order within at tried fresh listed.
    let product = g.S.Semiring.product in
    let moves = c.args.self.now.transducer.now.rules in
    let grammar = c.args.self.now.grammar.now.rules in
    let runs = c.args.self.now.runs in
    let m = c.args.position in
    let below = subst (λ rs. m < length rs) (sym c.rule_list.ensures) c.requires.below in
    let is = rule_here c.rule_list.result.now moves m c.index-rule_list-position.result c.rule_list.ensures (get_or_read c.rule_list.result.now m c.index-rule_list-position.result below c.index-rule_list-position.is no_rule) in
    let y = c.admits.ensures.yes c.if-not-admits.false in
    rule_more product grammar moves runs c.args.key m c.requires.below c.requires.state y.0 (ap (λ x. x.left.label) (sym is) ∙ y.1) (subst (λ ls. Admits ls c.args.key.2 y.0) c.args.self.now.restricted y.2) c.args.listing.now.budget
    (subst (λ k. AreMoreWhere product grammar (transducer_rule moves m).left c.args.key.0 (IsAffordable product runs (transducer_rule moves m)) (c.args.listing.now.budget / (1 + k)))
    (items_size c.items.result.now c.index-rule_list-position.result.right c.items.ensures.items ∙ ap (λ r. size r.right) is)
    (c.matches_of.ensures.more (c.in-Err.is ∙ same_fault c.in-Err.fault _ e)))
