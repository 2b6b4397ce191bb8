use Rattle.std.proofs.Common.{◌<◌, length, map, ap, sym, ◌∙◌, subst}
use Rattle.std.proofs.lemmas.List.{get_or_read}
use Rattle.tib_lex.specs.Lists.{Each}
use Rattle.tib_transducer.specs.Rules.{no_rule, transducer_rule}
use Rattle.tib_apply.specs.Restrictions.{restricted_labels}
use Rattle.tib_apply.specs.ForwardPlans.{IsPlan, end_at}
use Rattle.tib_key_edges.specs.Listing.{IsAdded}
use Rattle.tib_apply.proofs.ForwardEdges.{match_facts, origin_passed, origin_added, origin_overruns, rule_here, on_ok}
use Rattle.tib_apply.proofs.forward.Forward.list_match.Goals as goal

pub edge_cost-requires : goal.edge_cost-requires
edge_cost-requires g c =
    let moves = c.args.self.now.transducer.now.rules in
    let m = c.args.position in
    let below = subst (λ rs. m < length rs) (sym c.rule_list.ensures) c.requires.at.below in
    let is = rule_here c.rule_list.result.now moves m c.index-rule_list-position.result c.rule_list.ensures (get_or_read c.rule_list.result.now m c.index-rule_list-position.result below c.index-rule_list-position.is no_rule) in
    let planned = subst (IsPlan (restricted_labels moves) (transducer_rule moves m)) (sym c.index-plan.ensures) (c.args.self.now.planned.plan_at m _ c.requires.at.below) in
    let facts = match_facts g.met.S.Semiring.laws c.args.self.now.grammar.now.rules moves c.args.self.now.runs c.args.key m c.args.found.now c.grammar.ensures.normal.normal c.requires.at c.index-plan.result.now
    c.index-rule_list-position.result is (c.is_sound.ensures.shaped m c.requires.at.below) (c.is_sound.ensures.leaves m c.requires.at.below).1 planned
    in
    facts.left_below

pub returns-in_default-clause-listed : goal.returns-in_default-clause-listed
returns-in_default-clause-listed g c =
    let moves = c.args.self.now.transducer.now.rules in
    let m = c.args.position in
    let below = subst (λ rs. m < length rs) (sym c.rule_list.ensures) c.requires.at.below in
    let is = rule_here c.rule_list.result.now moves m c.index-rule_list-position.result c.rule_list.ensures (get_or_read c.rule_list.result.now m c.index-rule_list-position.result below c.index-rule_list-position.is no_rule) in
    let planned = subst (IsPlan (restricted_labels moves) (transducer_rule moves m)) (sym c.index-plan.ensures) (c.args.self.now.planned.plan_at m _ c.requires.at.below) in
    let facts = match_facts g.met.S.Semiring.laws c.args.self.now.grammar.now.rules moves c.args.self.now.runs c.args.key m c.args.found.now c.grammar.ensures.normal.normal c.requires.at c.index-plan.result.now
    c.index-rule_list-position.result is (c.is_sound.ensures.shaped m c.requires.at.below) (c.is_sound.ensures.leaves m c.requires.at.below).1 planned
    in
    origin_passed g.met.S.Semiring.laws c.args.self.now.grammar.now.rules moves c.args.self.now.runs c.args.key m c.args.found.now c.grammar.ensures.normal.normal c.requires.at c.index-plan.result.now
    c.index-rule_list-position.result facts c.args.listing.now (sym c.in_default.is ∙ c.edge_cost.ensures)

pub add_edge-requires-clause-below : goal.add_edge-requires-clause-below
add_edge-requires-clause-below g c =
    let moves = c.args.self.now.transducer.now.rules in
    let m = c.args.position in
    let below = subst (λ rs. m < length rs) (sym c.rule_list.ensures) c.requires.at.below in
    let is = rule_here c.rule_list.result.now moves m c.index-rule_list-position.result c.rule_list.ensures (get_or_read c.rule_list.result.now m c.index-rule_list-position.result below c.index-rule_list-position.is no_rule) in
    let planned = subst (IsPlan (restricted_labels moves) (transducer_rule moves m)) (sym c.index-plan.ensures) (c.args.self.now.planned.plan_at m _ c.requires.at.below) in
    let facts = match_facts g.met.S.Semiring.laws c.args.self.now.grammar.now.rules moves c.args.self.now.runs c.args.key m c.args.found.now c.grammar.ensures.normal.normal c.requires.at c.index-plan.result.now
    c.index-rule_list-position.result is (c.is_sound.ensures.shaped m c.requires.at.below) (c.is_sound.ensures.leaves m c.requires.at.below).1 planned
    in
    let states = c.as_slice.ensures ∙ ap (λ f. f.0) c.found.view_is in
    subst (λ n. Each (λ e. e.variable < n) c.deref.result.now) (ap length (sym states))
    (subst (Each (λ e. e.variable < length c.args.found.now.0)) (sym c.deref.ensures.value) facts.ends_below)

pub returns-clause-listed : goal.returns-clause-listed
returns-clause-listed g c =
    let moves = c.args.self.now.transducer.now.rules in
    let m = c.args.position in
    let below = subst (λ rs. m < length rs) (sym c.rule_list.ensures) c.requires.at.below in
    let is = rule_here c.rule_list.result.now moves m c.index-rule_list-position.result c.rule_list.ensures (get_or_read c.rule_list.result.now m c.index-rule_list-position.result below c.index-rule_list-position.is no_rule) in
    let planned = subst (IsPlan (restricted_labels moves) (transducer_rule moves m)) (sym c.index-plan.ensures) (c.args.self.now.planned.plan_at m _ c.requires.at.below) in
    let facts = match_facts g.met.S.Semiring.laws c.args.self.now.grammar.now.rules moves c.args.self.now.runs c.args.key m c.args.found.now c.grammar.ensures.normal.normal c.requires.at c.index-plan.result.now
    c.index-rule_list-position.result is (c.is_sound.ensures.shaped m c.requires.at.below) (c.is_sound.ensures.leaves m c.requires.at.below).1 planned
    in
    let states = c.as_slice.ensures ∙ ap (λ f. f.0) c.found.view_is in
    let keys = ap (λ ss. map (end_at ss) c.deref.result.now) states ∙ ap (map (end_at c.args.found.now.0)) c.deref.ensures.value in
    on_ok c.add_edge.result _ _
    (λ added.
    origin_added g.met.S.Semiring.laws c.args.self.now.grammar.now.rules moves c.args.self.now.runs c.args.key m c.args.found.now c.grammar.ensures.normal.normal c.requires.at c.index-plan.result.now
    c.index-rule_list-position.result facts c.in-Some.cost (sym c.in-Some.is ∙ c.edge_cost.ensures) c.args.listing.now c.add_edge.new.listing
    (subst (λ ks. IsAdded c.index-rule_list-position.result.right ks c.in-Some.cost c.args.listing.now c.add_edge.new.listing) keys added))
    c.add_edge.ensures.added

pub returns-clause-more : goal.returns-clause-more
returns-clause-more g c = λ e.
    let moves = c.args.self.now.transducer.now.rules in
    let m = c.args.position in
    let below = subst (λ rs. m < length rs) (sym c.rule_list.ensures) c.requires.at.below in
    let is = rule_here c.rule_list.result.now moves m c.index-rule_list-position.result c.rule_list.ensures (get_or_read c.rule_list.result.now m c.index-rule_list-position.result below c.index-rule_list-position.is no_rule) in
    let planned = subst (IsPlan (restricted_labels moves) (transducer_rule moves m)) (sym c.index-plan.ensures) (c.args.self.now.planned.plan_at m _ c.requires.at.below) in
    let facts = match_facts g.met.S.Semiring.laws c.args.self.now.grammar.now.rules moves c.args.self.now.runs c.args.key m c.args.found.now c.grammar.ensures.normal.normal c.requires.at c.index-plan.result.now
    c.index-rule_list-position.result is (c.is_sound.ensures.shaped m c.requires.at.below) (c.is_sound.ensures.leaves m c.requires.at.below).1 planned
    in
    origin_overruns g.met.S.Semiring.laws c.args.self.now.grammar.now.rules moves c.args.self.now.runs c.args.key m c.args.found.now c.grammar.ensures.normal.normal c.requires.at c.index-plan.result.now
    c.index-rule_list-position.result facts c.in-Some.cost (sym c.in-Some.is ∙ c.edge_cost.ensures) c.args.listing.now (c.add_edge.ensures.more e)
