use Rattle.std.proofs.Common.{◌<◌, ap, sym, ◌∙◌, subst, length}
use Rattle.std.proofs.lemmas.List.{get_or_read}
use Rattle.tib_grammar.specs.GrammarOf.{GrammarOf}
use Rattle.tib_transducer.specs.Rules.{no_rule, transducer_rule}
use Rattle.tib_match.specs.Searching.{AnswersWhere, IsWithin}
use Rattle.tib_match.specs.declared.within.Within.TheVariants.{All, More}
use Rattle.tib_apply.specs.Restrictions.{restricted_labels}
use Rattle.tib_apply.specs.ForwardPlans.{IsPlan}
use Rattle.tib_apply.proofs.ForwardEdges.{rule_here}
use Rattle.tib_apply.proofs.AffordableMatches.{holes_below, affordable_here}
use Rattle.tib_apply.proofs.forward.Forward.search.Goals as goal

pub hole_costs-requires : goal.hole_costs-requires
hole_costs-requires g c =
    let product = g.S.Semiring.product in
    let moves = c.args.self.now.transducer.now.rules in
    let grammar = c.args.self.now.grammar.now in
    let m = c.args.position in
    let below = subst (λ rs. m < length rs) (sym c.rule_list.ensures) c.requires.below in
    let is = rule_here c.rule_list.result.now moves m c.index-rule_list-position.result c.rule_list.ensures (get_or_read c.rule_list.result.now m c.index-rule_list-position.result below c.index-rule_list-position.is no_rule) in
    let planned = subst (IsPlan (restricted_labels moves) (transducer_rule moves m)) (sym c.index-plan.ensures) (c.args.self.now.planned.plan_at m _ c.requires.below) in
    holes_below g.met.S.Semiring.laws grammar.rules c.grammar-grammar.ensures.normal.normal (length grammar.names) c.args.self.now.range c.args.self.now.runs (restricted_labels moves)
    c.index-rule_list-position.result (transducer_rule moves m) is (c.is_sound.ensures.shaped m c.requires.below) c.index-plan.result.now planned c.items-left.result.now c.items-left.ensures.items c.deref.result.now c.deref.ensures.value

pub returns-in-All-clause-found : goal.returns-in-All-clause-found
returns-in-All-clause-found g c =
    let product = g.S.Semiring.product in
    let moves = c.args.self.now.transducer.now.rules in
    let grammar = c.args.self.now.grammar.now in
    let m = c.args.position in
    let below = subst (λ rs. m < length rs) (sym c.rule_list.ensures) c.requires.below in
    let is = rule_here c.rule_list.result.now moves m c.index-rule_list-position.result c.rule_list.ensures (get_or_read c.rule_list.result.now m c.index-rule_list-position.result below c.index-rule_list-position.is no_rule) in
    let planned = subst (IsPlan (restricted_labels moves) (transducer_rule moves m)) (sym c.index-plan.ensures) (c.args.self.now.planned.plan_at m _ c.requires.below) in
    affordable_here g.met.S.Semiring.laws grammar.rules c.grammar-grammar.ensures.normal.normal (length grammar.names) c.args.self.now.range c.args.self.now.runs (restricted_labels moves)
    c.index-rule_list-position.result (transducer_rule moves m) is (c.is_sound.ensures.shaped m c.requires.below) c.index-plan.result.now planned c.items-left.result.now c.items-left.ensures.items c.deref.result.now c.deref.ensures.value
    c.states.result c.in-Ok.costs.items c.deref-2.result.now c.first.result c.args.key.0 c.args.most (All c.in-All.all)
    (c.states.ensures ∙ ap (λ (n : GrammarOf). length n.names) c.grammar-grammar.ensures.same)
    c.in-Ok.ensures c.deref-2.ensures.value c.first.ensures c.requires.first
    (subst (AnswersWhere product grammar.rules c.index-rule_list-position.result.left c.first.result (IsWithin product c.index-rule_list-position.result.cost c.deref-2.result.now) c.args.most) c.in-All.is c.in-Ok-matches_beyond_few.ensures)

pub returns-clause-more : goal.returns-clause-more
returns-clause-more g c = λ e.
    let product = g.S.Semiring.product in
    let moves = c.args.self.now.transducer.now.rules in
    let grammar = c.args.self.now.grammar.now in
    let m = c.args.position in
    let below = subst (λ rs. m < length rs) (sym c.rule_list.ensures) c.requires.below in
    let is = rule_here c.rule_list.result.now moves m c.index-rule_list-position.result c.rule_list.ensures (get_or_read c.rule_list.result.now m c.index-rule_list-position.result below c.index-rule_list-position.is no_rule) in
    let planned = subst (IsPlan (restricted_labels moves) (transducer_rule moves m)) (sym c.index-plan.ensures) (c.args.self.now.planned.plan_at m _ c.requires.below) in
    affordable_here g.met.S.Semiring.laws grammar.rules c.grammar-grammar.ensures.normal.normal (length grammar.names) c.args.self.now.range c.args.self.now.runs (restricted_labels moves)
    c.index-rule_list-position.result (transducer_rule moves m) is (c.is_sound.ensures.shaped m c.requires.below) c.index-plan.result.now planned c.items-left.result.now c.items-left.ensures.items c.deref.result.now c.deref.ensures.value
    c.states.result c.in-Ok.costs.items c.deref-2.result.now c.first.result c.args.key.0 c.args.most More
    (c.states.ensures ∙ ap (λ (n : GrammarOf). length n.names) c.grammar-grammar.ensures.same)
    c.in-Ok.ensures c.deref-2.ensures.value c.first.ensures c.requires.first
    (subst (AnswersWhere product grammar.rules c.index-rule_list-position.result.left c.first.result (IsWithin product c.index-rule_list-position.result.cost c.deref-2.result.now) c.args.most) c.in-More.is c.in-Ok-matches_beyond_few.ensures)
