use Rattle.std.proofs.Common.{rules, ◌≡◌, ℕ, List, [], ◌∷◌, ap, sym, ◌∙◌, subst}
use Rattle.std.specs.Prelude.{OnOk}
use Rattle.tib_grammar.specs.GrammarOf.{GrammarOf}
use Rattle.tib_grammar.specs.declared.Rule.{Rule}
use Rattle.tib_determinize.specs.declared.alive.Alive.{Alive}
use Rattle.tib_determinize.specs.Alive.{AreAlive}
use Rattle.tib_determinize.specs.Stepped.{AddsSteps, StepsOverrun}
use Rattle.tib_determinize.proofs.Passes.{begun_are, leaf_is}
use Rattle.tib_determinize.proofs.residuals.Residuals.list_leaf.Goals as goal

pub list-requires-clause-alive : goal.list-requires-clause-alive
list-requires-clause-alive g c =
    let w = c.args.self.now.normal.now in
    let rules_are : c.rule_list-rules.result.now ≡ w.rules = c.rule_list-rules.ensures ∙ ap (λ (h : GrammarOf). h.rules) c.grammar.ensures.same in
    subst (λ (ms : List Alive). AreAlive g.S.Semiring.product c.rule_list-rules.result.now [] c.args.shape.0 0 0 [] ms) (sym c.deref.ensures.value)
    (subst (λ (rs : List (Rule ℕ)). AreAlive g.S.Semiring.product rs [] c.args.shape.0 0 0 [] c.in-Ok.alive.items) (sym rules_are)
    (begun_are g.S.Semiring.product w.rules c.grammar.ensures.normal.normal [] c.args.shape.0 0 c.in-Ok.alive.items c.rules_with.result.now c.rules_with.ensures c.in-Ok.ensures))

pub returns-clause-added : goal.returns-clause-added
returns-clause-added g c =
    let w = c.args.self.now.normal.now in
    let rules_are : c.rule_list-rules.result.now ≡ w.rules = c.rule_list-rules.ensures ∙ ap (λ (h : GrammarOf). h.rules) c.grammar.ensures.same in
    let zero : c.args.shape.1 ≡ 0 = search rules in
    subst (λ all. OnOk c.list.result (AddsSteps g.S.Semiring.product w.rules [] all c.args.listing.now c.list.new.listing)) (leaf_is c.args.shape zero)
    (subst (λ (rs : List (Rule ℕ)). OnOk c.list.result (AddsSteps g.S.Semiring.product rs [] ((c.args.shape.0, []) ∷ []) c.args.listing.now c.list.new.listing)) rules_are c.list.ensures.added)

pub returns-clause-more : goal.returns-clause-more
returns-clause-more g c = λ e.
    let w = c.args.self.now.normal.now in
    let rules_are : c.rule_list-rules.result.now ≡ w.rules = c.rule_list-rules.ensures ∙ ap (λ (h : GrammarOf). h.rules) c.grammar.ensures.same in
    let zero : c.args.shape.1 ≡ 0 = search rules in
    subst (λ all. StepsOverrun g.S.Semiring.product w.rules [] all c.args.listing.now) (leaf_is c.args.shape zero)
    (subst (λ (rs : List (Rule ℕ)). StepsOverrun g.S.Semiring.product rs [] ((c.args.shape.0, []) ∷ []) c.args.listing.now) rules_are (c.list.ensures.more e))
