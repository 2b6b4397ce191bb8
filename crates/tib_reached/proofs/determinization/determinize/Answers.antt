use Rattle.std.proofs.Common.{[], subst}
use Rattle.std.proofs.lemmas.Result.{IfOk-weaker, IfErr-weaker}
use Rattle.tib_lex.proofs.Results.{ok_both}
use Rattle.tib_expand.proofs.Limits.{IfTooMany-weaker}
use Rattle.tib_determinize.specs.Answered.{HasParts}
use Rattle.tib_grammar.specs.GrammarOf.{GrammarOf}
use Rattle.tib_determinize.proofs.ReachedGrammar.{determinized, beyond_of, few_vectors, few_rules}
use Rattle.tib_reached.proofs.determinization.determinize.Goals as goal

pub returns-clause-determinized : goal.returns-clause-determinized
returns-clause-determinized g c =
    ok_both c.hunt_alone.result _ _ _ (λ f h below. determinized g.S.Semiring.product c.in-Ok.residuals.normal.now c.args.normal.now c.in-Ok.ensures f.order.items f.rules.items (h []) below) c.hunt_alone.ensures.reached c.hunt_alone.ensures.positions

pub returns-clause-parts : goal.returns-clause-parts
returns-clause-parts g c =
    IfOk-weaker c.hunt_alone.result _ _ (λ f h. subst (λ (x : GrammarOf). HasParts g.S.Semiring.product x.rules f) c.in-Ok.ensures (h [])) c.hunt_alone.ensures.parts

pub returns-clause-few : goal.returns-clause-few
returns-clause-few g c =
    ok_both c.hunt_alone.result _ _ _ (λ f counted within. few_vectors g.S.Semiring.product c.args.normal.now.rules f.order.items f.rules.items f.parts c.args.limit counted within) (returns-clause-parts g c) c.hunt_alone.ensures.within

pub returns-clause-few_rules : goal.returns-clause-few_rules
returns-clause-few_rules g c =
    ok_both c.hunt_alone.result _ _ _ (λ f counted within. few_rules g.S.Semiring.product c.args.normal.now.rules f.order.items f.rules.items f.parts c.args.limit counted within) (returns-clause-parts g c) c.hunt_alone.ensures.within

pub returns-clause-more : goal.returns-clause-more
returns-clause-more g c =
    IfErr-weaker c.hunt_alone.result _ _ (λ e h. IfTooMany-weaker c.args.limit _ _ e (beyond_of g.S.Semiring.product c.in-Ok.residuals.normal.now c.args.normal.now c.in-Ok.ensures c.args.limit) h) c.hunt_alone.ensures.more
