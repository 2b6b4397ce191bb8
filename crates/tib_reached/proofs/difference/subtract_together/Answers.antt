use Rattle.std.proofs.Common.{[]}
use Rattle.std.proofs.lemmas.Result.{IfOk-weaker, IfErr-weaker}
use Rattle.tib_lex.proofs.Results.{ok_both}
use Rattle.tib_expand.proofs.Limits.{IfTooMany-weaker}
use Rattle.tib_difference.proofs.ReachedGrammar.{reached_grammar, beyond_of, few_keys, few_rules}
use Rattle.tib_reached.proofs.difference.subtract_together.Goals as goal

pub returns-clause-reached : goal.returns-clause-reached
returns-clause-reached g c =
    ok_both c.hunt.result _ _ _
    (λ f h below. reached_grammar c.in-Ok.problem.left.now c.in-Ok.problem.right.now c.args.left.now c.args.right.now c.in-Ok.ensures.left c.in-Ok.ensures.right f.order.items f.rules.items (h (0, [])) below)
    c.hunt.ensures.reached c.hunt.ensures.positions

pub returns-clause-parts : goal.returns-clause-parts
returns-clause-parts g c = IfOk-weaker c.hunt.result _ _ (λ f h. h (0, [])) c.hunt.ensures.parts

pub returns-clause-few : goal.returns-clause-few
returns-clause-few g c =
    ok_both c.hunt.result _ _ _ (λ f counted within. few_keys c.args.left.now.rules c.args.right.now.rules f.order.items f.rules.items f.parts c.args.limit counted within) (returns-clause-parts g c) c.hunt.ensures.within

pub returns-clause-few_rules : goal.returns-clause-few_rules
returns-clause-few_rules g c =
    ok_both c.hunt.result _ _ _ (λ f counted within. few_rules c.args.left.now.rules c.args.right.now.rules f.order.items f.rules.items f.parts c.args.limit counted within) (returns-clause-parts g c) c.hunt.ensures.within

pub returns-clause-more : goal.returns-clause-more
returns-clause-more g c =
    IfErr-weaker c.hunt.result _ _
    (λ e h. IfTooMany-weaker c.args.limit _ _ e (beyond_of c.in-Ok.problem.left.now c.in-Ok.problem.right.now c.args.left.now c.args.right.now c.in-Ok.ensures.left c.in-Ok.ensures.right c.args.limit) h) c.hunt.ensures.more
