use Rattle.std.proofs.lemmas.Result.{IfOk-weaker, IfErr-weaker}
use Rattle.tib_lex.proofs.Results.{ok_both}
use Rattle.tib_grammar.proofs.Positions.{rules_in_range}
use Rattle.tib_expand.proofs.Limits.{IfTooMany-weaker}
use Rattle.tib_image.proofs.Answering.{few_keys, few_rules, reached_of, beyond_of}
use Rattle.tib_reached.proofs.tree_image.image_together.Goals as goal

pub returns-clause-reached : goal.returns-clause-reached
returns-clause-reached g c =
    IfOk-weaker c.hunt.result _ _
    (λ f h. reached_of c.args.transducer.now c.args.tree.now c.in-Ok.problem.transducer.now c.in-Ok.ensures.transducer c.in-Ok.problem.tree.now c.in-Ok.ensures.tree f.order.items _ (h (0, 0)))
    c.hunt.ensures.reached

pub returns-clause-range : goal.returns-clause-range
returns-clause-range g c = IfOk-weaker c.hunt.result _ _ (λ f h. rules_in_range _ f.rules.items h) c.hunt.ensures.positions

pub returns-clause-parts : goal.returns-clause-parts
returns-clause-parts g c = IfOk-weaker c.hunt.result _ _ (λ f h. h (0, 0)) c.hunt.ensures.parts

pub returns-clause-few : goal.returns-clause-few
returns-clause-few g c =
    ok_both c.hunt.result _ _ _ (λ f counted within. few_keys c.args.transducer.now c.args.tree.now f.order.items f.rules.items f.parts c.args.limit counted within) (returns-clause-parts g c) c.hunt.ensures.within

pub returns-clause-few_rules : goal.returns-clause-few_rules
returns-clause-few_rules g c =
    ok_both c.hunt.result _ _ _ (λ f counted within. few_rules c.args.transducer.now c.args.tree.now f.order.items f.rules.items f.parts c.args.limit counted within) (returns-clause-parts g c) c.hunt.ensures.within

pub returns-clause-more : goal.returns-clause-more
returns-clause-more g c =
    IfErr-weaker c.hunt.result _ _
    (λ e h. IfTooMany-weaker c.args.limit _ _ e (beyond_of c.args.transducer.now c.args.tree.now c.in-Ok.problem.transducer.now c.in-Ok.ensures.transducer c.in-Ok.problem.tree.now c.in-Ok.ensures.tree c.args.limit) h)
    c.hunt.ensures.more
