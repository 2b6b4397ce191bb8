use Rattle.std.proofs.lemmas.Result.{IfOk-weaker, IfErr-weaker}
use Rattle.tib_lex.proofs.Results.{ok_both}
use Rattle.tib_expand.proofs.Limits.{IfTooMany-weaker}
use Rattle.tib_intersect.proofs.ReachedGrammar.{pair_grammar, roots, few_pairs, few_rules, reached_of, beyond_of}
use Rattle.tib_reached.proofs.intersection.intersect_together.Goals as goal

pub returns-clause-reached : goal.returns-clause-reached
returns-clause-reached g c =
    IfOk-weaker c.hunt.result _ _ (λ f h. reached_of g.S.Semiring.product c.in-Ok.pairs.left.now c.in-Ok.pairs.right.now c.args.left.now c.args.right.now c.in-Ok.ensures.left c.in-Ok.ensures.right f.order.items _ (h (0, 0)))
    c.hunt.ensures.reached

pub returns-clause-grammar : goal.returns-clause-grammar
returns-clause-grammar g c =
    ok_both c.hunt.result _ _ _ (λ f h below. pair_grammar g.S.Semiring.product c.args.left.now.rules c.args.right.now.rules f.order.items f.rules.items h below) (returns-clause-reached g c) c.hunt.ensures.positions

pub returns-clause-parts : goal.returns-clause-parts
returns-clause-parts g c = IfOk-weaker c.hunt.result _ _ (λ f h. h (0, 0)) c.hunt.ensures.parts

pub returns-clause-few : goal.returns-clause-few
returns-clause-few g c =
    ok_both c.hunt.result _ _ _ (λ f counted within. few_pairs g.S.Semiring.product c.args.left.now.rules c.args.right.now.rules f.order.items f.rules.items f.parts c.args.limit counted within) (returns-clause-parts g c) c.hunt.ensures.within

pub returns-clause-few_rules : goal.returns-clause-few_rules
returns-clause-few_rules g c =
    ok_both c.hunt.result _ _ _ (λ f counted within. few_rules g.S.Semiring.product c.args.left.now.rules c.args.right.now.rules f.order.items f.rules.items f.parts c.args.limit counted within) (returns-clause-parts g c) c.hunt.ensures.within

pub returns-clause-roots : goal.returns-clause-roots
returns-clause-roots g c =
    IfOk-weaker c.hunt.result _ _ (λ f h. roots g.S.Semiring.product c.args.left.now.rules c.args.right.now.rules f.order.items f.rules.items h) (returns-clause-reached g c)

pub returns-clause-more : goal.returns-clause-more
returns-clause-more g c =
    IfErr-weaker c.hunt.result _ _ (λ e h. IfTooMany-weaker c.args.limit _ _ e (beyond_of g.S.Semiring.product c.in-Ok.pairs.left.now c.in-Ok.pairs.right.now c.args.left.now c.args.right.now c.in-Ok.ensures.left c.in-Ok.ensures.right c.args.limit) h)
    c.hunt.ensures.more
