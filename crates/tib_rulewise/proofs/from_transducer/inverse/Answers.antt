use Rattle.std.proofs.Common.{ap, ◌∙◌, subst, sym, map}
use Rattle.std.proofs.lemmas.Result.{IfOk-weaker}
use Rattle.tib_transducer.specs.TransducerOf.{TransducerOf}
use Rattle.tib_rulewise.specs.Inverse.{inverse_rule, inverse_of, GivesInversely}
use Rattle.tib_rulewise.specs.Invertible.{AreInvertible}
use Rattle.tib_rulewise.proofs.Inverting.{mirrors_to, mirrors_from, inverses_invertible}
use Rattle.tib_rulewise.proofs.Mirrored.{give_inversely}
use Rattle.tib_rulewise.proofs.Twice.{transducer_again}
use Rattle.tib_rulewise.proofs.from_transducer.inverse.Goals as goal

pub returns-clause-invertible : goal.returns-clause-invertible
returns-clause-invertible g c =
    IfOk-weaker c.inverse_rule_by_rule.result _ _
    (λ t e. subst (λ (x : TransducerOf). AreInvertible x.rules) (sym e) (inverses_invertible c.args.transducer.rules c.inverse_rule_by_rule.ensures.shaped c.requires))
    c.inverse_rule_by_rule.ensures.inverse

pub returns-clause-back : goal.returns-clause-back
returns-clause-back g c =
    IfOk-weaker c.inverse_rule_by_rule.result _ _
    (λ t e. ap inverse_of e ∙ transducer_again c.args.transducer c.inverse_rule_by_rule.ensures.shaped c.inverse_rule_by_rule.ensures.leaves c.requires)
    c.inverse_rule_by_rule.ensures.inverse

pub returns-clause-series : goal.returns-clause-series
returns-clause-series g c =
    IfOk-weaker c.inverse_rule_by_rule.result _ _
    (λ t e. subst (λ (x : TransducerOf). GivesInversely g.S.Semiring.product c.args.transducer.rules x.rules) (sym e)
    (give_inversely g.met.S.Semiring.laws c.args.transducer.rules (map inverse_rule c.args.transducer.rules) (mirrors_to c.args.transducer.rules c.inverse_rule_by_rule.ensures.shaped c.requires)
    (mirrors_from c.args.transducer.rules c.inverse_rule_by_rule.ensures.shaped c.requires)))
    c.inverse_rule_by_rule.ensures.inverse
