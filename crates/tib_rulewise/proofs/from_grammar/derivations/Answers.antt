use Rattle.tib_rulewise.proofs.DerivedRules.{all_meet}
use Rattle.tib_rulewise.proofs.DerivationRuns.{gives, keeps, one_cost}
use Rattle.tib_rulewise.proofs.from_grammar.derivations.Goals as goal

pub returns-clause-gives : goal.returns-clause-gives
returns-clause-gives g c = gives c.derivations_of.new.labels c.args.grammar.rules c.in_ok-transducer.transducer.rules c.in_ok-transducer.ensures.derivations.rules g.S.Semiring.product c.len.ensures.distinct

pub returns-clause-one_cost : goal.returns-clause-one_cost
returns-clause-one_cost g c = one_cost g.S.Semiring.product c.derivations_of.new.labels c.args.grammar.rules c.in_ok-transducer.ensures.few

pub returns-clause-series : goal.returns-clause-series
returns-clause-series g c = keeps c.derivations_of.new.labels c.args.grammar.rules c.in_ok-transducer.transducer.rules c.in_ok-transducer.ensures.derivations.rules g.S.Semiring.product c.len.ensures.distinct

pub returns-clause-classes : goal.returns-clause-classes
returns-clause-classes g c = all_meet c.derivations_of.new.labels c.args.grammar.rules c.in_ok-transducer.transducer.rules c.in_ok-transducer.ensures.derivations.rules
