use Rattle.std.proofs.lemmas.Result.{IfOk-weaker}
use Rattle.tib_domain.proofs.Making.{all_within, all_shaped, are_linear, are_nondeleting, has_series}
use Rattle.tib_domain.proofs.transducer.domain_transducer.Goals as goal

pub transducer_over-requires-clause-within : goal.transducer_over-requires-clause-within
transducer_over-requires-clause-within g c = all_within c.args.transducer c.states-any.result c.in_ok-moves.moves.items c.states-any.ensures c.in_ok-moves.ensures c.is_sound.ensures.range c.is_sound.ensures.shaped

pub transducer_over-requires-clause-shaped : goal.transducer_over-requires-clause-shaped
transducer_over-requires-clause-shaped g c = all_shaped c.args.transducer c.states-any.result c.in_ok-moves.moves.items c.states-any.ensures c.in_ok-moves.ensures c.is_sound.ensures.range c.is_sound.ensures.shaped

pub returns-clause-linear : goal.returns-clause-linear
returns-clause-linear g c = λ l. IfOk-weaker c.transducer_over.result _ _ (are_linear c.args.transducer c.states-any.result c.in_ok-moves.moves.items c.states-any.ensures c.in_ok-moves.ensures c.is_sound.ensures.range c.is_sound.ensures.shaped l) c.transducer_over.ensures.rules

pub returns-clause-nondeleting : goal.returns-clause-nondeleting
returns-clause-nondeleting g c = IfOk-weaker c.transducer_over.result _ _ (are_nondeleting c.args.transducer c.states-any.result c.in_ok-moves.moves.items c.states-any.ensures c.in_ok-moves.ensures c.is_sound.ensures.range c.is_sound.ensures.shaped) c.transducer_over.ensures.rules

pub returns-clause-series : goal.returns-clause-series
returns-clause-series g c = IfOk-weaker c.transducer_over.result _ _ (has_series c.args.transducer c.states-any.result c.in_ok-moves.moves.items c.states-any.ensures c.in_ok-moves.ensures c.is_sound.ensures.range c.is_sound.ensures.shaped g.met.S.Semiring.laws c.is_sound.ensures.start) c.transducer_over.ensures.rules
