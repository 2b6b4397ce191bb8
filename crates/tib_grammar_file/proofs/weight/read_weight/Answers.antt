use Rattle.std.proofs.Common.{ap, ◌∙◌, sym}
use Rattle.std.specs.Prelude.{Ok}
use Rattle.tib_grammar_file.proofs.Weights.{cost_free, cost_none, cost_made, cost_over}
use Rattle.tib_grammar_file.proofs.weight.read_weight.Goals as goal

pub returns-then-not-is_weighted : goal.returns-then-not-is_weighted
returns-then-not-is_weighted c = ap Ok c.one.ensures ∙ cost_free c.args.scale _ (sym c.is_weighted.ensures ∙ c.if-not-is_weighted.true)

pub returns-in-None : goal.returns-in-None
returns-in-None c = cost_none c.args.scale _ (sym c.is_weighted.ensures ∙ c.if-not-is_weighted.false) c.in-None.ensures

pub returns-in-Some-new : goal.returns-in-Some-new
returns-in-Some-new c = ap Ok c.cost.ensures ∙ cost_made c.args.scale _ _ _ _ (sym c.is_weighted.ensures ∙ c.if-not-is_weighted.false) c.in-Some.ensures c.new.ensures c.in-Some-new.is

pub returns-in-None-new : goal.returns-in-None-new
returns-in-None-new c = cost_over c.args.scale _ _ _ (sym c.is_weighted.ensures ∙ c.if-not-is_weighted.false) c.in-Some.ensures c.new.ensures c.in-None-new.is
