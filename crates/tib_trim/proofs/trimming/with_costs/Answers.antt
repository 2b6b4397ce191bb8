use Rattle.std.proofs.Common.{sym, subst, List, ℕ}
use Rattle.tib_grammar.specs.declared.Rule.{Rule}
use Rattle.tib_trim.specs.TrimmedFile.{HaveCosts}
use Rattle.tib_trim.proofs.trimming.with_costs.Goals as goal
use Rattle.tib_lex.proofs.Lists.{refilled}

pub returns : goal.returns
returns c =
    let have : HaveCosts c.args.rules.items c.args.costs.now c.set_costs.new.rules = subst (λ (rs : List (Rule ℕ)). HaveCosts rs c.args.costs.now c.set_costs.new.rules) c.deref_mut.ensures.value c.set_costs.ensures in
    subst (HaveCosts c.args.rules.items c.args.costs.now) (sym (refilled c.args.rules.items c.set_costs.new.rules c.args.rules.len c.args.rules.ok.0 have.as_many)) have
