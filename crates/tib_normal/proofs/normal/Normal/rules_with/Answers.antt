use Rattle.std.proofs.Common.{◌≡◌, subst, length}
use Rattle.tib_grammar.specs.GrammarOf.{GrammarOf}
use Rattle.tib_normal.specs.Rules.{positions_with}
use Rattle.tib_normal.proofs.normal.Normal.rules_with.Goals as goal

pub returns : goal.returns
returns g c =
    subst (λ (m : GrammarOf). c.find.result.now ≡ positions_with c.args.label c.args.rank m.rules) c.self.view_is
    (c.find.ensures c.self.inside.grammar.rules (length c.self.inside.grammar.names) c.self.invariant.index)
