use Rattle.std.proofs.Common.{◌∷◌, inr}
use Rattle.tib_grammar.proofs.Covering.{same_series, covers_members, covers_more}
use Rattle.tib_grammar.proofs.laws.dearer_rule_is_free.Goals as goal

pub returns : goal.returns
returns g c = λ rules r c q t v.
    let to = covers_more rules r c in
    let from = covers_members rules (r ∷ rules) (λ s. inr) in
    (same_series g.met.S.Semiring.laws (r ∷ rules) rules to from q t v, same_series g.met.S.Semiring.laws rules (r ∷ rules) from to q t v)
