use Rattle.tib_grammar.proofs.Covering.{same_series, covers_members}
use Rattle.tib_grammar.proofs.laws.order_is_free.Goals as goal

pub returns : goal.returns
returns g c = λ one two same q t v.
    let to = covers_members one two (λ r. (same r).0) in
    let from = covers_members two one (λ r. (same r).1) in
    (same_series g.met.S.Semiring.laws one two to from q t v, same_series g.met.S.Semiring.laws two one from to q t v)
