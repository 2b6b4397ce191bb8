use Rattle.std.proofs.Common.{Bool, subst}
use Rattle.std.specs.Prelude.{IsTrue}
use Rattle.tib_determinize.proofs.alive.goes_on.Goals as goal

pub returns-then-not-is_held : goal.returns-then-not-is_held
returns-then-not-is_held c = λ on.
    let s = on c.loop-place.place c.loop-place-test.true in
    subst (λ (b : Bool). IsTrue b) c.if-not-is_held.true (c.is_held.ensures s.0 s.1 s.3)
