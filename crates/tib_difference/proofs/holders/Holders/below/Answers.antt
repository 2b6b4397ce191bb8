use Rattle.std.proofs.Common.{◌∙◌, ap, sym, subst, nat_eq, ℕ, List}
use Rattle.std.specs.Global.{Vec}
use Rattle.tib_determinize.specs.Alive.{AreAscending}
use Rattle.tib_difference.specs.Difference.{KeyOf}
use Rattle.tib_difference.proofs.Cutting.{places_ascend, places_below}
use Rattle.tib_difference.specs.Held.{held}
use Rattle.tib_difference.proofs.holders.Holders.below.Goals as goal

pub count_below-many-requires : goal.count_below-many-requires
count_below-many-requires c =
    let q = c.args.state in
    let is = c.list_of-positions.ensures ∙ ap (λ (lists : List (Vec ℕ)). held lists q) c.deref.ensures.value ∙ c.requires.1 q in
    subst AreAscending (sym is) (places_ascend (λ (k : KeyOf). nat_eq k.0 q) 0 c.requires.0)

pub returns : goal.returns
returns c = λ order h.
    let q = c.args.state in
    let is = c.list_of-positions.ensures ∙ ap (λ (lists : List (Vec ℕ)). held lists q) c.deref.ensures.value ∙ h q in
    places_below (λ (k : KeyOf). nat_eq k.0 q) c.args.position c.count_below-many.result order c.list_of-positions.result.now is c.count_below-many.ensures.before c.count_below-many.ensures.behind c.count_below-many.ensures.within
