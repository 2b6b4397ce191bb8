use Rattle.std.proofs.Common.{◌≡◌, ap, arith}
use Rattle.tib_apply.specs.Restrictions.{restriction, place_of}
use Rattle.tib_apply.proofs.PlaceNumbers.{place_found, place_behind}
use Rattle.tib_apply.proofs.restrictions.Restrictions.number.Goals as goal

pub returns-in-Some-get_index_of : goal.returns-in-Some-get_index_of
returns-in-Some-get_index_of c =
    let at = place_found c.in-Some.label c.self.inside.labels.keys c.in-Some-get_index_of.place c.in-Some-get_index_of.ensures.index in
    let is : place_of c.in-Some.label c.self.inside.labels.keys ≡ place_of c.in-Some.label c.args.self.now = ap (place_of c.in-Some.label) c.self.view_is in
    omega (arith, at, is, ap (restriction c.args.self.now) c.in-Some.is)

pub returns-in-None : goal.returns-in-None
returns-in-None c =
    let at = place_behind c.in-Some.label c.self.inside.labels.keys c.in-None.ensures.index in
    let is : place_of c.in-Some.label c.self.inside.labels.keys ≡ place_of c.in-Some.label c.args.self.now = ap (place_of c.in-Some.label) c.self.view_is in
    omega (arith, at, is, ap (restriction c.args.self.now) c.in-Some.is, c.len.ensures.len)
