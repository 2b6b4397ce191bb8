use Rattle.tib_strings.proofs.Bounding.{stands_by, stands_not}
use Rattle.tib_strings.proofs.bounds.stands_at.Goals as goal

pub returns-in-Some : goal.returns-in-Some
returns-in-Some c =
    let look = c.in-Some.ensures.lookup in
    stands_by c.args.string.now c.args.place c.args.word c.in-Some.found.now look.0 (look.3.1 0)

pub returns-in-None : goal.returns-in-None
returns-in-None c = stands_not c.args.string.now c.args.place c.args.word c.in-None.ensures.lookup.0
