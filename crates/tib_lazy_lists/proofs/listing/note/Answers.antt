use Rattle.std.specs.HashSet.{keys}
use Rattle.tib_lazy_lists.proofs.Noted.{was_new, was_there, noted}
use Rattle.tib_lazy_lists.proofs.listing.note.Goals as goal

pub returns-clause-added : goal.returns-clause-added
returns-clause-added c = was_new (keys c.args.listed.now) (keys c.insert.new.self) (c.args.state, c.args.tree) c.in_ok-new.new c.in_ok-new.ensures.added

pub returns-clause-stood : goal.returns-clause-stood
returns-clause-stood c = was_there (keys c.args.listed.now) (keys c.insert.new.self) (c.args.state, c.args.tree) c.in_ok-new.new c.in_ok-new.ensures.added

pub returns-clause-noted : goal.returns-clause-noted
returns-clause-noted c = noted (keys c.args.listed.now) (keys c.insert.new.self) (c.args.state, c.args.tree) c.in_ok-new.ensures.updates.0
