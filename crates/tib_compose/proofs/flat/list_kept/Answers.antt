use Rattle.std.proofs.Common.{◌∙◌, sym, subst}
use Rattle.tib_compose.specs.FlatSides.{KeptOverruns, ListsKept}
use Rattle.tib_compose.proofs.FlatEdges.{kept_listed, none_listed, kept_overruns}
use Rattle.tib_compose.proofs.flat.list_kept.Goals as goal

pub returns-in-Ok-clause-listed : goal.returns-in-Ok-clause-listed
returns-in-Ok-clause-listed c =
    subst (λ v. ListsKept c.args.left.now c.args.done.now v c.args.listing.now c.add.new.self) (sym c.in-Some.is)
    (kept_listed c.args.left.now c.args.done.now c.in-Some.cost c.args.listing.now c.add.new.self c.in-Ok.ensures.added)

pub returns-in-Err-clause-more : goal.returns-in-Err-clause-more
returns-in-Err-clause-more c = λ e.
    subst (λ v. KeptOverruns c.args.left.now c.args.done.now v c.args.listing.now) (sym c.in-Some.is)
    (kept_overruns c.args.left.now c.args.done.now c.in-Some.cost c.args.listing.now (c.add.ensures.more (c.in-Err.is ∙ e)))

pub returns-in-None-clause-listed : goal.returns-in-None-clause-listed
returns-in-None-clause-listed c =
    subst (λ v. ListsKept c.args.left.now c.args.done.now v c.args.listing.now c.args.listing.now) (sym c.in-None.is) (none_listed c.args.left.now c.args.done.now c.args.listing.now)
