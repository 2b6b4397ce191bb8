use Rattle.std.proofs.Common.{◌+◌, sym, ◌∙◌, subst, drop, get_or}
use Rattle.tib_determinize.proofs.Results.{err_is}
use Rattle.tib_difference.specs.Listing.{Exceed}
use Rattle.tib_difference.specs.Tries.{tries_all, tries_at}
use Rattle.tib_difference.proofs.Adding.{begins, exceed, has_all}
use Rattle.tib_difference.proofs.Steps.{underway_next, underway_over, underway_end}
use Rattle.tib_difference.proofs.Tried.{tries_step, tries_end}
use Rattle.tib_difference.proofs.users.list_users.Goals as goal

pub returns-in-Err-clause-more : goal.returns-in-Err-clause-more
returns-in-Err-clause-more c = λ e.
    let one = c.args.walk.now.first.now in
    let two = c.args.walk.now.second.rules.now in
    let order = c.args.walk.now.order.now in
    let users = c.args.users.now in
    let p = c.args.walk.now.position in
    let n = c.loop-number.number in
    let all = tries_all one order p users in
    let start = c.new-listing.result in
    let none = begins one two order start c.new-listing.ensures.ends c.new-listing.ensures.rules c.new-listing.ensures.parts in
    let over = underway_over one two order all (tries_at one order p (get_or users n (0, 0)).0 (get_or users n (0, 0)).1) (tries_all one order p (drop n users)) (tries_all one order p (drop (n + 1) users)) start c.loop-number.listing c.loop-number.invariant.underway
    (tries_step one order p users n c.loop-number-test.true) (c.loop-number.invariant.budget ∙ sym c.new-listing.ensures.budget) (c.list_tries.ensures.more (err_is _ c.in-Err.fault _ c.in-Err.is e))
    in
    subst (Exceed one two order all) c.new-listing.ensures.budget (exceed one two order all start none over)

pub loop-number-preserved : goal.loop-number-preserved
loop-number-preserved c =
    let one = c.args.walk.now.first.now in
    let two = c.args.walk.now.second.rules.now in
    let order = c.args.walk.now.order.now in
    let users = c.args.users.now in
    let p = c.args.walk.now.position in
    let n = c.loop-number.number in
    record {
      within = c.in-Ok.ensures.within;
      budget = c.list_tries.ensures.budget ∙ c.loop-number.invariant.budget;
      underway = underway_next one two order (tries_all one order p users) (tries_at one order p (get_or users n (0, 0)).0 (get_or users n (0, 0)).1) (tries_all one order p (drop n users)) (tries_all one order p (drop (n + 1) users)) c.new-listing.result c.loop-number.listing c.list_tries.new.listing
          c.loop-number.invariant.underway (tries_step one order p users n c.loop-number-test.true) c.in-Ok.ensures.added;
    }

pub returns-clause-listed : goal.returns-clause-listed
returns-clause-listed c =
    let one = c.args.walk.now.first.now in
    let two = c.args.walk.now.second.rules.now in
    let order = c.args.walk.now.order.now in
    let users = c.args.users.now in
    let p = c.args.walk.now.position in
    let n = c.loop-number.number in
    let all = tries_all one order p users in
    let start = c.new-listing.result in
    let none = begins one two order start c.new-listing.ensures.ends c.new-listing.ensures.rules c.new-listing.ensures.parts in
    has_all one two order all start c.loop-number.listing none
    (underway_end one two order all (tries_all one order p (drop n users)) start c.loop-number.listing (tries_end one order p users n c.loop-number-test.false) c.loop-number.invariant.underway)
