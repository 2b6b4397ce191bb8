use Rattle.std.proofs.Common.{[], ◌+◌, sym, ◌∙◌, subst, drop}
use Rattle.tib_grammar.specs.Run.{rule_at}
use Rattle.tib_determinize.proofs.Results.{err_is}
use Rattle.tib_difference.specs.Listing.{Exceed}
use Rattle.tib_difference.specs.Tries.{leaf_try, leaves_from, leaves_of}
use Rattle.tib_difference.proofs.Adding.{begins, exceed, has_all}
use Rattle.tib_difference.proofs.Leaves.{leaves_step, leaves_end}
use Rattle.tib_difference.proofs.Steps.{underway_next, underway_over, underway_end}
use Rattle.tib_difference.proofs.walk.list_leaves.Goals as goal

pub returns-in-Err-clause-more : goal.returns-in-Err-clause-more
returns-in-Err-clause-more c = λ e.
    let one = c.args.first.now in
    let two = c.args.second.now.rules.now in
    let n = c.loop-number.number in
    let start = c.new-listing.result in
    let none = begins one two [] start c.new-listing.ensures.ends c.new-listing.ensures.rules c.new-listing.ensures.parts in
    let over = underway_over one two [] (leaves_of one) (leaf_try n (rule_at one n)) (leaves_from n (drop n one)) (leaves_from (n + 1) (drop (n + 1) one)) start c.loop-number.listing c.loop-number.invariant.underway
    (leaves_step one n c.loop-number-test.true) (c.loop-number.invariant.budget ∙ sym c.new-listing.ensures.budget) (c.list_leaf.ensures.more (err_is _ c.in-Err.fault _ c.in-Err.is e))
    in
    subst (Exceed one two [] (leaves_of one)) c.new-listing.ensures.budget (exceed one two [] (leaves_of one) start none over)

pub loop-number-preserved : goal.loop-number-preserved
loop-number-preserved c =
    let one = c.args.first.now in
    let two = c.args.second.now.rules.now in
    let n = c.loop-number.number in
    record {
      within = c.in-Ok.ensures.within;
      budget = c.list_leaf.ensures.budget ∙ c.loop-number.invariant.budget;
      underway = underway_next one two [] (leaves_of one) (leaf_try n (rule_at one n)) (leaves_from n (drop n one)) (leaves_from (n + 1) (drop (n + 1) one)) c.new-listing.result c.loop-number.listing c.list_leaf.new.listing c.loop-number.invariant.underway
          (leaves_step one n c.loop-number-test.true) c.in-Ok.ensures.added;
    }

pub returns-clause-listed : goal.returns-clause-listed
returns-clause-listed c =
    let one = c.args.first.now in
    let two = c.args.second.now.rules.now in
    let n = c.loop-number.number in
    let start = c.new-listing.result in
    let none = begins one two [] start c.new-listing.ensures.ends c.new-listing.ensures.rules c.new-listing.ensures.parts in
    has_all one two [] (leaves_of one) start c.loop-number.listing none
    (underway_end one two [] (leaves_of one) (leaves_from n (drop n one)) start c.loop-number.listing (leaves_end one n n c.loop-number-test.false) c.loop-number.invariant.underway)
