use Rattle.std.proofs.Common.{arith, subst, ◌∙◌, ◌≡◌, ◌<◌, get_or, length}
use Rattle.std.proofs.lemmas.List.{get_or_read, length-set}
use Rattle.tib_count.specs.declared.order.Phase.TheVariants.{Unseen, Begun, Settled}
use Rattle.tib_count.specs.Order.{IsAt}
use Rattle.tib_count.proofs.Searching.{last_below, last_begun, settle_less, begin_less, settle_step, begin_step, circle_step, is_begun}
use Rattle.tib_count.proofs.order.search.Goals as goal

pub bounds-cursors-state : goal.bounds-cursors-state
bounds-cursors-state c =
    omega (arith, c.loop-state.invariant.searching.long, last_below c.args.edges.now.froms.items c.args.edges.now.tos.items c.loop-state.phases c.loop-state.cursors c.loop-state.path.items c.loop-state.order.items c.pop.new.self.items c.in-Some.state c.in-Some.ensures.items c.loop-state.invariant.searching)

pub bounds-phases-state : goal.bounds-phases-state
bounds-phases-state c =
    last_below c.args.edges.now.froms.items c.args.edges.now.tos.items c.loop-state.phases c.loop-state.cursors c.loop-state.path.items c.loop-state.order.items c.pop.new.self.items c.in-Some.state c.in-Some.ensures.items c.loop-state.invariant.searching

pub loop-state-smaller-in-Continue-1 : goal.loop-state-smaller-in-Continue-1
loop-state-smaller-in-Continue-1 c =
    settle_less c.loop-state.phases c.in-Some.state
    (last_below c.args.edges.now.froms.items c.args.edges.now.tos.items c.loop-state.phases c.loop-state.cursors c.loop-state.path.items c.loop-state.order.items c.pop.new.self.items c.in-Some.state c.in-Some.ensures.items c.loop-state.invariant.searching)
    (last_begun c.args.edges.now.froms.items c.args.edges.now.tos.items c.loop-state.phases c.loop-state.cursors c.loop-state.path.items c.loop-state.order.items c.pop.new.self.items c.in-Some.state c.in-Some.ensures.items c.loop-state.invariant.searching)

pub loop-state-preserved-in-Continue-1 : goal.loop-state-preserved-in-Continue-1
loop-state-preserved-in-Continue-1 c = record {
  long = length-set c.loop-state.phases c.in-Some.state Settled ∙ c.loop-state.invariant.long;
  searching = settle_step c.args.edges.now.froms.items c.args.edges.now.tos.items c.loop-state.phases c.loop-state.cursors c.loop-state.path.items c.loop-state.order.items c.pop.new.self.items c.push.new.self.items c.in-Some.state c.skip-place.result
      c.in-Some.ensures.items c.in_ok-push.ensures.items c.loop-state.invariant.searching c.skip-place.ensures.passed
      (omega (arith, c.if-place-len.true, c.len.ensures, c.args.edges.now.tos.ok.0, c.requires.as_many));
}

pub returns-in_default-phases : goal.returns-in_default-phases
returns-in_default-phases c =
    let here : c.skip-place.result < length c.args.edges.now.tos.items =
    omega (arith, c.if-place-len.false, c.len.ensures, c.skip-place.ensures.passed.within, c.args.edges.now.tos.ok.0, c.requires.as_many) in
    let at : c.skip-place.result < length c.args.edges.now.froms.items = omega (arith, c.requires.as_many) in
    let same : c.index-below.result.now ≡ get_or c.args.edges.now.tos.items c.skip-place.result 0 =
    get_or_read c.args.edges.now.tos.items c.skip-place.result c.index-below.result.now here c.index-below.ensures 0 in
    circle_step c.args.edges.now.froms.items c.args.edges.now.tos.items c.loop-state.phases c.loop-state.cursors c.loop-state.path.items c.loop-state.order.items c.pop.new.self.items c.in-Some.state c.skip-place.result c.index-below.result.now
    c.in-Some.ensures.items c.loop-state.invariant.searching c.skip-place.ensures.passed at same
    (is_begun (get_or c.loop-state.phases c.index-below.result.now Unseen) c.in_default-phases.not-Unseen
    (λ e. c.skip-place.ensures.stops here (subst (λ z. IsAt c.loop-state.phases z Settled) same e)))

pub bounds-cursors-state-else-place-len : goal.bounds-cursors-state-else-place-len
bounds-cursors-state-else-place-len c =
    omega (arith, c.loop-state.invariant.searching.long, last_below c.args.edges.now.froms.items c.args.edges.now.tos.items c.loop-state.phases c.loop-state.cursors c.loop-state.path.items c.loop-state.order.items c.pop.new.self.items c.in-Some.state c.in-Some.ensures.items c.loop-state.invariant.searching)

pub loop-state-smaller : goal.loop-state-smaller
loop-state-smaller c =
    let here : c.skip-place.result < length c.args.edges.now.tos.items =
    omega (arith, c.if-place-len.false, c.len.ensures, c.skip-place.ensures.passed.within, c.args.edges.now.tos.ok.0, c.requires.as_many) in
    let at : c.skip-place.result < length c.args.edges.now.froms.items = omega (arith, c.requires.as_many) in
    let same : c.index-below.result.now ≡ get_or c.args.edges.now.tos.items c.skip-place.result 0 =
    get_or_read c.args.edges.now.tos.items c.skip-place.result c.index-below.result.now here c.index-below.ensures 0 in
    let below : c.index-below.result.now < length c.loop-state.phases = omega (arith, same, c.requires.below c.skip-place.result here, c.loop-state.invariant.long) in
    begin_less c.loop-state.phases c.index-below.result.now below c.in-Unseen.is

pub loop-state-preserved : goal.loop-state-preserved
loop-state-preserved c =
    let here : c.skip-place.result < length c.args.edges.now.tos.items =
    omega (arith, c.if-place-len.false, c.len.ensures, c.skip-place.ensures.passed.within, c.args.edges.now.tos.ok.0, c.requires.as_many) in
    let at : c.skip-place.result < length c.args.edges.now.froms.items = omega (arith, c.requires.as_many) in
    let same : c.index-below.result.now ≡ get_or c.args.edges.now.tos.items c.skip-place.result 0 =
    get_or_read c.args.edges.now.tos.items c.skip-place.result c.index-below.result.now here c.index-below.ensures 0 in
    let below : c.index-below.result.now < length c.loop-state.phases = omega (arith, same, c.requires.below c.skip-place.result here, c.loop-state.invariant.long) in
    record {
      long = length-set c.loop-state.phases c.index-below.result.now Begun ∙ c.loop-state.invariant.long;
      searching = begin_step c.args.edges.now.froms.items c.args.edges.now.tos.items c.loop-state.phases c.loop-state.cursors c.loop-state.path.items c.loop-state.order.items c.pop.new.self.items c.push-else-place-len.new.self.items c.push-else-place-len-2.new.self.items c.in-Some.state c.skip-place.result c.index-below.result.now
          c.in-Some.ensures.items c.in_ok-push-2.ensures.items c.in_ok-push-3.ensures.items c.loop-state.invariant.searching c.skip-place.ensures.passed at same below c.in-Unseen.is;
    }
