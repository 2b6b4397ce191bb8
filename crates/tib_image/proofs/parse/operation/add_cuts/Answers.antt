use Rattle.std.proofs.Common.{◌<◌, ap, sym, ◌∙◌, subst, [], ◌∷◌, ℕ, List, length, arith, refl}
use Rattle.tib_strings.specs.Remaining.{remaining, GoesTo}
use Rattle.tib_image.specs.ParseListing.{Adds, Overruns, HasPlaces, cut_edge}
use Rattle.tib_image.proofs.ParseListed.{done_first, done_next, done_overruns, done_all}
use Rattle.tib_image.proofs.parse.operation.add_cuts.Goals as goal

pub loop-cuts-init : goal.loop-cuts-init
loop-cuts-init c = record {
  within = c.requires.within;
  search = c.requires.search;
  tokens = c.requires.tokens;
  long = refl;
  done = done_first c.args.restrictions.now c.args.key c.args.rule.now (remaining c.args.cuts.now) c.args.listing.now;
}

pub add_cut-requires-clause-as_many : goal.add_cut-requires-clause-as_many
add_cut-requires-clause-as_many c =
    let goes = subst (GoesTo c.loop-cuts.cuts c.next_cut.new.cuts) c.if-branch.true c.in_ok-next_cut.ensures.goes in
    ap length c.places.ensures ∙ goes.2 ∙ ap length c.loop-cuts.invariant.tokens

pub add_cut-requires-clause-room : goal.add_cut-requires-clause-room
add_cut-requires-clause-room c = subst (λ n. HasPlaces n c.args.rule.now) (sym c.loop-cuts.invariant.long) c.requires.room

pub loop-cuts-preserved : goal.loop-cuts-preserved
loop-cuts-preserved c =
    let goes = subst (GoesTo c.loop-cuts.cuts c.next_cut.new.cuts) c.if-branch.true c.in_ok-next_cut.ensures.goes in
    let labels = c.args.restrictions.now in
    let key = c.args.key in
    let r = c.args.rule.now in
    let adds = subst (λ (ks : List ℕ). Adds key (cut_edge labels key r ks ∷ []) c.loop-cuts.listing c.add_cut.new.listing) c.places.ensures c.in-Ok.ensures.added in
    record {
      within = c.in-Ok.ensures.within;
      search = goes.0;
      tokens = goes.3 ∙ c.loop-cuts.invariant.tokens;
      long = c.add_cut.ensures.long ∙ c.loop-cuts.invariant.long;
      done = done_next labels key r (remaining c.args.cuts.now) (remaining c.loop-cuts.cuts) c.next_cut.new.cuts.places.items (remaining c.next_cut.new.cuts) c.args.listing.now c.loop-cuts.listing c.add_cut.new.listing goes.1
          c.loop-cuts.invariant.done adds;
    }

pub loop-cuts-smaller : goal.loop-cuts-smaller
loop-cuts-smaller c =
    let goes = subst (GoesTo c.loop-cuts.cuts c.next_cut.new.cuts) c.if-branch.true c.in_ok-next_cut.ensures.goes in
    let less : length (remaining c.next_cut.new.cuts) < length (remaining c.loop-cuts.cuts) = omega (arith, ap length goes.1) in
    less

pub returns-in-Err-clause-more : goal.returns-in-Err-clause-more
returns-in-Err-clause-more c e =
    let goes = subst (GoesTo c.loop-cuts.cuts c.next_cut.new.cuts) c.if-branch.true c.in_ok-next_cut.ensures.goes in
    let labels = c.args.restrictions.now in
    let key = c.args.key in
    let r = c.args.rule.now in
    let over = subst (λ (ks : List ℕ). Overruns (cut_edge labels key r ks ∷ []) c.loop-cuts.listing) c.places.ensures (c.add_cut.ensures.more (c.in-Err.is ∙ e)) in
    done_overruns labels key r (remaining c.args.cuts.now) (remaining c.loop-cuts.cuts) c.next_cut.new.cuts.places.items (remaining c.next_cut.new.cuts) c.args.listing.now c.loop-cuts.listing goes.1 c.loop-cuts.invariant.done over

pub returns-clause-added : goal.returns-clause-added
returns-clause-added c =
    let none = subst (GoesTo c.loop-cuts.cuts c.next_cut.new.cuts) c.if-branch.false c.in_ok-next_cut.ensures.goes in
    done_all c.args.restrictions.now c.args.key c.args.rule.now (remaining c.args.cuts.now) (remaining c.loop-cuts.cuts) c.args.listing.now c.loop-cuts.listing none c.loop-cuts.invariant.done
