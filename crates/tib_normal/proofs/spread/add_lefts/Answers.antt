use Rattle.std.proofs.Common.{ℕ, List, arith, sym, subst, ◌≡◌, get_or, length, ◌+◌, ◌<◌}
use Rattle.std.proofs.lemmas.List.{get_or_read}
use Rattle.tib_grammar.specs.Run.{no_rule}
use Rattle.tib_normal.specs.Links.{IsNext, AreLinks, no_key}
use Rattle.tib_normal.proofs.Closing.{spread-more, spread-start, spread-all}
use Rattle.tib_normal.proofs.spread.add_lefts.Goals as goal

pub loop-n-init : goal.loop-n-init
loop-n-init g c =
    let first_at : c.index.result.now ≡ get_or c.args.links.now.first.items c.args.key 0 =
    get_or_read c.args.links.now.first.items c.args.key c.index.result.now c.requires.below c.index.ensures 0
    in
    let next : (keys : List ℕ) → AreLinks keys (length c.args.links.now.first.items) c.args.links.now → IsNext keys c.args.key 0 c.index.result.now =
    λ keys are. subst (λ p. IsNext keys c.args.key 0 p) (sym first_at) (are.first c.args.key c.requires.below)
    in
    record {
      within = omega (arith, (next c.requires.links.0 c.requires.links.2).within, c.requires.links.1);
      own = λ keys long are h. (next keys are).own h;
      spreads = λ keys long are. spread-start g.S.Semiring.product c.args.rules.now keys c.args.key c.args.cost c.index.result.now c.args.agenda.now (next keys are);
    }

pub loop-n-preserved : goal.loop-n-preserved
loop-n-preserved g c =
    let at = get_or_read c.args.rules.now c.loop-n.n c.index-rules-n.result c.loop-n-test.true c.index-rules-n.is no_rule in
    let within : c.loop-n.n < length c.args.links.now.next.items = omega (arith, c.loop-n-test.true, c.requires.links.2.places_long, c.requires.links.1) in
    let next_at : c.index-in-loop-n.result.now ≡ get_or c.args.links.now.next.items c.loop-n.n 0 =
    get_or_read c.args.links.now.next.items c.loop-n.n c.index-in-loop-n.result.now within c.index-in-loop-n.ensures 0
    in
    let own : (keys : List ℕ) → length keys ≡ length c.args.rules.now → AreLinks keys (length c.args.links.now.first.items) c.args.links.now → get_or keys c.loop-n.n no_key ≡ c.args.key =
    λ keys long are. c.loop-n.invariant.own keys long are (omega (arith, long, c.loop-n-test.true))
    in
    let next : (keys : List ℕ) → length keys ≡ length c.args.rules.now → AreLinks keys (length c.args.links.now.first.items) c.args.links.now → IsNext keys c.args.key (c.loop-n.n + 1) c.index-in-loop-n.result.now =
    λ keys long are.
    subst (λ p. IsNext keys c.args.key (c.loop-n.n + 1) p) (sym next_at)
    (subst (λ k. IsNext keys k (c.loop-n.n + 1) (get_or c.args.links.now.next.items c.loop-n.n 0)) (own keys long are)
    (are.next c.loop-n.n (omega (arith, long, c.loop-n-test.true)) (omega (arith, own keys long are, c.requires.below))))
    in
    record {
      within = omega (arith, (next c.requires.links.0 c.requires.links.1 c.requires.links.2).within, c.requires.links.1);
      own = λ keys long are h. (next keys long are).own h;
      spreads = λ keys long are.
          spread-more g.S.Semiring.product c.args.rules.now keys c.args.key c.args.cost c.loop-n.n c.index-in-loop-n.result.now c.args.agenda.now c.loop-n.agenda c.add_left.new.agenda c.index-rules-n.result at
          c.loop-n-test.true (own keys long are) (next keys long are) (c.loop-n.invariant.spreads keys long are) c.in_ok-add_left.ensures;
    }

pub returns : goal.returns
returns g c keys long are =
    spread-all g.S.Semiring.product c.args.rules.now keys c.args.key c.args.cost c.loop-n.n c.args.agenda.now c.loop-n.agenda c.loop-n-test.false c.loop-n.invariant.within (c.loop-n.invariant.spreads keys long are)
