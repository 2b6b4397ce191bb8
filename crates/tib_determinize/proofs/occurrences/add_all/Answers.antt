use Rattle.std.proofs.Common.{◌≡◌, List, take, arith, sym, get_or, subst}
use Rattle.std.proofs.lemmas.List.{take_all}
use Rattle.tib_lex.specs.Lists.{Has}
use Rattle.tib_determinize.specs.declared.occurrences.Occurrence.{Occurrence}
use Rattle.tib_determinize.proofs.Occurring.{next_found, read_any}
use Rattle.tib_determinize.proofs.occurrences.add_all.Goals as goal

pub loop-one-preserved : goal.loop-one-preserved
loop-one-preserved c =
    let one = c.copied-occurrence.result in
    let is : one ≡ get_or c.args.places.now c.loop-one.one-index one = read_any c.args.places.now c.loop-one.one-index one _ one c.loop-one-test.true c.copied-occurrence.ensures in
    record {
      more = λ q o h. c.in_ok-add.ensures.more q o (c.loop-one.invariant.more q o h);
      own = next_found c.args.places.now c.loop-one.one-index one c.loop-one.found.items c.add.new.lists.items c.loop-one-test.true is c.in_ok-add.ensures.more c.in_ok-add.ensures.own c.loop-one.invariant.own;
    }

pub returns-clause-own : goal.returns-clause-own
returns-clause-own c = λ o h.
    let done = c.loop-one-test.false in
    let all : take c.loop-one.one-index c.args.places.now ≡ c.args.places.now = take_all c.loop-one.one-index c.args.places.now (omega (arith, done)) in
    c.loop-one.invariant.own o (subst (λ (xs : List Occurrence). Has xs o) (sym all) h)
