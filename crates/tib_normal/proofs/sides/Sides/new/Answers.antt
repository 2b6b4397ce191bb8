use Rattle.std.proofs.Common.{arith, ℕ, ◌-◌, ◌+◌, ◌<◌, ◌≡◌, suc, subst, take, drop, length}
use Rattle.std.specs.Prelude.{sum_by, reverse}
use Rattle.std.proofs.lemmas.List.{get_or_read}
use Rattle.tib_grammar.specs.Run.{no_rule}
use Rattle.tib_grammar.specs.ShapeBuckets.{lists_of}
use Rattle.tib_normal.specs.NormalForm.{all_inner}
use Rattle.tib_normal.specs.Places.{rule_labels}
use Rattle.tib_normal.proofs.Numbering.{AreNumberedFrom, counted-more, numbered-more, numbered-all}
use Rattle.tib_normal.proofs.Placing.{inner-more}
use Rattle.tib_normal.proofs.sides.Sides.new.Goals as goal

pub loop-n-preserved : goal.loop-n-preserved
loop-n-preserved c =
    let n : ℕ = c.loop-n.n - 1 in
    let one : c.loop-n.n ≡ suc n = omega (arith, c.loop-n-test.true) in
    let below : n < length c.args.rules.now = omega (arith, c.loop-n.invariant.within, c.loop-n-test.true) in
    let at = get_or_read c.args.rules.now n c.index-rules-n.result below c.index-rules-n.is no_rule in
    let counted = counted-more c.args.states c.args.rules.now n c.in_ok-state.state c.loop-n.state c.index-rules-n.result below at
    (subst (λ m. c.loop-n.state ≡ c.args.states + sum_by rule_labels (take m c.args.rules.now)) one c.loop-n.invariant.counted)
    c.in_ok-state.ensures.state in
    record {
      within = omega arith;
      counted = counted;
      inner = inner-more c.in_ok-state.state c.args.rules.now n c.index-rules-n.result c.loop-n.sides.inner.items c.add.new.self.inner.items c.loop-n.state below at c.in_ok-state.ensures.state
          (subst (λ m. reverse c.loop-n.sides.inner.items ≡ all_inner c.loop-n.state (drop m c.args.rules.now)) one c.loop-n.invariant.inner)
          c.in_ok-state.ensures.rules;
      empty = c.in_ok-state.ensures.empty;
      numbered = numbered-more c.args.states c.args.rules.now n c.in_ok-state.state c.index-rules-n.result (lists_of c.loop-n.sides.table.keys) (lists_of c.add.new.self.table.keys) c.loop-n.sides.numbers.items c.add.new.self.numbers.items below at counted
          (subst (λ m. AreNumberedFrom c.args.states c.args.rules.now m (lists_of c.loop-n.sides.table.keys) c.loop-n.sides.numbers.items) one c.loop-n.invariant.numbered)
          c.in_ok-state.ensures.number;
    }

pub returns-clause-sides : goal.returns-clause-sides
returns-clause-sides c =
    let done : c.loop-n.n ≡ 0 = omega (arith, c.loop-n-test.false) in
    numbered-all c.args.states c.args.rules.now (lists_of c.loop-n.sides.table.keys) c.loop-n.sides.numbers.items (omega (arith, c.requires.few))
    (subst (λ m. AreNumberedFrom c.args.states c.args.rules.now m (lists_of c.loop-n.sides.table.keys) c.loop-n.sides.numbers.items) done c.loop-n.invariant.numbered)
