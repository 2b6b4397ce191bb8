use Rattle.std.proofs.Common.{rules, arith, ap, ◌∙◌, ◌≡◌, [], ◌∷◌, length}
use Rattle.std.specs.Prelude.{replicate}
use Rattle.std.proofs.lemmas.List.{length-replicate}
use Rattle.tib_trim.proofs.FirstSeen.{states_more, states_all, states_few}
use Rattle.tib_trim.proofs.Numbered.{first_number}
use Rattle.tib_trim.proofs.seen.seen_states.Goals as goal

pub loop-rule-init : goal.loop-rule-init
loop-rule-init c =
    let states : c.in_ok-states.states.items ≡ 0 ∷ [] = search rules in
    let numbers : c.in_ok-numbers.numbers.items ≡ replicate c.args.count 0 = search rules in
    record {
      states = states;
      numbers = first_number c.in_ok-states.states.items c.in_ok-numbers.numbers.items c.args.count states numbers;
      long = ap length numbers ∙ length-replicate c.args.count 0;
    }

pub see-requires-clause-few : goal.see-requires-clause-few
see-requires-clause-few c =
    let few = states_few c.args.rules.now c.loop-rule.rule-index c.loop-rule.states.items (omega (arith, c.loop-rule-test.true)) c.loop-rule.invariant.states in
    omega (arith, few, c.requires.few, c.loop-rule-test.true)

pub loop-rule-preserved : goal.loop-rule-preserved
loop-rule-preserved c = record {
  states = states_more c.args.rules.now c.loop-rule.rule-index c.rule-item.result _ c.loop-rule.states.items c.see.new.states.items c.loop-rule-test.true c.rule-item.is c.loop-rule.invariant.states c.in_ok-see.ensures.seen;
  numbers = c.in_ok-see.ensures.numbers;
  long = c.see.ensures.long ∙ c.loop-rule.invariant.long;
}

pub returns-clause-states : goal.returns-clause-states
returns-clause-states c = states_all c.args.rules.now c.loop-rule.rule-index c.loop-rule.states.items c.loop-rule-test.false c.loop-rule.invariant.states
