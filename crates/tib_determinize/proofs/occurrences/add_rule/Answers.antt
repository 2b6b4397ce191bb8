use Rattle.std.proofs.Common.{ℕ, arith, ap, sym, ◌∙◌}
use Rattle.std.proofs.lemmas.List.{get_or_read}
use Rattle.tib_grammar.specs.Run.{no_rule}
use Rattle.tib_grammar.specs.declared.Rule.{Rule}
use Rattle.tib_determinize.proofs.Occurring.{own_held, next_held, rank_is}
use Rattle.tib_determinize.proofs.occurrences.add_rule.Goals as goal

pub state_at-state-requires-clause-place : goal.state_at-state-requires-clause-place
state_at-state-requires-clause-place c =
    let is = get_or_read c.args.rules.now c.args.rule c.index-rules-rule.result c.requires.below c.index-rules-rule.is no_rule in
    let rank = rank_is c.args.rules.now c.requires.normal c.args.rule c.index-rules-rule.result c.root-label.result.1 c.requires.below is c.root-label.ensures.rank in
    let low = c.loop-place-test.true in
    (c.requires.below, omega (arith, low, rank))

pub loop-place-preserved : goal.loop-place-preserved
loop-place-preserved c =
    let rules = c.args.rules.now in
    let is = get_or_read rules c.args.rule c.index-rules-rule.result c.requires.below c.index-rules-rule.is no_rule in
    record {
      more = λ q o h. c.in_ok-add.ensures.more q o (c.loop-place.invariant.more q o h);
      own = next_held rules c.args.many c.args.rule c.loop-place.place c.loop-place.lists.items c.add.new.lists.items c.in_ok-add.ensures.more
          (own_held rules c.args.many c.args.rule c.loop-place.place c.root-label.result.0 c.bucket_of-bucket.result c.state_at-state.result c.add.new.lists.items
          (ap (λ (x : Rule ℕ). x.right.label) (sym is) ∙ c.root-label.ensures.label) c.bucket_of-bucket.ensures c.state_at-state.ensures c.in_ok-add.ensures.own)
          c.loop-place.invariant.own;
    }

pub returns-clause-own : goal.returns-clause-own
returns-clause-own c = λ j low.
    let is = get_or_read c.args.rules.now c.args.rule c.index-rules-rule.result c.requires.below c.index-rules-rule.is no_rule in
    let rank = rank_is c.args.rules.now c.requires.normal c.args.rule c.index-rules-rule.result c.root-label.result.1 c.requires.below is c.root-label.ensures.rank in
    let done = c.loop-place-test.false in
    c.loop-place.invariant.own j (omega (arith, low, rank, done))
