use Rattle.std.proofs.Common.{◌++◌, ℕ, List, ap, ◌∙◌, arith}
use Rattle.tib_grammar.specs.declared.Item.TheVariants.{Label}
use Rattle.tib_intersect.proofs.Lists.{zip_all, zip_at, pushed, same_pair}
use Rattle.tib_grammar.specs.Items.{state_in}
use Rattle.tib_intersect.proofs.listing.push_pairs.Goals as goal

pub loop-i-preserved : goal.loop-i-preserved
loop-i-preserved c =
    let more = zip_at state_in state_in c.args.one.now c.args.two.now c.loop-i.i (Label 0 0) (Label 0 0) c.loop-i-test.true (omega (arith, c.requires, c.loop-i-test.true)) in
    c.in_ok-push.ensures.items
    ∙ pushed c.args.ends.now.items c.loop-i.ends.items _ _ c.loop-i.invariant
    (c.new.ensures ∙ same_pair c.state.ensures c.state-in-loop-i.ensures) more

pub returns : goal.returns
returns c = c.loop-i.invariant ∙ ap (λ (zs : List (ℕ × ℕ)). c.args.ends.now.items ++ zs) (zip_all state_in state_in c.args.one.now c.args.two.now c.loop-i.i c.loop-i-test.false)
