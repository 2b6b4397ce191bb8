use Rattle.std.proofs.Common.{rules, ap, ◌∙◌, ◌≡◌, ◌⊎◌, ℕ, List, length, subst}
use Rattle.std.specs.Prelude.{Bool, true, false, replicate, slice_set}
use Rattle.std.proofs.lemmas.List.{get_or_read, length-set}
use Rattle.tib_lex.specs.Lists.{Has}
use Rattle.tib_grammar.specs.Run.{no_rule}
use Rattle.tib_grammar.specs.Sides.{holes_of}
use Rattle.tib_grammar.specs.declared.Rule.{Rule}
use Rattle.tib_inside.specs.Reaching.{IsMarked}
use Rattle.tib_prune.proofs.Untrimmed.{leads_first, leads_on, long_false}
use Rattle.tib_prune.proofs.whole.leads_to_all.Goals as goal

pub loop-rule-init : goal.loop-rule-init
loop-rule-init c =
    let are : c.in_ok-marks.marks.items ≡ replicate c.args.states false = search rules in
    record {
      long = length-set c.in_ok-marks.marks.items 0 true ∙ ap length are ∙ long_false c.args.states;
      leads = leads_first c.args.rules.now c.args.states (slice_set c.in_ok-marks.marks.items 0 true) c.requires.some (ap (λ (xs : List Bool). slice_set xs 0 true) are);
    }

pub loop-rule-preserved : goal.loop-rule-preserved
loop-rule-preserved c =
    let at = get_or_read c.args.rules.now c.loop-rule.rule-index c.rule-item.result c.loop-rule-test.true c.rule-item.is no_rule in
    record {
      long = c.mark_below.ensures.long ∙ c.loop-rule.invariant.long;
      leads = leads_on c.args.rules.now c.loop-rule.rule-index c.loop-rule.marks.items c.mark_below.new.marks.items c.loop-rule-test.true c.loop-rule.invariant.leads
          (subst (λ (r : Rule ℕ). (q : ℕ) → IsMarked c.mark_below.new.marks.items q → IsMarked c.loop-rule.marks.items q ⊎ (IsMarked c.loop-rule.marks.items r.left × Has (holes_of r.right) q)) at c.mark_below.ensures.only);
    }
