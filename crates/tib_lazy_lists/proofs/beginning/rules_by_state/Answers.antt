use Rattle.std.specs.Prelude.{◌≡◌, ℕ, List, length, map, ◌++◌, ◌∷◌, [], ◌<◌}
use Rattle.std.proofs.Common.{arith, ap, ◌∙◌, get_or}
use Rattle.std.proofs.Math.ListN.{set, length-set}
use Rattle.std.proofs.lemmas.List.{length-map}
use Rattle.tib_grammar.specs.Run.{rule_at}
use Rattle.tib_lazy_lists.specs.AskingOf.{rules_of}
use Rattle.tib_lazy_lists.proofs.Begun.{by_more}
use Rattle.tib_lazy_lists.proofs.beginning.rules_by_state.Goals as goal

pub loop-rule-preserved : goal.loop-rule-preserved
loop-rule-preserved c =
    let n : ℕ = c.loop-rule.rule in
    let rules = c.args.lists.now.rules in
    let old : List (List ℕ) = map rules_of c.loop-rule.by_state.items in
    let left : ℕ = (rule_at rules n).left in
    let inside : left < length old = omega (arith, (c.requires.range n (omega (arith, c.loop-rule-test.true, c.rules-rules.ensures))).0, c.loop-rule.invariant.1, length-map c.loop-rule.by_state.items rules_of) in
    let e : map rules_of c.add_rule.new.by_state.items ≡ set old left (get_or old left [] ++ n ∷ []) =
    c.in_ok-add_rule.ensures ∙ ap (λ (q : ℕ). set old q (get_or old q [] ++ n ∷ [])) c.left.ensures
    in (
      by_more rules n old (map rules_of c.add_rule.new.by_state.items) inside e c.loop-rule.invariant.0,
      omega (
        arith,
        c.loop-rule.invariant.1,
        ap (λ (bs : List (List ℕ)). length bs) e,
        length-map c.add_rule.new.by_state.items rules_of,
        length-map c.loop-rule.by_state.items rules_of,
        length-set old left (get_or old left [] ++ n ∷ []),
      ),
    )
