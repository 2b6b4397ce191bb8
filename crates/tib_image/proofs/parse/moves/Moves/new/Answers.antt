use Rattle.std.proofs.Common.{ℕ, List, [], ◌∷◌, ◌++◌, ◌<◌, arith, ap, length, map, subst, sym, ◌∙◌}
use Rattle.std.specs.Global.{Vec}
use Rattle.std.proofs.lemmas.List.{get_or_read, get_or-map, length-set, take_all}
use Rattle.tib_lex.proofs.Lists.{length_map}
use Rattle.tib_lex.proofs.Places.{at_map}
use Rattle.tib_strings.specs.Rules.{string_rule, no_rule}
use Rattle.tib_strings.specs.declared.StringRule.{StringRule}
use Rattle.tib_transducer.specs.Moves.{moves_of}
use Rattle.tib_transducer.proofs.Moves.{held_next}
use Rattle.tib_image.specs.Restrictions.{as_rule}
use Rattle.tib_image.proofs.parse.moves.Moves.new.Goals as goal

pub index_mut-requires : goal.index_mut-requires
index_mut-requires g c =
    let same = c.rule_list-rule-items.ensures in
    let at = get_or_read c.rule_list-rule-items.result.now c.loop-n.n c.rule-item.result c.loop-n-test.true c.rule-item.is no_rule in
    let low = subst (λ (rs : List (StringRule ℕ)). c.loop-n.n < length rs) same c.loop-n-test.true in
    let is = at ∙ ap (λ (rs : List (StringRule ℕ)). string_rule rs c.loop-n.n) same in
    omega (arith, subst (λ (r : StringRule ℕ). r.state < length c.args.transducer.now.names) (sym is) (c.is_sound.ensures.range c.loop-n.n low).0, c.loop-n.invariant.long)

pub loop-n-preserved : goal.loop-n-preserved
loop-n-preserved g c =
    let moves = c.args.transducer.now.rules in
    let same = c.rule_list-rule-items.ensures in
    let at = get_or_read c.rule_list-rule-items.result.now c.loop-n.n c.rule-item.result c.loop-n-test.true c.rule-item.is no_rule in
    let low = subst (λ (rs : List (StringRule ℕ)). c.loop-n.n < length rs) same c.loop-n-test.true in
    let is = at ∙ ap (λ (rs : List (StringRule ℕ)). string_rule rs c.loop-n.n) same in
    let below = subst (λ (r : StringRule ℕ). r.state < length c.args.transducer.now.names) (sym is) (c.is_sound.ensures.range c.loop-n.n low).0 in
    let fits : c.rule-item.result.state < length c.loop-n.buckets.items = omega (arith, below, c.loop-n.invariant.long) in
    let few : c.loop-n.n < length (map as_rule moves) = omega (arith, low, length_map as_rule moves) in
    record {
      long = length-set c.loop-n.buckets.items c.rule-item.result.state c.push.new.self ∙ c.loop-n.invariant.long;
      held = held_next (map as_rule moves) c.loop-n.n few (as_rule c.rule-item.result) c.loop-n.buckets.items c.push.new.self (ap as_rule is ∙ sym (at_map as_rule moves c.loop-n.n no_rule)) fits
          (c.in_ok-push.ensures.items ∙ ap (λ (xs : List ℕ). xs ++ c.loop-n.n ∷ [])
          (ap (λ (b : Vec ℕ). b.items) c.index_mut.ensures.value ∙ sym (get_or-map (λ (b : Vec ℕ). b.items) c.loop-n.buckets.items c.rule-item.result.state c.index_mut.result.now [] fits)))
          c.loop-n.invariant.held;
    }

pub returns : goal.returns
returns g c q =
    c.loop-n.invariant.held q
    ∙ ap (moves_of q) (take_all c.loop-n.n (map as_rule c.args.transducer.now.rules) (omega (arith, c.loop-n-test.false, ap (λ (rs : List (StringRule ℕ)). length rs) c.rule_list-rule-items.ensures, length_map as_rule c.args.transducer.now.rules)))
