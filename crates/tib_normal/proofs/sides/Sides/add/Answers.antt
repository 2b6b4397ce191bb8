use Rattle.std.proofs.Common.{arith, ℕ, ap, ◌++◌, sym, ◌∙◌, ◌+◌}
use Rattle.std.specs.Prelude.{reverse}
use Rattle.std.specs.Global.{Vec}
use Rattle.tib_grammar.specs.declared.Rule.{Rule}
use Rattle.tib_normal.specs.NormalForm.{inner_rules}
use Rattle.tib_normal.proofs.Numbering.{numbered-own}
use Rattle.tib_normal.proofs.Placing.{below-kids, nested-kids}
use Rattle.tib_normal.proofs.sides.Sides.add.Goals as goal
use Rattle.tib_grammar.specs.Sides.{labels_in}
use Rattle.tib_grammar.specs.ShapeBuckets.{lists_of}

pub place-requires-clause-nested : goal.place-requires-clause-nested
place-requires-clause-nested c = nested-kids c.items-items.result.now c.args.rule.now.right c.items-items.ensures.items

pub place-requires-clause-own : goal.place-requires-clause-own
place-requires-clause-own c = omega (arith, c.requires.own, ap labels_in (below-kids c.items-items.result.now c.args.rule.now.right c.items-items.ensures.items))

pub returns-clause-state : goal.returns-clause-state
returns-clause-state c =
    ap (λ z. c.in_ok-first.first + z) (ap labels_in (sym (below-kids c.items-items.result.now c.args.rule.now.right c.items-items.ensures.items))) ∙ c.in_ok-first.ensures.state

pub returns-clause-rules : goal.returns-clause-rules
returns-clause-rules c =
    ap (λ (v : Vec (Rule ℕ)). reverse v.items) c.number.ensures.inner
    ∙ c.in_ok-first.ensures.rules
    ∙ ap (λ z. inner_rules c.in_ok-first.first z ++ reverse c.args.self.now.inner.items) (below-kids c.items-items.result.now c.args.rule.now.right c.items-items.ensures.items)

pub returns-clause-number : goal.returns-clause-number
returns-clause-number c =
    numbered-own c.items-items.result.now c.args.rule.now c.args.n c.in_ok-first.first c.in-Label.label c.in-Label.rank c.len-rank.result c.in_ok-side.side.items c.place.new.stack.items (lists_of c.args.self.now.table.keys) (lists_of c.number.new.self.table.keys) c.args.self.now.numbers.items c.number.new.self.numbers.items
    c.items-items.ensures.items c.in-Label.is c.in_ok-first.ensures.states (c.len-rank.ensures ∙ c.place.new.stack.ok.0) c.in_ok-side.ensures.side c.in_ok-number.ensures.number
