use Rattle.std.proofs.Common.{◌≡◌, ℕ, List, take, drop, length, arith, get_or, refl, ap, sym, ◌∙◌, subst, ◌-◌, ◌≤◌}
use Rattle.std.proofs.lemmas.List.{get_or_read, length-map}
use Rattle.tib_grammar.specs.Run.{no_rule, rule_at}
use Rattle.tib_grammar.specs.declared.Rule.{Rule}
use Rattle.tib_cost.specs.Semiring.{most}
use Rattle.tib_canon.specs.declared.lines.Line.{Line}
use Rattle.tib_canon.proofs.Pieces.{in_turn, lines_on, begin_on}
use Rattle.tib_canon.proofs.lines.lines_at.Goals as goal

pub line_between-requires-clause-some : goal.line_between-requires-clause-some
line_between-requires-clause-some c =
    let to = get_or_read c.args.texts.now.ends.items c.loop-n.n c.index-end.result.now (omega (arith, c.requires.texts.3.long, length-map c.args.positions.now (rule_at c.args.rules.now))) c.index-end.ensures 0 in
    (in_turn c.args.rules.now c.args.positions.now c.args.texts.now.sink.bytes c.args.texts.now.ends.items c.loop-n.n c.loop-n.begin (omega arith) c.loop-n.invariant.begin c.requires.texts c.index-end.result.now to).0

pub line_between-requires-clause-within : goal.line_between-requires-clause-within
line_between-requires-clause-within c =
    let to = get_or_read c.args.texts.now.ends.items c.loop-n.n c.index-end.result.now (omega (arith, c.requires.texts.3.long, length-map c.args.positions.now (rule_at c.args.rules.now))) c.index-end.ensures 0 in
    let within = (in_turn c.args.rules.now c.args.positions.now c.args.texts.now.sink.bytes c.args.texts.now.ends.items c.loop-n.n c.loop-n.begin (omega arith) c.loop-n.invariant.begin c.requires.texts c.index-end.result.now to).1 in
    subst (λ (text : List ℕ). c.index-end.result.now ≤ length text) (sym c.bytes-text.ensures) within

pub loop-n-preserved : goal.loop-n-preserved
loop-n-preserved c =
    let to = get_or_read c.args.texts.now.ends.items c.loop-n.n c.index-end.result.now (omega (arith, c.requires.texts.3.long, length-map c.args.positions.now (rule_at c.args.rules.now))) c.index-end.ensures 0 in
    let position : ℕ = get_or c.args.positions.now c.loop-n.n 0 in
    let rule : c.index-rules-positions.result ≡ rule_at c.args.rules.now position = get_or_read c.args.rules.now position c.index-rules-positions.result (c.requires.below c.loop-n.n (omega arith)) c.index-rules-positions.is no_rule in
    let line : Line = record { left = c.index-rules-positions.result.left; text = c.line_between.result; position = position } in
    let on = lines_on c.args.rules.now c.args.positions.now c.args.texts.now.sink.bytes c.args.texts.now.ends.items c.loop-n.n c.loop-n.begin (omega arith) c.loop-n.invariant.begin c.index-end.result.now to c.loop-n.lines.items line
    (record {
      position = refl;
      below = c.requires.below c.loop-n.n (omega arith);
      left = ap (λ (r : Rule ℕ). r.left) rule;
      bytes = c.line_between.ensures ∙ ap (λ (text : List ℕ). take (c.index-end.result.now - 1 - c.loop-n.begin) (drop c.loop-n.begin text)) c.bytes-text.ensures;
      within = subst (λ (r : Rule ℕ). r.cost ≤ most) rule (subst (λ (n : ℕ). n ≤ most) c.get.ensures.same c.get.ensures.within);
    }) c.push.new.self.items c.loop-n.invariant.lines c.loop-n.invariant.positions c.in_ok-push.ensures.items in
    record { lines = on.are; positions = on.at; begin = begin_on c.args.texts.now.ends.items c.loop-n.n c.index-end.result.now to }
