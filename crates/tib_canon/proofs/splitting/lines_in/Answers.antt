use Rattle.std.proofs.Common.{length, map, sym, ◌∙◌}
use Rattle.tib_canon.proofs.Split.{first_line, goes_on, all_cut, is_nothing, is_something}
use Rattle.tib_canon.proofs.splitting.lines_in.Goals as goal

pub text_behind-rest-requires : goal.text_behind-rest-requires
text_behind-rest-requires c = (first_line c.requires.0 (map (λ line. line.now) c.loop-rest.lines.items) c.loop-rest.rest.now c.line_length-end.result (c.loop-rest.invariant c.requires.0 c.requires.1) (is_something (length c.loop-rest.rest.now) (sym c.is_empty.ensures ∙ c.loop-rest-test.true)) c.line_length-end.ensures.count).within

pub loop-rest-preserved : goal.loop-rest-preserved
loop-rest-preserved c =
    λ lines are. goes_on (λ line. line.now) lines c.loop-rest.lines.items c.push.new.self.items c.text_before.result c.loop-rest.rest.now c.text_behind-rest.result.now c.line_length-end.result (c.loop-rest.invariant lines are) (is_something (length c.loop-rest.rest.now) (sym c.is_empty.ensures ∙ c.loop-rest-test.true)) c.line_length-end.ensures.count
    c.text_before.ensures c.in_ok-push.ensures.items c.text_behind-rest.ensures

pub returns : goal.returns
returns c = λ lines are. all_cut lines (map (λ line. line.now) c.loop-rest.lines.items) c.loop-rest.rest.now (c.loop-rest.invariant lines are) (is_nothing (length c.loop-rest.rest.now) (sym c.is_empty.ensures ∙ c.loop-rest-test.false))
