use Rattle.std.proofs.Common.{ℕ, ap, sym, subst, List}
use Rattle.tib_turn.specs.Prefixes.{IsPrefix}
use Rattle.tib_turn.specs.Seen.{Seen}
use Rattle.tib_table.specs.Kept.{log_of}
use Rattle.tib_table.specs.declared.problem.Entry.{Entry}
use Rattle.tib_table.proofs.Logs.{prefix_trans, number_grows, log_kept, keys_more, named_in}
use Rattle.tib_table.proofs.turns.number_in_turn.Goals as goal

pub leave-requires-clause-grows : goal.leave-requires-clause-grows
leave-requires-clause-grows g c =
    let n = c.number-numbered.ensures in
    let seen = ap (λ (s : Seen (Entry (g.row.P-Data.Denot × ℕ) g.row.P-Key.Denot)). s.seen) c.enter-turn.ensures.inside in
    subst (λ (l : List (Entry (g.row.P-Data.Denot × ℕ) g.row.P-Key.Denot)). IsPrefix l (log_of c.number-numbered.new.self)) (sym seen) (number_grows g.P.Key.PartialEq.eq c.enter-turn.result.value c.number-numbered.new.self c.args.key c.number-numbered.result n.about n.keys n.refused)

pub returns-clause-log : goal.returns-clause-log
returns-clause-log g c =
    let left = ap (λ (s : Seen (Entry (g.row.P-Data.Denot × ℕ) g.row.P-Key.Denot)). s.seen) c.leave.ensures.outside in
    λ d. log_kept d c.args.pass.now.seen c.leave.new.pass.seen c.enter-turn.result.value c.number-numbered.new.self left c.number-numbered.ensures.about c.enter-turn.ensures.prefix

pub returns-clause-more : goal.returns-clause-more
returns-clause-more g c =
    let n = c.number-numbered.ensures in
    let left = ap (λ (s : Seen (Entry (g.row.P-Data.Denot × ℕ) g.row.P-Key.Denot)). s.seen) c.leave.ensures.outside in
    keys_more c.args.pass.now.seen c.leave.new.pass.seen
    (subst (IsPrefix c.args.pass.now.seen) (sym left)
    (prefix_trans c.args.pass.now.seen (log_of c.enter-turn.result.value) (log_of c.number-numbered.new.self) c.enter-turn.ensures.prefix (number_grows g.P.Key.PartialEq.eq c.enter-turn.result.value c.number-numbered.new.self c.args.key c.number-numbered.result n.about n.keys n.refused)))

pub returns-clause-named : goal.returns-clause-named
returns-clause-named g c =
    named_in c.leave.new.pass.seen c.number-numbered.new.self c.args.key c.number-numbered.result (ap (λ (s : Seen (Entry (g.row.P-Data.Denot × ℕ) g.row.P-Key.Denot)). s.seen) c.leave.ensures.outside) c.number-numbered.ensures.named
