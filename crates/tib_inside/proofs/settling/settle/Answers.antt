use Rattle.std.proofs.Common.{arith, sym, ap, ◌∙◌, ◌≤◌, ◌+◌, subst, length, List, ℕ}
use Rattle.std.specs.Prelude.{Option, Some, None, slice_set}
use Rattle.std.proofs.lemmas.List.{get_or_read, get_or-set_same, get_or-set_other}
use Rattle.tib_inside.specs.Settling.{costs_in, IsSettling}
use Rattle.tib_inside.proofs.Moving.{dropped, settled, settled_less, has_some, has_none}
use Rattle.tib_inside.proofs.Occurring.{uses_fit}
use Rattle.tib_inside.proofs.settling.settle.Goals as goal
use Rattle.tib_lex.specs.Lists.{occurrences}

pub returns-then-is_some-clause-settling : goal.returns-then-is_some-clause-settling
returns-then-is_some-clause-settling g c =
    let at = get_or_read c.args.costs.now.items c.args.entry.1 c.index.result.now c.requires.state c.index.ensures None in
    let known = has_some c.index.result.now (sym c.is_some.ensures ∙ c.if-is_some.true) in
    dropped g.S.Semiring.product c.args.rules.now (costs_in c.args.costs.now.items) c.args.pending.now.items c.args.entry c.args.agenda.now known.0 c.requires.taken (sym at ∙ known.1)

pub spread-requires-clause-settling : goal.spread-requires-clause-settling
spread-requires-clause-settling g c =
    let at = get_or_read c.args.costs.now.items c.args.entry.1 c.index.result.now c.requires.state c.index.ensures None in
    let unknown = has_none c.index.result.now (sym c.is_some.ensures ∙ c.if-is_some.false) in
    subst (λ (xs : List (Option ℕ)). IsSettling g.S.Semiring.product c.args.rules.now (costs_in xs) c.args.entry.0 c.of.result.now c.args.pending.now.items c.args.agenda.now) (sym c.deref.ensures.value)
    (settled g.met.S.Semiring.laws c.args.rules.now (costs_in c.args.costs.now.items) (costs_in (slice_set c.args.costs.now.items c.args.entry.1 (Some c.args.entry.0))) c.args.pending.now.items c.args.entry c.args.agenda.now c.of.result.now
    c.requires.taken (sym at ∙ unknown) (get_or-set_same c.args.costs.now.items c.args.entry.1 (Some c.args.entry.0) None c.requires.state) (λ q k. get_or-set_other c.args.costs.now.items c.args.entry.1 q (Some c.args.entry.0) None k)
    (λ n b. ap (occurrences n) c.of.ensures ∙ c.requires.uses.each c.args.entry.1 n c.requires.state b))

pub returns-clause-less : goal.returns-clause-less
returns-clause-less g c =
    let at = get_or_read c.args.costs.now.items c.args.entry.1 c.index.result.now c.requires.state c.index.ensures None in
    let unknown = has_none c.index.result.now (sym c.is_some.ensures ∙ c.if-is_some.false) in
    let more : length c.spread.new.agenda ≤ length c.args.agenda.now + length c.args.uses.now.rules.items = omega (arith, c.in_ok-spread.ensures.more, ap length c.of.ensures, uses_fit c.args.uses.now c.args.entry.1) in
    settled_less (length c.args.uses.now.rules.items) c.args.costs.now.items c.args.entry.1 c.args.entry.0 c.args.agenda.now c.spread.new.agenda c.requires.state (sym at ∙ unknown) more
