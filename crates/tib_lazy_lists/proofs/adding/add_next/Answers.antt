use Rattle.std.specs.Prelude.{ℕ, length, ◌+◌, ◌<◌, refl}
use Rattle.std.proofs.Common.{arith, get_or, subst, sym}
use Rattle.tib_ranked_trees.specs.Held.{ranks_from, raise, list_of}
use Rattle.tib_lazy_lists.proofs.Added.{offers_none, offered_when, on_ok}
use Rattle.tib_lazy_lists.proofs.adding.add_next.Goals as goal

pub add_raised-requires-clause-next : goal.add_raised-requires-clause-next
add_raised-requires-clause-next g c =
    subst (λ (q : ℕ). get_or (ranks_from c.args.lists.now c.args.rule c.args.start) c.args.i 0 + 1 < length (list_of c.args.lists.now q)) c.state.ensures.same (omega (arith, c.rank.ensures, c.len.ensures, c.if-next-len.false))

pub returns-then-next-len : goal.returns-then-next-len
returns-then-next-len g c =
    offers_none g.S.Semiring.product _ c.args.lists.now c.args.rule (raise c.args.i (ranks_from c.args.lists.now c.args.rule c.args.start)) c.args.heap.now.items c.requires.held
    (λ w fits.
    let v = subst (λ (q : ℕ). get_or (ranks_from c.args.lists.now c.args.rule c.args.start) c.args.i 0 + 1 < length (list_of c.args.lists.now q)) (sym c.state.ensures.same) w in
    omega (arith, v, c.rank.ensures, c.len.ensures, c.if-next-len.true)) c.args.lists.now refl

pub returns : goal.returns
returns g c = on_ok c.add_raised.result _ _ (offered_when g.S.Semiring.product _ c.args.lists.now c.args.rule _ c.args.heap.now.items c.add_raised.new.lists c.add_raised.new.heap.items) c.add_raised.ensures
