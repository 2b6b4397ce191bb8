use Rattle.std.proofs.Common.{subst, sym, ◌<◌, List, ℕ}
use Rattle.tib_inside.specs.Uses.{AreUses, AreUsesOf}
use Rattle.tib_inside.proofs.Occurring.{uses_of_rules}
use Rattle.tib_inside.proofs.Knuth.{run_below}
use Rattle.tib_inside.proofs.Moving.{finished}
use Rattle.tib_inside.proofs.settling.inside_costs.Goals as goal

pub settle-requires-clause-uses : goal.settle-requires-clause-uses
settle-requires-clause-uses g c =
    subst (λ n. AreUsesOf c.args.rules.now n c.in_ok-uses.uses) (sym c.loop-entry.invariant.long)
    (uses_of_rules c.args.rules.now c.in_ok-holes.holes c.args.count c.in_ok-uses.uses c.in_ok-holes.ensures
    (subst (λ (xs : List ℕ). AreUses xs c.in_ok-holes.holes.owners.items c.args.count c.in_ok-uses.uses) c.deref.ensures.value
    (subst (λ (xs : List ℕ). AreUses c.deref.result.now xs c.args.count c.in_ok-uses.uses) c.deref-2.ensures.value c.in_ok-uses.ensures)))

pub settle-requires-clause-state : goal.settle-requires-clause-state
settle-requires-clause-state g c =
    subst (λ n. c.in-Some.entry.1 < n) (sym c.loop-entry.invariant.long)
    (run_below g.S.Semiring.product c.args.rules.now c.args.count c.in-Some.entry.1 c.in-Some.entry.0 c.requires.range (c.loop-entry.invariant.settling.sound.runs c.in-Some.entry c.in-Some.ensures.some.held))

pub returns-clause-insides : goal.returns-clause-insides
returns-clause-insides g c = finished g.met.S.Semiring.laws c.args.rules.now c.loop-entry.costs.items c.loop-entry.pending.items c.loop-entry.agenda c.in_default.ensures.none c.loop-entry.invariant.settling
