use Rattle.std.proofs.Common.{◌≡◌, length, refl, sym, ap, ◌∙◌, subst}
use Rattle.tib_compose.specs.Pending.{TakesNext}
use Rattle.tib_compose.specs.Branches.{IsTaken}
use Rattle.tib_compose.specs.declared.pending.Piece.TheVariants.{Put}
use Rattle.tib_compose.proofs.Left.{puts_nothing}
use Rattle.tib_compose.proofs.Advance.{step_puts, step_comes, label_met, all_out, with_left}
use Rattle.tib_compose.proofs.Turns.{nodes_same}
use Rattle.tib_compose.proofs.branch.Branch.advance.Goals as goal

pub loop-piece-init : goal.loop-piece-init
loop-piece-init c = record {
  puts = puts_nothing c.args.self.now;
  comes = λ product two goes ws h. (ws, h, refl);
}

pub take-requires : goal.take-requires
take-requires c =
    let next = subst (TakesNext c.loop-piece.self.pending c.pop.new.self) c.in-Some.is c.pop.ensures in
    record { node = next.3 (length c.args.items.now) (nodes_same (length c.args.items.now) c.args.self.now.pending.tasks c.loop-piece.self.pending.tasks c.loop-piece.invariant.puts.tasks c.requires.nodes) }

pub loop-piece-preserved : goal.loop-piece-preserved
loop-piece-preserved c =
    let next = subst (TakesNext c.loop-piece.self.pending c.pop.new.self) c.in-Some.is c.pop.ensures in
    let taken = subst (IsTaken c.args.items.now c.in-Some.piece (with_left c.loop-piece.self c.pop.new.self) c.take.new.self) c.in_default-taken.is c.in_ok-taken.ensures.taken in
    record {
      puts = step_puts c.args.items.now c.args.self.now c.loop-piece.self c.take.new.self c.pop.new.self c.in-Some.piece c.loop-piece.invariant.puts next taken;
      comes = step_comes c.args.items.now c.args.self.now c.loop-piece.self c.take.new.self c.pop.new.self c.in-Some.piece c.loop-piece.invariant.puts c.loop-piece.invariant.comes next taken;
    }

pub returns-in-Some-taken : goal.returns-in-Some-taken
returns-in-Some-taken c =
    let next = subst (TakesNext c.loop-piece.self.pending c.pop.new.self) c.in-Some.is c.pop.ensures in
    let taken = subst (IsTaken c.args.items.now c.in-Some.piece (with_left c.loop-piece.self c.pop.new.self) c.take.new.self) c.in-Some-taken.is c.in_ok-taken.ensures.taken in
    record {
      advanced = label_met c.args.items.now c.args.self.now c.loop-piece.self c.take.new.self c.pop.new.self c.in-Some.piece c.in-Some-taken.reading c.loop-piece.invariant.puts c.loop-piece.invariant.comes next taken;
    }

pub returns : goal.returns
returns c =
    let next = subst (TakesNext c.loop-piece.self.pending c.pop.new.self) c.in_default.is c.pop.ensures in
    record {
      advanced = all_out c.args.items.now c.args.self.now c.loop-piece.self c.loop-piece.self c.pop.new.self (Put 0 0) c.loop-piece.invariant.puts c.loop-piece.invariant.comes next;
    }
