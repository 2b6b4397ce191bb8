use Rattle.std.proofs.Common.{arith, refl, ◌+◌, ◌-◌, ◌≤◌, length, drop}
use Rattle.std.proofs.lemmas.List.{length-take, length-drop}
use Rattle.tib_tree.proofs.Writing.{goes_on, stopped}
use Rattle.tib_tree.proofs.Runs.{escape_on, escape_rest}
use Rattle.tib_tree.proofs.print.print_escaped.Goals as goal

pub loop-at-preserved : goal.loop-at-preserved
loop-at-preserved g c =
    let at = c.loop-at.at in
    let text = c.args.text.now in
    record {
      within = omega (arith, c.run_length.ensures.within, length-take (length text - at) (drop at text), length-drop at text);
      wrote = goes_on _ _ _ _ _ _ _ _ c.in-Ok.is (escape_on text at c.run_length.result) c.loop-at.invariant.wrote c.print_run.ensures;
    }

pub returns-in-Err : goal.returns-in-Err
returns-in-Err g c =
    let at = c.loop-at.at in
    let text = c.args.text.now in
    let within : at + c.run_length.result ≤ length text = omega (arith, c.run_length.ensures.within, length-take (length text - at) (drop at text), length-drop at text) in
    stopped _ _ _ _ _ _ _ _ _ _ _ c.in-Err.is refl (escape_rest text at (at + c.run_length.result) within (omega arith)) c.loop-at.invariant.wrote c.print_run.ensures
