use Rattle.std.proofs.Common.{arith, ◌∙◌}
use Rattle.std.proofs.lemmas.List.{length-map}
use Rattle.tib_lazy_lists.specs.AskingOf.{state_of, rules_of}
use Rattle.tib_lazy_lists.proofs.Begun.{asking_first}
use Rattle.tib_lazy_lists.proofs.asking.Asking.new.Goals as goal

pub returns-clause-kept : goal.returns-clause-kept
returns-clause-kept g c =
    asking_first g.S.Semiring.product c.args.lists.now c.requires.firsts c.requires.trimmed _ c.requires.some (omega arith) (length-map c.in_ok-states.states.items state_of ∙ c.in_ok-states.ensures.long)
    (length-map c.in_ok-by_state.by_state.items rules_of ∙ c.in_ok-by_state.ensures.long) c.in_ok-by_state.ensures.by_state c.in_ok-listed.ensures c.in_ok-states.ensures.kept
