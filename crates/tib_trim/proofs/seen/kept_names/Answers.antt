use Rattle.std.proofs.Common.{subst, sym}
use Rattle.tib_grammar.specs.StateName.{AreStateNames}
use Rattle.tib_trim.proofs.Numbered.{kept_state_names}
use Rattle.tib_trim.proofs.seen.kept_names.Goals as goal

pub unreachable-requires : goal.unreachable-requires
unreachable-requires c =
    c.in_ok-kept.ensures.none c.in-None.is (subst AreStateNames (sym c.in_ok-texts.ensures) (kept_state_names c.args.names.now c.args.states.now c.is_sound.ensures.names c.requires.below c.requires.distinct))
