use Rattle.tib_k_best.proofs.level.trimmed_rules.Goals as goal

pub returns-clause-kept : goal.returns-clause-kept
returns-clause-kept g c =
    let kept = c.in_ok-trimmed.ensures in
    record { trimmed = kept.trimmed; series = kept.series; each = kept.each; range = kept.range; some = kept.states.some; few = kept.states.few; below = kept.states.below }
