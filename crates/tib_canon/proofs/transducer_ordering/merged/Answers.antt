use Rattle.std.proofs.Common.{refl, length, subst, sym, ap, ◌∙◌}
use Rattle.tib_transducer.specs.Range.{AreWithin}
use Rattle.tib_canon.proofs.StateNames.{length-names_of}
use Rattle.tib_canon.proofs.Within.{some_names}
use Rattle.tib_canon.specs.Ordered.{AreMerged}
use Rattle.tib_canon.proofs.Merged.{positions_below, merged_of, kept_within, kept_shaped}
use Rattle.tib_canon.proofs.transducer_ordering.merged.Goals as goal

pub rules_at-requires-clause-below : goal.rules_at-requires-clause-below
rules_at-requires-clause-below g c = positions_below c.args.rules.items c.deref.result.now c.args.rules.items c.in_ok-positions.positions.items c.deref-2.result.now c.deref.ensures.value refl c.in_ok-positions.ensures c.deref-2.ensures.value

pub unreachable-requires : goal.unreachable-requires
unreachable-requires g c =
    let m : AreMerged c.args.rules.items c.in_ok-merged.merged.items = merged_of c.args.rules.items c.deref.result.now c.args.rules.items c.in_ok-positions.positions.items c.deref-2.result.now c.in_ok-merged.merged.items
    c.deref.ensures.value c.in_ok-positions.ensures c.deref-2.ensures.value c.in_ok-merged.ensures in
    c.in-None.ensures.none refl (some_names c.in_ok-names.names c.args.states c.in_ok-names.ensures c.requires.some)
    (subst (λ n. AreWithin n c.in_ok-merged.merged.items) (sym (ap length c.in_ok-names.ensures ∙ length-names_of c.args.states)) (kept_within c.args.states c.args.rules.items c.in_ok-merged.merged.items m.kept c.requires.within))
    (kept_shaped c.args.rules.items c.in_ok-merged.merged.items m.kept c.requires.shaped)

pub returns-clause-merged : goal.returns-clause-merged
returns-clause-merged g c =
    subst (AreMerged c.args.rules.items) (sym c.in-Some.ensures.rules)
    (merged_of c.args.rules.items c.deref.result.now c.args.rules.items c.in_ok-positions.positions.items c.deref-2.result.now c.in_ok-merged.merged.items c.deref.ensures.value c.in_ok-positions.ensures c.deref-2.ensures.value c.in_ok-merged.ensures)
