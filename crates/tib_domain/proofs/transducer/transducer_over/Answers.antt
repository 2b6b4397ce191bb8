use Rattle.std.proofs.Common.{◌≡◌, ◌+◌, ℕ, length, arith, ap, sym, ◌∙◌, subst, refl}
use Rattle.tib_canon.proofs.StateNames.{length-names_of}
use Rattle.tib_strings.specs.Range.{AreWithin}
use Rattle.tib_domain.proofs.transducer.transducer_over.Goals as goal

pub unreachable-requires : goal.unreachable-requires
unreachable-requires g c =
    let long : length c.in_ok-names.names ≡ c.args.any + 1 = ap length c.in_ok-names.ensures ∙ length-names_of (c.args.any + 1) in
    c.in-None.ensures.none refl (omega (arith, long)) (subst (λ (n : ℕ). AreWithin n c.args.moves.items) (sym long) c.requires.within) c.requires.shaped
