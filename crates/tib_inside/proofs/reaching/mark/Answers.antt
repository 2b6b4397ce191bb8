use Rattle.std.proofs.Common.{subst, sym, ◌∙◌, ◌≡◌, ℕ, List}
use Rattle.std.specs.Prelude.{slice_set, true}
use Rattle.std.specs.Prelude.{false}
use Rattle.std.proofs.lemmas.List.{get_or_read}
use Rattle.tib_inside.specs.Reaching.{Marks}
use Rattle.tib_inside.proofs.Following.{marks_one}
use Rattle.tib_inside.proofs.reaching.mark.Goals as goal

pub returns-clause-marks : goal.returns-clause-marks
returns-clause-marks c =
    subst (λ (xs : List ℕ). Marks (λ q. c.args.state ≡ q) c.args.kept.now.items (slice_set c.args.kept.now.items c.args.state true) c.args.stack.now.items xs) (sym c.in_ok-push.ensures.items)
    (marks_one c.args.kept.now.items c.args.stack.now.items c.args.state c.requires (sym (get_or_read c.args.kept.now.items c.args.state c.index.result.now c.requires c.index.ensures false) ∙ c.if-index.false))
