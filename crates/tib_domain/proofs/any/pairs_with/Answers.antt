use Rattle.std.proofs.Common.{◌∷◌, [], ◌++◌, ap, sym, ◌∙◌}
use Rattle.tib_strings.specs.declared.Word.TheVariants.{Hole}
use Rattle.tib_domain.proofs.Steps.{pairs_more}
use Rattle.tib_domain.proofs.any.pairs_with.Goals as goal

pub loop-variable-preserved : goal.loop-variable-preserved
loop-variable-preserved c =
    c.in_ok-push.ensures.items
    ∙ ap (λ ws. ws ++ Hole (record { state = c.args.state; variable = c.loop-variable.variable }) ∷ []) c.loop-variable.invariant
    ∙ sym (pairs_more c.args.state c.loop-variable.variable)
