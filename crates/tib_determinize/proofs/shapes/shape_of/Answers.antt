use Rattle.std.proofs.Common.{◌≡◌, ap, sym, ◌∙◌}
use Rattle.tib_determinize.specs.Shapes.{root_label}
use Rattle.tib_determinize.proofs.shapes.shape_of.Goals as goal

pub returns : goal.returns
returns c =
    let first : c.root.result.0 ≡ root_label c.args.rule.now.right.label = sym (ap root_label c.root.ensures.label) in
    ap (λ f. (f, c.root.result.1)) first ∙ ap (λ k. (root_label c.args.rule.now.right.label, k)) c.root.ensures.rank
