use Rattle.std.proofs.Common.{Contains, List, ℕ, subst, refl, inl}
use Rattle.tib_tree.proofs.Growing.{holds_text}
use Rattle.tib_tree.proofs.labels.Labels.intern.Goals as goal

pub returns-in-Some-find-clause-adds : goal.returns-in-Some-find-clause-adds
returns-in-Some-find-clause-adds c =
    let held : Contains c.self.inside.texts c.args.text.now = holds_text c.self.inside.texts c.args.text.now c.in-Some-find.label (c.in-Some-find.ensures c.self.inside.texts c.self.invariant c.args.text.now c.in-Some.ensures) in
    inl (subst (λ (l : List (List ℕ)). Contains l c.args.text.now) c.self.view_is held, refl)
