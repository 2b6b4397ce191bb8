use Rattle.std.proofs.Common.{[], Some, Contains, map, sym, ◌∙◌, ap, subst}
use Rattle.std.proofs.lemmas.Option.{slice_get-get_or}
use Rattle.tib_tree.proofs.Texts.{found_at, not_held}
use Rattle.tib_ranked_trees.proofs.shape_set.ShapeSet.find.Goals as goal

pub returns-in-Some-clause-found : goal.returns-in-Some-clause-found
returns-in-Some-clause-found c =
    let at = found_at c.args.shape.now c.self.inside.shapes.keys c.in-Some.i c.in-Some.ensures.index [] in
    rw (← c.self.view_is) (slice_get-get_or (map (λ k. k.items) c.self.inside.shapes.keys) c.in-Some.i [] at.0 ∙ ap Some at.1)

pub returns-in-None-clause-none : goal.returns-in-None-clause-none
returns-in-None-clause-none c =
    λ _ held. absurd (not_held c.args.shape.now c.self.inside.shapes.keys c.in-None.ensures.found (subst (λ l. Contains l c.args.shape.now) (sym c.self.view_is) held))
