use Rattle.std.proofs.Common.{◌≡◌, ℕ, List, ◌++◌, ◌∷◌, length, arith, [], map, ap, refl, subst, Contains}
use Rattle.std.proofs.lemmas.List.{length-map, length-append}
use Rattle.tib_tree.proofs.Growing.{distinct_added}
use Rattle.tib_ranked_trees.proofs.Keys.{new_shape}
use Rattle.tib_ranked_trees.proofs.shape_set.ShapeSet.add.Goals as goal

pub invariant_of-self-2 : goal.invariant_of-self-2
invariant_of-self-2 c =
    let before : List (List ℕ) = map (λ k. k.items) c.self.inside.shapes.keys in
    let same : c.in_ok-owned.owned.items ≡ c.args.shape.now = c.in_ok-owned.ensures.items_if_clones_equal (λ x y e. e) in
    let new : Contains before c.args.shape.now → ⊥ = λ h. c.requires.new (subst (λ l. Contains l c.args.shape.now) c.self.view_is h) in
    let added : map (λ k. k.items) c.insert.new.self.keys ≡ before ++ c.args.shape.now ∷ [] =
    new_shape before c.args.shape.now c.self.inside.shapes.keys c.insert.new.self.keys c.in_ok-owned.owned refl same new c.in_ok-insert.ensures.keys
    in
    record {
      few = omega (arith, ap length added, length-map c.insert.new.self.keys (λ k. k.items), length-map c.self.inside.shapes.keys (λ k. k.items), length-append before (c.args.shape.now ∷ []), c.requires.room, ap length c.self.view_is);
      distinct = distinct_added before _ c.args.shape.now c.self.invariant.distinct new added;
    }

pub returns-clause-added : goal.returns-clause-added
returns-clause-added c =
    let same : c.in_ok-owned.owned.items ≡ c.args.shape.now = c.in_ok-owned.ensures.items_if_clones_equal (λ x y e. e) in
    new_shape c.args.self.now c.args.shape.now c.self.inside.shapes.keys c.insert.new.self.keys c.in_ok-owned.owned c.self.view_is same c.requires.new c.in_ok-insert.ensures.keys
