use Rattle.std.proofs.Common.{rules, sym, subst, ◌∷◌, length, []}
use Rattle.tib_tree.proofs.Growing.{grows_more}
use Rattle.tib_ranked_trees.specs.Numbers.{NumbersBelow}
use Rattle.tib_ranked_trees.proofs.TreesKept.{kept_new, last_shape, shape_names}
use Rattle.tib_ranked_trees.proofs.kept.Trees.insert.Goals as goal

pub invariant_of-self-2 : goal.invariant_of-self-2
invariant_of-self-2 c =
    kept_new c.self.inside.shapes c.add_tree.new.shapes c.self.inside.sizes.items c.add_tree.new.sizes.items c.args.label c.args.children.now c.write_shape.new.shape.items c.size_over-size.result
    c.self.invariant (subst (λ l. NumbersBelow (length l) c.args.children.now) (sym c.self.view_is) c.requires) (search rules) (search rules) (search rules) (search rules)

pub returns-clause-shape : goal.returns-clause-shape
returns-clause-shape c =
    last_shape c.self.inside.shapes c.add_tree.new.shapes (c.args.label ∷ c.args.children.now) c.write_shape.new.shape.items c.len-count.result (search rules) (search rules) (search rules)

pub returns-clause-grows : goal.returns-clause-grows
returns-clause-grows c =
    grows_more c.args.self.now c.add_tree.new.shapes (c.write_shape.new.shape.items ∷ []) (search rules)

pub returns-clause-named : goal.returns-clause-named
returns-clause-named c kids a =
    shape_names c.args.self.now c.add_tree.new.shapes c.len-count.result c.args.label c.args.children.now
    (grows_more c.args.self.now c.add_tree.new.shapes (c.write_shape.new.shape.items ∷ []) (search rules))
    (last_shape c.self.inside.shapes c.add_tree.new.shapes (c.args.label ∷ c.args.children.now) c.write_shape.new.shape.items c.len-count.result (search rules) (search rules) (search rules))
    kids a
